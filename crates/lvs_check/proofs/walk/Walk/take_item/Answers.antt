use Rattle.std.proofs.Common.{◌≡◌, false, sym, ◌∙◌, ap, subst, arith, rules, slice_get}
use Rattle.std.specs.Result.{is_ok}
use Rattle.lvs_check.specs.Judging.{text_at}
use Rattle.lvs_check.specs.Walks.{progress_of, items_left, AreAllInRange}
use Rattle.lvs_check.proofs.Judged.{along}
use Rattle.lvs_check.proofs.ActLemmas.{taken, act_goes, act_stops, fewer_left}
use Rattle.lvs_check.proofs.RangeLemmas.{range_set}
use Rattle.lvs_check.proofs.walk.Walk.take_item.Goals as goal

pub step-requires-clause-young : goal.step-requires-clause-young
step-requires-clause-young c =
    let q = c.in-Some.ensures.some in
    omega (arith, c.requires.fit.young, fewer_left c.args.self.now.queues.items c.args.actor c.args.number c.in-Some.item q.0 q.1)

pub returns-in_err-check_text-clause-judged : goal.returns-in_err-check_text-clause-judged
returns-in_err-check_text-clause-judged c =
    let q = c.in-Some.ensures.some in
    let at = text_at c.args.at in
    let p = progress_of c.args.self.now in
    let is = taken at c.args.actor c.args.number (slice_get c.args.self.now.queues.items c.args.actor) c.in-Some.item q.0 p (c.in_ok-reply.reply, c.step.new.self.state) q.1 c.in_ok-reply.ensures.ok in
    let same : c.from_residual-in_err-check_text.result ≡ c.check_text.result = search rules in
    let fails : is_ok c.check_text.result ≡ false = search rules in
    along c.from_residual-in_err-check_text.result _ _ _ (sym is)
    (act_stops c.check_text.result c.from_residual-in_err-check_text.result _ at c.args.actor c.args.number q.0 p (c.in_ok-reply.reply, c.step.new.self.state) _ c.check_text.ensures fails same (c.deref.ensures.value ∙ c.in_ok-expected.ensures))

pub returns-clause-judged : goal.returns-clause-judged
returns-clause-judged c =
    let q = c.in-Some.ensures.some in
    let at = text_at c.args.at in
    let p = progress_of c.args.self.now in
    taken at c.args.actor c.args.number (slice_get c.args.self.now.queues.items c.args.actor) c.in-Some.item q.0 p (c.in_ok-reply.reply, c.step.new.self.state) q.1 c.in_ok-reply.ensures.ok
    ∙ act_goes at c.args.actor c.args.number q.0 p (c.in_ok-reply.reply, c.step.new.self.state) c.deref.result.now c.take_next.new.queues.items c.in_ok-check_text.ensures (c.deref.ensures.value ∙ c.in_ok-expected.ensures) q.2

pub returns-clause-fit : goal.returns-clause-fit
returns-clause-fit c =
    let q = c.in-Some.ensures.some in
    let queues = c.args.self.now.queues.items in
    let fewer = fewer_left queues c.args.actor c.args.number c.in-Some.item q.0 q.1 in
    record {
      moments = c.requires.fit.moments;
      in_range = subst AreAllInRange (sym q.2) (range_set queues c.args.actor c.args.number c.in-Some.item q.0 q.1 c.requires.fit.in_range);
      number = omega (arith, c.requires.fit.number, c.in_ok-reply.ensures.steps);
      place = omega (arith, c.requires.fit.place, c.in_ok-reply.ensures.steps);
      young = omega (arith, c.requires.fit.young, c.in_ok-reply.ensures.steps, fewer, ap items_left q.2);
    }
