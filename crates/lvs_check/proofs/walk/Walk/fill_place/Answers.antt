use Rattle.std.proofs.Common.{◌≡◌, List, false, true, sym, ◌∙◌, ap}
use Rattle.lvs_model.specs.Report.{is_printed}
use Rattle.lvs_model.specs.Progress.{Queue, clock_of}
use Rattle.lvs_check.specs.Judging.{text_at}
use Rattle.lvs_check.specs.Walks.{progress_of}
use Rattle.lvs_check.proofs.ClockLemmas.{fills, refuses}
use Rattle.lvs_check.proofs.walk.Walk.fill_place.Goals as goal

pub returns-then-is_printed-clause-judged : goal.returns-then-is_printed-clause-judged
returns-then-is_printed-clause-judged c =
    let q = c.in-Some.ensures.some in
    let number = c.clock_number-number.ensures ∙ ap (λ (queues : List Queue). (clock_of queues).next) c.deref.ensures.value in
    let printed : is_printed c.in_ok-reply.reply ≡ true = sym c.is_printed.ensures ∙ c.if-is_printed.true in
    refuses (text_at c.args.at) (progress_of c.args.self.now) _ c.clock_number-number.result c.in-Some.item q.0 c.in_ok-reply.reply c.step.new.self.state c.deref-then-is_printed.result.now c.in_ok-illegal.field-0 number q.1 c.in_ok-reply.ensures.ok printed (c.deref-then-is_printed.ensures.value ∙ c.in_ok-expected.ensures) c.in_ok-illegal.ensures

pub returns-clause-judged : goal.returns-clause-judged
returns-clause-judged c =
    let q = c.in-Some.ensures.some in
    let number = c.clock_number-number.ensures ∙ ap (λ (queues : List Queue). (clock_of queues).next) c.deref.ensures.value in
    let silent : is_printed c.in_ok-reply.reply ≡ false = sym c.is_printed.ensures ∙ c.if-is_printed.false in
    fills (text_at c.args.at) (progress_of c.args.self.now) c.clock_number-number.result c.in-Some.item q.0 c.in_ok-reply.reply c.step.new.self.state c.take_next.new.queues.items number q.1 q.2 c.in_ok-reply.ensures.ok silent
