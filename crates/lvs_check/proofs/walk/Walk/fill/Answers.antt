use Rattle.std.proofs.Common.{◌≡◌, ◌<◌, false, sym, ◌∙◌, arith, rules}
use Rattle.std.specs.Result.{is_ok}
use Rattle.lvs_check.specs.Judging.{text_at}
use Rattle.lvs_check.specs.Walks.{progress_of}
use Rattle.lvs_check.proofs.ClockLemmas.{fill_more, fill_stops}
use Rattle.lvs_check.proofs.walk.Walk.fill.Goals as goal

pub returns-in_err-fill_place-clause-judged : goal.returns-in_err-fill_place-clause-judged
returns-in_err-fill_place-clause-judged c =
    let same : c.from_residual.result ≡ c.fill_place.result = search rules in
    let fails : is_ok c.fill_place.result ≡ false = search rules in
    let some : 0 < c.loop-left.left = search rules in
    fill_stops c.fill_place.result c.from_residual.result _ (text_at c.args.at) c.loop-left.left (progress_of c.loop-left.self) _ c.fill_place.ensures.judged fails same some c.loop-left.invariant.few c.loop-left.invariant.judged

pub loop-left-preserved : goal.loop-left-preserved
loop-left-preserved c =
    let some : 0 < c.loop-left.left = search rules in
    record {
      fit = c.in_ok-fill_place.ensures.fit;
      few = omega (arith, c.loop-left.invariant.few, c.in_ok-fill_place.ensures.left);
      judged = sym (fill_more (text_at c.args.at) c.loop-left.left (progress_of c.loop-left.self) (progress_of c.fill_place.new.self) some c.loop-left.invariant.few c.in_ok-fill_place.ensures.judged) ∙ c.loop-left.invariant.judged;
    }
