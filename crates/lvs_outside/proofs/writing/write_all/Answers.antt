use Rattle.std.proofs.Common.{arith, rules, ◌∙◌}
use Rattle.std.proofs.lemmas.List.{take_rest}
use Rattle.lvs_outside.proofs.Known.{appends_take}
use Rattle.lvs_outside.proofs.writing.write_all.Goals as goal

pub loop-at-preserved : goal.loop-at-preserved
loop-at-preserved g c =
    let before = c.loop-at.invariant in
    let now = c.in_ok-at.ensures in
    record {
      within = search (rules, arith);
      written = appends_take _ _ _ c.args.bytes.now c.loop-at.at c.in_ok-at.field-0 before.written (rw take_rest at now.bytes);
      kept = now.cause.kept ∙ before.kept;
    }
