use Rattle.std.proofs.Common.{◌∙◌, List, take, add-one, arith, sym, subst}
use Rattle.std.proofs.Math.Seq.{take-suc}
use Rattle.lvs_types.specs.declared.dest.DestRow.{DestRow}
use Rattle.lvs_listing.specs.Grouped.{AreGrouped}
use Rattle.lvs_listing.proofs.groups.Groups.of.Goals as goal

pub loop-row-preserved : goal.loop-row-preserved
loop-row-preserved c = record {
  grouped =
      rw add-one (subst (λ (rows : List DestRow). AreGrouped c.push.new.self rows) (sym (take-suc c.args.rows.now c.loop-row.row-index _ (omega arith))) (c.in_ok-push.ensures.row (take c.loop-row.row-index c.args.rows.now) c.loop-row.invariant.grouped));
  count = c.push.ensures.count ∙ c.loop-row.invariant.count;
}
