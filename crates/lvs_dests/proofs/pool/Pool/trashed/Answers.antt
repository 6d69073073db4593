use Rattle.std.proofs.Common.{◌∙◌, ap, sym, subst, ◌≤◌, ◌==◌, List, count_by}
use Rattle.lvs_types.specs.declared.dest.DestRow.{DestRow}
use Rattle.lvs_model.specs.Lists.{sorted_by}
use Rattle.lvs_dests.proofs.Whole.{pool_apart}
use Rattle.lvs_dests.proofs.All.{trashed_once, trashed_sorted}
use Rattle.lvs_dests.proofs.pool.Pool.trashed.Goals as goal

pub sort_rows-requires : goal.sort_rows-requires
sort_rows-requires c = record {
  once = λ n. subst (λ (rows : List DestRow). count_by (λ (row : DestRow). row.dest.id.0 == n) rows ≤ 1) (sym c.in_ok-collect_trashed.ensures)
      (trashed_once c.args.self.now.slab.slots (pool_apart c.args.self.now c.requires) n);
}

pub returns : goal.returns
returns c =
    c.sort_rows.ensures
    ∙ ap (sorted_by (λ (row : DestRow). row.dest.id.0)) c.in_ok-collect_trashed.ensures
    ∙ trashed_sorted c.args.self.now.slab.slots (pool_apart c.args.self.now c.requires)
