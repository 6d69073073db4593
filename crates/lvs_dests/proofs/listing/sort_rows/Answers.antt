use Rattle.std.proofs.Common.{rules}
use Rattle.std.proofs.lemmas.List.Sorted.{IsNonDecreasingBy-from_sort_by_key}
use Rattle.lvs_types.specs.declared.dest.DestRow.{DestRow}
use Rattle.lvs_model.proofs.OrderLemmas.{sorted_once}
use Rattle.lvs_dests.proofs.listing.sort_rows.Goals as goal

pub returns : goal.returns
returns c =
    sorted_once (λ (row : DestRow). row.dest.id.0) c.args.rows.items c.sort_unstable_by_key.new.self.items c.sort_unstable_by_key.ensures.permutation
    (IsNonDecreasingBy-from_sort_by_key (λ (row : DestRow). row.dest.id.0) _ c.sort_unstable_by_key.ensures.sorted (λ a r q k. search rules)) c.requires.once
