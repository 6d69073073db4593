use Rattle.std.proofs.Common.{rules}
use Rattle.std.proofs.lemmas.List.Sorted.{IsNonDecreasingBy-from_sort_by_key}
use Rattle.lvs_types.specs.declared.entry.Entry.{Entry}
use Rattle.lvs_model.proofs.OrderLemmas.{sorted_once}
use Rattle.lvs_core.proofs.snapshot.sort_entries.Goals as goal

pub returns : goal.returns
returns c =
    sorted_once (λ (e : Entry). e.id) c.args.entries.items c.sort_unstable_by_key.new.self.items c.sort_unstable_by_key.ensures.permutation
    (IsNonDecreasingBy-from_sort_by_key (λ (e : Entry). e.id) _ c.sort_unstable_by_key.ensures.sorted (λ a r q k. search rules)) c.requires.once
