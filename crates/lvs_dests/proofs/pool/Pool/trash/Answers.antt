use Rattle.std.proofs.Common.{rules, subst, List}
use Rattle.std.specs.List.Sorted.{IsPermutation}
use Rattle.std.proofs.lemmas.List.Sorted.{IsNonDecreasingBy-from_sort_by_key}
use Rattle.lvs_types.specs.declared.addr.DestId.{DestId}
use Rattle.lvs_dests.specs.Pool.{key_of_id, trashed_of}
use Rattle.lvs_dests.proofs.Trashed.{is_trash}
use Rattle.lvs_dests.proofs.pool.Pool.trash.Goals as goal

pub returns : goal.returns
returns c =
    let pool = c.args.self.now in
    let ids = c.sort_by_key.new.self.items in
    let perm : IsPermutation (trashed_of pool.slab.slots) ids = subst (λ (xs : List DestId). IsPermutation xs ids) c.in_ok-ids.ensures c.sort_by_key.ensures.permutation in
    is_trash (key_of_id pool) pool.slab.slots ids c.requires.ids perm (IsNonDecreasingBy-from_sort_by_key (λ (id : DestId). id.0) _ c.in_ok-sort_by_key.ensures.sorted (λ a r q k. search rules))
