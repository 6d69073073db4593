-- The servers of a pool are well formed: ids apart and below the next one, and places apart.
use Rattle.std.proofs.Common.{◌≡◌, ◌≢◌, ℕ, inl, inr, true, false, sym, subst, eqb-true, nat_eq, List, [], ◌∷◌, map}
use Rattle.std.specs.List.{AllByRecursion, IsDistinct}
use Rattle.lvs_types.specs.declared.dest.DestRow.{DestRow}
use Rattle.lvs_model.specs.Lists.{sorted_by}
use Rattle.lvs_model.specs.WellFormed.{dest_ids, places, place_of as its_place, place_eq as same_place}
use Rattle.lvs_dests.specs.declared.lists.Lists.{Lists}
use Rattle.lvs_dests.specs.declared.pool.Pool.{Pool}
use Rattle.lvs_dests.specs.declared.slots.Slot.{Slot}
use Rattle.lvs_dests.specs.Rows.{DestsSeen, dests_of, AreWellFormed}
use Rattle.lvs_dests.specs.Places.{place_at}
use Rattle.lvs_dests.specs.Pool.{rows_of, key_of_id, key_of_place, id_in, place_in}
use Rattle.lvs_dests.specs.Dests.{IsTied}
use Rattle.lvs_dests.proofs.Same.{tested, and_left, and_right, key_is, apart_ids, decide_id, decide_place}
use Rattle.lvs_dests.proofs.Index.{index_one}
use Rattle.lvs_dests.proofs.Occupied.{held_by, at_key}
use Rattle.lvs_dests.proofs.Found.{SlotsApart, held_apart, sorted_apart}

abbrev row_in : Slot → DestRow
row_in slot = slot.row

ids_differ : (slot : Slot) (slots : List Slot) → AllByRecursion (λ (other : Slot). id_in other ≢ id_in slot) slots → AllByRecursion (λ other. nat_eq slot.row.dest.id.0 other ≡ false) (dest_ids (dests_of (map row_in slots)))
ids_differ slot [] away = tt
ids_differ slot (other ∷ slots) away = (apart_ids (id_in slot) (id_in other) (λ same. away.0 (sym same)), ids_differ slot slots away.1)

distinct_ids : (slots : List Slot) → SlotsApart id_in slots → IsDistinct nat_eq (dest_ids (dests_of (map row_in slots)))
unfolding IsDistinct
distinct_ids [] apart = tt
distinct_ids (slot ∷ slots) apart = (ids_differ slot slots apart.0, distinct_ids slots apart.1)

-- servers at one place of the definitions are keyed alike
keyed_alike : (a b : Slot) → same_place (its_place a.row.dest) (its_place b.row.dest) ≡ true → place_in b ≡ place_in a
keyed_alike a b e =
    let two = and_left _ _ e in
    let service : a.row.dest.service ≡ b.row.dest.service = key_is _ _ (and_left _ _ two) in
    let addr : a.row.dest.spec.addr.number ≡ b.row.dest.spec.addr.number = eqb-true _ _ (and_right _ _ two) in
    let port : a.row.dest.spec.port ≡ b.row.dest.spec.port = eqb-true _ _ (and_right _ _ e) in
    sym (λ i. place_at (service i) (record { number = addr i }) (port i))

differs : (a b : Slot) → place_in b ≢ place_in a → same_place (its_place a.row.dest) (its_place b.row.dest) ≡ false
differs a b away = elim (tested (same_place (its_place a.row.dest) (its_place b.row.dest))) [
  | inl holds ↦ absurd (away (keyed_alike a b holds))
  | inr fails ↦ fails
]

places_differ : (slot : Slot) (slots : List Slot) → AllByRecursion (λ (other : Slot). place_in other ≢ place_in slot) slots → AllByRecursion (λ other. same_place (its_place slot.row.dest) other ≡ false) (places (dests_of (map row_in slots)))
places_differ slot [] away = tt
places_differ slot (other ∷ slots) away = (differs slot other away.0, places_differ slot slots away.1)

distinct_places : (slots : List Slot) → SlotsApart place_in slots → IsDistinct same_place (places (dests_of (map row_in slots)))
unfolding IsDistinct
distinct_places [] apart = tt
distinct_places (slot ∷ slots) apart = (places_differ slot slots apart.0, distinct_places slots apart.1)

module _ (pool : Pool) (lists : Lists) (next : ℕ) (tied : IsTied pool lists next) where
  pool_ids : IsDistinct nat_eq (dest_ids (dests_of (rows_of pool)))
  pool_ids =
      distinct_ids (sorted_by (λ (s : Slot). s.sequence) (held_by pool.slab.slots))
      (sorted_apart id_in (λ (s : Slot). s.sequence) (held_by pool.slab.slots)
      (held_apart id_in pool.slab.slots (λ key other slot x here there same. index_one decide_id id_in (key_of_id pool) (at_key pool.slab.slots) tied.whole.ids key other slot x here there same)))

  pool_places : IsDistinct same_place (places (dests_of (rows_of pool)))
  pool_places =
      distinct_places (sorted_by (λ (s : Slot). s.sequence) (held_by pool.slab.slots))
      (sorted_apart place_in (λ (s : Slot). s.sequence) (held_by pool.slab.slots)
      (held_apart place_in pool.slab.slots (λ key other slot x here there same. index_one decide_place place_in (key_of_place pool) (at_key pool.slab.slots) tied.whole.places key other slot x here there same)))

  pub well_formed : (seen : DestsSeen) → record { rows = rows_of pool; next = next } ≡ seen → AreWellFormed seen
  well_formed seen view = subst AreWellFormed view (record { ids = pool_ids; below = tied.below; places = pool_places })
