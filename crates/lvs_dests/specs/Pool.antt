-- The pool over its slab, and what ties the ids and the places to the slab's keys.
use Rattle.std.specs.Prelude.{◌≡◌, ◌≢◌, ℕ, ◌<◌, Bool, true, false, List, [], ◌∷◌, Option, Some, None, map, filter_map, if◌then◌else◌}
use Rattle.std.specs.Map.{lookup}
use Rattle.std.specs.List.{AllByRecursion, list_any}
use Rattle.std.specs.Option.{option_map}
use Rattle.slab.specs.Slab.{get}
use Rattle.lvs_types.specs.declared.addr.DestId.{DestId}
use Rattle.lvs_types.specs.contracts.addr.DestIdPartialEq.TheImpl as id_impl
use Rattle.lvs_types.specs.declared.dest.DestRow.{DestRow}
use Rattle.lvs_model.specs.Lists.{sorted_by}
use Rattle.lvs_dests.specs.declared.place.Place.{Place}
use Rattle.lvs_dests.specs.contracts.place.PlacePartialEq.TheImpl as place_impl
use Rattle.lvs_dests.specs.declared.slots.Slot.{Slot}
use Rattle.lvs_dests.specs.declared.pool.Pool.{Pool}
use Rattle.lvs_dests.specs.Rows.{has_row_id, is_row_released, left_live}
use Rattle.lvs_dests.specs.Places.{place_of, has_place}

-- whether two ids, or two places, are the same, as the maps ask
abbrev pub id_same : DestId → DestId → Bool
id_same = (id_impl.ghosts).eq

abbrev pub place_same : Place → Place → Bool
place_same = (place_impl.ghosts).eq

-- the slot under a key
abbrev pub slot_at : Pool → ℕ → Option Slot
slot_at pool = get pool.slab

-- the key to which an id leads, or a place
abbrev pub key_of_id : Pool → DestId → Option ℕ
key_of_id pool id = lookup (id_same id) pool.ids.entries

abbrev pub key_of_place : Pool → Place → Option ℕ
key_of_place pool place = lookup (place_same place) pool.places.entries

-- the servers of some slots, in order of addition
abbrev pub rows_in : List (Option Slot) → List DestRow
rows_in slots = map (λ (slot : Slot). slot.row) (sorted_by (λ (slot : Slot). slot.sequence) (filter_map (λ slot. slot) slots))

abbrev pub rows_of : Pool → List DestRow
rows_of pool = rows_in pool.slab.slots

-- a server in the trash that nothing names is there
abbrev pub is_over_at : Option Slot → Bool
is_over_at None = false
is_over_at (Some slot) = is_row_released slot.row

-- what is left of a slot once all live servers have left their services
abbrev pub left_slot : Slot → Option Slot
left_slot slot = option_map (λ (row : DestRow). record { row = row; sequence = slot.sequence }) (left_live slot.row)

abbrev pub id_in : Slot → DestId
id_in slot = slot.row.dest.id

-- the id of a server in the trash
abbrev pub trashed_in : Option Slot → Option DestId
trashed_in None = None
trashed_in (Some slot) = if slot.row.dest.live then None else Some (id_in slot)

-- the server, where it stands in the trash
abbrev pub trashed_row_in : Option Slot → Option DestRow
trashed_row_in None = None
trashed_row_in (Some slot) = if slot.row.dest.live then None else Some slot.row

-- the ids of the servers in the trash, in the order of the slots
abbrev pub trashed_of : List (Option Slot) → List DestId
trashed_of slots = filter_map trashed_in slots

abbrev pub place_in : Slot → Place
place_in slot = place_of slot.row

-- at one key another value, and at the others what was there
pub record Changed {K X : Type 0} (old new : K → Option X) (key : K) (value : Option X) : Type 0 where
  pub here : new key ≡ value
  pub others : (other : K) → other ≢ key → new other ≡ old other

-- each value leads to the key of the slot that has it, and each slot's value leads to it
pub record IsIndex {K : Type 0} (value : Slot → K) (key_of : K → Option ℕ) (slots : ℕ → Option Slot) : Type 0 where
  pub finds : (v : K) (key : ℕ) → key_of v ≡ Some key → (slot : Slot) × (slots key ≡ Some slot) × (value slot ≡ v)
  pub found : (key : ℕ) (slot : Slot) → slots key ≡ Some slot → key_of (value slot) ≡ Some key

pub record IsWhole (pool : Pool) : Type 0 where
  pub ids : IsIndex id_in (key_of_id pool) (slot_at pool)
  pub places : IsIndex place_in (key_of_place pool) (slot_at pool)
  -- the next addition is later than all so far
  pub recent : (key : ℕ) (slot : Slot) → slot_at pool key ≡ Some slot → slot.sequence < pool.sequence

-- the same but for the memory that is kept
pub record IsSame (old new : Pool) : Type 0 where
  pub slots : new.slab.slots ≡ old.slab.slots
  pub ids : (id : DestId) → key_of_id new id ≡ key_of_id old id
  pub places : (place : Place) → key_of_place new place ≡ key_of_place old place
  pub sequence : new.sequence ≡ old.sequence

-- no two servers have one id
abbrev pub DifferInId : List DestRow → Type 0
DifferInId [] = Unit {0}
DifferInId (row ∷ rows) = (list_any (has_row_id row.dest.id) rows ≡ false) × DifferInId rows

-- no other server stands at the place
abbrev pub IsOneAt : Place → DestRow → List DestRow → Type 0
IsOneAt place one rows = AllByRecursion (λ (row : DestRow). has_place place row ≡ true → row ≡ one) rows
