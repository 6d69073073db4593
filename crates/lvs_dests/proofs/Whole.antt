-- The pool through each change: what ties it, and its rows.
use Rattle.std.proofs.Common.{◌≡◌, ◌≢◌, ℕ, ◌<◌, ◌≤◌, ◌+◌, inl, inr, Bool, true, cond, refl, sym, ap, ◌∙◌, subst, List, [], ◌∷◌, ◌++◌, Option, Some, None, IsSomeAnd, set, length, arith}
use Rattle.std.specs.List.{find}
use Rattle.std.proofs.lemmas.Bool.{cases_eq}
use Rattle.std.proofs.lemmas.List.{get_or-set_same, get_or-set_other, get_or_past}
use Rattle.std.proofs.lemmas.Option.{none-some, same_Some}
use Rattle.slab.specs.Slab.{Slab, get, Updates}
use Rattle.lvs_types.specs.declared.addr.DestId.{DestId}
use Rattle.lvs_dests.specs.declared.place.Place.{Place}
use Rattle.lvs_dests.specs.declared.slots.Slot.{Slot}
use Rattle.lvs_dests.specs.declared.pool.Pool.{Pool}
use Rattle.lvs_dests.specs.Rows.{has_row_id, row_at, replaced}
use Rattle.lvs_dests.specs.Places.{has_place}
use Rattle.lvs_dests.specs.Pool.{Changed, IsWhole, IsSame, rows_of, slot_at, key_of_id, key_of_place, id_in, place_in, DifferInId, IsOneAt}
use Rattle.lvs_dests.proofs.Same.{apart, at_true, at_false, decide_id, decide_place, id_is, id_own, place_is, place_own}
use Rattle.lvs_dests.proofs.Index.{index_same, index_insert, index_take, index_write}
use Rattle.lvs_dests.proofs.Occupied.{at_key}
use Rattle.lvs_dests.proofs.Found.{find_nothing, found_there, only_there, nowhere, are_apart}
use Rattle.lvs_dests.proofs.Changes.{rows_replaced, rows_put}

-- a change of the slab is one of its slots
pub changed_slab : (old new : Slab Slot) (key : ℕ) (w : Option Slot) → Updates old new key w → Changed (get old) (get new) key w
changed_slab old new key w u = record { here = u.changed; others = u.others }

-- a change of a map is one of its look-ups
pub changed_map : {K X : Type 0} (same : K → K → Bool) (is : (a b : K) → same a b ≡ true → a ≡ b) (own : (a : K) → same a a ≡ true) (old new : K → Option X) (key : K) (w : Option X) → ((q : K) → new q ≡ cond (same key q) w (old q)) → Changed old new key w
changed_map same is own old new key w put = record {
  here = put key ∙ at_true (same key key) w (old key) (own key);
  others = λ q differs. put q ∙ at_false (same key q) w (old q) (apart same is own key q (λ e. differs (sym e)));
}

filled : (slots : List (Option Slot)) (key : ℕ) (slot : Slot) → at_key slots key ≡ Some slot → key < length slots
filled slots key slot there = grind (arith, get_or_past)

pub some_and : {X : Type 0} (P : X → Type 0) (o : Option X) (x : X) → IsSomeAnd o P → o ≡ Some x → P x
some_and P None x it is = absurd (none-some x is)
some_and P (Some y) x it is = subst P (same_Some y x is) it

pub some_and_none : {X : Type 0} (P : X → Type 0) (o : Option X) → IsSomeAnd o P → o ≢ None
some_and_none P None it none = absurd it
some_and_none P (Some y) it none = none-some y (sym none)

-- ---- look-ups

module _ (pool : Pool) (whole : IsWhole pool) where
  id_tells : (id : DestId) (s : Slot) → has_row_id id s.row ≡ true → id_in s ≡ id
  id_tells id s holds = id_is (id_in s) id holds

  place_tells : (place : Place) (s : Slot) → has_place place s.row ≡ true → place_in s ≡ place
  place_tells place s holds = place_is (place_in s) place holds

  pub pool_apart : DifferInId (rows_of pool)
  pool_apart = are_apart (key_of_id pool) pool.slab.slots whole.ids

  pub id_found : (id : DestId) (key : ℕ) (slot : Slot) → key_of_id pool id ≡ Some key → slot_at pool key ≡ Some slot → (id_in slot ≡ id) × (row_at id (rows_of pool) ≡ Some slot.row)
  id_found id key slot led there =
      let found = whole.ids.finds id key led in
      let same : found.0 ≡ slot = same_Some found.0 slot (sym found.1 ∙ there) in
      let is : id_in slot ≡ id = ap id_in (sym same) ∙ found.2 in
      let passes : has_row_id id slot.row ≡ true = subst (λ (i : DestId). has_row_id i slot.row ≡ true) is (id_own (id_in slot)) in
      (is, found_there decide_id id_in (key_of_id pool) pool.slab.slots whole.ids id (has_row_id id) (id_tells id) key slot there is passes)

  pub id_missed : (id : DestId) → key_of_id pool id ≡ None → row_at id (rows_of pool) ≡ None
  id_missed id none = find_nothing (has_row_id id) (rows_of pool) (nowhere decide_id id_in (key_of_id pool) pool.slab.slots whole.ids id (has_row_id id) (id_tells id) none)

  -- an id that leads to a key leads to a slot
  pub id_filled : (id : DestId) (key : ℕ) → key_of_id pool id ≡ Some key → slot_at pool key ≢ None
  id_filled id key led empty = let found = whole.ids.finds id key led in none-some found.0 (sym empty ∙ found.1)

  pub place_filled : (place : Place) (key : ℕ) → key_of_place pool place ≡ Some key → slot_at pool key ≢ None
  place_filled place key led empty = let found = whole.places.finds place key led in none-some found.0 (sym empty ∙ found.1)

  pub place_found : (place : Place) (key : ℕ) (slot : Slot) → key_of_place pool place ≡ Some key → slot_at pool key ≡ Some slot → (find (has_place place) (rows_of pool) ≡ Some slot.row) × IsOneAt place slot.row (rows_of pool)
  place_found place key slot led there =
      let found = whole.places.finds place key led in
      let same : found.0 ≡ slot = same_Some found.0 slot (sym found.1 ∙ there) in
      let is : place_in slot ≡ place = ap place_in (sym same) ∙ found.2 in
      let passes : has_place place slot.row ≡ true = subst (λ (p : Place). has_place p slot.row ≡ true) is (place_own (place_in slot)) in (
        found_there decide_place place_in (key_of_place pool) pool.slab.slots whole.places place (has_place place) (place_tells place) key slot there is passes,
        only_there decide_place place_in (key_of_place pool) pool.slab.slots whole.places place (has_place place) (place_tells place) key slot there is,
      )

  pub place_missed : (place : Place) → key_of_place pool place ≡ None → find (has_place place) (rows_of pool) ≡ None
  place_missed place none = find_nothing (has_place place) (rows_of pool) (nowhere decide_place place_in (key_of_place pool) pool.slab.slots whole.places place (has_place place) (place_tells place) none)

  -- an id or a place that no row has leads nowhere
  free_by : (id : DestId) (o : Option ℕ) → key_of_id pool id ≡ o → row_at id (rows_of pool) ≡ None → o ≡ None
  free_by id None led none = refl
  free_by id (Some key) led none =
      let found = whole.ids.finds id key led in
      absurd (none-some found.0.row (sym none ∙ (id_found id key found.0 led found.1).1))

  pub id_free : (id : DestId) → row_at id (rows_of pool) ≡ None → key_of_id pool id ≡ None
  id_free id none = free_by id (key_of_id pool id) refl none

  free_place_by : (place : Place) (o : Option ℕ) → key_of_place pool place ≡ o → find (has_place place) (rows_of pool) ≡ None → o ≡ None
  free_place_by place None led none = refl
  free_place_by place (Some key) led none =
      let found = whole.places.finds place key led in
      absurd (none-some found.0.row (sym none ∙ (place_found place key found.0 led found.1).0))

  pub place_free : (place : Place) → find (has_place place) (rows_of pool) ≡ None → key_of_place pool place ≡ None
  place_free place none = free_place_by place (key_of_place pool place) refl none

  -- ---- a slot is replaced by one of the same id and place

  module _ (pool' : Pool) (key : ℕ) (slot new : Slot) (there : slot_at pool key ≡ Some slot) (s : Changed (slot_at pool) (slot_at pool') key (Some new)) where
    written_recent : pool.sequence ≤ pool'.sequence → new.sequence < pool'.sequence → (other : ℕ) (x : Slot) → slot_at pool' other ≡ Some x → x.sequence < pool'.sequence
    written_recent more less other x at = elim (cases_eq other key) [
      | inl same ↦
          let here : slot_at pool' key ≡ Some x = subst (λ (n : ℕ). slot_at pool' n ≡ Some x) same at in
          subst (λ (y : Slot). y.sequence < pool'.sequence) (same_Some new x (sym s.here ∙ here)) less
      | inr away ↦ let was = whole.recent other x (sym (s.others other away) ∙ at) in omega arith
    ]

    pub whole_write : id_in new ≡ id_in slot → place_in new ≡ place_in slot → ((id : DestId) → key_of_id pool' id ≡ key_of_id pool id) → ((place : Place) → key_of_place pool' place ≡ key_of_place pool place) → pool.sequence ≤ pool'.sequence → new.sequence < pool'.sequence → IsWhole pool'
    whole_write same_id same_place ids places more less = record {
      ids = index_same id_in (key_of_id pool) (key_of_id pool') (slot_at pool') (slot_at pool') ids (λ k. refl) (index_write decide_id id_in (key_of_id pool) (slot_at pool) whole.ids slot new key there same_id (slot_at pool') s);
      places = index_same place_in (key_of_place pool) (key_of_place pool') (slot_at pool') (slot_at pool') places (λ k. refl) (index_write decide_place place_in (key_of_place pool) (slot_at pool) whole.places slot new key there same_place (slot_at pool') s);
      recent = written_recent more less;
    }

    pub pool_write : new.sequence ≡ slot.sequence → rows_of pool' ≡ replaced (has_row_id (id_in slot)) (Some new.row) (rows_of pool)
    pool_write same =
        let put : Changed (slot_at pool) (slot_at pool') key (Some (record { row = new.row; sequence = slot.sequence })) =
        record { here = s.here ∙ ap (λ (n : ℕ). Some (record { row = new.row; sequence = n })) same; others = s.others } in
        rows_replaced (key_of_id pool) pool.slab.slots whole.ids slot key there (Some new.row) pool'.slab.slots put

    -- the slots in between, without the one that is put last
    abbrev between : List (Option Slot)
    between = set pool.slab.slots key None

    between_changed : Changed (slot_at pool) (at_key between) key None
    between_changed = record {
      here = get_or-set_same pool.slab.slots key None None (filled pool.slab.slots key slot there);
      others = λ other away. get_or-set_other pool.slab.slots key other None None away;
    }

    between_put : Changed (at_key between) (slot_at pool') key (Some new)
    between_put = record { here = s.here; others = λ other away. s.others other away ∙ sym (between_changed.others other away) }

    between_recent : (other : ℕ) (x : Slot) → at_key between other ≡ Some x → x.sequence < pool.sequence
    between_recent other x at = elim (cases_eq other key) [
      | inl same ↦
          let here : at_key between key ≡ Some x = subst (λ (n : ℕ). at_key between n ≡ Some x) same at in
          absurd (none-some x (sym between_changed.here ∙ here))
      | inr away ↦ whole.recent other x (sym (between_changed.others other away) ∙ at)
    ]

    pub pool_renew : new.sequence ≡ pool.sequence → rows_of pool' ≡ replaced (has_row_id (id_in slot)) None (rows_of pool) ++ new.row ∷ []
    pool_renew same =
        rows_put between pool'.slab.slots new key between_changed.here between_put (λ other x at. subst (λ (n : ℕ). x.sequence < n) (sym same) (between_recent other x at))
        ∙ ap (λ rows. rows ++ new.row ∷ []) (rows_replaced (key_of_id pool) pool.slab.slots whole.ids slot key there None between between_changed)

  -- ---- a slot is put into a vacant key

  module _ (pool' : Pool) (key : ℕ) (new : Slot) (vacant : slot_at pool key ≡ None) (s : Changed (slot_at pool) (slot_at pool') key (Some new)) where
    put_recent : new.sequence ≡ pool.sequence → pool'.sequence ≡ pool.sequence + 1 → (other : ℕ) (x : Slot) → slot_at pool' other ≡ Some x → x.sequence < pool'.sequence
    put_recent same next other x at = elim (cases_eq other key) [
      | inl here ↦
          let found : slot_at pool' key ≡ Some x = subst (λ (n : ℕ). slot_at pool' n ≡ Some x) here at in
          let less : new.sequence < pool'.sequence = omega arith in
          subst (λ (y : Slot). y.sequence < pool'.sequence) (same_Some new x (sym s.here ∙ found)) less
      | inr away ↦ let was = whole.recent other x (sym (s.others other away) ∙ at) in omega arith
    ]

    pub whole_put : key_of_id pool (id_in new) ≡ None → key_of_place pool (place_in new) ≡ None → Changed (key_of_id pool) (key_of_id pool') (id_in new) (Some key) → Changed (key_of_place pool) (key_of_place pool') (place_in new) (Some key) → new.sequence ≡ pool.sequence → pool'.sequence ≡ pool.sequence + 1 → IsWhole pool'
    whole_put free_id free_place ids places same next = record {
      ids = index_insert decide_id id_in (key_of_id pool) (slot_at pool) whole.ids new key vacant free_id (slot_at pool') (key_of_id pool') s ids;
      places = index_insert decide_place place_in (key_of_place pool) (slot_at pool) whole.places new key vacant free_place (slot_at pool') (key_of_place pool') s places;
      recent = put_recent same next;
    }

    pub pool_put : new.sequence ≡ pool.sequence → rows_of pool' ≡ rows_of pool ++ new.row ∷ []
    pool_put same = rows_put pool.slab.slots pool'.slab.slots new key vacant s (λ other x at. subst (λ (n : ℕ). x.sequence < n) (sym same) (whole.recent other x at))

  -- ---- a slot is taken out

  module _ (pool' : Pool) (key : ℕ) (slot : Slot) (there : slot_at pool key ≡ Some slot) (s : Changed (slot_at pool) (slot_at pool') key None) where
    taken_recent : pool'.sequence ≡ pool.sequence → (other : ℕ) (x : Slot) → slot_at pool' other ≡ Some x → x.sequence < pool'.sequence
    taken_recent same other x at = elim (cases_eq other key) [
      | inl here ↦
          let found : slot_at pool' key ≡ Some x = subst (λ (n : ℕ). slot_at pool' n ≡ Some x) here at in
          absurd (none-some x (sym s.here ∙ found))
      | inr away ↦ let was = whole.recent other x (sym (s.others other away) ∙ at) in omega arith
    ]

    pub whole_take : Changed (key_of_id pool) (key_of_id pool') (id_in slot) None → Changed (key_of_place pool) (key_of_place pool') (place_in slot) None → pool'.sequence ≡ pool.sequence → IsWhole pool'
    whole_take ids places same = record {
      ids = index_take decide_id id_in (key_of_id pool) (slot_at pool) whole.ids slot key there (slot_at pool') (key_of_id pool') s ids;
      places = index_take decide_place place_in (key_of_place pool) (slot_at pool) whole.places slot key there (slot_at pool') (key_of_place pool') s places;
      recent = taken_recent same;
    }

    pub pool_take : rows_of pool' ≡ replaced (has_row_id (id_in slot)) None (rows_of pool)
    pool_take = rows_replaced (key_of_id pool) pool.slab.slots whole.ids slot key there None pool'.slab.slots s

  -- ---- the same but for memory

  pub whole_same : (pool' : Pool) → IsSame pool pool' → IsWhole pool'
  whole_same pool' same =
      let slots : (key : ℕ) → slot_at pool' key ≡ slot_at pool key = λ key. ap (λ ss. at_key ss key) same.slots in record {
        ids = index_same id_in (key_of_id pool) (key_of_id pool') (slot_at pool) (slot_at pool') same.ids slots whole.ids;
        places = index_same place_in (key_of_place pool) (key_of_place pool') (slot_at pool) (slot_at pool') same.places slots whole.places;
        recent = λ key x at. let was = whole.recent key x (sym (slots key) ∙ at) in subst (λ (n : ℕ). x.sequence < n) (sym same.sequence) was;
      }
