-- An index through each change of the slots.
use Rattle.std.proofs.Common.{◌≡◌, ◌≢◌, ℕ, ◌⊎◌, inl, inr, sym, ap, ◌∙◌, subst, Option, Some, None}
use Rattle.std.proofs.lemmas.Bool.{cases_eq}
use Rattle.std.proofs.lemmas.Option.{none-some, same_Some}
use Rattle.lvs_dests.specs.declared.slots.Slot.{Slot}
use Rattle.lvs_dests.specs.Pool.{Changed, IsIndex}

-- the same at each key
pub index_same : {K : Type 0} (value : Slot → K) (key_of key_of' : K → Option ℕ) (slots slots' : ℕ → Option Slot) → ((v : K) → key_of' v ≡ key_of v) → ((key : ℕ) → slots' key ≡ slots key) → IsIndex value key_of slots → IsIndex value key_of' slots'
index_same value key_of key_of' slots slots' keys same index = record {
  finds = λ v key e. let was = index.finds v key (sym (keys v) ∙ e) in (was.0, same key ∙ was.1, was.2);
  found = λ key slot e. keys (value slot) ∙ index.found key slot (sym (same key) ∙ e);
}

module _ {K : Type 0} (decide : (a b : K) → (a ≡ b) ⊎ (a ≢ b)) (value : Slot → K) (key_of : K → Option ℕ) (slots : ℕ → Option Slot) (index : IsIndex value key_of slots) where
  -- two slots of one value are one
  pub index_one : (key other : ℕ) (slot x : Slot) → slots key ≡ Some slot → slots other ≡ Some x → value x ≡ value slot → other ≡ key
  index_one key other slot x here there same =
      let led = index.found key slot here in
      let also = index.found other x there in
      same_Some other key (sym also ∙ ap key_of same ∙ led)

  -- a slot whose value leads nowhere is put into a vacant key
  module _ (slot : Slot) (at : ℕ) (vacant : slots at ≡ None) (free : key_of (value slot) ≡ None) (slots' : ℕ → Option Slot) (key_of' : K → Option ℕ) (s : Changed slots slots' at (Some slot)) (k : Changed key_of key_of' (value slot) (Some at)) where
    filled : (key : ℕ) (x : Slot) → slots key ≡ Some x → key ≢ at
    filled key x there same = none-some x (sym vacant ∙ subst (λ (n : ℕ). slots n ≡ Some x) same there)

    led_there : (v : K) (key : ℕ) → key_of v ≡ Some key → v ≢ value slot
    led_there v key led same = none-some key (sym free ∙ subst (λ (u : K). key_of u ≡ Some key) same led)

    insert_finds : (v : K) (key : ℕ) → key_of' v ≡ Some key → (x : Slot) × (slots' key ≡ Some x) × (value x ≡ v)
    insert_finds v key e = elim (decide v (value slot)) [
      | inl same ↦
          let led : key_of' (value slot) ≡ Some key = subst (λ (u : K). key_of' u ≡ Some key) same e in
          let place : at ≡ key = same_Some at key (sym k.here ∙ led) in
          (slot, subst (λ (n : ℕ). slots' n ≡ Some slot) place s.here, sym same)
      | inr other ↦
          let was = index.finds v key (sym (k.others v other) ∙ e) in
          (was.0, s.others key (filled key was.0 was.1) ∙ was.1, was.2)
    ]

    insert_found : (key : ℕ) (x : Slot) → slots' key ≡ Some x → key_of' (value x) ≡ Some key
    insert_found key x e = elim (cases_eq key at) [
      | inl same ↦
          let here : slots' at ≡ Some x = subst (λ (n : ℕ). slots' n ≡ Some x) same e in
          let is : slot ≡ x = same_Some slot x (sym s.here ∙ here) in
          subst (λ (y : Slot). key_of' (value y) ≡ Some key) is (k.here ∙ ap (λ (n : ℕ). Some n) (sym same))
      | inr other ↦
          let led = index.found key x (sym (s.others key other) ∙ e) in
          k.others (value x) (led_there (value x) key led) ∙ led
    ]

    pub index_insert : IsIndex value key_of' slots'
    index_insert = record { finds = insert_finds; found = insert_found }

  -- a slot is taken out
  module _ (slot : Slot) (at : ℕ) (there : slots at ≡ Some slot) (slots' : ℕ → Option Slot) (key_of' : K → Option ℕ) (s : Changed slots slots' at None) (k : Changed key_of key_of' (value slot) None) where
    take_finds : (v : K) (key : ℕ) → key_of' v ≡ Some key → (x : Slot) × (slots' key ≡ Some x) × (value x ≡ v)
    take_finds v key e = elim (decide v (value slot)) [
      | inl same ↦
          let led : key_of' (value slot) ≡ Some key = subst (λ (u : K). key_of' u ≡ Some key) same e in
          absurd (none-some key (sym k.here ∙ led))
      | inr other ↦
          let was = index.finds v key (sym (k.others v other) ∙ e) in
          let elsewhere : key ≢ at =
          λ same. let here : slots at ≡ Some was.0 = subst (λ (n : ℕ). slots n ≡ Some was.0) same was.1 in
          other (sym was.2 ∙ ap value (same_Some was.0 slot (sym here ∙ there))) in
          (was.0, s.others key elsewhere ∙ was.1, was.2)
    ]

    take_found : (key : ℕ) (x : Slot) → slots' key ≡ Some x → key_of' (value x) ≡ Some key
    take_found key x e = elim (cases_eq key at) [
      | inl same ↦
          let here : slots' at ≡ Some x = subst (λ (n : ℕ). slots' n ≡ Some x) same e in
          absurd (none-some x (sym s.here ∙ here))
      | inr other ↦
          let was : slots key ≡ Some x = sym (s.others key other) ∙ e in
          k.others (value x) (λ same. other (index_one at key slot x there was same)) ∙ index.found key x was
    ]

    pub index_take : IsIndex value key_of' slots'
    index_take = record { finds = take_finds; found = take_found }

  -- a slot is replaced by one of the same value
  module _ (slot new : Slot) (at : ℕ) (there : slots at ≡ Some slot) (same_value : value new ≡ value slot) (slots' : ℕ → Option Slot) (s : Changed slots slots' at (Some new)) where
    write_finds : (v : K) (key : ℕ) → key_of v ≡ Some key → (x : Slot) × (slots' key ≡ Some x) × (value x ≡ v)
    write_finds v key e =
        let was = index.finds v key e in
        elim (cases_eq key at) [
          | inl same ↦
              let here : slots at ≡ Some was.0 = subst (λ (n : ℕ). slots n ≡ Some was.0) same was.1 in
              let is : slot ≡ was.0 = same_Some slot was.0 (sym there ∙ here) in
              (new, subst (λ (n : ℕ). slots' n ≡ Some new) (sym same) s.here, same_value ∙ ap value is ∙ was.2)
          | inr other ↦ (was.0, s.others key other ∙ was.1, was.2)
        ]

    write_found : (key : ℕ) (x : Slot) → slots' key ≡ Some x → key_of (value x) ≡ Some key
    write_found key x e = elim (cases_eq key at) [
      | inl same ↦
          let here : slots' at ≡ Some x = subst (λ (n : ℕ). slots' n ≡ Some x) same e in
          let is : new ≡ x = same_Some new x (sym s.here ∙ here) in
          let led : key_of (value new) ≡ Some at = ap key_of same_value ∙ index.found at slot there in
          subst (λ (y : Slot). key_of (value y) ≡ Some key) is (led ∙ ap (λ (n : ℕ). Some n) (sym same))
      | inr other ↦ index.found key x (sym (s.others key other) ∙ e)
    ]

    pub index_write : IsIndex value key_of slots'
    index_write = record { finds = write_finds; found = write_found }
