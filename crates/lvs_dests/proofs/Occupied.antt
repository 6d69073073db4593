-- The slots of the slab that hold something, by what a look-up of each key finds.
use Rattle.std.proofs.Common.{◌≡◌, ◌≢◌, ℕ, zero, suc, Bool, true, false, ◌||◌, refl, sym, ap, ◌∙◌, List, [], ◌∷◌, ◌++◌, Option, Some, None, get_or, nat_lt, filter_map, arith}
use Rattle.std.specs.List.{AllByRecursion, list_any, cons_option}
use Rattle.std.specs.Option.{option_and_then}
use Rattle.std.proofs.lemmas.Option.{none-some, same_Some}
use Rattle.lvs_model.specs.Lists.{insert_by, sorted_by}
use Rattle.lvs_dests.proofs.Sorted.{all_sorted, lt_le, insert_last, insert_before}

-- what the slots hold, by rising key
abbrev pub held_by : {X : Type 0} → List (Option X) → List X
held_by slots = filter_map (λ slot. slot) slots

module _ {X : Type 0} where
  abbrev pub at_key : List (Option X) → ℕ → Option X
  at_key slots key = get_or slots key None

  -- the same at each key
  pub held_same : (xs ys : List (Option X)) → ((key : ℕ) → at_key ys key ≡ at_key xs key) → held_by ys ≡ held_by xs
  held_same [] [] same = refl
  held_same [] (None ∷ ys) same = held_same [] ys (λ key. same (suc key))
  held_same [] (Some y ∷ ys) same = absurd (none-some y (sym (same zero)))
  held_same (None ∷ xs) [] same = held_same xs [] (λ key. same (suc key))
  held_same (Some x ∷ xs) [] same = absurd (none-some x (same zero))
  held_same (None ∷ xs) (None ∷ ys) same = held_same xs ys (λ key. same (suc key))
  held_same (None ∷ xs) (Some y ∷ ys) same = absurd (none-some y (sym (same zero)))
  held_same (Some x ∷ xs) (None ∷ ys) same = absurd (none-some x (same zero))
  held_same (Some x ∷ xs) (Some y ∷ ys) same =
      let head : y ≡ x = same_Some y x (same zero) in
      let tail : held_by ys ≡ held_by xs = held_same xs ys (λ key. same (suc key)) in
      cc

  -- at each key what a change leaves of what was there
  pub held_kept : (h : X → Option X) (xs ys : List (Option X)) → ((key : ℕ) → at_key ys key ≡ option_and_then h (at_key xs key)) → held_by ys ≡ filter_map h (held_by xs)
  held_kept h [] [] same = refl
  held_kept h [] (None ∷ ys) same = held_kept h [] ys (λ key. same (suc key))
  held_kept h [] (Some y ∷ ys) same = absurd (none-some y (sym (same zero)))
  held_kept h (None ∷ xs) [] same = held_kept h xs [] (λ key. same (suc key))
  held_kept h (Some x ∷ xs) [] same = held_kept h xs [] (λ key. same (suc key)) ∙ ap (λ o. cons_option o (filter_map h (held_by xs))) (same zero)
  held_kept h (None ∷ xs) (None ∷ ys) same = held_kept h xs ys (λ key. same (suc key))
  held_kept h (None ∷ xs) (Some y ∷ ys) same = absurd (none-some y (sym (same zero)))
  held_kept h (Some x ∷ xs) (None ∷ ys) same = held_kept h xs ys (λ key. same (suc key)) ∙ ap (λ o. cons_option o (filter_map h (held_by xs))) (same zero)
  held_kept h (Some x ∷ xs) (Some y ∷ ys) same = ap (λ zs. y ∷ zs) (held_kept h xs ys (λ key. same (suc key))) ∙ ap (λ o. cons_option o (filter_map h (held_by xs))) (same zero)

  -- what holds at each key holds of each
  pub held_all : (P : X → Type 0) (xs : List (Option X)) → ((key : ℕ) (x : X) → at_key xs key ≡ Some x → P x) → AllByRecursion P (held_by xs)
  held_all P [] each = tt
  held_all P (None ∷ xs) each = held_all P xs (λ key x there. each (suc key) x there)
  held_all P (Some x ∷ xs) each = (each zero x refl, held_all P xs (λ key y there. each (suc key) y there))

  -- one that passes
  pub held_any : (p : X → Bool) (xs : List (Option X)) (key : ℕ) (x : X) → at_key xs key ≡ Some x → p x ≡ true → list_any p (held_by xs) ≡ true
  held_any p [] key x there holds = absurd (none-some x there)
  held_any p (None ∷ xs) zero x there holds = absurd (none-some x there)
  held_any p (None ∷ xs) (suc key) x there holds = held_any p xs key x there holds
  held_any p (Some y ∷ xs) zero x there holds = let same : p y ≡ true = ap p (same_Some y x there) ∙ holds in rw same refl
  held_any p (Some y ∷ xs) (suc key) x there holds = later (p y) (held_any p xs key x there holds)
    where
      later : (a : Bool) → list_any p (held_by xs) ≡ true → (a || list_any p (held_by xs)) ≡ true
      later true rest = refl
      later false rest = rest

  -- ---- one is put into a vacant key, and stands last
  module _ (number : X → ℕ) (x : X) where
    put_behind : (xs ys : List (Option X)) → ((key : ℕ) → at_key ys key ≡ at_key xs key) → AllByRecursion (λ y. nat_lt (number y) (number x) ≡ true) (held_by xs) → insert_by number x (sorted_by number (held_by ys)) ≡ sorted_by number (held_by xs) ++ x ∷ []
    put_behind xs ys same all =
        ap (λ zs. insert_by number x (sorted_by number zs)) (held_same xs ys same)
        ∙ insert_last number x (sorted_by number (held_by xs)) (all_sorted number (λ y. nat_lt (number y) (number x) ≡ true) (held_by xs) all)

    apart_zero : (at : ℕ) → zero ≢ suc at
    apart_zero at e = omega arith

    apart_suc : (key : ℕ) → suc key ≢ zero
    apart_suc key e = omega arith

    apart_less : (key at : ℕ) → key ≢ at → suc key ≢ suc at
    apart_less key at differ e = differ (omega arith)

    put_after : (y v : X) (xs ys : List (Option X)) → y ≡ v → nat_lt (number v) (number x) ≡ true → sorted_by number (held_by ys) ≡ sorted_by number (held_by xs) ++ x ∷ [] → sorted_by number (y ∷ held_by ys) ≡ sorted_by number (v ∷ held_by xs) ++ x ∷ []
    put_after y v xs ys same below rest =
        ap (λ z. insert_by number z (sorted_by number (held_by ys))) same
        ∙ ap (insert_by number v) rest
        ∙ insert_before number v x (sorted_by number (held_by xs)) (lt_le (number v) (number x) below)

    abbrev IsPut : ℕ → List (Option X) → List (Option X) → Type 0
    IsPut at xs ys = (key : ℕ) → key ≢ at → at_key ys key ≡ at_key xs key

    pub held_put : (at : ℕ) (xs ys : List (Option X)) → at_key xs at ≡ None → at_key ys at ≡ Some x → IsPut at xs ys → AllByRecursion (λ y. nat_lt (number y) (number x) ≡ true) (held_by xs) → sorted_by number (held_by ys) ≡ sorted_by number (held_by xs) ++ x ∷ []
    held_put at xs [] vacant here others all = absurd (none-some x here)
    held_put zero xs (None ∷ ys) vacant here others all = absurd (none-some x here)
    held_put zero [] (Some y ∷ ys) vacant here others all =
        ap (λ z. insert_by number z (sorted_by number (held_by ys))) (same_Some y x here) ∙ put_behind [] ys (λ key. others (suc key) (apart_suc key)) tt
    held_put zero (None ∷ xs) (Some y ∷ ys) vacant here others all =
        ap (λ z. insert_by number z (sorted_by number (held_by ys))) (same_Some y x here) ∙ put_behind xs ys (λ key. others (suc key) (apart_suc key)) all
    held_put zero (Some v ∷ xs) (Some y ∷ ys) vacant here others all = absurd (none-some v (sym vacant))
    held_put (suc at) [] (None ∷ ys) vacant here others all = held_put at [] ys refl here (λ key differ. others (suc key) (apart_less key at differ)) tt
    held_put (suc at) [] (Some y ∷ ys) vacant here others all = absurd (none-some y (sym (others zero (apart_zero at))))
    held_put (suc at) (None ∷ xs) (None ∷ ys) vacant here others all = held_put at xs ys vacant here (λ key differ. others (suc key) (apart_less key at differ)) all
    held_put (suc at) (None ∷ xs) (Some y ∷ ys) vacant here others all = absurd (none-some y (sym (others zero (apart_zero at))))
    held_put (suc at) (Some v ∷ xs) (None ∷ ys) vacant here others all = absurd (none-some v (others zero (apart_zero at)))
    held_put (suc at) (Some v ∷ xs) (Some y ∷ ys) vacant here others all =
        put_after y v xs ys (same_Some y v (others zero (apart_zero at))) all.0 (held_put at xs ys vacant here (λ key differ. others (suc key) (apart_less key at differ)) all.1)
