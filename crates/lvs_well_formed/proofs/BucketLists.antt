-- What a change of one list leaves of a filter, and of the order of ids.
use Rattle.std.proofs.Common.{◌≡◌, ◌+◌, ◌<◌, ℕ, Bool, true, false, cond, not, List, [], ◌∷◌, ◌++◌, refl, sym, ◌∙◌, ap, subst, arith, map, suc}
use Rattle.std.proofs.lemmas.Bool.{eqb-true}
use Rattle.std.specs.List.{AllByRecursion, filter}
use Rattle.std.specs.List.Sorted.{IsStrictlyIncreasing}
use Rattle.std.specs.Prelude.{slice_index}
use Rattle.lvs_types.specs.declared.entry.Entry.{Entry}
use Rattle.lvs_model.specs.Lists.{update_first, without}
use Rattle.lvs_model.specs.Lookups.{has_entry_id}
use Rattle.lvs_model.specs.Binding.{put_entry}
use Rattle.lvs_model.proofs.OrderLemmas.{IsStrict}
use Rattle.lvs_well_formed.proofs.Lists.{all_weaker, all_filter, all_push, all_update}

-- FILTERS

filter_drop : {X : Type 0} (p : X → Bool) (x : X) (xs : List X) → p x ≡ false → filter p (x ∷ xs) ≡ filter p xs
filter_drop p x xs is = ap (λ b. cond b (x ∷ filter p xs) (filter p xs)) is

filter_cons : {X : Type 0} (p : X → Bool) (x : X) (xs ys : List X) → filter p xs ≡ filter p ys → filter p (x ∷ xs) ≡ filter p (x ∷ ys)
filter_cons p x xs ys same = ap (λ l. cond (p x) (x ∷ l) l) same

-- those that pass q don't pass p
abbrev pub AreApart : {X : Type 0} → (p q : X → Bool) → List X → Type 0
AreApart p q xs = AllByRecursion (λ x. q x ≡ true → p x ≡ false) xs

pub filter_put : {X : Type 0} (p q : X → Bool) (v : X) (xs : List X) → AreApart p q xs → p v ≡ false → filter p (update_first q (λ _. v) xs) ≡ filter p xs
filter_put p q v [] apart is = refl
filter_put p q v (x ∷ xs) apart is =
    let M : Bool → Type 0 = λ b. (b ≡ true → p x ≡ false) → filter p (cond b (v ∷ xs) (x ∷ update_first q (λ _. v) xs)) ≡ filter p (x ∷ xs) in
    (elim (q x) as M [ true ↦ (λ here. filter_drop p v xs is ∙ sym (filter_drop p x xs (here refl))) | false ↦ (λ here. filter_cons p x (update_first q (λ _. v) xs) xs (filter_put p q v xs apart.1 is)) ]) apart.0

pub filter_without : {X : Type 0} (p q : X → Bool) (xs : List X) → AreApart p q xs → filter p (without q xs) ≡ filter p xs
filter_without p q [] apart = refl
filter_without p q (x ∷ xs) apart =
    let rest = filter_without p q xs apart.1 in
    let M : Bool → Type 0 = λ b. (b ≡ true → p x ≡ false) → filter p (cond (not b) (x ∷ without q xs) (without q xs)) ≡ filter p (x ∷ xs) in
    (elim (q x) as M [ true ↦ (λ here. rest ∙ sym (filter_drop p x xs (here refl))) | false ↦ (λ here. filter_cons p x (without q xs) xs rest) ]) apart.0

pub filter_push : {X : Type 0} (p : X → Bool) (xs : List X) (v : X) → p v ≡ false → filter p (xs ++ v ∷ []) ≡ filter p xs
filter_push p [] v is = filter_drop p v [] is
filter_push p (x ∷ xs) v is = filter_cons p x (xs ++ v ∷ []) xs (filter_push p xs v is)

-- IDS THAT RISE

abbrev pub AreRising : List Entry → Type 0
AreRising es = IsStrict (λ (e : Entry). e.id) es

pub rising_put : (v : Entry) (es : List Entry) → AreRising es → AreRising (put_entry v es)
rising_put v [] rising = tt
rising_put v (x ∷ xs) rising =
    let above : AllByRecursion (λ (y : Entry). x.id < y.id) (put_entry v xs) =
    all_update (λ (y : Entry). x.id < y.id) (has_entry_id v.id) (λ _. v) xs (λ y here below. subst (λ n. x.id < n) (eqb-true y.id v.id here) below) rising.0 in
    let M : Bool → Type 0 = λ b. (b ≡ true → x.id ≡ v.id) → AreRising (cond b (v ∷ xs) (x ∷ put_entry v xs)) in
    (elim (has_entry_id v.id x) as M [ true ↦ (λ here. (subst (λ n. AllByRecursion (λ (y : Entry). n < y.id) xs) (here refl) rising.0, rising.1)) | false ↦ (λ here. (above, rising_put v xs rising.1)) ]) (eqb-true x.id v.id)

pub rising_filter : (p : Entry → Bool) (es : List Entry) → AreRising es → AreRising (filter p es)
rising_filter p [] rising = tt
rising_filter p (x ∷ xs) rising =
    let Q : Bool → Type 0 = λ b. AreRising (cond b (x ∷ filter p xs) (filter p xs)) in
    elim (p x) as Q [ true ↦ (all_filter (λ (y : Entry). x.id < y.id) p xs rising.0, rising_filter p xs rising.1) | false ↦ rising_filter p xs rising.1 ]

pub rising_push : (es : List Entry) (v : Entry) → AllByRecursion (λ (e : Entry). e.id < v.id) es → AreRising es → AreRising (es ++ v ∷ [])
rising_push [] v below rising = (tt, tt)
rising_push (x ∷ xs) v below rising = (all_push (λ (y : Entry). x.id < y.id) xs v rising.0 below.0, rising_push xs v below.1 rising.1)

-- numbers that rise in std's word rise by recursion
pub rising_of : (es : List Entry) → IsStrictlyIncreasing (map (λ (e : Entry). e.id) es) → AreRising es
rising_of [] rising = tt
rising_of (x ∷ []) rising = (tt, tt)
rising_of (x ∷ y ∷ ys) rising =
    let ids : List ℕ = map (λ (e : Entry). e.id) (x ∷ y ∷ ys) in
    let first : x.id < y.id = rising 0 (omega arith) in
    let later : AreRising (y ∷ ys) =
    rising_of (y ∷ ys) (λ k within. let one : suc k + 1 ≡ suc (k + 1) = omega arith in subst (λ n. slice_index ids (suc k) < slice_index ids n) one (rising (suc k) (omega (arith, within)))) in
    ((first, all_weaker (λ (z : Entry). y.id < z.id) (λ (z : Entry). x.id < z.id) ys (λ z up. omega (arith, first, up)) later.0), later)
