-- Searches by a narrower test, and changes of the one that passes.
use Rattle.std.proofs.Common.{◌≡◌, ℕ, ◌<◌, inl, inr, Bool, true, false, ◌&&◌, ◌||◌, ◌==◌, not, cond, refl, sym, ap, ◌∙◌, subst, List, [], ◌∷◌, ◌++◌, Option, Some, None, is_some, arith, ◌+◌}
use Rattle.std.specs.List.{AllByRecursion, list_any, find, cons_option}
use Rattle.std.proofs.lemmas.Option.{none-some, same_Some}
use Rattle.std.proofs.lemmas.Bool.Decides.{nat_tests}
use Rattle.lvs_types.specs.declared.addr.Addr.{Addr}
use Rattle.lvs_types.specs.declared.service.ServiceKey.{ServiceKey}
use Rattle.lvs_types.specs.declared.dest.DestSpec.{DestSpec}
use Rattle.lvs_types.specs.declared.dest.DestRow.{DestRow}
use Rattle.lvs_model.specs.Same.{service_key_eq, addr_eq}
use Rattle.lvs_model.specs.Lists.{without}
use Rattle.lvs_dests.specs.Rows.{row_at, replaced, changed, is_row_at, is_row_revivable}
use Rattle.lvs_dests.specs.Places.{place_at, has_place}
use Rattle.lvs_dests.proofs.Same.{tested, at_true, at_false, name_of_key}
use Rattle.lvs_dests.proofs.Found.{find_nothing, none_passes}

and_false : (a b : Bool) → b ≡ false → (a && b) ≡ false
and_false true b off = off
and_false false b off = refl

module _ {X : Type 0} where
  -- each one that passes is this one
  abbrev pub AreAll : (X → Bool) → X → List X → Type 0
  AreAll p x ys = AllByRecursion (λ y. p y ≡ true → y ≡ x) ys

  module _ (p q : X → Bool) (e : X → Bool) (says : (y : X) → q y ≡ (e y && p y)) (x : X) where
    off_by : (y : X) (a b : Bool) → e y ≡ a → p y ≡ b → e x ≡ false → (p y ≡ true → y ≡ x) → (a && b) ≡ false
    off_by y true true ey py ex same = sym ey ∙ ap e (same py) ∙ ex
    off_by y true false ey py ex same = refl
    off_by y false b ey py ex same = refl

    all_off : (ys : List X) → AreAll p x ys → e x ≡ false → AllByRecursion (λ y. q y ≡ false) ys
    all_off [] all ex = tt
    all_off (y ∷ ys) all ex = (says y ∙ off_by y (e y) (p y) refl refl ex all.0, all_off ys all.1 ex)

    on_by : (y : X) (ys : List X) (b : Bool) → p y ≡ b → e x ≡ true → (p y ≡ true → y ≡ x) → cond b (Some y) (find p ys) ≡ Some x → (find p ys ≡ Some x → find q ys ≡ Some x) → cond (e y && b) (Some y) (find q ys) ≡ Some x
    on_by y ys true py ex same found rest =
        let is : y ≡ x = same py in
        let ey : e y ≡ true = ap e is ∙ ex in
        ap (λ t. cond (t && true) (Some y) (find q ys)) ey ∙ ap (λ (z : X). Some z) is
    on_by y ys false py ex same found rest = off (e y) (rest found)
      where
        off : (a : Bool) → find q ys ≡ Some x → cond (a && false) (Some y) (find q ys) ≡ Some x
        off true later = later
        off false later = later

    all_on : (ys : List X) → AreAll p x ys → e x ≡ true → find p ys ≡ Some x → find q ys ≡ Some x
    all_on [] all ex found = found
    all_on (y ∷ ys) all ex found =
        ap (λ t. cond t (Some y) (find q ys)) (says y) ∙ on_by y ys (p y) refl ex all.0 found (all_on ys all.1 ex)

    -- the one that passes, where it passes the second test too
    pub narrowed : (ys : List X) → AreAll p x ys → find p ys ≡ Some x → find q ys ≡ cond (e x) (Some x) None
    narrowed ys all found = elim (tested (e x)) [
      | inl holds ↦ all_on ys all holds found ∙ sym (at_true (e x) (Some x) None holds)
      | inr fails ↦ find_nothing q ys (all_off ys all fails) ∙ sym (at_false (e x) (Some x) None fails)
    ]

  -- where none passes, none passes a second test too
  none_narrow : (p q : X → Bool) (e : X → Bool) → ((y : X) → q y ≡ (e y && p y)) → (ys : List X) → AllByRecursion (λ y. p y ≡ false) ys → AllByRecursion (λ y. q y ≡ false) ys
  none_narrow p q e says [] all = tt
  none_narrow p q e says (y ∷ ys) all = (says y ∙ and_false (e y) (p y) all.0, none_narrow p q e says ys all.1)

  pub narrowed_none : (p q : X → Bool) (e : X → Bool) → ((y : X) → q y ≡ (e y && p y)) → (ys : List X) → find p ys ≡ None → find q ys ≡ None
  narrowed_none p q e says ys none = find_nothing q ys (none_narrow p q e says ys (none_passes p ys none))

  any_by : (y : X) (b : Bool) (o : Option X) (rest : Bool) → rest ≡ is_some o → (b || rest) ≡ is_some (cond b (Some y) o)
  any_by y true o rest is = refl
  any_by y false o rest is = is

  pub any_found : (q : X → Bool) (ys : List X) → list_any q ys ≡ is_some (find q ys)
  any_found q [] = refl
  any_found q (y ∷ ys) = any_by y (q y) (find q ys) (list_any q ys) (any_found q ys)

  all_by : (P : X → Type 0) (x y : X) (b : Bool) (o : Option X) → P y → (o ≡ Some x → P x) → cond b (Some y) o ≡ Some x → P x
  all_by P x y true o here rest found = subst P (same_Some y x found) here
  all_by P x y false o here rest found = rest found

  -- what holds of each holds of the one that is found
  pub of_found : (P : X → Type 0) (p : X → Bool) (x : X) (ys : List X) → find p ys ≡ Some x → AllByRecursion P ys → P x
  of_found P p x [] found all = absurd (none-some x found)
  of_found P p x (y ∷ ys) found all = all_by P x y (p y) (find p ys) all.0 (λ later. of_found P p x ys later all.1) found

  -- ---- a change of the one that passes

  change_by : (p q : X → Bool) (f : X → X) (x y : X) (ys zs : List X) (a b : Bool) → p y ≡ a → q y ≡ b → p x ≡ true → q x ≡ true → (p y ≡ true → y ≡ x) → (q y ≡ true → y ≡ x) → ys ≡ zs → cond a (f y) y ∷ ys ≡ cons_option (cond b (Some (f x)) (Some y)) zs
  change_by p q f x y ys zs true true py qy px qx one two rest = let same : f y ≡ f x = ap f (one py) in cc
  change_by p q f x y ys zs false false py qy px qx one two rest = ap (λ vs. y ∷ vs) rest
  change_by p q f x y ys zs true false py qy px qx one two rest = let holds : q y ≡ true = ap q (one py) ∙ qx in absurd (cc)
  change_by p q f x y ys zs false true py qy px qx one two rest = let holds : p y ≡ true = ap p (two qy) ∙ px in absurd (cc)

  pub changed_one : (p q : X → Bool) (f : X → X) (x : X) (ys : List X) → p x ≡ true → q x ≡ true → AreAll p x ys → AreAll q x ys → changed p f ys ≡ replaced q (Some (f x)) ys
  changed_one p q f x [] px qx one two = refl
  changed_one p q f x (y ∷ ys) px qx one two =
      change_by p q f x y (changed p f ys) (replaced q (Some (f x)) ys) (p y) (q y) refl refl px qx one.0 two.0 (changed_one p q f x ys px qx one.1 two.1)

  replace_by : (w : Option X) (f : X → Option X) (y : X) (ys zs : List X) (b : Bool) → (b ≡ true → f y ≡ w) → ys ≡ zs → cons_option (cond b (f y) (Some y)) ys ≡ cons_option (cond b w (Some y)) zs
  replace_by w f y ys zs true is rest = ap (λ o. cons_option o ys) (is refl) ∙ ap (cons_option w) rest
  replace_by w f y ys zs false is rest = ap (λ vs. y ∷ vs) rest

  taken_by : (y : X) (ys zs : List X) (b : Bool) → ys ≡ zs → cons_option (cond b None (Some y)) ys ≡ cond (not b) (y ∷ zs) zs
  taken_by y ys zs true rest = rest
  taken_by y ys zs false rest = ap (λ vs. y ∷ vs) rest

  -- those that pass are taken out
  pub replaced_none : (p : X → Bool) (ys : List X) → replaced p None ys ≡ without p ys
  replaced_none p [] = refl
  replaced_none p (y ∷ ys) = taken_by y (replaced p None ys) (without p ys) (p y) (replaced_none p ys)

  put_by : (x y : X) (ys zs : List X) (b : Bool) → ys ≡ zs → cons_option (cond b (Some x) (Some y)) ys ≡ cond b x y ∷ zs
  put_by x y ys zs true rest = ap (λ vs. x ∷ vs) rest
  put_by x y ys zs false rest = ap (λ vs. y ∷ vs) rest

  -- those that pass are replaced by one
  pub replaced_some : (p : X → Bool) (x : X) (ys : List X) → replaced p (Some x) ys ≡ changed p (λ _. x) ys
  replaced_some p x [] = refl
  replaced_some p x (y ∷ ys) = put_by x y (replaced p (Some x) ys) (changed p (λ _. x) ys) (p y) (replaced_some p x ys)

  pub untouched : (p : X → Bool) (w : Option X) (ys : List X) → AllByRecursion (λ y. p y ≡ false) ys → replaced p w ys ≡ ys
  untouched p w [] all = refl
  untouched p w (y ∷ ys) all = rw (all.0, untouched p w ys all.1) refl

  -- where none passes, nothing is replaced
  pub replaced_missed : (p : X → Bool) (w : Option X) (ys : List X) → find p ys ≡ None → replaced p w ys ≡ ys
  replaced_missed p w ys none = untouched p w ys (none_passes p ys none)

  all_replaced_by : (P : X → Type 0) (w : Option X) (y : X) (ys : List X) (b : Bool) → ((x : X) → w ≡ Some x → P x) → P y → AllByRecursion P ys → AllByRecursion P (cons_option (cond b w (Some y)) ys)
  all_replaced_by P None y ys true new here rest = rest
  all_replaced_by P (Some x) y ys true new here rest = (new x refl, rest)
  all_replaced_by P w y ys false new here rest = (here, rest)

  pub all_replaced : (P : X → Type 0) (p : X → Bool) (w : Option X) (ys : List X) → ((x : X) → w ≡ Some x → P x) → AllByRecursion P ys → AllByRecursion P (replaced p w ys)
  all_replaced P p w [] new all = tt
  all_replaced P p w (y ∷ ys) new all = all_replaced_by P w y (replaced p w ys) (p y) new all.0 (all_replaced P p w ys new all.1)

  pub all_push : (P : X → Type 0) (x : X) (ys : List X) → P x → AllByRecursion P ys → AllByRecursion P (ys ++ x ∷ [])
  all_push P x [] here all = (here, tt)
  all_push P x (y ∷ ys) here all = (all.0, all_push P x ys here all.1)

-- ---- the tests of a place

regroup : (l s a p : Bool) → ((l && s) && (a && p)) ≡ (l && ((s && a) && p))
regroup true true a p = refl
regroup true false a p = refl
regroup false s a p = refl

pub row_at_place : (key : ServiceKey) (addr : Addr) (port : ℕ) (row : DestRow) → is_row_at key addr port row ≡ (row.dest.live && has_place (place_at key addr port) row)
row_at_place key addr port row =
    regroup row.dest.live (service_key_eq row.dest.service key) (addr_eq row.dest.spec.addr addr) (row.dest.spec.port == port)
    ∙ ap (λ t. row.dest.live && ((t && addr_eq row.dest.spec.addr addr) && (row.dest.spec.port == port))) (sym (name_of_key row.dest.service key))

pub revivable_place : (key : ServiceKey) (spec : DestSpec) (row : DestRow) → is_row_revivable key spec row ≡ (not row.dest.live && has_place (place_at key spec.addr spec.port) row)
revivable_place key spec row =
    regroup (not row.dest.live) (service_key_eq row.dest.service key) (addr_eq row.dest.spec.addr spec.addr) (row.dest.spec.port == spec.port)
    ∙ ap (λ t. not row.dest.live && ((t && addr_eq row.dest.spec.addr spec.addr) && (row.dest.spec.port == spec.port))) (sym (name_of_key row.dest.service key))

-- ---- an id that wasn't drawn yet

unused_by : (next n : ℕ) → n < next → (n == next) ≡ false
unused_by next n below = grind (arith, nat_tests)

pub unused : (next : ℕ) (rows : List DestRow) → AllByRecursion (λ (row : DestRow). row.dest.id.0 < next) rows → row_at (record { 0 = next }) rows ≡ None
unused next [] below = refl
unused next (row ∷ rows) below = rw (unused_by next row.dest.id.0 below.0) (unused next rows below.1)

pub weaker_below : (next : ℕ) (rows : List DestRow) → AllByRecursion (λ (row : DestRow). row.dest.id.0 < next) rows → AllByRecursion (λ (row : DestRow). row.dest.id.0 < next + 1) rows
weaker_below next [] below = tt
weaker_below next (row ∷ rows) below = (omega (arith, below.0), weaker_below next rows below.1)
