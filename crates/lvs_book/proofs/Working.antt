-- One turn: what a look tells, what the work needs and leaves, and what may then be given back.
use Rattle.std.proofs.Common.{◌≡◌, ◌≢◌, ℕ, ◌%◌, ◌^◌, ne_eqb, List, [], ◌∷◌, ◌++◌, ◌⊎◌, refl, sym, ap, subst, ◌∙◌, arith, ⊎_elim}
use mathlib.Core.Bool.{Bool, true, ◌||◌}
use mathlib.Core.Logic.{dite}
use native.Mathlib.Decide.{ℕ_discrete}
use Rattle.atomic_table.specs.Table.{Me}
use Rattle.lvs_book.specs.declared.view.Phase.TheVariants.{Waiting}
use Rattle.lvs_book.specs.declared.view.Lane.{Lane}
use Rattle.lvs_book.specs.declared.view.View.{View}
use Rattle.lvs_book.specs.Lanes.{stands, naming, numbers, Own, AllFrom, FirstFrom, HaveActs}
use Rattle.lvs_book.specs.Steps.{in_phase, looked, turned, HasTurn, Ready, worked, Added, GivesBack, MayLeave}
use Rattle.lvs_book.proofs.Lanes.{of_first_from}

module _ {A : Type 0} where
  abbrev last_of : A → List A → A
  last_of d [] = d
  last_of d (x ∷ xs) = last_of x xs

  last_snoc : (d : A) (xs : List A) (a : A) → last_of d (xs ++ a ∷ []) ≡ a
  last_snoc d [] a = refl
  last_snoc d (x ∷ xs) a = last_snoc x xs a

  pub same_last : (xs ys : List A) (a b : A) → xs ++ a ∷ [] ≡ ys ++ b ∷ [] → a ≡ b
  same_last xs ys a b e = sym (last_snoc a xs a) ∙ ap (last_of a) e ∙ last_snoc a ys b

module _ {S O A : Type 0} (origin : S → O) (acts : S → List A) (names : A → List ℕ) (m0 : Me S (View O A)) (t : ℕ) (m m' : Me S (View O A)) (is : m ≡ (in_phase m0.0 (Waiting t), [])) where
  -- at its ticket a pass that waits has the turn, and else it waits on
  pub got : (r : ℕ) → r ≡ t % 2 ^ 64 → (turned origin acts names m r m') ⊎ (looked m r m') → HasTurn origin acts names t m0 m'
  got r hit l = ⊎_elim (λ k. k.1) (λ k. absurd (k.0 hit)) (subst (λ (z : Me S (View O A)). (turned origin acts names z r m') ⊎ (looked z r m')) is l)

  pub still : (r : ℕ) → r ≢ t % 2 ^ 64 → (turned origin acts names m r m') ⊎ (looked m r m') → m' ≡ (in_phase m0.0 (Waiting t), [])
  still r miss l = ⊎_elim (λ k. absurd (miss k.0)) (λ k. k.1) (subst (λ (z : Me S (View O A)). (turned origin acts names z r m') ⊎ (looked z r m')) is l)

module _ {O A : Type 0} (names : A → List ℕ) where
  -- the lists that the work has are those of its lanes' passes, so of the value
  listed : (f : ℕ → List A) (log : List A) (ls : List (Lane O A)) (k : ℕ) → Own names log ls → HaveActs f ls → stands k (numbers ls) ≡ true → naming names k log ≡ f k
  listed f log [] k own has e = grind arith
  listed f log (x ∷ xs) k own has e = dite (ℕ_discrete x.number k) (λ is. ap (λ z. naming names z log) (sym is) ∙ sym own.0 ∙ sym has.0 ∙ ap f is)
      (λ other. listed f log xs k own.1 has.1 (subst (λ (b : Bool). (b || stands k (numbers xs)) ≡ true) (ne_eqb x.number k other) e))

module _ {S O A : Type 0} (origin : S → O) (acts : S → List A) (names : A → List ℕ) where
  abbrev held : S → List (ℕ × S) → S
  held d [] = d
  held d (x ∷ xs) = x.1

  module _ (t : ℕ) (m0 m : Me S (View O A)) (turn : HasTurn origin acts names t m0 m) where
    pub is_ready : (lanes : List ℕ) (o : O) (lists : ℕ → List A) → ((k : ℕ) → stands k lanes ≡ stands k (numbers m0.0.lanes)) → HaveActs lists m0.0.lanes → FirstFrom o m0.0.lanes → Ready origin acts names lanes o lists m
    is_ready lanes o lists same has from = (turn.0, ap (λ z. z.1) turn.1, of_first_from (origin turn.0) o m0.0.lanes from turn.2, λ k e. listed names lists (acts turn.0) m0.0.lanes k turn.3 has (sym (same k) ∙ e))

    -- after the work the act can be counted
    pub added : (lanes : List ℕ) (follows : A → Type 0) (m' : Me S (View O A)) → ((k : ℕ) → stands k lanes ≡ stands k (numbers m0.0.lanes)) → worked origin acts names lanes follows m m' → Added origin acts names m'
    added lanes follows m' same w = let was : w.0 ≡ turn.0 = ap (held turn.0) (sym w.3 ∙ ap (λ z. z.1) turn.1) in let view = ap (λ z. z.0) w.4 ∙ ap (λ z. z.0) turn.1 in (
      w.1,
      t,
      acts turn.0,
      w.2,
      ap (λ z. z.1) w.4,
      ap (λ v. v.phase) view,
      w.5 ∙ ap (λ (x : S). acts x ++ w.2 ∷ []) was,
      λ k. w.7 k ∙ same k ∙ ap (λ v. stands k (numbers v.lanes)) (sym view),
      subst (λ v. AllFrom (origin w.1) v.lanes) (sym view) (subst (λ (x : O). AllFrom x m0.0.lanes) (ap origin (sym was) ∙ sym w.6) turn.2),
    )

    -- after a work that found no memory the value can be given back
    pub unchanged : (m' : Me S (View O A)) → m' ≡ m → MayLeave origin acts names m'
    unchanged m' same = let is = same ∙ turn.1 in
        (turn.0, ap (λ z. z.1) is, subst (λ p. GivesBack p (acts turn.0)) (sym (ap (λ z. z.0.phase) is)) refl, subst (λ z. AllFrom (origin turn.0) z.0.lanes) (sym is) turn.2)

    pub all_from : (o : O) → FirstFrom o m0.0.lanes → AllFrom o m0.0.lanes
    all_from o from = subst (λ (x : O). AllFrom x m0.0.lanes) (of_first_from (origin turn.0) o m0.0.lanes from turn.2) turn.2
