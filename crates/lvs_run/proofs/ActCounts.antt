-- A sound book has no more acts than its plan has items.
use Rattle.std.proofs.Common.{◌≡◌, ◌≢◌, ℕ, zero, suc, ◌+◌, ◌<◌, ◌≤◌, ◌==◌, Bool, true, false, cond, List, [], ◌∷◌, Option, Some, None, length, drop, refl, sym, ◌∙◌, ap, subst, arith}
use Rattle.std.specs.List.{slice_get}
use Rattle.std.proofs.lemmas.Bool.{eqb-true, eq-eqb}
use Rattle.lvs_types.specs.declared.item.Item.{Item}
use Rattle.lvs_types.specs.declared.book.Noted.{Noted}
use Rattle.lvs_types.specs.declared.book.RoundBook.{RoundBook}
use Rattle.lvs_types.specs.declared.book.RoundPlan.{RoundPlan}
use Rattle.lvs_model.specs.State.{State}
use Rattle.lvs_model.specs.Books.{acts_of, AreFrom, IsSound}
use Rattle.lvs_shared.specs.Openings.{count_items}

-- how many items the list of that number has, none where there is no such list
abbrev room : List (List Item) → ℕ → ℕ
room [] k = 0
room (items ∷ lists) zero = length items
room (items ∷ lists) (suc k) = room lists k

-- the list of that number without its first item
abbrev less : ℕ → List (List Item) → List (List Item)
less k [] = []
less zero (items ∷ lists) = drop 1 items ∷ lists
less (suc k) (items ∷ lists) = items ∷ less k lists

shorter : (items : List Item) → 0 < length items → length (drop 1 items) + 1 ≡ length items
shorter [] some = absurd (omega arith)
shorter (i ∷ items) some = omega arith

less_all : (k : ℕ) (lists : List (List Item)) → 0 < room lists k → count_items (less k lists) + 1 ≡ count_items lists
less_all k [] some = absurd (omega (arith, some))
less_all zero (items ∷ lists) some = omega (arith, shorter items some)
less_all (suc k) (items ∷ lists) some = omega (arith, less_all k lists some)

less_here : (k : ℕ) (lists : List (List Item)) → 0 < room lists k → room (less k lists) k + 1 ≡ room lists k
less_here k [] some = absurd (omega (arith, some))
less_here zero (items ∷ lists) some = shorter items some
less_here (suc k) (items ∷ lists) some = less_here k lists some

less_there : (k m : ℕ) (lists : List (List Item)) → (k ≡ m → ⊥) → room (less k lists) m ≡ room lists m
less_there k m [] other = refl
less_there zero zero (items ∷ lists) other = absurd (other refl)
less_there zero (suc m) (items ∷ lists) other = refl
less_there (suc k) zero (items ∷ lists) other = refl
less_there (suc k) (suc m) (items ∷ lists) other = less_there k m lists (λ same. other (ap (λ (n : ℕ). suc n) same))

-- the acts of an actor behind one more act, which is the actor's or not
behind : (k : ℕ) (act : Noted) (acts : List Noted) (b : Bool) → (act.actor == k) ≡ b → length (acts_of k (act ∷ acts)) ≡ cond b 1 0 + length (acts_of k acts)
behind k act acts true is = ap (λ (c : Bool). length (cond c (act ∷ acts_of k acts) (acts_of k acts))) is ∙ omega arith
behind k act acts false is = ap (λ (c : Bool). length (cond c (act ∷ acts_of k acts) (acts_of k acts))) is ∙ omega arith

fits_on : (k : ℕ) (act : Noted) (acts : List Noted) (lists : List (List Item)) (b : Bool) → (act.actor == k) ≡ b → 0 < room lists act.actor → length (acts_of k (act ∷ acts)) ≤ room lists k → length (acts_of k acts) ≤ room (less act.actor lists) k
fits_on k act acts lists true is some fit =
    let same : act.actor ≡ k = eqb-true act.actor k is in
    let one : room (less act.actor lists) k + 1 ≡ room lists k =
    subst (λ (m : ℕ). room (less act.actor lists) m + 1 ≡ room lists m) same (less_here act.actor lists some) in
    omega (arith, fit, behind k act acts true is, one)
fits_on k act acts lists false is some fit =
    let other : act.actor ≡ k → ⊥ = λ same. (let both : true ≡ false = sym (eq-eqb k k refl) ∙ ap (λ (m : ℕ). m == k) (sym same) ∙ is in cc) in
    omega (arith, fit, behind k act acts false is, less_there act.actor k lists other)

fits : (acts : List Noted) (lists : List (List Item)) → ((k : ℕ) → length (acts_of k acts) ≤ room lists k) → length acts ≤ count_items lists
fits [] lists fit = omega arith
fits (act ∷ acts) lists fit =
    let some : 0 < room lists act.actor = omega (arith, fit act.actor, behind act.actor act acts true (eq-eqb act.actor act.actor refl)) in
    omega (arith, less_all act.actor lists some, fits acts (less act.actor lists) (λ k. fits_on k act acts lists (act.actor == k) refl some (fit k)))

room_of : (k : ℕ) (lists : List (List Item)) (items : List Item) → slice_get lists k ≡ Some items → room lists k ≡ length items
room_of k [] items is = cc
room_of zero (first ∷ lists) items is = let same : first ≡ items = cc in ap length same
room_of (suc k) (first ∷ lists) items is = room_of k lists items is

from_fits : (number : ℕ) (items : List Item) (acts : List Noted) → AreFrom number items acts → length acts ≤ length items
from_fits number items [] from = omega arith
from_fits number [] (act ∷ acts) from = absurd from
from_fits number (i ∷ items) (act ∷ acts) from = omega (arith, from_fits (number + 1) items acts from.2)

fit_by : (s left : State) (p : RoundPlan) (book : RoundBook) (k : ℕ) (o : Option (List Item)) → IsSound s p book left → slice_get p.lists k ≡ o → length (acts_of k book.acts) ≤ room p.lists k
fit_by s left p book k None sound is = omega (arith, ap length (sound.none k is))
fit_by s left p book k (Some items) sound is = omega (arith, room_of k p.lists items is, from_fits 0 items (acts_of k book.acts) (sound.actors k items is))

pub few_acts : (s left : State) (p : RoundPlan) (book : RoundBook) → IsSound s p book left → length book.acts ≤ count_items p.lists
few_acts s left p book sound = fits book.acts p.lists (λ k. fit_by s left p book k (slice_get p.lists k) sound refl)
