-- A history isn't longer than the plan.
use Rattle.std.proofs.Common.{◌≡◌, ℕ, zero, suc, ◌+◌, ◌<◌, ◌≤◌, List, [], ◌∷◌, length, get_or, refl, ap, ◌∙◌, subst, arith, cond}
use mathlib.Core.Bool.{Bool, true, false}
use Rattle.lvs_book.specs.Lanes.{stands}
use Rattle.lvs_types.specs.declared.item.Item.{Item}
use Rattle.lvs_types.specs.declared.book.Noted.{Noted}
use Rattle.lvs_model.specs.Books.{AreFrom}
use Rattle.lvs_model.specs.Buckets.{home}
use Rattle.lvs_shared.specs.declared.origin.Act.{Act}
use Rattle.lvs_shared.specs.Openings.{count_items}
use Rattle.lvs_shared.specs.Acts.{notes_of, lane_acts}
use Rattle.lvs_shared.specs.Played.{HaveLanes}
use Rattle.lvs_shared.proofs.Histories.{own_stands, notes_length}

-- how many acts the lanes from n on have, a lane for each list
abbrev tally : ℕ → List (List Item) → List Act → ℕ
tally n [] h = 0
tally n (l ∷ ls) h = length (lane_acts n h) + tally (suc n) ls h

lane_le : (k : ℕ) (a : Act) (h : List Act) → length (lane_acts k h) ≤ length (lane_acts k (a ∷ h))
lane_le k a h = le (stands k a.lanes)
  where
    le : (c : Bool) → length (lane_acts k h) ≤ length (cond c (a ∷ lane_acts k h) (lane_acts k h))
    le true = omega arith
    le false = omega arith

lane_one : (k : ℕ) (a : Act) (h : List Act) → stands k a.lanes ≡ true → length (lane_acts k (a ∷ h)) ≡ suc (length (lane_acts k h))
lane_one k a h is = ap (λ (c : Bool). length (cond c (a ∷ lane_acts k h) (lane_acts k h))) is

tally_le : (n : ℕ) (ls : List (List Item)) (a : Act) (h : List Act) → tally n ls h ≤ tally n ls (a ∷ h)
tally_le n [] a h = omega arith
tally_le n (l ∷ ls) a h = omega (arith, tally_le (suc n) ls a h, lane_le n a h)

tally_more : (n : ℕ) (ls : List (List Item)) (k : ℕ) (a : Act) (h : List Act) → k < length ls → stands (n + k) a.lanes ≡ true → tally n ls h + 1 ≤ tally n ls (a ∷ h)
tally_more n [] k a h below is = absurd (omega (arith, below))
tally_more n (l ∷ ls) zero a h below is =
    let here : n + 0 ≡ n = omega arith in
    let one = lane_one n a h (subst (λ (j : ℕ). stands j a.lanes ≡ true) here is) in
    omega (arith, one, tally_le (suc n) ls a h)
tally_more n (l ∷ ls) (suc k) a h below is =
    let there : n + suc k ≡ suc n + k = omega arith in
    omega (arith, tally_more (suc n) ls k a h (omega (arith, below)) (subst (λ (j : ℕ). stands j a.lanes ≡ true) there is), lane_le n a h)

length_le : (n : ℕ) (ls : List (List Item)) (h : List Act) → HaveLanes n (length ls) h → length h ≤ tally n ls h
length_le n ls [] all = omega arith
length_le n ls (a ∷ h) all =
    let t = tally_more n ls a.noted.actor a h all.1 (ap (stands (n + a.noted.actor)) all.0 ∙ own_stands n a.noted.actor a.noted.actor (home n a.noted.item) refl) in
    omega (arith, t, length_le n ls h all.3)

pub from_le : (n : ℕ) (l : List Item) (h : List Noted) → AreFrom n l h → length h ≤ length l
from_le n l [] all = omega arith
from_le n [] (a ∷ h) all = absurd all
from_le n (i ∷ is) (a ∷ h) all = omega (arith, from_le (n + 1) is h all.2)

tally_plan : (n : ℕ) (ls : List (List Item)) (h : List Act) → ((k : ℕ) → k < length ls → AreFrom 0 (get_or ls k []) (notes_of (lane_acts (n + k) h))) → tally n ls h ≤ count_items ls
tally_plan n [] h all = omega arith
tally_plan n (l ∷ ls) h all =
    let here : n + 0 ≡ n = omega arith in
    let first = from_le 0 l (notes_of (lane_acts n h)) (subst (λ (j : ℕ). AreFrom 0 l (notes_of (lane_acts j h))) here (all 0 (omega arith))) in
    let rest = tally_plan (suc n) ls h (λ k below. let there : n + suc k ≡ suc n + k = omega arith in subst (λ (j : ℕ). AreFrom 0 (get_or ls k []) (notes_of (lane_acts j h))) there (all (suc k) (omega (arith, below)))) in
    omega (arith, first, rest, notes_length (lane_acts n h))

pub not_longer : (n : ℕ) (ls : List (List Item)) (h : List Act) → HaveLanes n (length ls) h → ((k : ℕ) → k < length ls → AreFrom 0 (get_or ls k []) (notes_of (lane_acts (n + k) h))) → length h ≤ count_items ls
not_longer n ls h all planned = omega (arith, length_le n ls h all, tally_plan n ls h planned)

pub list_le : (ls : List (List Item)) (k : ℕ) → length (get_or ls k []) ≤ count_items ls
list_le [] k = omega arith
list_le (l ∷ ls) zero = omega arith
list_le (l ∷ ls) (suc k) = omega (arith, list_le ls k)
