-- What is taken among the offers of wrr.
use Rattle.std.proofs.Common.{◌≡◌, ℕ, ◌<◌, ◌≤◌, ◌&&◌, ◌||◌, leb, Bool, true, false, List, [], ◌∷◌, map, slice_get, Option, Some, None, refl, sym, ◌∙◌, ap, arith}
use Rattle.std.specs.Option.{option_map, option_or, IfNone}
use Rattle.std.specs.List.{find, list_any}
use Rattle.std.proofs.lemmas.Bool.Decides.{nat_tests}
use Rattle.std.proofs.lemmas.List.Folds.{find-append}
use Rattle.std.proofs.lemmas.Option.{slice_get-get_or}
use Rattle.lvs_types.specs.declared.dest.Candidate.{Candidate}
use Rattle.lvs_types.specs.declared.service.Cursor.{Cursor}
use Rattle.lvs_model.specs.RoundRobin.{IsNoneEligible, greatest, placed, after_last, eligible_weights, next_current_weight, Offer, offer, offers, is_taken, offer_turn, pick_wrr}
use Rattle.lvs_sched_turn.specs.Places.{IsFound}
use Rattle.lvs_sched_turn.proofs.Placing.{find_map}
use Rattle.lvs_sched_turn.proofs.Divisors.{weights_first}

-- the candidate is eligible and has at least that weight
abbrev pub weighs : ℕ → ℕ × Candidate → Bool
weighs number q = q.1.eligible && leb number q.1.weight

-- the first offer that is taken is one after the cursor's server, or else one of all
offers_parts : (cs : List Candidate) (cursor : Cursor) → find is_taken (offers cs cursor) ≡ option_or (option_map (offer cursor.cw) (find (weighs cursor.cw) (after_last cs cursor))) (option_map (offer (next_current_weight (eligible_weights cs) cursor.cw)) (find (weighs (next_current_weight (eligible_weights cs) cursor.cw)) (placed cs)))
offers_parts cs cursor =
    let next = next_current_weight (eligible_weights cs) cursor.cw in
    let first = find_map is_taken (offer cursor.cw) (after_last cs cursor) in
    let second = find_map is_taken (offer next) (placed cs) in
    find-append is_taken (map (offer cursor.cw) (after_last cs cursor)) (map (offer next) (placed cs)) ∙ ap (λ o. option_or o (find is_taken (map (offer next) (placed cs)))) first ∙ ap (option_or (option_map (offer cursor.cw) (find (weighs cursor.cw) (after_last cs cursor)))) second

-- the turn of the candidate at a place
abbrev pub turn_at : List Candidate → ℕ → ℕ → Option (ℕ × Cursor)
turn_at cs place number = option_map (λ c. offer_turn (record { place = place; server = c; current_weight = number })) (slice_get cs place)

turn_found : (cs : List Candidate) (place number : ℕ) (found : Option (ℕ × Candidate)) (later : Option Offer) → IsFound cs found (Some place) → option_map offer_turn (option_or (option_map (offer number) found) later) ≡ turn_at cs place number
turn_found [] place number found later is = absurd (omega (arith, is.0))
turn_found (c ∷ cs) place number found later is =
    let here = slice_get-get_or (c ∷ cs) place c is.0 in
    let there = is.1 ∙ ap (option_map (λ (x : Candidate). (place, x))) here in
    ap (λ f. option_map offer_turn (option_or (option_map (offer number) f) later)) there ∙ sym (ap (option_map (λ x. offer_turn (record { place = place; server = x; current_weight = number }))) here)

or_none_is : {X : Type 0} (o : Option X) → o ≡ option_or o None
or_none_is None = refl
or_none_is (Some x) = refl

-- one after the cursor's server is taken
pub taken_now : (cs : List Candidate) (cursor : Cursor) (place : ℕ) → IsFound cs (find (weighs cursor.cw) (after_last cs cursor)) (Some place) → turn_at cs place cursor.cw ≡ pick_wrr cs cursor
taken_now cs cursor place is =
    sym (ap (option_map offer_turn) (offers_parts cs cursor) ∙ turn_found cs place cursor.cw (find (weighs cursor.cw) (after_last cs cursor)) (option_map (offer (next_current_weight (eligible_weights cs) cursor.cw)) (find (weighs (next_current_weight (eligible_weights cs) cursor.cw)) (placed cs))) is)

parts_then : (cs : List Candidate) (cursor : Cursor) → find (weighs cursor.cw) (after_last cs cursor) ≡ None → find is_taken (offers cs cursor) ≡ option_map (offer (next_current_weight (eligible_weights cs) cursor.cw)) (find (weighs (next_current_weight (eligible_weights cs) cursor.cw)) (placed cs))
parts_then cs cursor none =
    let next = next_current_weight (eligible_weights cs) cursor.cw in
    offers_parts cs cursor ∙ ap (λ o. option_or (option_map (offer cursor.cw) o) (option_map (offer next) (find (weighs next) (placed cs)))) none

-- none is, and then the first one of all
pub taken_later : (cs : List Candidate) (cursor : Cursor) (number : ℕ) → find (weighs cursor.cw) (after_last cs cursor) ≡ None → number ≡ next_current_weight (eligible_weights cs) cursor.cw → option_map offer_turn (option_map (offer number) (find (weighs number) (placed cs))) ≡ pick_wrr cs cursor
taken_later cs cursor number none next =
    sym (ap (option_map offer_turn) (parts_then cs cursor none ∙ ap (λ n. option_map (offer n) (find (weighs n) (placed cs))) (sym next)))

-- a turn among all
pub turn_of_all : (cs : List Candidate) (place number : ℕ) → IsFound cs (find (weighs number) (placed cs)) (Some place) → turn_at cs place number ≡ option_map offer_turn (option_map (offer number) (find (weighs number) (placed cs)))
turn_of_all cs place number is =
    let or_none = or_none_is (option_map (offer number) (find (weighs number) (placed cs))) in
    sym (ap (option_map offer_turn) or_none ∙ turn_found cs place number (find (weighs number) (placed cs)) None is)

weight_below : (e : Bool) (n w : ℕ) → (e && leb n w) ≡ false → e ≡ true → w < n
weight_below true n w fails is = grind (arith, nat_tests)
weight_below false n w fails is = absurd (cc)

neither : (a b : Bool) → (a || b) ≡ false → (a ≡ false) × (b ≡ false)
neither true b is = absurd (cc)
neither false b is = (refl, is)

none_weighs : (cs : List Candidate) → IsNoneEligible cs → greatest (eligible_weights cs) ≡ 0
none_weighs [] none = refl
none_weighs (c ∷ cs) none =
    let parts = neither c.eligible (list_any (λ (x : Candidate). x.eligible) cs) none in
    ap greatest (weights_first false c cs parts.0) ∙ none_weighs cs parts.1

reached_step : (e : Bool) (c : Candidate) (cs : List Candidate) (n : ℕ) → c.eligible ≡ e → n ≤ greatest (eligible_weights (c ∷ cs)) → (c.eligible && leb n c.weight) ≡ false → (n ≤ greatest (eligible_weights cs) → IsNoneEligible cs) → IsNoneEligible (c ∷ cs)
reached_step false c cs n is limit fails later =
    let same = ap greatest (weights_first false c cs is) in
    let below : n ≤ greatest (eligible_weights cs) = omega arith in
    ap (λ b. b || list_any (λ (x : Candidate). x.eligible) cs) is ∙ later below
reached_step true c cs n is limit fails later =
    let same = ap greatest (weights_first true c cs is) in
    let above = weight_below c.eligible n c.weight fails is in
    let below : n ≤ greatest (eligible_weights cs) = omega arith in
    let zero = none_weighs cs (later below) in
    absurd (omega arith)

-- a number that some eligible weight reaches is reached by an eligible candidate, if there is one
reached : (cs : List Candidate) (n : ℕ) → n ≤ greatest (eligible_weights cs) → list_any (λ (c : Candidate). c.eligible && leb n c.weight) cs ≡ false → IsNoneEligible cs
reached [] n limit none = refl
reached (c ∷ cs) n limit none =
    let parts = neither (c.eligible && leb n c.weight) (list_any (λ (x : Candidate). x.eligible && leb n x.weight) cs) none in
    reached_step c.eligible c cs n refl limit parts.0 (λ below. reached cs n below parts.1)

pub none_reached : {X : Type 0} (r : Option X) (cs : List Candidate) (n : ℕ) → n ≤ greatest (eligible_weights cs) → IfNone r (list_any (λ (c : Candidate). c.eligible && leb n c.weight) cs ≡ false) → IfNone r (IsNoneEligible cs)
none_reached None cs n limit none = reached cs n limit none
none_reached (Some x) cs n limit none = tt
