-- Where a turn begins, and what is found from there on.
use Rattle.std.proofs.Common.{◌≡◌, ℕ, ◌<◌, ◌≤◌, ◌+◌, Bool, false, ◌||◌, List, ◌++◌, length, take, drop, slice_get, Option, Some, None, sym, ◌∙◌, ap, subst, arith, length-drop, length-take}
use Rattle.std.specs.Option.{option_map, option_or, IfSome, IfNone}
use Rattle.std.specs.List.{find, list_any, position, position_or_len}
use Rattle.std.proofs.Math.ListN.{drop_of_length-le}
use Rattle.std.proofs.lemmas.List.{take_all}
use Rattle.std.proofs.lemmas.List.{take-append-drop}
use Rattle.std.proofs.lemmas.List.Folds.{find-append, list_any_none, list_any-append}
use Rattle.std.proofs.lemmas.List.Sums.{fails_before_first}
use Rattle.std.proofs.lemmas.List.FromFn.{length-enumerate_from}
use Rattle.lvs_types.specs.declared.dest.Candidate.{Candidate}
use Rattle.lvs_types.specs.declared.service.Cursor.{Cursor}
use Rattle.lvs_model.specs.Same.{dest_eq}
use Rattle.lvs_model.specs.RoundRobin.{IsEligibleAt, placed, is_last, after_last, through_last}
use Rattle.lvs_sched_turn.specs.Places.{IsFound}
use Rattle.lvs_sched_turn.proofs.Placing.{position_some, position_none, place_placed, drop_placed, take_placed, found_placed, none_placed, slice_get-drop, slice_get-take, or_first}

pub after_place : (cs : List Candidate) (cursor : Cursor) (i : ℕ) → position (λ (c : Candidate). dest_eq cursor.last c.id) cs ≡ Some i → drop (i + 1) (placed cs) ≡ after_last cs cursor
after_place cs cursor i found =
    let place = position_some (λ (c : Candidate). dest_eq cursor.last c.id) cs i found in
    ap (λ k. drop (k + 1) (placed cs)) (place.0 ∙ sym (place_placed (λ (c : Candidate). dest_eq cursor.last c.id) 0 cs))

pub through_place : (cs : List Candidate) (cursor : Cursor) (i : ℕ) → position (λ (c : Candidate). dest_eq cursor.last c.id) cs ≡ Some i → take (i + 1) (placed cs) ≡ through_last cs cursor
through_place cs cursor i found =
    let place = position_some (λ (c : Candidate). dest_eq cursor.last c.id) cs i found in
    ap (λ k. take (k + 1) (placed cs)) (place.0 ∙ sym (place_placed (λ (c : Candidate). dest_eq cursor.last c.id) 0 cs))

past_all : (cs : List Candidate) (cursor : Cursor) → position (λ (c : Candidate). dest_eq cursor.last c.id) cs ≡ None → length (placed cs) ≤ position_or_len (is_last cursor) (placed cs) + 1
past_all cs cursor none =
    let past = position_none (λ (c : Candidate). dest_eq cursor.last c.id) cs none in
    let same : position_or_len (is_last cursor) (placed cs) ≡ position_or_len (λ (c : Candidate). dest_eq cursor.last c.id) cs = place_placed (λ (c : Candidate). dest_eq cursor.last c.id) 0 cs in
    let long = length-enumerate_from 0 cs in
    omega arith

pub after_nobody : (cs : List Candidate) (cursor : Cursor) → position (λ (c : Candidate). dest_eq cursor.last c.id) cs ≡ None → drop (length cs) (placed cs) ≡ after_last cs cursor
after_nobody cs cursor none =
    let long = length-enumerate_from 0 cs in
    let all : length (placed cs) ≤ length cs = omega arith in
    drop_of_length-le (placed cs) all ∙ sym (drop_of_length-le (placed cs) (past_all cs cursor none))

pub through_nobody : (cs : List Candidate) (cursor : Cursor) → position (λ (c : Candidate). dest_eq cursor.last c.id) cs ≡ None → take (length cs) (placed cs) ≡ through_last cs cursor
through_nobody cs cursor none =
    let long = length-enumerate_from 0 cs in
    let all : length (placed cs) ≤ length cs = omega arith in
    take_all (length cs) (placed cs) all ∙ sym (take_all (position_or_len (is_last cursor) (placed cs) + 1) (placed cs) (past_all cs cursor none))

neither : (a b : Bool) → a ≡ false → b ≡ false → (a || b) ≡ false
neither a b first second = ap (λ x. x || b) first ∙ second

-- what is found after a place, and what up to one
pub found_after : (p : Candidate → Bool) (cs : List Candidate) (start further : ℕ) → position p (drop start cs) ≡ Some further → IsFound cs (find (λ (q : ℕ × Candidate). p q.1) (drop start (placed cs))) (Some (start + further))
found_after p cs start further found =
    let there = found_placed p (0 + start) (drop start cs) further found in
    let long = length-drop start cs in
    let none : 0 + start ≡ start = omega arith in
    let within : start + further < length cs = omega (arith, there.0) in
    (within, ap (find (λ (q : ℕ × Candidate). p q.1)) (drop_placed start 0 cs) ∙ there.1 ∙ ap (λ k. option_map (λ c. (k + further, c)) (slice_get (drop start cs) further)) none ∙ ap (option_map (λ c. (start + further, c))) (slice_get-drop start cs further))

pub none_after : (p : Candidate → Bool) (cs : List Candidate) (start : ℕ) → position p (drop start cs) ≡ None → find (λ (q : ℕ × Candidate). p q.1) (drop start (placed cs)) ≡ None
none_after p cs start none = ap (find (λ (q : ℕ × Candidate). p q.1)) (drop_placed start 0 cs) ∙ none_placed p (0 + start) (drop start cs) none

found_through : (p : Candidate → Bool) (cs : List Candidate) (start : ℕ) (r : Option ℕ) → position p (take start cs) ≡ r → IsFound cs (find (λ (q : ℕ × Candidate). p q.1) (take start (placed cs))) r
found_through p cs start None none = ap (find (λ (q : ℕ × Candidate). p q.1)) (take_placed start 0 cs) ∙ none_placed p 0 (take start cs) none
found_through p cs start (Some i) found =
    let there = found_placed p 0 (take start cs) i found in
    let long = length-take start cs in
    let none : 0 + i ≡ i = omega arith in
    let within : i < length cs = omega (arith, there.0) in
    (within, ap (find (λ (q : ℕ × Candidate). p q.1)) (take_placed start 0 cs) ∙ there.1 ∙ ap (λ k. option_map (λ c. (k, c)) (slice_get (take start cs) i)) none ∙ ap (option_map (λ c. (i, c))) (slice_get-take start cs i there.0))

-- what is found in a list that is turned
pub found_first : (p : Candidate → Bool) (cs : List Candidate) (start further : ℕ) (after through : List (ℕ × Candidate)) → drop start (placed cs) ≡ after → position p (drop start cs) ≡ Some further → IsFound cs (find (λ (q : ℕ × Candidate). p q.1) (after ++ through)) (Some (start + further))
found_first p cs start further after through is found =
    let there = found_after p cs start further found in
    let here : find (λ (q : ℕ × Candidate). p q.1) after ≡ option_map (λ c. (start + further, c)) (slice_get cs (start + further)) = ap (find (λ (q : ℕ × Candidate). p q.1)) (sym is) ∙ there.1 in
    (there.0, find-append (λ (q : ℕ × Candidate). p q.1) after through ∙ ap (λ o. option_or o (find (λ (q : ℕ × Candidate). p q.1) through)) here ∙ or_first (λ c. (start + further, c)) cs (start + further) (find (λ (q : ℕ × Candidate). p q.1) through) there.0)

pub found_then : (p : Candidate → Bool) (cs : List Candidate) (start : ℕ) (r : Option ℕ) (after through : List (ℕ × Candidate)) → drop start (placed cs) ≡ after → take start (placed cs) ≡ through → position p (drop start cs) ≡ None → position p (take start cs) ≡ r → IsFound cs (find (λ (q : ℕ × Candidate). p q.1) (after ++ through)) r
found_then p cs start r after through is was none found =
    let here : find (λ (q : ℕ × Candidate). p q.1) after ≡ None = ap (find (λ (q : ℕ × Candidate). p q.1)) (sym is) ∙ none_after p cs start none in
    let later : find (λ (q : ℕ × Candidate). p q.1) (after ++ through) ≡ find (λ (q : ℕ × Candidate). p q.1) through = find-append (λ (q : ℕ × Candidate). p q.1) after through ∙ ap (λ o. option_or o (find (λ (q : ℕ × Candidate). p q.1) through)) here in
    subst (λ f. IsFound cs f r) (sym later) (subst (λ qs. IsFound cs (find (λ (q : ℕ × Candidate). p q.1) qs) r) was (found_through p cs start r found))

-- an eligible one after a place, and one up to a place
pub eligible_after : (cs : List Candidate) (start further : ℕ) → IsEligibleAt (drop start cs) further → IsEligibleAt cs (start + further)
eligible_after cs start further is =
    let long = length-drop start cs in
    (omega (arith, is.0), ap (option_map (λ (c : Candidate). c.eligible)) (sym (slice_get-drop start cs further)) ∙ is.1)

pub eligible_through : (cs : List Candidate) (start : ℕ) (r : Option ℕ) → IfSome r (λ place. IsEligibleAt (take start cs) place) → IfSome r (λ place. IsEligibleAt cs place)
eligible_through cs start None is = tt
eligible_through cs start (Some place) is =
    let long = length-take start cs in
    (omega (arith, is.0), ap (option_map (λ (c : Candidate). c.eligible)) (sym (slice_get-take start cs place is.0)) ∙ is.1)

-- where no place is found, none passes
pub none_passes : (p : Candidate → Bool) (cs : List Candidate) → position p cs ≡ None → list_any p cs ≡ false
none_passes p cs none =
    let past = position_none p cs none in
    list_any_none p cs (λ k d within. fails_before_first p cs k d (omega arith))

pub none_of_parts : (p : Candidate → Bool) (cs : List Candidate) (start : ℕ) (r : Option ℕ) → position p (drop start cs) ≡ None → position p (take start cs) ≡ r → IfNone r (list_any p cs ≡ false)
none_of_parts p cs start None after through =
    let second = none_passes p (drop start cs) after in
    let first = none_passes p (take start cs) through in
    ap (list_any p) (sym (take-append-drop start cs)) ∙ list_any-append p (take start cs) (drop start cs) ∙ neither (list_any p (take start cs)) (list_any p (drop start cs)) first second
none_of_parts p cs start (Some place) after through = tt
