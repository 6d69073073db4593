-- Whose turn it is: round robin, plain and by weight (rr and wrr of ipvsadm(8); the turns and the current weights are this project's profile).
use Rattle.std.specs.Prelude.{◌≡◌, ℕ, ◌<◌, length, slice_get, zero, suc, ◌+◌, ◌-◌, ◌%◌, max, Bool, true, false, ◌&&◌, ◌||◌, ◌==◌, nat_le, nat_lt, if◌then◌else◌, List, [], ◌∷◌, ◌++◌, map, take, Option, Some, None}
use Rattle.std.specs.Option.{option_map}
use Rattle.std.specs.List.{find, filter, list_any, list_all, enumerate_from, after_first, position_or_len}
use Rattle.lvs_types.specs.declared.dest.Candidate.{Candidate}
use Rattle.lvs_types.specs.declared.service.Cursor.{Cursor}
use Rattle.lvs_model.specs.Same.{dest_eq}

-- the place is an eligible candidate's
abbrev pub IsEligibleAt : List Candidate → ℕ → Type 0
IsEligibleAt cs place = (place < length cs) × (option_map (λ c. c.eligible) (slice_get cs place) ≡ Some true)

-- no candidate is eligible
abbrev pub IsNoneEligible : List Candidate → Type 0
IsNoneEligible cs = list_any (λ c. c.eligible) cs ≡ false

-- the candidates with their places in the list, from 0
abbrev pub placed : List Candidate → List (ℕ × Candidate)
placed cs = enumerate_from 0 cs

-- the candidate is the one that was picked last
abbrev pub is_last : Cursor → ℕ × Candidate → Bool
is_last cursor p = dest_eq cursor.last p.1.id

-- the candidates after the one that was picked last, to the end: none where that is nobody
abbrev pub after_last : List Candidate → Cursor → List (ℕ × Candidate)
after_last cs cursor = after_first (is_last cursor) (placed cs)

-- the candidates up to the one that was picked last, and that one: all where that is nobody
abbrev pub through_last : List Candidate → Cursor → List (ℕ × Candidate)
through_last cs cursor = take (position_or_len (is_last cursor) (placed cs) + 1) (placed cs)

-- a candidate's turn: its place, and the cursor of which it is the last one picked
abbrev pub turn_of : Cursor → ℕ × Candidate → ℕ × Cursor
turn_of cursor p = (p.0, record cursor { last = Some p.1.id })

-- rr: the first eligible one of the list turned so that it begins after the one that was picked last (ipvsadm(8), rr)
abbrev pub pick_rr : List Candidate → Cursor → Option (ℕ × Cursor)
pick_rr cs cursor = option_map (turn_of cursor) (find (λ p. p.1.eligible) (after_last cs cursor ++ through_last cs cursor))

-- the weights of the eligible candidates
abbrev pub eligible_weights : List Candidate → List ℕ
eligible_weights cs = map (λ c. c.weight) (filter (λ c. c.eligible) cs)

-- the greatest number of a list, and 0 of none
abbrev pub greatest : List ℕ → ℕ
greatest [] = 0
greatest (n ∷ ns) = max n (greatest ns)

-- the number divides each one of the list
abbrev pub divides_all : ℕ → List ℕ → Bool
divides_all d ns = list_all (λ n. n % d == 0) ns

-- the greatest number from 1 to a limit that divides each one of the list, and 0 where there is none
abbrev pub greatest_divisor : ℕ → List ℕ → ℕ
greatest_divisor zero ns = 0
greatest_divisor (suc d) ns = if divides_all (suc d) ns then suc d else greatest_divisor d ns

-- the greatest common divisor of the numbers of a list
abbrev pub greatest_common_divisor : List ℕ → ℕ
greatest_common_divisor ns = greatest_divisor (greatest ns) ns

-- the current weight of the next round: less by the greatest common divisor, and the greatest weight where that is 0 or less, or above the greatest weight
abbrev pub next_current_weight : List ℕ → ℕ → ℕ
next_current_weight weights cw =
    let next = cw - greatest_common_divisor weights in
    if (next == 0) || nat_lt (greatest weights) next then greatest weights else next

-- a candidate with its place, and the current weight that its own is measured by
pub record Offer : Type 0 where
  pub place : ℕ
  pub server : Candidate
  pub current_weight : ℕ

abbrev pub offer : ℕ → ℕ × Candidate → Offer
offer current_weight p = record { place = p.0; server = p.1; current_weight = current_weight }

-- what is looked at, in order: the candidates after the one that was picked last, each with the present current weight, and then all with the next one
abbrev pub offers : List Candidate → Cursor → List Offer
offers cs cursor = map (offer cursor.cw) (after_last cs cursor) ++ map (offer (next_current_weight (eligible_weights cs) cursor.cw)) (placed cs)

-- the candidate is eligible and has at least that weight
abbrev pub is_taken : Offer → Bool
is_taken o = o.server.eligible && nat_le o.current_weight o.server.weight

abbrev pub offer_turn : Offer → ℕ × Cursor
offer_turn o = (o.place, record { last = Some o.server.id; cw = o.current_weight })

-- wrr: the first offer that is taken, whose current weight is kept (ipvsadm(8), wrr)
abbrev pub pick_wrr : List Candidate → Cursor → Option (ℕ × Cursor)
pick_wrr cs cursor = option_map offer_turn (find is_taken (offers cs cursor))

-- a place, and those that follow from the cursor that is left
abbrev pub picks_from : Option (ℕ × Cursor) → (Cursor → List ℕ) → List ℕ
picks_from None later = []
picks_from (Some turn) later = turn.0 ∷ later turn.1

-- the places of so many picks in a row, each with the cursor that the one before left
abbrev pub picks_in_turn : (List Candidate → Cursor → Option (ℕ × Cursor)) → List Candidate → Cursor → ℕ → List ℕ
picks_in_turn pick cs cursor zero = []
picks_in_turn pick cs cursor (suc n) = picks_from (pick cs cursor) (λ next. picks_in_turn pick cs next n)
