-- Two servers whose turns come in order, round after round.
use Rattle.std.proofs.Common.{◌≡◌, ℕ, zero, suc, ◌+◌, ◌*◌, ◌<◌, ◌≤◌, cond, ◌==◌, List, [], ◌∷◌, ◌++◌, length, replicate, count_by, refl, ap, ◌∙◌, arith}
use Rattle.std.proofs.lemmas.List.Folds.{sum_by-replicate}
use Rattle.std.proofs.lemmas.List.Sums.{sum_by-cons, sum_by-append}
use Rattle.lvs_model.specs.MorePicks.{takers}

-- how often a place stands in a list
abbrev pub times : ℕ → List ℕ → ℕ
times place places = count_by (λ p. p == place) places

pub times-cons : (place p : ℕ) (places : List ℕ) → times place (p ∷ places) ≡ cond (p == place) 1 0 + times place places
times-cons place p places = sum_by-cons (λ p. cond (p == place) 1 0) p places

pub times_block : (place n p : ℕ) (places : List ℕ) → times place (replicate n p ++ places) ≡ n * cond (p == place) 1 0 + times place places
times_block place n p places = sum_by-append (λ p. cond (p == place) 1 0) (replicate n p) places ∙ ap (λ m. m + times place places) (sum_by-replicate (λ p. cond (p == place) 1 0) n p)

-- from each point on, i stands at most as often as j
abbrev pub InTurn : ℕ → ℕ → List ℕ → Type 0
InTurn i j [] = Unit {0}
InTurn i j (p ∷ places) = (times i (p ∷ places) ≤ times j (p ∷ places)) × InTurn i j places

pub in_turn_now : (i j : ℕ) (places : List ℕ) → InTurn i j places → times i places ≤ times j places
in_turn_now i j [] turn = omega arith
in_turn_now i j (p ∷ places) turn = turn.0

pub in_turn_without : (i j : ℕ) (places : List ℕ) → times i places ≡ 0 → InTurn i j places
in_turn_without i j [] none = tt
in_turn_without i j (p ∷ places) none = let whole = times-cons i p places in (omega arith, in_turn_without i j places (omega arith))

pub in_turn_block : (i j n p : ℕ) (places : List ℕ) → InTurn i j places → n * cond (p == i) 1 0 + times i places ≤ times j places → InTurn i j (replicate n p ++ places)
in_turn_block i j zero p places turn room = turn
in_turn_block i j (suc n) p places turn room =
    let first = times-cons i p (replicate n p ++ places) in
    let second = times-cons j p (replicate n p ++ places) in
    let first_block = times_block i n p places in
    let second_block = times_block j n p places in
    let more : suc n * cond (p == i) 1 0 ≡ cond (p == i) 1 0 + n * cond (p == i) 1 0 = omega arith in
    (omega arith, in_turn_block i j n p places turn (omega arith))

-- the takers of any number of slots are shared evenly between two places that stand equally often in a round, in turn
pub takers_even : (i j t n : ℕ) (rest round : List ℕ) → InTurn i j rest → InTurn i j round → times j rest ≤ t → times i round ≡ t → times j round ≡ t → (times j (takers n rest round) + times i rest ≤ times i (takers n rest round) + times j rest) × (times i (takers n rest round) + times j rest ≤ times j (takers n rest round) + times i rest + t)
takers_even i j t zero rest round turn turns few first second = let now = in_turn_now i j rest turn in (omega arith, omega arith)
takers_even i j t (suc n) [] [] turn turns few first second = (omega arith, omega arith)
takers_even i j t (suc n) [] (p ∷ places) turn turns few first second =
    let now_first = times-cons i p places in
    let now_second = times-cons j p places in
    let taken_first = times-cons i p (takers n places (p ∷ places)) in
    let taken_second = times-cons j p (takers n places (p ∷ places)) in
    let later = takers_even i j t n places (p ∷ places) turns.1 turns (omega arith) first second in
    (omega arith, omega arith)
takers_even i j t (suc n) (p ∷ rest) round turn turns few first second =
    let now_first = times-cons i p rest in
    let now_second = times-cons j p rest in
    let taken_first = times-cons i p (takers n rest round) in
    let taken_second = times-cons j p (takers n rest round) in
    let later = takers_even i j t n rest round turn.1 turns (omega arith) first second in
    (omega arith, omega arith)

-- a round of no places hands out nothing, every other as many slots as are asked for
pub length-takers : (n : ℕ) (rest round : List ℕ) → 0 < length round → length (takers n rest round) ≡ n
length-takers zero rest round some = refl
length-takers (suc n) [] [] some = absurd (omega arith)
length-takers (suc n) [] (p ∷ places) some = ap suc (length-takers n places (p ∷ places) some)
length-takers (suc n) (p ∷ rest) round some = ap suc (length-takers n rest round some)
