-- The rounds that were read are within the limits: their items, their moments and their number.
use Rattle.std.proofs.Common.{◌≡◌, ℕ, ◌+◌, ◌-◌, ◌≤◌, false, nat_le, List, [], ◌∷◌, ◌++◌, length, Option, Some, None, refl, ◌∙◌, ap, arith, length-append}
use Rattle.std.specs.Prelude.{slice_get, unwrap_or}
use Rattle.std.specs.List.{flat_map}
use Rattle.std.specs.Option.{option_map_or}
use Rattle.std.proofs.lemmas.Grind.{flat_map-append}
use Rattle.std.proofs.lemmas.Bool.Decides.{nat_tests}
use Rattle.lvs_types.specs.Limits.{max_rounds}
use Rattle.lvs_types.specs.declared.script.Round.{Round}
use Rattle.lvs_types.specs.declared.script.ScriptLine.{ScriptLine}
use Rattle.lvs_model.specs.Captured.{last_moment}
use Rattle.lvs_model.specs.Plans.{items_of_line, items_of_lines}
use Rattle.lvs_model.specs.ScriptLimits.{AreMoments, items_in}
use Rattle.lvs_model.specs.Scripts.{open_round}

abbrev pub round_with : ℕ → List ScriptLine → Round
round_with moment lines = record { moment = moment; lines = lines }

-- ITEMS

-- a round more
pub items_snoc : (rounds : List Round) (round : Round) → items_in (rounds ++ round ∷ []) ≡ items_in rounds + length (items_of_lines round)
items_snoc [] round = omega arith
items_snoc (r ∷ rounds) round = omega (arith, items_snoc rounds round)

pub items_append : (xs ys : List Round) → items_in (xs ++ ys) ≡ items_in xs + items_in ys
items_append [] ys = omega arith
items_append (x ∷ xs) ys = omega (arith, items_append xs ys)

line_items : (lines : List ScriptLine) (l : ScriptLine) → length (flat_map items_of_line (lines ++ l ∷ [])) ≡ length (flat_map items_of_line lines) + length (items_of_line l)
line_items lines l =
    ap length (flat_map-append items_of_line lines (l ∷ []))
    ∙ length-append (flat_map items_of_line lines) (items_of_line l ++ [])
    ∙ omega (arith, length-append (items_of_line l) [])

-- a line more in the last round
pub items_line : (closed : List Round) (o : Option ℕ) (moment : ℕ) (lines : List ScriptLine) (l : ScriptLine) → o ≡ Some moment → items_in (closed ++ open_round o (lines ++ l ∷ [])) ≡ items_in (closed ++ open_round o lines) + length (items_of_line l)
items_line closed None moment lines l e = absurd cc
items_line [] (Some m) moment lines l e = omega (arith, line_items lines l)
items_line (r ∷ closed) (Some m) moment lines l e = omega (arith, items_line closed (Some m) moment lines l e)

-- MOMENTS

last_place : (rounds : List Round) (round : Round) → slice_get (rounds ++ round ∷ []) (length rounds) ≡ Some round
last_place [] round = refl
last_place (r ∷ rounds) round = last_place rounds round

last_of : (rounds : List Round) (round : Round) → last_moment (rounds ++ round ∷ []) ≡ round.moment
last_of rounds round =
    let size : length (rounds ++ round ∷ []) - 1 ≡ length rounds = omega (arith, length-append rounds (round ∷ [])) in
    ap (λ (n : ℕ). option_map_or (λ (r : Round). r.moment) (slice_get (rounds ++ round ∷ []) n) 0) size
    ∙ ap (λ (o : Option Round). option_map_or (λ (r : Round). r.moment) o 0) (last_place rounds round)

-- the round that is open is the last
pub open_is_last : (closed : List Round) (o : Option ℕ) (lines : List ScriptLine) → unwrap_or o 0 ≤ last_moment (closed ++ open_round o lines)
open_is_last closed None lines = omega arith
open_is_last closed (Some m) lines = omega (arith, last_of closed (round_with m lines))

moments_snoc : (rounds : List Round) (round : Round) → AreMoments rounds → round.moment ≤ 4294967295 → AreMoments (rounds ++ round ∷ [])
moments_snoc [] round before is = (is, tt)
moments_snoc (r ∷ rounds) round before is = (before.0, moments_snoc rounds round before.1 is)

-- a round more
pub moments_begun : (rounds : List Round) (moment : ℕ) → AreMoments rounds → moment ≤ 4294967295 → AreMoments (rounds ++ round_with moment [] ∷ [])
moments_begun rounds moment before is = moments_snoc rounds (round_with moment []) before is

-- a line more in the last round
pub moments_line : (closed : List Round) (o : Option ℕ) (lines : List ScriptLine) (l : ScriptLine) → AreMoments (closed ++ open_round o lines) → AreMoments (closed ++ open_round o (lines ++ l ∷ []))
moments_line [] None lines l are = tt
moments_line [] (Some m) lines l are = are
moments_line (r ∷ closed) o lines l are = (are.0, moments_line closed o lines l are.1)

-- THEIR NUMBER

pub count_line : (closed : List Round) (o : Option ℕ) (lines : List ScriptLine) (l : ScriptLine) → length (closed ++ open_round o (lines ++ l ∷ [])) ≡ length (closed ++ open_round o lines)
count_line [] None lines l = refl
count_line [] (Some m) lines l = refl
count_line (r ∷ closed) o lines l = omega (arith, count_line closed o lines l)

-- there is room for a round more
pub room_by : (n : ℕ) → nat_le max_rounds n ≡ false → n + 1 ≤ max_rounds
room_by n few = grind (arith, nat_tests)
