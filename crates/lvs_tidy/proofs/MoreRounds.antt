-- Rounds behind a script that was read: the text of all of it is read as all of it.
use Rattle.std.proofs.Common.{◌≡◌, ℕ, ◌+◌, ◌≤◌, Bool, true, false, cond, List, [], ◌∷◌, ◌++◌, length, Option, Some, Ok, Err, refl, sym, ap, subst, ◌∙◌, arith, nat_le, nat_lt, append_assoc, append-nil, length-append}
use Rattle.std.specs.Prelude.{unwrap_or}
use Rattle.std.specs.List.{flat_map}
use Rattle.std.proofs.lemmas.Bool.{le-leb}
use Rattle.std.proofs.lemmas.Bool.Decides.{nat_tests}
use Rattle.lvs_types.specs.Limits.{max_rounds, max_items}
use Rattle.lvs_types.specs.declared.addr.Addr.{Addr}
use Rattle.lvs_types.specs.declared.script.Script.{Script}
use Rattle.lvs_types.specs.declared.script.Round.{Round}
use Rattle.lvs_types.specs.declared.script.ScriptLine.{ScriptLine}
use Rattle.lvs_types.specs.declared.script.ScriptCause.TheVariants as cause
use Rattle.lvs_model.specs.Captured.{last_moment}
use Rattle.lvs_model.specs.Plans.{items_of_line, items_of_lines}
use Rattle.lvs_model.specs.ScriptLimits.{AreMoments, items_in, IsWithinLimits}
use Rattle.lvs_model.specs.Scripts.{ScriptRead, open_round, rounds_read, refuse_if, checked_round, script_read, script_of}
use Rattle.lvs_tidy.specs.ScriptTexts.{script_text}
use Rattle.lvs_tidy.proofs.Counted.{round_with, items_snoc, items_append, open_is_last}
use Rattle.lvs_tidy.proofs.Printed.{IsPrinted}
use Rattle.lvs_tidy.proofs.ReadAgain.{IsReadAgain, lined, line_again, begun_at, begun_again, state_again, read_state}

-- moments that don't fall, from a moment on
abbrev pub AreRising : ℕ → List Round → Type 0
AreRising before [] = Unit {0}
AreRising before (round ∷ rounds) = (before ≤ round.moment) × AreRising round.moment rounds

abbrev pub ArePrinted : List ScriptLine → Type 0
ArePrinted [] = Unit {0}
ArePrinted (l ∷ lines) = IsPrinted l × ArePrinted lines

-- each line of each round is read again
abbrev pub AreAllPrinted : List Round → Type 0
AreAllPrinted [] = Unit {0}
AreAllPrinted (round ∷ rounds) = ArePrinted round.lines × AreAllPrinted rounds

-- LINES

-- the state that is read where these lines stand behind what was read
record InRound (s : ScriptRead) (lines : List ScriptLine) : Type 0 where
  pub state : ScriptRead
  pub again : IsReadAgain state
  pub local : state.local ≡ s.local
  pub moment : state.moment ≡ s.moment
  pub closed : state.closed ≡ s.closed
  pub lines_are : state.lines ≡ s.lines ++ lines

lines_reached : (lines : List ScriptLine) (s : ScriptRead) (moment : ℕ) → s.moment ≡ Some moment → IsReadAgain s → s.items + length (flat_map items_of_line lines) ≤ max_items → ArePrinted lines → InRound s lines
lines_reached [] s moment opened w room are = record { state = s; again = w; local = refl; moment = refl; closed = refl; lines_are = sym (append-nil s.lines) }
lines_reached (l ∷ lines) s moment opened w room are =
    let grown : length (flat_map items_of_line (l ∷ lines)) ≡ length (items_of_line l) + length (flat_map items_of_line lines) = length-append (items_of_line l) (flat_map items_of_line lines) in
    let fits : nat_le (s.items + length (items_of_line l)) max_items ≡ true = le-leb (s.items + length (items_of_line l)) max_items (omega (arith, room, grown)) in
    let left : s.items + length (items_of_line l) + length (flat_map items_of_line lines) ≤ max_items = omega (arith, room, grown) in
    let later = lines_reached lines (lined l s) moment opened (line_again l s moment opened fits are.0 w) left are.1 in
    record {
      state = later.state;
      again = later.again;
      local = later.local;
      moment = later.moment;
      closed = later.closed;
      lines_are = later.lines_are ∙ append_assoc s.lines (l ∷ []) lines;
    }

-- ROUNDS

-- the state that is read where these rounds stand behind what was read
record Reached (s : ScriptRead) (rounds : List Round) : Type 0 where
  pub state : ScriptRead
  pub again : IsReadAgain state
  pub local : state.local ≡ s.local
  pub rounds_are : rounds_read state ≡ rounds_read s ++ rounds

back_false : (moment last : ℕ) → last ≤ moment → nat_lt moment last ≡ false
back_false moment last later = grind (arith, nat_tests)

many_false : (n : ℕ) → n + 1 ≤ max_rounds → nat_le max_rounds n ≡ false
many_false n few = grind (arith, nat_tests)

checked : (moment : ℕ) (s : ScriptRead) → unwrap_or s.moment 0 ≤ moment → length (rounds_read s) + 1 ≤ max_rounds → checked_round moment s ≡ Ok tt
checked moment s later few =
    ap (λ (b : Bool). cond b (Err cause.TimeBack) (refuse_if (nat_le max_rounds (length (rounds_read s))) cause.TooManyRounds)) (back_false moment (unwrap_or s.moment 0) later)
    ∙ ap (λ (b : Bool). refuse_if b cause.TooManyRounds) (many_false (length (rounds_read s)) few)

round_whole : (s t : ScriptRead) (round : Round) → t.closed ≡ rounds_read s → t.moment ≡ Some round.moment → t.lines ≡ round.lines → rounds_read t ≡ rounds_read s ++ round ∷ []
round_whole s t round closed moment lines =
    ap (λ (rounds : List Round). rounds ++ open_round t.moment t.lines) closed
    ∙ ap (λ (o : Option ℕ). rounds_read s ++ open_round o t.lines) moment
    ∙ ap (λ (ls : List ScriptLine). rounds_read s ++ round_with round.moment ls ∷ []) lines

rounds_reached : (rounds : List Round) (s : ScriptRead) (before : ℕ) → IsReadAgain s → unwrap_or s.moment 0 ≤ before → length (rounds_read s) + length rounds ≤ max_rounds → items_in (rounds_read s) + items_in rounds ≤ max_items → AreRising before rounds → AreMoments rounds → AreAllPrinted rounds → Reached s rounds
rounds_reached [] s before w early few items rising low are = record { state = s; again = w; local = refl; rounds_are = sym (append-nil (rounds_read s)) }
rounds_reached (round ∷ rounds) s before w early few items rising low are =
    let fits : checked_round round.moment s ≡ Ok tt = checked round.moment s (omega (arith, early, rising.0)) (omega (arith, few)) in
    let begun : IsReadAgain (begun_at round.moment s) = begun_again round.moment s tt low.0 fits w in
    let room : s.items + length (flat_map items_of_line round.lines) ≤ max_items = omega (arith, w.items, items) in
    let read = lines_reached round.lines (begun_at round.moment s) round.moment refl begun room are.0 in
    let t : ScriptRead = read.state in
    let here : rounds_read t ≡ rounds_read s ++ round ∷ [] = round_whole s t round read.closed read.moment read.lines_are in
    let at_end : unwrap_or t.moment 0 ≡ round.moment = ap (λ (o : Option ℕ). unwrap_or o 0) read.moment in
    let count : length (rounds_read t) ≡ length (rounds_read s) + 1 = ap length here ∙ length-append (rounds_read s) (round ∷ []) in
    let sum : items_in (rounds_read t) ≡ items_in (rounds_read s) + length (items_of_lines round) = ap items_in here ∙ items_snoc (rounds_read s) round in
    let later = rounds_reached rounds t round.moment read.again (omega (arith, at_end)) (omega (arith, count, few)) (omega (arith, sum, items)) rising.1 low.1 are.1 in
    record {
      state = later.state;
      again = later.again;
      local = later.local ∙ read.local;
      rounds_are = later.rounds_are ∙ ap (λ (front : List Round). front ++ rounds) here ∙ append_assoc (rounds_read s) (round ∷ []) rounds;
    }

-- A SCRIPT

abbrev pub behind : Script → List Round → Script
behind script rounds = record script { rounds = script.rounds ++ rounds }

last_moments : (xs ys : List Round) → AreMoments (xs ++ ys) → AreMoments ys
last_moments [] ys are = are
last_moments (x ∷ xs) ys are = last_moments xs ys are.1

abbrev script_with : Option Addr → List Round → Script
script_with o rounds = record { local = unwrap_or o (record { number = 0 }); rounds = rounds }

state_behind : (s : ScriptRead) (rounds : List Round) → IsReadAgain s → IsWithinLimits (rounds_read s ++ rounds) → AreRising (last_moment (rounds_read s)) rounds → AreAllPrinted rounds → script_of (script_text (behind (script_read s) rounds)) ≡ Ok (behind (script_read s) rounds)
state_behind s rounds w within rising are =
    let few : length (rounds_read s) + length rounds ≤ max_rounds = omega (arith, within.few, length-append (rounds_read s) rounds) in
    let items : items_in (rounds_read s) + items_in rounds ≤ max_items = omega (arith, within.items, items_append (rounds_read s) rounds) in
    let reached = rounds_reached rounds s (last_moment (rounds_read s)) w (open_is_last s.closed s.moment s.lines) few items rising (last_moments (rounds_read s) rounds within.moments) are in
    let same : script_read reached.state ≡ behind (script_read s) rounds =
    ap (λ (o : Option Addr). script_with o (rounds_read reached.state)) reached.local
    ∙ ap (λ (all : List Round). script_with s.local all) reached.rounds_are in
    subst (λ (x : Script). script_of (script_text x) ≡ Ok x) same (state_again reached.state reached.again)

-- more rounds behind a script that was read, within the limits, with moments that don't fall, and lines that are read again
pub behind_again : (given : List ℕ) (script : Script) (rounds : List Round) → script_of given ≡ Ok script → IsWithinLimits (script.rounds ++ rounds) → AreRising (last_moment script.rounds) rounds → AreAllPrinted rounds → script_of (script_text (behind script rounds)) ≡ Ok (behind script rounds)
behind_again given script rounds e within rising are =
    let read = read_state given script e in
    let P : Script → Type 0 = λ x. IsWithinLimits (x.rounds ++ rounds) → AreRising (last_moment x.rounds) rounds → script_of (script_text (behind x rounds)) ≡ Ok (behind x rounds) in
    subst P read.same (λ limits up. state_behind read.state rounds read.again limits up are) within rising
