-- The first of the lines that are due, and those behind it.
use Rattle.std.proofs.Common.{◌≡◌, ℕ, ◌+◌, ◌<◌, ◌≤◌, Bool, true, false, cond, List, [], ◌∷◌, length, take, drop, Option, Some, None, refl, sym, ◌∙◌, ap, arith, nat_lt}
use Rattle.std.specs.List.{slice_split, position_or_len}
use Rattle.std.proofs.lemmas.List.{length-take-le}
use Rattle.std.proofs.lemmas.Bool.Decides.{nat_tests}
use Rattle.lvs_model.specs.Lines.{is_feed, cut_by}
use Rattle.lvs_lines.proofs.Splits.{cut_pair, split_found, split_missed}
use Rattle.lvs_check.specs.Texts.{lines_from_place}

inside : (text : List ℕ) (n : ℕ) → n < length text → lines_from_place text (n + 1) ≡ slice_split is_feed (drop (n + 1) text)
inside text n within =
    let is : nat_lt (length text) (n + 1) ≡ false = grind (arith, nat_tests) in
    ap (λ (b : Bool). cond b [] (slice_split is_feed (drop (n + 1) text))) is

short : (text : List ℕ) (n : ℕ) → n < length text → length (take n text) ≡ n
short text n within = grind (arith, length-take-le)

front : Option (List ℕ × List ℕ) → List ℕ
front None = []
front (Some parts) = parts.0

back : Option (List ℕ × List ℕ) → List ℕ
back None = []
back (Some parts) = parts.1

behind_by : (b : Bool) (n : ℕ) (text line after : List ℕ) → b ≡ nat_lt n (length text) → cut_pair line after ≡ cond b (cut_pair (take n text) (drop (n + 1) text)) None → (slice_split is_feed after ≡ lines_from_place text (length line + 1)) × (length line ≤ length text)
unfolding front back
behind_by true n text line after is cut =
    let within : n < length text = grind (arith, nat_tests) in
    let same_line : line ≡ take n text = ap front cut in
    let same_after : after ≡ drop (n + 1) text = ap back cut in
    let count : length line ≡ n = ap length same_line ∙ short text n within in
    (ap (slice_split is_feed) same_after ∙ sym (inside text n within) ∙ ap (λ (k : ℕ). lines_from_place text (k + 1)) (sym count), omega arith)
behind_by false n text line after is cut = cc

pub behind_first : (text line after : List ℕ) → cut_pair line after ≡ cut_by is_feed text → slice_split is_feed text ≡ line ∷ lines_from_place text (length line + 1)
behind_first text line after cut =
    split_found is_feed text line after cut
    ∙ ap (λ (lines : List (List ℕ)). line ∷ lines) (behind_by (nat_lt (position_or_len is_feed text) (length text)) (position_or_len is_feed text) text line after refl cut).0

pub within_first : (text line after : List ℕ) → cut_pair line after ≡ cut_by is_feed text → length line ≤ length text
within_first text line after cut = (behind_by (nat_lt (position_or_len is_feed text) (length text)) (position_or_len is_feed text) text line after refl cut).1

pub nothing_behind : (text : List ℕ) → None ≡ cut_by is_feed text → slice_split is_feed text ≡ text ∷ lines_from_place text (length text + 1)
nothing_behind text cut =
    let past : nat_lt (length text) (length text + 1) ≡ true = grind (arith, nat_tests) in
    split_missed is_feed text cut ∙ ap (λ (b : Bool). text ∷ cond b [] (slice_split is_feed (drop (length text + 1) text))) (sym past)

at_by : (b : Bool) (n : ℕ) (text line after : List ℕ) → b ≡ nat_lt n (length text) → cut_pair line after ≡ cond b (cut_pair (take n text) (drop (n + 1) text)) None → (n < length text) × (line ≡ take n text) × (length line ≡ n)
unfolding front
at_by true n text line after is cut =
    let within : n < length text = grind (arith, nat_tests) in
    let same : line ≡ take n text = ap front cut in
    (within, same, ap length same ∙ short text n within)
at_by false n text line after is cut = cc

-- where a text is cut
pub cut_at : (text line after : List ℕ) → cut_pair line after ≡ cut_by is_feed text → (position_or_len is_feed text < length text) × (line ≡ take (position_or_len is_feed text) text) × (length line ≡ position_or_len is_feed text)
cut_at text line after cut = at_by (nat_lt (position_or_len is_feed text) (length text)) (position_or_len is_feed text) text line after refl cut
