-- An input of two parts, line by line.
use Rattle.std.proofs.Common.{◌≡◌, ℕ, ◌-◌, ◌<◌, Bool, true, false, List, [], ◌∷◌, ◌++◌, length, take, None, refl, sym, ◌∙◌, ap, append_assoc, append-nil, length-append, arith}
use Rattle.std.specs.Prelude.{bytes_eq, if◌then◌else◌}
use Rattle.std.specs.List.{slice_split, join_with_byte}
use Rattle.std.proofs.lemmas.List.Splits.{length-slice_split, join_with_byte-slice_split}
use Rattle.lvs_lines.proofs.Splits.{cut_pair, split_found, split_missed}
use Rattle.lvs_model.specs.Lines.{is_feed, without_return, cut_by}
use Rattle.lvs_model.specs.Inputs.{Parts, parts_of, parts_of_pieces, last_parts, cut, before}

-- the bytes before the rest of an input
abbrev pub front_of : List ℕ → List ℕ → List ℕ
front_of input rest = take (length input - length rest) input

-- the lines before this rest were passed, and none of them is the word
pub record IsAt (word input rest : List ℕ) : Type 0 where
  pub whole : front_of input rest ++ rest ≡ input
  pub first : (parts_of word input).first ≡ front_of input rest ++ (parts_of word rest).first
  pub second : (parts_of word input).second ≡ (parts_of word rest).second

take_front : (front rest : List ℕ) → take (length front) (front ++ rest) ≡ front
take_front [] rest = refl
take_front (byte ∷ front) rest = ap (λ (l : List ℕ). byte ∷ l) (take_front front rest)

front_is : (input front rest : List ℕ) → front ++ rest ≡ input → front_of input rest ≡ front
front_is input front rest whole =
    let size : length input - length rest ≡ length front = omega (arith, ap length whole, length-append front rest) in
    ap (λ (n : ℕ). take n input) size ∙ ap (λ (l : List ℕ). take (length front) l) (sym whole) ∙ take_front front rest

pub at_start : (word input : List ℕ) → IsAt word input input
at_start word input =
    let none : front_of input input ≡ [] = front_is input [] input refl in
    record { whole = rw none refl; first = rw none refl; second = refl }

-- A LINE

joined : (piece : List ℕ) (pieces : List (List ℕ)) → 0 < length pieces → join_with_byte 10 (piece ∷ pieces) ≡ piece ++ 10 ∷ join_with_byte 10 pieces
joined piece [] some = absurd (omega arith)
joined piece (next ∷ more) some = refl

some_pieces : (text : List ℕ) → 0 < length (slice_split is_feed text)
some_pieces text = omega (arith, length-slice_split is_feed text)

together : (text : List ℕ) → join_with_byte 10 (slice_split is_feed text) ≡ text
together text = join_with_byte-slice_split 10 text

whole_line : (text line after : List ℕ) → cut_pair line after ≡ cut_by is_feed text → text ≡ line ++ 10 ∷ after
whole_line text line after is =
    sym (together text) ∙ ap (join_with_byte 10) (split_found is_feed text line after is) ∙ joined line (slice_split is_feed after) (some_pieces after) ∙ ap (λ (l : List ℕ). line ++ 10 ∷ l) (together after)

-- a line and the pieces after it, by whether it is the word
abbrev by_line : Bool → List ℕ → List ℕ → List (List ℕ) → Parts
by_line b word line pieces = if b then cut (join_with_byte 10 pieces) else before line (parts_of_pieces word pieces)

line_first : (word line : List ℕ) (pieces : List (List ℕ)) → 0 < length pieces → parts_of_pieces word (line ∷ pieces) ≡ by_line (bytes_eq (without_return line) word) word line pieces
line_first word line [] some = absurd (omega arith)
line_first word line (next ∷ more) some = refl

parts_by : (word text line after : List ℕ) → cut_pair line after ≡ cut_by is_feed text → parts_of word text ≡ by_line (bytes_eq (without_return line) word) word line (slice_split is_feed after)
parts_by word text line after is = ap (parts_of_pieces word) (split_found is_feed text line after is) ∙ line_first word line (slice_split is_feed after) (some_pieces after)

parts_found : (word text line after : List ℕ) → cut_pair line after ≡ cut_by is_feed text → bytes_eq (without_return line) word ≡ true → parts_of word text ≡ cut after
parts_found word text line after is same =
    parts_by word text line after is ∙ ap (λ (b : Bool). by_line b word line (slice_split is_feed after)) same ∙ ap cut (together after)

parts_passed : (word text line after : List ℕ) → cut_pair line after ≡ cut_by is_feed text → bytes_eq (without_return line) word ≡ false → parts_of word text ≡ before line (parts_of word after)
parts_passed word text line after is other =
    parts_by word text line after is ∙ ap (λ (b : Bool). by_line b word line (slice_split is_feed after)) other

-- one more line is passed
pub at_next : (word input rest line after : List ℕ) → IsAt word input rest → cut_pair line after ≡ cut_by is_feed rest → bytes_eq (without_return line) word ≡ false → IsAt word input after
at_next word input rest line after at is other =
    let front : List ℕ = front_of input rest in
    let more : List ℕ = front ++ (line ++ 10 ∷ []) in
    let here : parts_of word rest ≡ before line (parts_of word after) = parts_passed word rest line after is other in
    let one : (line ++ 10 ∷ []) ++ after ≡ line ++ 10 ∷ after = append_assoc line (10 ∷ []) after in
    let whole : more ++ after ≡ input = append_assoc front (line ++ 10 ∷ []) after ∙ ap (λ (l : List ℕ). front ++ l) (one ∙ sym (whole_line rest line after is)) ∙ at.whole in
    let new : front_of input after ≡ more = front_is input more after whole in
    let later : List ℕ = (parts_of word after).first in
    let first : (parts_of word input).first ≡ more ++ later = at.first ∙ ap (λ (p : Parts). front ++ p.first) here ∙ ap (λ (l : List ℕ). front ++ l) (sym (append_assoc line (10 ∷ []) later)) ∙ sym (append_assoc front (line ++ 10 ∷ []) later) in
    record {
      whole = ap (λ (l : List ℕ). l ++ after) new ∙ whole;
      first = first ∙ ap (λ (l : List ℕ). l ++ later) (sym new);
      second = at.second ∙ ap (λ (p : Parts). p.second) here;
    }

-- the line is the word
pub first_found : (word input rest line after : List ℕ) → IsAt word input rest → cut_pair line after ≡ cut_by is_feed rest → bytes_eq (without_return line) word ≡ true → front_of input rest ≡ (parts_of word input).first
first_found word input rest line after at is same =
    sym (at.first ∙ ap (λ (p : Parts). front_of input rest ++ p.first) (parts_found word rest line after is same) ∙ append-nil (front_of input rest))

pub second_found : (word input rest line after : List ℕ) → IsAt word input rest → cut_pair line after ≡ cut_by is_feed rest → bytes_eq (without_return line) word ≡ true → after ≡ (parts_of word input).second
second_found word input rest line after at is same =
    sym (at.second ∙ ap (λ (p : Parts). p.second) (parts_found word rest line after is same))

-- THE END

-- what stands behind the last line feed, by whether it is the word
abbrev by_last : Bool → List ℕ → List ℕ × List ℕ
by_last b last = if b then ([], []) else (last, [])

last_first : (word last : List ℕ) (b : Bool) → bytes_eq last word ≡ b → (last_parts word last).first ≡ (by_last b last).0
last_first word last true same = rw same refl
last_first word last false same = rw same refl

last_second : (word last : List ℕ) (b : Bool) → bytes_eq last word ≡ b → (last_parts word last).second ≡ []
last_second word last true same = rw same refl
last_second word last false same = rw same refl

last_is : (word rest : List ℕ) → None ≡ cut_by is_feed rest → parts_of word rest ≡ last_parts word rest
last_is word rest none = ap (parts_of_pieces word) (split_missed is_feed rest none)

pub first_at_end : (word input rest : List ℕ) → IsAt word input rest → None ≡ cut_by is_feed rest → bytes_eq rest word ≡ true → front_of input rest ≡ (parts_of word input).first
first_at_end word input rest at none same =
    sym (at.first ∙ ap (λ (p : Parts). front_of input rest ++ p.first) (last_is word rest none) ∙ ap (λ (l : List ℕ). front_of input rest ++ l) (last_first word rest true same) ∙ append-nil (front_of input rest))

pub first_missed : (word input rest : List ℕ) → IsAt word input rest → None ≡ cut_by is_feed rest → bytes_eq rest word ≡ false → input ≡ (parts_of word input).first
first_missed word input rest at none other =
    sym (at.first ∙ ap (λ (p : Parts). front_of input rest ++ p.first) (last_is word rest none) ∙ ap (λ (l : List ℕ). front_of input rest ++ l) (last_first word rest false other) ∙ at.whole)

pub second_at_end : (word input rest : List ℕ) (b : Bool) → IsAt word input rest → None ≡ cut_by is_feed rest → bytes_eq rest word ≡ b → [] ≡ (parts_of word input).second
second_at_end word input rest b at none same =
    sym (at.second ∙ ap (λ (p : Parts). p.second) (last_is word rest none) ∙ last_second word rest b same)
