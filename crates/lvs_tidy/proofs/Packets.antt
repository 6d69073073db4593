-- Lines of packets, sync messages, listings and ICMP errors are printed as they are read.
use Rattle.std.proofs.Common.{◌≡◌, ℕ, ◌≤◌, List, Option, Some, None, Result, Ok, refl, subst, ap, ◌∙◌, arith, lit<}
use Rattle.std.specs.Fmt.{decimal}
use Rattle.std.proofs.lemmas.Bool.{le-leb}
use Rattle.hex.specs.Hex.{encode_lower}
use Rattle.lvs_types.specs.declared.book.Shown.{Shown}
use Rattle.lvs_types.specs.declared.book.Shown.TheVariants as shown
use Rattle.lvs_types.specs.declared.icmp.Side.{Side}
use Rattle.lvs_types.specs.declared.icmp.Side.TheVariants.{Inward, Outward}
use Rattle.lvs_types.specs.declared.script.ScriptLine.{ScriptLine}
use Rattle.lvs_types.specs.declared.script.ScriptLine.TheVariants as line
use Rattle.lvs_types.specs.declared.script.ScriptCause.{ScriptCause}
use Rattle.lvs_types.specs.declared.script.ScriptCause.TheVariants as cause
use Rattle.lvs_model.specs.Refusals.{◌>>=◌}
use Rattle.lvs_model.specs.Decimals.{number_of, number_between}
use Rattle.lvs_model.specs.Scripts.{or_cause, no_words, one_word, two_words, number_given, bytes_of, listing_line, side_of_word, icmp_shown, icmp_line, round_line}
use Rattle.lvs_model.specs.declared.script.LineName.TheVariants as name
use Rattle.lvs_listing.proofs.Numerals.{number_of-decimal}
use Rattle.lvs_listing.proofs.Wording.{number_is_word}
use Rattle.lvs_laws.proofs.SaveNumbers.{between}
use Rattle.lvs_laws.proofs.SaveWords.{then_ok}
use Rattle.lvs_tidy.proofs.Hexes.{AreBytes, bytes_given, bytes_again, hex_is_word}
use Rattle.lvs_tidy.proofs.Printed.{IsPrinted}

pub line_is : (made l : ScriptLine) → ◌≡◌ {A = Result ScriptLine ScriptCause} (Ok made) (Ok l) → IsPrinted made → IsPrinted l
line_is made l e is = let same : made ≡ l = cc in subst (λ (x : ScriptLine). IsPrinted x) same is

-- NUMBERS

cause_some : {A : Type 0} (why : ScriptCause) (o : Option A) (x : A) → or_cause why o ≡ Ok x → o ≡ Some x
cause_some why None x e = absurd cc
cause_some why (Some y) x e = cc

between_of : (word : List ℕ) (n limit : ℕ) → number_of 10 limit word ≡ Some n → number_between 0 limit word ≡ Some n
between_of word n limit e = rw (e, le-leb 0 n (omega arith)) refl

pub number_low : (word : List ℕ) (n : ℕ) → number_given word ≡ Ok n → n ≤ 4294967295
number_low word n e = (between 0 4294967295 word n (between_of word n 4294967295 (cause_some cause.BadNumber (number_of 10 4294967295 word) n e))).1

pub number_again : (n : ℕ) → n ≤ 4294967295 → number_given (decimal n) ≡ Ok n
number_again n low = ap (or_cause cause.BadNumber) (number_of-decimal 10 4294967295 n (lit< tt) (omega arith) low (omega arith))

-- PACKETS

abbrev packet_of : ℕ → List ℕ → Result ScriptLine ScriptCause
packet_of mark bytes = Ok (line.Incoming mark bytes)

pub incoming_made : (mark : ℕ) (bytes : List ℕ) → mark ≤ 4294967295 → AreBytes bytes → IsPrinted (line.Incoming mark bytes)
incoming_made mark bytes low are = record {
  words = (number_is_word mark (omega arith), (hex_is_word bytes are, tt));
  read =
      ap (λ (r : Result ℕ ScriptCause). r >>= (λ (m : ℕ). bytes_of (encode_lower bytes) >>= (λ (b : List ℕ). packet_of m b))) (number_again mark low)
      ∙ ap (λ (r : Result (List ℕ) ScriptCause). r >>= (λ (b : List ℕ). packet_of mark b)) (bytes_again bytes are);
}

pub incoming_printed : (words : List (List ℕ)) (l : ScriptLine) → round_line name.Incoming words ≡ Ok l → IsPrinted l
incoming_printed words l e =
    let both = then_ok (two_words words) (λ (w : List ℕ × List ℕ). number_given w.0 >>= (λ (m : ℕ). bytes_of w.1 >>= (λ (b : List ℕ). packet_of m b))) l e in
    let mark = then_ok (number_given both.0.0) (λ (m : ℕ). bytes_of both.0.1 >>= (λ (b : List ℕ). packet_of m b)) l both.2 in
    let bytes = then_ok (bytes_of both.0.1) (λ (b : List ℕ). packet_of mark.0 b) l mark.2 in
    line_is (line.Incoming mark.0 bytes.0) l bytes.2 (incoming_made mark.0 bytes.0 (number_low both.0.0 mark.0 mark.1) (bytes_given both.0.1 bytes.0 bytes.1))

pub outgoing_made : (bytes : List ℕ) → AreBytes bytes → IsPrinted (line.Outgoing bytes)
outgoing_made bytes are = record {
  words = (hex_is_word bytes are, tt);
  read = ap (λ (r : Result (List ℕ) ScriptCause). r >>= (λ (b : List ℕ). let made : Result ScriptLine ScriptCause = Ok (line.Outgoing b) in made)) (bytes_again bytes are);
}

abbrev outgoing_of : List ℕ → Result ScriptLine ScriptCause
outgoing_of bytes = Ok (line.Outgoing bytes)

pub outgoing_printed : (words : List (List ℕ)) (l : ScriptLine) → round_line name.Outgoing words ≡ Ok l → IsPrinted l
outgoing_printed words l e =
    let word = then_ok (one_word words) (λ (w : List ℕ). bytes_of w >>= (λ (b : List ℕ). outgoing_of b)) l e in
    let bytes = then_ok (bytes_of word.0) (λ (b : List ℕ). outgoing_of b) l word.2 in
    line_is (line.Outgoing bytes.0) l bytes.2 (outgoing_made bytes.0 (bytes_given word.0 bytes.0 bytes.1))

abbrev message_of : List ℕ → Result ScriptLine ScriptCause
message_of bytes = Ok (line.Sync bytes)

message_made : (bytes : List ℕ) → AreBytes bytes → IsPrinted (line.Sync bytes)
message_made bytes are = record {
  words = (hex_is_word bytes are, tt);
  read = ap (λ (r : Result (List ℕ) ScriptCause). r >>= (λ (b : List ℕ). message_of b)) (bytes_again bytes are);
}

pub message_printed : (words : List (List ℕ)) (l : ScriptLine) → round_line name.Sync words ≡ Ok l → IsPrinted l
message_printed words l e =
    let word = then_ok (one_word words) (λ (w : List ℕ). bytes_of w >>= (λ (b : List ℕ). message_of b)) l e in
    let bytes = then_ok (bytes_of word.0) (λ (b : List ℕ). message_of b) l word.2 in
    line_is (line.Sync bytes.0) l bytes.2 (message_made bytes.0 (bytes_given word.0 bytes.0 bytes.1))

-- LISTINGS

pub list_made : IsPrinted (line.Show shown.List)
list_made = record { words = tt; read = refl }

pub conns_made : IsPrinted (line.Show shown.Conns)
conns_made = record { words = tt; read = refl }

pub save_made : IsPrinted (line.Show shown.Save)
save_made = record { words = tt; read = refl }

abbrev show_of : Shown → Result ScriptLine ScriptCause
show_of kind = Ok (line.Show kind)

pub listing_printed : (kind : Shown) (words : List (List ℕ)) (l : ScriptLine) → listing_line kind words ≡ Ok l → IsPrinted (line.Show kind) → IsPrinted l
listing_printed kind words l e is =
    let none = then_ok (no_words words) (λ (_ : Unit {0}). show_of kind) l e in
    line_is (line.Show kind) l none.2 is

-- ICMP ERRORS

icmp_made : (side : Side) (bytes : List ℕ) → AreBytes bytes → IsPrinted (line.Show (icmp_shown side bytes))
icmp_made Inward bytes are = record {
  words = (record { full = refl; graphic = refl; whole = refl }, (hex_is_word bytes are, tt));
  read = ap (λ (r : Result (List ℕ) ScriptCause). r >>= (λ (b : List ℕ). show_of (icmp_shown Inward b))) (bytes_again bytes are);
}
icmp_made Outward bytes are = record {
  words = (record { full = refl; graphic = refl; whole = refl }, (hex_is_word bytes are, tt));
  read = ap (λ (r : Result (List ℕ) ScriptCause). r >>= (λ (b : List ℕ). show_of (icmp_shown Outward b))) (bytes_again bytes are);
}

pub icmp_printed : (words : List (List ℕ)) (l : ScriptLine) → icmp_line words ≡ Ok l → IsPrinted l
icmp_printed words l e =
    let both = then_ok (two_words words) (λ (w : List ℕ × List ℕ). or_cause cause.WordCount (side_of_word w.0) >>= (λ (side : Side). bytes_of w.1 >>= (λ (b : List ℕ). show_of (icmp_shown side b)))) l e in
    let side = then_ok (or_cause cause.WordCount (side_of_word both.0.0)) (λ (side : Side). bytes_of both.0.1 >>= (λ (b : List ℕ). show_of (icmp_shown side b))) l both.2 in
    let bytes = then_ok (bytes_of both.0.1) (λ (b : List ℕ). show_of (icmp_shown side.0 b)) l side.2 in
    line_is (line.Show (icmp_shown side.0 bytes.0)) l bytes.2 (icmp_made side.0 bytes.0 (bytes_given both.0.1 bytes.0 bytes.1))
