-- Lines of words: they are cut into their words again.
use Rattle.std.proofs.Common.{◌≡◌, ℕ, ◌-◌, ◌/◌, ◌%◌, ◌^◌, ◌<◌, Bool, true, false, cond, ◌&&◌, not, ◌==◌, List, [], ◌∷◌, ◌++◌, length, zero, suc, take, drop, map, filter, Option, Some, None, Result, Ok, refl, ◌∙◌, ap, arith, nat_le, slice_index}
use Rattle.std.specs.Fmt.{decimal}
use Rattle.std.specs.List.{list_all, slice_split, onto_first}
use Rattle.std.specs.Char.{is_ascii_digit, is_ascii_alphabetic}
use Rattle.std.proofs.lemmas.Bool.Decides.{nat_tests}
use Rattle.std.proofs.lemmas.Fmt.{decimal_nonempty}
use Rattle.std.proofs.lemmas.List.{length-append}
use Rattle.lvs_types.specs.declared.script.WordsCause.TheVariants as cause
use Rattle.lvs_types.specs.declared.addr.Addr.{Addr}
use Rattle.lvs_types.specs.declared.command.Line.TheVariants.{Edit}
use Rattle.lvs_types.specs.declared.command.Command.{Command}
use Rattle.lvs_model.specs.declared.admin.BadWord.{BadWord}
use Rattle.lvs_model.specs.Refusals.{refused}
use Rattle.lvs_model.specs.Report.{addr_text}
use Rattle.lvs_model.specs.Lines.{is_feed, is_blank, without_return, lines_of_pieces, lines_of, is_full, words_of, is_printable, is_comment, is_skipped}
use Rattle.lvs_model.specs.Decimals.{cut_at}
use Rattle.lvs_model.specs.AdminWords.{letter_word, split_word, split_words, split_assignment}
use Rattle.lvs_model.specs.AdminLines.{line_of_split, line_of_words}
use Rattle.lvs_model.specs.Listings.{endpoint_text}
use Rattle.lvs_model.specs.Restoring.{command_of_line, saved_command, some_command, saved_line}
use Rattle.lvs_lines.proofs.Cuts.{more_pieces, some_pieces}
use Rattle.lvs_listing.proofs.Numerals.{both_true, first_true, second_true, all_more, all_append, decimal_all, addr_spelled, endpoint_spelled, addr_all}

-- SPLITTING AT A BYTE

end_cons : (b : Bool) (c : ℕ) (cs : List ℕ) (more : Bool) (parts : List (List ℕ)) → (more ≡ true → parts ≡ cs ∷ []) → (not b && more) ≡ true → cond b ([] ∷ parts) (onto_first c parts) ≡ (c ∷ cs) ∷ []
end_cons true c cs more parts later all = cc
end_cons false c cs more parts later all = ap (onto_first c) (later all)

split_end : (t : ℕ → Bool) (w : List ℕ) → list_all (λ b. not (t b)) w ≡ true → slice_split t w ≡ w ∷ []
split_end t [] all = refl
split_end t (c ∷ cs) all = end_cons (t c) c cs (list_all (λ b. not (t b)) cs) (slice_split t cs) (split_end t cs) all

front_cons : (b : Bool) (c : ℕ) (cs : List ℕ) (more : Bool) (parts tail : List (List ℕ)) → (more ≡ true → parts ≡ cs ∷ tail) → (not b && more) ≡ true → cond b ([] ∷ parts) (onto_first c parts) ≡ (c ∷ cs) ∷ tail
front_cons true c cs more parts tail later all = cc
front_cons false c cs more parts tail later all = ap (onto_first c) (later all)

split_front : (t : ℕ → Bool) (w : List ℕ) (b : ℕ) (rest : List ℕ) → t b ≡ true → list_all (λ b. not (t b)) w ≡ true → slice_split t (w ++ b ∷ rest) ≡ w ∷ slice_split t rest
split_front t [] b rest stop all = ap (λ (x : Bool). cond x ([] ∷ slice_split t rest) (onto_first b (slice_split t rest))) stop
split_front t (c ∷ cs) b rest stop all = front_cons (t c) c cs (list_all (λ b. not (t b)) cs) (slice_split t (cs ++ b ∷ rest)) (slice_split t rest) (split_front t cs b rest stop) all

-- WORDS

-- a byte that is printed and isn't a blank
abbrev pub is_graphic : ℕ → Bool
is_graphic b = nat_le 33 b && nat_le b 126

-- a word of a saved line
pub record IsWord (w : List ℕ) : Type 0 where
  pub full : is_full w ≡ true
  pub graphic : list_all is_graphic w ≡ true
  pub whole : split_word w ≡ w ∷ []

abbrev pub AreWords : List (List ℕ) → Type 0
AreWords [] = Unit {0}
AreWords (w ∷ ws) = IsWord w × AreWords ws

-- words with a blank between them
abbrev pub line_with : List ℕ → List (List ℕ) → List ℕ
line_with w [] = w
line_with w (v ∷ vs) = w ++ 32 ∷ line_with v vs

not_blank : (x : ℕ) → is_graphic x ≡ true → not (is_blank x) ≡ true
not_blank x graphic = grind (arith, nat_tests)

blankless : (w : List ℕ) → IsWord w → list_all (λ b. not (is_blank b)) w ≡ true
blankless w is = all_more is_graphic (λ b. not (is_blank b)) not_blank w is.graphic

pub words_of-line_with : (w : List ℕ) (vs : List (List ℕ)) → IsWord w → AreWords vs → words_of (line_with w vs) ≡ w ∷ vs
words_of-line_with w [] is more = ap (filter is_full) (split_end is_blank w (blankless w is)) ∙ ap (λ (b : Bool). cond b (w ∷ []) []) is.full
words_of-line_with w (v ∷ vs) is more =
    ap (filter is_full) (split_front is_blank w 32 (line_with v vs) refl (blankless w is))
    ∙ ap (λ (b : Bool). cond b (w ∷ words_of (line_with v vs)) (words_of (line_with v vs))) is.full
    ∙ ap (λ (ws : List (List ℕ)). w ∷ ws) (words_of-line_with v vs more.0 more.1)

pub split_words-words : (ws : List (List ℕ)) → AreWords ws → split_words ws ≡ ws
split_words-words [] are = refl
split_words-words (w ∷ ws) are = ap (λ (parts : List (List ℕ)). parts ++ split_words ws) are.0.whole ∙ ap (λ (parts : List (List ℕ)). w ∷ parts) (split_words-words ws are.1)

-- LINES

abbrev pub is_plain : ℕ → Bool
is_plain b = nat_le 32 b && nat_le b 126

graphic_is_plain : (x : ℕ) → is_graphic x ≡ true → is_plain x ≡ true
graphic_is_plain x graphic = grind (arith, nat_tests)

pub all_plain : (w : List ℕ) (vs : List (List ℕ)) → IsWord w → AreWords vs → list_all is_plain (line_with w vs) ≡ true
all_plain w [] is more = all_more is_graphic is_plain graphic_is_plain w is.graphic
all_plain w (v ∷ vs) is more = all_append is_plain w (32 ∷ line_with v vs) (all_more is_graphic is_plain graphic_is_plain w is.graphic) (all_plain v vs more.0 more.1)

plain_is_printable : (x : ℕ) → is_plain x ≡ true → is_printable x ≡ true
plain_is_printable x plain = grind (arith, nat_tests)

plain_is_no_feed : (x : ℕ) → is_plain x ≡ true → not (is_feed x) ≡ true
plain_is_no_feed x plain = grind (arith, nat_tests)

plain_is_no_return : (x : ℕ) → is_plain x ≡ true → (x == 13) ≡ false
plain_is_no_return x plain = grind (arith, nat_tests)

no_return : (line : List ℕ) (k : ℕ) → list_all is_plain line ≡ true → (slice_index line k == 13) ≡ false
no_return [] k all = refl
no_return (x ∷ xs) zero all = plain_is_no_return x (first_true (is_plain x) (list_all is_plain xs) all)
no_return (x ∷ xs) (suc k) all = no_return xs k (second_true (is_plain x) (list_all is_plain xs) all)

without_return-plain : (line : List ℕ) → list_all is_plain line ≡ true → without_return line ≡ line
without_return-plain line all = ap (λ (b : Bool). cond b (take (length line - 1) line) line) (no_return line (length line - 1) all)

pub lines_of-plain : (line rest : List ℕ) → list_all is_plain line ≡ true → lines_of (line ++ 10 ∷ rest) ≡ line ∷ lines_of rest
lines_of-plain line rest all =
    ap lines_of_pieces (split_front is_feed line 10 rest refl (all_more is_plain (λ b. not (is_feed b)) plain_is_no_feed line all))
    ∙ more_pieces line (slice_split is_feed rest) (some_pieces rest)
    ∙ ap (λ (first : List ℕ). first ∷ lines_of rest) (without_return-plain line all)

abbrev no_command : Result (Option Command) BadWord
no_command = Ok None

abbrev unreadable : Result Command BadWord
unreadable = refused 0 cause.UnknownOption

saved_command-words : (w : List ℕ) (vs : List (List ℕ)) (command : Command) → IsWord w → AreWords vs → line_of_words (w ∷ vs) ≡ Ok (Edit command) → saved_command (line_with w vs) ≡ Ok command
saved_command-words w vs command is more read =
    ap (λ (b : Bool). cond b (command_of_line (line_of_words (words_of (line_with w vs)))) unreadable) (all_more is_plain is_printable plain_is_printable (line_with w vs) (all_plain w vs is more))
    ∙ ap (λ (ws : List (List ℕ)). command_of_line (line_of_words ws)) (words_of-line_with w vs is more)
    ∙ ap command_of_line read

pub saved_line-words : (w : List ℕ) (vs : List (List ℕ)) (command : Command) → IsWord w → AreWords vs → is_comment w ≡ false → line_of_words (w ∷ vs) ≡ Ok (Edit command) → saved_line (line_with w vs) ≡ Ok (Some command)
saved_line-words w vs command is more plain read =
    ap (λ (ws : List (List ℕ)). cond (is_skipped ws) no_command (some_command (saved_command (line_with w vs)))) (words_of-line_with w vs is more)
    ∙ ap (λ (b : Bool). cond b no_command (some_command (saved_command (line_with w vs)))) plain
    ∙ ap some_command (saved_command-words w vs command is more read)

-- a text that is the line of a command
pub record IsCommandText (text : List ℕ) (command : Command) : Type 0 where
  pub first : List ℕ
  pub others : List (List ℕ)
  pub spelled : text ≡ line_with first others ++ 10 ∷ []
  pub first_word : IsWord first
  pub other_words : AreWords others
  pub plain : is_comment first ≡ false
  -- all words are read as the command
  pub read : line_of_split (first ∷ others) ≡ Ok (Edit command)

-- WORDS THAT STAND IN SAVED LINES

dash_false : (t b : Bool) → (not t && b) ≡ true → t ≡ false
dash_false true b all = cc
dash_false false b all = refl

unsplit : (w : List ℕ) → list_all (λ b. not (b == 45)) w ≡ true → split_word w ≡ w ∷ []
unsplit [] all = refl
unsplit (c ∷ []) all =
    ap (λ (b : Bool). cond (b && nat_le 2 (length {A = ℕ} []) && list_all is_ascii_alphabetic []) (map letter_word []) ((c ∷ []) ∷ [])) (dash_false (c == 45) true all)
unsplit (c ∷ d ∷ cs) all =
    ap (λ (b : Bool). cond (b && nat_le 2 (length (d ∷ cs)) && list_all is_ascii_alphabetic (d ∷ cs)) (map letter_word (drop 1 (c ∷ d ∷ cs))) (split_assignment (c ∷ d ∷ cs) (cond (b && (d == 45)) (cut_at 61 (c ∷ d ∷ cs)) None))) (dash_false (c == 45) (list_all (λ b. not (b == 45)) (d ∷ cs)) all)

digit_is_graphic : (x : ℕ) → is_ascii_digit x ≡ true → is_graphic x ≡ true
digit_is_graphic x digit = grind (arith, nat_tests)

digit_isnt_dash : (x : ℕ) → is_ascii_digit x ≡ true → not (x == 45) ≡ true
digit_isnt_dash x digit = grind (arith, nat_tests)

not_zero : (n : ℕ) → 0 < n → not (n == 0) ≡ true
not_zero n some = grind (arith, nat_tests)

pub number_is_word : (n : ℕ) → n < 2 ^ 64 → IsWord (decimal n)
number_is_word n small = record {
  full = not_zero (length (decimal n)) (decimal_nonempty n small);
  graphic = decimal_all is_graphic digit_is_graphic n small;
  whole = unsplit (decimal n) (decimal_all (λ b. not (b == 45)) digit_isnt_dash n small);
}

full_append : (xs : List ℕ) (c : ℕ) (ys : List ℕ) → is_full (xs ++ c ∷ ys) ≡ true
full_append xs c ys = not_zero (length (xs ++ c ∷ ys)) (omega (arith, length-append xs (c ∷ ys)))

pub addr_is_word : (addr : Addr) → addr.number < 2 ^ 32 → IsWord (addr_text addr)
addr_is_word addr small = record {
  full = ap is_full (addr_spelled addr) ∙ full_append (decimal (addr.number / 16777216)) 46 (decimal (addr.number / 65536 % 256) ++ 46 ∷ (decimal (addr.number / 256 % 256) ++ 46 ∷ decimal (addr.number % 256)));
  graphic = addr_all is_graphic digit_is_graphic refl addr small;
  whole = unsplit (addr_text addr) (addr_all (λ b. not (b == 45)) digit_isnt_dash refl addr small);
}

endpoint_all : (p : ℕ → Bool) → ((x : ℕ) → is_ascii_digit x ≡ true → p x ≡ true) → p 46 ≡ true → p 58 ≡ true → (addr : Addr) (port : ℕ) → addr.number < 2 ^ 32 → port < 2 ^ 16 → list_all p (endpoint_text addr port) ≡ true
endpoint_all p digit dot colon addr port small short =
    ap (list_all p) (endpoint_spelled addr port) ∙ all_append p (addr_text addr) (58 ∷ decimal port) (addr_all p digit dot addr small) (both_true (p 58) (list_all p (decimal port)) colon (decimal_all p digit port (omega arith)))

pub endpoint_is_word : (addr : Addr) (port : ℕ) → addr.number < 2 ^ 32 → port < 2 ^ 16 → IsWord (endpoint_text addr port)
endpoint_is_word addr port small short = record {
  full = ap is_full (endpoint_spelled addr port) ∙ full_append (addr_text addr) 58 (decimal port);
  graphic = endpoint_all is_graphic digit_is_graphic refl refl addr port small short;
  whole = unsplit (endpoint_text addr port) (endpoint_all (λ b. not (b == 45)) digit_isnt_dash refl refl addr port small short);
}
