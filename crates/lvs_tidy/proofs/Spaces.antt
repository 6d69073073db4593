-- Words and lines that were put together are cut apart again.
use Rattle.std.proofs.Common.{◌≡◌, ℕ, suc, ◌+◌, ◌<◌, length, drop, get_or, add-one, Bool, true, false, cond, List, [], ◌∷◌, ◌++◌, Result, Ok, Err, refl, sym, ◌∙◌, ap, append_assoc, arith}
use Rattle.std.specs.Prelude.{OnOk, IfOk}
use Rattle.std.specs.List.{list_all}
use Rattle.std.proofs.Math.Seq.{drop-cons}
use Rattle.std.proofs.lemmas.List.{append-nil}
use Rattle.std.proofs.lemmas.Bool.Decides.{nat_tests}
use Rattle.lvs_types.specs.declared.script.Round.{Round}
use Rattle.lvs_types.specs.declared.script.ScriptCause.TheVariants as cause
use Rattle.lvs_model.specs.Lines.{lines_of, words_of, is_comment, is_skipped, is_readable, is_printable}
use Rattle.lvs_model.specs.Scripts.{ScriptRead, take_line_words, take_line}
use Rattle.lvs_listing.proofs.Numerals.{all_more}
use Rattle.lvs_listing.proofs.Wording.{IsWord, AreWords, line_with, words_of-line_with, is_plain, all_plain, lines_of-plain}
use Rattle.lvs_tidy.specs.ScriptTexts.{spaced, with_feeds, round_lines, rounds_lines}

pub spaced_append : (a b : List (List ℕ)) → spaced (a ++ b) ≡ spaced a ++ spaced b
spaced_append [] b = refl
spaced_append (w ∷ ws) b = ap (λ (t : List ℕ). 32 ∷ (w ++ t)) (spaced_append ws b) ∙ sym (append_assoc (32 ∷ w) (spaced ws) (spaced b))

-- words that were appended after others
pub spaced_more : (first next last : List ℕ) (a b : List (List ℕ)) → next ≡ first ++ spaced a → last ≡ next ++ spaced b → last ≡ first ++ spaced (a ++ b)
spaced_more first next last a b before behind =
    behind ∙ ap (λ (out : List ℕ). out ++ spaced b) before ∙ append_assoc first (spaced a) (spaced b) ∙ ap (λ (t : List ℕ). first ++ t) (sym (spaced_append a b))

-- a fact of a call that may fail, from another
pub on_ok : {A E P Q : Type 0} (r : Result A E) → (P → Q) → OnOk r P → OnOk r Q
on_ok (Ok x) more is = more is
on_ok (Err e) more is = is

pub if_ok : {A E : Type 0} {P Q : A → Type 0} (r : Result A E) → ((x : A) → P x → Q x) → IfOk r P → IfOk r Q
if_ok (Ok x) more is = more x is
if_ok (Err e) more is = is

pub with_feeds_append : (a b : List (List ℕ)) → with_feeds (a ++ b) ≡ with_feeds a ++ with_feeds b
with_feeds_append [] b = refl
with_feeds_append (t ∷ ts) b = ap (λ (x : List ℕ). t ++ 10 ∷ x) (with_feeds_append ts b) ∙ sym (append_assoc t (10 ∷ with_feeds ts) (with_feeds b))

pub spaced_line : (w : List ℕ) (vs : List (List ℕ)) → w ++ spaced vs ≡ line_with w vs
spaced_line w [] = append-nil w
spaced_line w (v ∷ vs) = ap (λ (t : List ℕ). w ++ 32 ∷ t) (spaced_line v vs)

-- the round at an index is the next one
pub next_round : (rounds : List Round) (i : ℕ) (round : Round) → i < length rounds → round ≡ get_or rounds i round → drop i rounds ≡ round ∷ drop (i + 1) rounds
next_round rounds i round within is =
    rw add-one (drop-cons rounds i round within ∙ ap (λ (r : Round). r ∷ drop (suc i) rounds) (sym is))

-- a round that was appended, of those that are left
pub rounds_step : (before out whole : List ℕ) (n : ℕ) (r : Round) (rest all : List Round) → all ≡ r ∷ rest → out ≡ before ++ with_feeds (round_lines n r) → before ++ with_feeds (rounds_lines n all) ≡ whole → out ++ with_feeds (rounds_lines (n + 1) rest) ≡ whole
rounds_step before out whole n r rest all cut put so_far =
    ap (λ (o : List ℕ). o ++ with_feeds (rounds_lines (n + 1) rest)) put
    ∙ append_assoc before (with_feeds (round_lines n r)) (with_feeds (rounds_lines (n + 1) rest))
    ∙ ap (λ (t : List ℕ). before ++ t) (sym (with_feeds_append (round_lines n r) (rounds_lines (n + 1) rest)))
    ∙ ap (λ (rounds : List Round). before ++ with_feeds (rounds_lines n rounds)) (sym cut)
    ∙ so_far

-- LINES OF WORDS

pub plain_words : (w : List ℕ) (vs : List (List ℕ)) → IsWord w → AreWords vs → list_all is_plain (w ++ spaced vs) ≡ true
plain_words w vs is more = ap (list_all is_plain) (spaced_line w vs) ∙ all_plain w vs is more

words_again : (w : List ℕ) (vs : List (List ℕ)) → IsWord w → AreWords vs → words_of (w ++ spaced vs) ≡ w ∷ vs
words_again w vs is more = ap words_of (spaced_line w vs) ∙ words_of-line_with w vs is more

printable : (x : ℕ) → is_plain x ≡ true → is_printable x ≡ true
printable x plain = grind (arith, nat_tests)

-- a line of words is read by its words
pub line_taken : (w : List ℕ) (vs : List (List ℕ)) (s : ScriptRead) → IsWord w → AreWords vs → is_comment w ≡ false → take_line (w ++ spaced vs) s ≡ take_line_words (w ∷ vs) s
line_taken w vs s is more plain =
    let text : List ℕ = w ++ spaced vs in
    ap (λ (ws : List (List ℕ)). cond (is_skipped ws) (Ok s) (cond (is_readable text) (take_line_words ws s) (Err cause.UnknownLine))) (words_again w vs is more)
    ∙ ap (λ (b : Bool). cond b (Ok s) (cond (is_readable text) (take_line_words (w ∷ vs) s) (Err cause.UnknownLine))) plain
    ∙ ap (λ (b : Bool). cond b (take_line_words (w ∷ vs) s) (Err cause.UnknownLine)) (all_more is_plain is_printable printable text (plain_words w vs is more))

-- a remark is skipped
pub remark_skipped : (w : List ℕ) (vs : List (List ℕ)) (s : ScriptRead) → IsWord w → AreWords vs → is_comment w ≡ true → take_line (w ++ spaced vs) s ≡ Ok s
remark_skipped w vs s is more remark =
    let text : List ℕ = w ++ spaced vs in
    ap (λ (ws : List (List ℕ)). cond (is_skipped ws) (Ok s) (cond (is_readable text) (take_line_words ws s) (Err cause.UnknownLine))) (words_again w vs is more)
    ∙ ap (λ (b : Bool). cond b (Ok s) (cond (is_readable text) (take_line_words (w ∷ vs) s) (Err cause.UnknownLine))) remark

-- TEXTS OF LINES

abbrev pub ArePlain : List (List ℕ) → Type 0
ArePlain [] = Unit {0}
ArePlain (text ∷ texts) = (list_all is_plain text ≡ true) × ArePlain texts

pub lines_again : (texts : List (List ℕ)) → ArePlain texts → lines_of (with_feeds texts) ≡ texts
lines_again [] are = refl
lines_again (text ∷ texts) are = lines_of-plain text (with_feeds texts) are.0 ∙ ap (λ (more : List (List ℕ)). text ∷ more) (lines_again texts are.1)

pub plain_append : (a b : List (List ℕ)) → ArePlain a → ArePlain b → ArePlain (a ++ b)
plain_append [] b first second = second
plain_append (text ∷ a) b first second = (first.0, plain_append a b first.1 second)
