-- A script that was read is printed as a text that is read as the same script.
use Rattle.std.proofs.Common.{◌≡◌, ℕ, ◌+◌, ◌^◌, ◌<◌, ◌≤◌, Bool, true, false, not, cond, ◌==◌, List, [], ◌∷◌, ◌++◌, length, map, Option, Some, None, Result, Ok, Err, refl, sym, subst, ap, ◌∙◌, arith, nat_le, nat_lt, is_some, append_assoc, length-append}
use Rattle.std.specs.Prelude.{codes, unwrap_or}
use Rattle.std.specs.Fmt.{decimal}
use Rattle.std.proofs.lemmas.Bool.{eqb-true, leb-true}
use Rattle.std.proofs.lemmas.Bool.Decides.{nat_tests}
use Rattle.std.proofs.lemmas.List.{append-nil}
use Rattle.lvs_types.specs.Limits.{max_rounds, max_items}
use Rattle.lvs_types.specs.declared.addr.Addr.{Addr}
use Rattle.lvs_types.specs.declared.book.Shown.TheVariants as shown
use Rattle.lvs_types.specs.declared.script.Script.{Script}
use Rattle.lvs_types.specs.declared.script.Round.{Round}
use Rattle.lvs_types.specs.declared.script.ScriptLine.{ScriptLine}
use Rattle.lvs_types.specs.declared.script.ScriptCause.{ScriptCause}
use Rattle.lvs_types.specs.declared.script.ScriptCause.TheVariants as cause
use Rattle.lvs_model.specs.declared.script.LineName.{LineName}
use Rattle.lvs_model.specs.declared.script.LineName.TheVariants as name
use Rattle.lvs_model.specs.declared.script.BadLine.{BadLine}
use Rattle.lvs_model.specs.Decimals.{addr_of}
use Rattle.lvs_model.specs.Refusals.{◌>>=◌}
use Rattle.lvs_model.specs.Lines.{lines_of, words_of, is_readable, is_skipped}
use Rattle.lvs_model.specs.Report.{addr_text}
use Rattle.lvs_model.specs.Plans.{items_of_line}
use Rattle.lvs_model.specs.ScriptLimits.{items_in, IsWithinLimits}
use Rattle.lvs_model.specs.Scripts.{line_name, line_named, ScriptRead, empty_script, open_round, rounds_read, refuse_if, or_cause, checked_place, one_word, number_given, round_line, with_line, take_local, checked_round, take_at, take_kind, take_line_words, take_line, at_line, take_lines, script_read, script_of}
use Rattle.lvs_listing.proofs.Numerals.{addr_of-addr_text}
use Rattle.lvs_listing.proofs.Wording.{AreWords, number_is_word, addr_is_word}
use Rattle.lvs_laws.proofs.SaveNumbers.{IfGiven, addr_small}
use Rattle.lvs_laws.proofs.SaveWords.{then_ok}
use Rattle.lvs_tidy.proofs.Counted.{round_with, items_snoc, items_line, moments_begun, moments_line, count_line, room_by}
use Rattle.lvs_tidy.specs.ScriptTexts.{line_kind, line_words, spaced, line_text, remark_text, at_text, round_lines, rounds_lines, script_text}
use Rattle.lvs_tidy.proofs.Spaces.{plain_words, line_taken, remark_skipped, ArePlain, lines_again, plain_append}
use Rattle.lvs_tidy.proofs.Printed.{IsPrinted, name_is_word, kind_taken, printed_taken}
use Rattle.lvs_tidy.proofs.Packets.{number_low, number_again, incoming_printed, outgoing_printed, message_printed, list_made, conns_made, save_made, listing_printed, icmp_printed}
use Rattle.lvs_tidy.proofs.Sysctls.{sysctl_printed}
use Rattle.lvs_tidy.proofs.CommandLines.{command_printed}

-- LINES WITHOUT THEIR NUMBERS

abbrev all_taken : List (List ℕ) → ScriptRead → Result ScriptRead ScriptCause
all_taken [] s = Ok s
all_taken (text ∷ texts) s = take_line text s >>= all_taken texts

read_is : (s t : ScriptRead) → ◌≡◌ {A = Result ScriptRead ScriptCause} (Ok s) (Ok t) → s ≡ t
read_is s t e = cc

taken_append : (a b : List (List ℕ)) (s t : ScriptRead) → all_taken a s ≡ Ok t → all_taken (a ++ b) s ≡ all_taken b t
taken_append [] b s t e = ap (all_taken b) (read_is s t e)
taken_append (text ∷ a) b s t e =
    let first = then_ok (take_line text s) (all_taken a) t e in
    ap (λ (r : Result ScriptRead ScriptCause). r >>= all_taken (a ++ b)) first.1 ∙ taken_append a b first.0 t first.2

taken_lines : (n : ℕ) (a : List (List ℕ)) (s t : ScriptRead) → all_taken a s ≡ Ok t → take_lines n a s ≡ Ok t
taken_lines n [] s t e = ap (λ (x : ScriptRead). let r : Result ScriptRead BadLine = Ok x in r) (read_is s t e)
taken_lines n (text ∷ a) s t e =
    let first = then_ok (take_line text s) (all_taken a) t e in
    ap (λ (r : Result ScriptRead ScriptCause). at_line n r >>= take_lines (n + 1) a) first.1 ∙ taken_lines (n + 1) a first.0 t first.2

-- ROUNDS

lines_more : (ls : List ScriptLine) (l : ScriptLine) → map line_text (ls ++ l ∷ []) ≡ map line_text ls ++ line_text l ∷ []
lines_more [] l = refl
lines_more (x ∷ xs) l = ap (λ (texts : List (List ℕ)). line_text x ∷ texts) (lines_more xs l)

-- a line more in the last round
rounds_snoc : (n : ℕ) (closed : List Round) (moment : ℕ) (ls : List ScriptLine) (l : ScriptLine) → rounds_lines n (closed ++ round_with moment (ls ++ l ∷ []) ∷ []) ≡ rounds_lines n (closed ++ round_with moment ls ∷ []) ++ line_text l ∷ []
rounds_snoc n [] moment ls l =
    append-nil (round_lines n (round_with moment (ls ++ l ∷ [])))
    ∙ ap (λ (texts : List (List ℕ)). remark_text n moment ∷ at_text moment ∷ texts) (lines_more ls l)
    ∙ ap (λ (texts : List (List ℕ)). texts ++ line_text l ∷ []) (sym (append-nil (round_lines n (round_with moment ls))))
rounds_snoc n (r ∷ closed) moment ls l =
    ap (λ (texts : List (List ℕ)). round_lines n r ++ texts) (rounds_snoc (n + 1) closed moment ls l)
    ∙ sym (append_assoc (round_lines n r) (rounds_lines (n + 1) (closed ++ round_with moment ls ∷ [])) (line_text l ∷ []))

line_more : (closed : List Round) (o : Option ℕ) (moment : ℕ) (ls : List ScriptLine) (l : ScriptLine) → o ≡ Some moment → rounds_lines 0 (closed ++ open_round o (ls ++ l ∷ [])) ≡ rounds_lines 0 (closed ++ open_round o ls) ++ line_text l ∷ []
line_more closed None moment ls l e = absurd cc
line_more closed (Some m) moment ls l e = rounds_snoc 0 closed m ls l

-- a round more
round_more : (n : ℕ) (rounds : List Round) (moment : ℕ) → rounds_lines n (rounds ++ round_with moment [] ∷ []) ≡ rounds_lines n rounds ++ remark_text (n + length rounds) moment ∷ at_text moment ∷ []
round_more n [] moment =
    let same : n ≡ n + 0 = omega arith in
    ap (λ (k : ℕ). remark_text k moment ∷ at_text moment ∷ []) same
round_more n (r ∷ rounds) moment =
    let same : n + 1 + length rounds ≡ n + length (r ∷ rounds) = omega arith in
    ap (λ (texts : List (List ℕ)). round_lines n r ++ texts) (round_more (n + 1) rounds moment)
    ∙ sym (append_assoc (round_lines n r) (rounds_lines (n + 1) rounds) (remark_text (n + 1 + length rounds) moment ∷ at_text moment ∷ []))
    ∙ ap (λ (k : ℕ). rounds_lines n (r ∷ rounds) ++ remark_text k moment ∷ at_text moment ∷ []) same

-- WHAT WAS READ IS READ AGAIN

abbrev with_local : Option Addr → ScriptRead → ScriptRead
with_local o s = record s { local = o }

abbrev texts_of : ScriptRead → List (List ℕ)
texts_of s = rounds_lines 0 (rounds_read s)

abbrev IsSmall : Option Addr → Type 0
IsSmall o = IfGiven (λ (a : Addr). a.number < 2 ^ 32) o

pub record IsReadAgain (s : ScriptRead) : Type 0 where
  pub small : IsSmall s.local
  pub plain : ArePlain (texts_of s)
  pub items : s.items ≡ items_in (rounds_read s)
  pub within : IsWithinLimits (rounds_read s)
  -- whatever stands in for the source of tunnels
  pub read : (o : Option Addr) → all_taken (texts_of s) (with_local o empty_script) ≡ Ok (with_local o s)

nothing_read : IsReadAgain empty_script
nothing_read = record { small = tt; plain = tt; items = refl; within = record { moments = tt; items = omega arith; few = omega arith }; read = λ o. refl }

-- A LINE OF A ROUND

with_line_by : (b : Bool) (made t : ScriptRead) → cond b (Ok made) (Err cause.TooManyItems) ≡ Ok t → (b ≡ true) × (made ≡ t)
with_line_by true made t e = (refl, read_is made t e)
with_line_by false made t e = absurd cc

abbrev pub lined : ScriptLine → ScriptRead → ScriptRead
lined l s = record s { lines = s.lines ++ l ∷ []; items = s.items + length (items_of_line l) }

pub line_again : (l : ScriptLine) (s : ScriptRead) (moment : ℕ) → s.moment ≡ Some moment → nat_le (s.items + length (items_of_line l)) max_items ≡ true → IsPrinted l → IsReadAgain s → IsReadAgain (lined l s)
line_again l s moment opened fits is w =
    let made : ScriptRead = lined l s in
    let grown : texts_of made ≡ texts_of s ++ line_text l ∷ [] = line_more s.closed s.moment moment s.lines l opened in
    let plain : ArePlain (texts_of made) = subst ArePlain (sym grown) (plain_append (texts_of s) (line_text l ∷ []) w.plain (plain_words (line_name (line_kind l)) (line_words l) (name_is_word (line_kind l)) is.words, tt)) in
    let taken : (o : Option Addr) → take_line (line_text l) (with_local o s) ≡ Ok (with_local o made) = λ o.
    printed_taken l (with_local o s) moment opened is
    ∙ ap (λ (b : Bool). let r : Result ScriptRead ScriptCause = cond b (Ok (with_local o made)) (Err cause.TooManyItems) in r) fits in
    let items : made.items ≡ items_in (rounds_read made) = ap (λ (n : ℕ). n + length (items_of_line l)) w.items ∙ sym (items_line s.closed s.moment moment s.lines l opened) in
    record {
      small = w.small;
      plain = plain;
      items = items;
      within = record {
        moments = moments_line s.closed s.moment s.lines l w.within.moments;
        items = omega (arith, items, leb-true (s.items + length (items_of_line l)) max_items fits);
        few = omega (arith, count_line s.closed s.moment s.lines l, w.within.few);
      };
      read = λ o.
          ap (λ (texts : List (List ℕ)). all_taken texts (with_local o empty_script)) grown
          ∙ taken_append (texts_of s) (line_text l ∷ []) (with_local o empty_script) (with_local o s) (w.read o)
          ∙ ap (λ (r : Result ScriptRead ScriptCause). r >>= all_taken []) (taken o);
    }

line_step : (l : ScriptLine) (s t : ScriptRead) (moment : ℕ) → s.moment ≡ Some moment → with_line l s ≡ Ok t → IsPrinted l → IsReadAgain s → IsReadAgain t
line_step l s t moment opened e is w =
    let both = with_line_by (nat_le (s.items + length (items_of_line l)) max_items) (lined l s) t e in
    subst (λ (x : ScriptRead). IsReadAgain x) both.1 (line_again l s moment opened both.0 is w)

-- A ROUND

round_by : (back many : Bool) (x : Unit {0}) → cond back (Err cause.TimeBack) (refuse_if many cause.TooManyRounds) ≡ Ok x → (back ≡ false) × (many ≡ false)
round_by true many x e = absurd cc
round_by false true x e = absurd cc
round_by false false x e = (refl, refl)

few_by : (n : ℕ) → nat_le max_rounds n ≡ false → n < 2 ^ 64
few_by n few = grind (arith, nat_tests)

at_words : (moment : ℕ) → moment ≤ 4294967295 → AreWords (decimal moment ∷ [])
at_words moment low = (number_is_word moment (omega arith), tt)

remark_words : (number moment : ℕ) → number < 2 ^ 64 → moment ≤ 4294967295 → AreWords (codes "round" ∷ decimal number ∷ codes "at" ∷ decimal moment ∷ [])
remark_words number moment small low =
    (record { full = refl; graphic = refl; whole = refl }, (number_is_word number small, (record { full = refl; graphic = refl; whole = refl }, (number_is_word moment (omega arith), tt))))

remark_taken : (number moment : ℕ) (s : ScriptRead) → number < 2 ^ 64 → moment ≤ 4294967295 → take_line (remark_text number moment) s ≡ Ok s
remark_taken number moment s small low =
    remark_skipped (codes "#") (codes "round" ∷ decimal number ∷ codes "at" ∷ decimal moment ∷ []) s (record { full = refl; graphic = refl; whole = refl }) (remark_words number moment small low) refl

abbrev pub begun_at : ℕ → ScriptRead → ScriptRead
begun_at moment s = record s { closed = rounds_read s; moment = Some moment; lines = [] }

abbrev at_checked : ℕ → ScriptRead → Result ScriptRead ScriptCause
at_checked moment s = checked_round moment s >>= (λ (_ : Unit {0}). Ok (begun_at moment s))

at_taken : (moment : ℕ) (s : ScriptRead) (x : Unit {0}) → moment ≤ 4294967295 → checked_round moment s ≡ Ok x → take_line (at_text moment) s ≡ Ok (begun_at moment s)
at_taken moment s x low fits =
    line_taken (line_name name.At) (decimal moment ∷ []) s (name_is_word name.At) (at_words moment low) refl
    ∙ kind_taken name.At (decimal moment ∷ []) s
    ∙ ap (λ (r : Result ℕ ScriptCause). r >>= (λ (m : ℕ). at_checked m s)) (number_again moment low)
    ∙ ap (λ (r : Result (Unit {0}) ScriptCause). r >>= (λ (_ : Unit {0}). let next : Result ScriptRead ScriptCause = Ok (begun_at moment s) in next)) fits

pub begun_again : (moment : ℕ) (s : ScriptRead) (x : Unit {0}) → moment ≤ 4294967295 → checked_round moment s ≡ Ok x → IsReadAgain s → IsReadAgain (begun_at moment s)
begun_again moment s x low fits w =
    let number : ℕ = 0 + length (rounds_read s) in
    let some_room : nat_le max_rounds (length (rounds_read s)) ≡ false = (round_by (nat_lt moment (unwrap_or s.moment 0)) (nat_le max_rounds (length (rounds_read s))) x fits).1 in
    let few : length (rounds_read s) < 2 ^ 64 = few_by (length (rounds_read s)) some_room in
    let small : number < 2 ^ 64 = omega arith in
    let made : ScriptRead = begun_at moment s in
    let both : List (List ℕ) = remark_text number moment ∷ at_text moment ∷ [] in
    let grown : texts_of made ≡ texts_of s ++ both = round_more 0 (rounds_read s) moment in
    let remark_plain = plain_words (codes "#") (codes "round" ∷ decimal number ∷ codes "at" ∷ decimal moment ∷ []) (record { full = refl; graphic = refl; whole = refl }) (remark_words number moment small low) in
    let at_plain = plain_words (line_name name.At) (decimal moment ∷ []) (name_is_word name.At) (at_words moment low) in
    record {
      small = w.small;
      plain = subst ArePlain (sym grown) (plain_append (texts_of s) both w.plain (remark_plain, (at_plain, tt)));
      items = omega (arith, w.items, items_snoc (rounds_read s) (round_with moment []));
      within = record {
        moments = moments_begun (rounds_read s) moment w.within.moments low;
        items = omega (arith, w.within.items, items_snoc (rounds_read s) (round_with moment []));
        few = omega (arith, room_by (length (rounds_read s)) some_room, length-append (rounds_read s) (round_with moment [] ∷ []));
      };
      read = λ o.
          ap (λ (texts : List (List ℕ)). all_taken texts (with_local o empty_script)) grown
          ∙ taken_append (texts_of s) both (with_local o empty_script) (with_local o s) (w.read o)
          ∙ ap (λ (r : Result ScriptRead ScriptCause). r >>= all_taken (at_text moment ∷ [])) (remark_taken number moment (with_local o s) small low)
          ∙ ap (λ (r : Result ScriptRead ScriptCause). r >>= all_taken []) (at_taken moment (with_local o s) x low fits);
    }

at_step : (words : List (List ℕ)) (s t : ScriptRead) → take_at words s ≡ Ok t → IsReadAgain s → IsReadAgain t
at_step words s t e w =
    let word = then_ok (one_word words) (λ (x : List ℕ). number_given x >>= (λ (m : ℕ). at_checked m s)) t e in
    let given = then_ok (number_given word.0) (λ (m : ℕ). at_checked m s) t word.2 in
    let moment = given.0 in
    let fits = then_ok (checked_round moment s) (λ (_ : Unit {0}). let next : Result ScriptRead ScriptCause = Ok (begun_at moment s) in next) t given.2 in
    let low : moment ≤ 4294967295 = number_low word.0 moment given.1 in
    subst (λ (x : ScriptRead). IsReadAgain x) (read_is (begun_at moment s) t fits.2) (begun_again moment s fits.0 low fits.1 w)

-- THE SOURCE OF TUNNELS

cause_some : {A : Type 0} (why : ScriptCause) (o : Option A) (x : A) → or_cause why o ≡ Ok x → o ≡ Some x
cause_some why None x e = absurd cc
cause_some why (Some y) x e = cc

abbrev local_given : Addr → ScriptRead → Result ScriptRead ScriptCause
local_given addr s = Ok (with_local (Some addr) s)

local_step : (words : List (List ℕ)) (s t : ScriptRead) → take_local words s ≡ Ok t → IsReadAgain s → IsReadAgain t
local_step words s t e w =
    let word = then_ok (one_word words) (λ (x : List ℕ). or_cause cause.BadAddress (addr_of x) >>= (λ (a : Addr). local_given a s)) t e in
    let addr = then_ok (or_cause cause.BadAddress (addr_of word.0)) (λ (a : Addr). local_given a s) t word.2 in
    let again : IsReadAgain (with_local (Some addr.0) s) = record {
      small = addr_small word.0 addr.0 (cause_some cause.BadAddress (addr_of word.0) addr.0 addr.1);
      plain = w.plain;
      items = w.items;
      within = w.within;
      read = w.read;
    } in
    subst (λ (x : ScriptRead). IsReadAgain x) (read_is (with_local (Some addr.0) s) t addr.2) again

-- A LINE

opened_by : (o : Option ℕ) (x : Unit {0}) → refuse_if (not (is_some o)) cause.BeforeAt ≡ Ok x → (moment : ℕ) × (o ≡ Some moment)
opened_by None x e = absurd cc
opened_by (Some m) x e = (m, refl)

round_step : (kind : LineName) (words : List (List ℕ)) (s t : ScriptRead) (x : Unit {0}) → ((l : ScriptLine) → round_line kind words ≡ Ok l → IsPrinted l) → refuse_if (not (is_some s.moment)) cause.BeforeAt ≡ Ok x → (round_line kind words >>= (λ (l : ScriptLine). with_line l s)) ≡ Ok t → IsReadAgain s → IsReadAgain t
round_step kind words s t x printed place e w =
    let line = then_ok (round_line kind words) (λ (l : ScriptLine). with_line l s) t e in
    let opened = opened_by s.moment x place in
    line_step line.0 s t opened.0 opened.1 line.2 (printed line.0 line.1) w

kind_step : (kind : LineName) (words : List (List ℕ)) (s t : ScriptRead) (x : Unit {0}) → checked_place kind s ≡ Ok x → take_kind kind words s ≡ Ok t → IsReadAgain s → IsReadAgain t
kind_step name.Local words s t x place e w = local_step words s t e w
kind_step name.At words s t x place e w = at_step words s t e w
kind_step name.Ipvs words s t x place e w = round_step name.Ipvs words s t x (command_printed words) place e w
kind_step name.Sysctl words s t x place e w = round_step name.Sysctl words s t x (sysctl_printed words) place e w
kind_step name.Incoming words s t x place e w = round_step name.Incoming words s t x (incoming_printed words) place e w
kind_step name.Outgoing words s t x place e w = round_step name.Outgoing words s t x (outgoing_printed words) place e w
kind_step name.Sync words s t x place e w = round_step name.Sync words s t x (message_printed words) place e w
kind_step name.List words s t x place e w = round_step name.List words s t x (λ l read. listing_printed shown.List words l read list_made) place e w
kind_step name.Conns words s t x place e w = round_step name.Conns words s t x (λ l read. listing_printed shown.Conns words l read conns_made) place e w
kind_step name.Save words s t x place e w = round_step name.Save words s t x (λ l read. listing_printed shown.Save words l read save_made) place e w
kind_step name.Icmp words s t x place e w = round_step name.Icmp words s t x (icmp_printed words) place e w

words_step : (ws : List (List ℕ)) (s t : ScriptRead) → take_line_words ws s ≡ Ok t → IsReadAgain s → IsReadAgain t
words_step [] s t e w = subst (λ (x : ScriptRead). IsReadAgain x) (read_is s t e) w
words_step (first ∷ words) s t e w =
    let kind = then_ok (or_cause cause.UnknownLine (line_named first)) (λ (k : LineName). checked_place k s >>= (λ (_ : Unit {0}). take_kind k words s)) t e in
    let place = then_ok (checked_place kind.0 s) (λ (_ : Unit {0}). take_kind kind.0 words s) t kind.2 in
    kind_step kind.0 words s t place.0 place.1 place.2 w

text_step : (skipped readable : Bool) (ws : List (List ℕ)) (s t : ScriptRead) → cond skipped (Ok s) (cond readable (take_line_words ws s) (Err cause.UnknownLine)) ≡ Ok t → IsReadAgain s → IsReadAgain t
text_step true readable ws s t e w = subst (λ (x : ScriptRead). IsReadAgain x) (read_is s t e) w
text_step false true ws s t e w = words_step ws s t e w
text_step false false ws s t e w = absurd cc

at_by : (n : ℕ) (r : Result ScriptRead ScriptCause) (t : ScriptRead) → at_line n r ≡ Ok t → r ≡ Ok t
at_by n (Ok s) t e = cc
at_by n (Err why) t e = absurd cc

lines_step : (n : ℕ) (texts : List (List ℕ)) (s t : ScriptRead) → take_lines n texts s ≡ Ok t → IsReadAgain s → IsReadAgain t
lines_step n [] s t e w = let same : s ≡ t = cc in subst (λ (x : ScriptRead). IsReadAgain x) same w
lines_step n (text ∷ texts) s t e w =
    let next = then_ok (at_line n (take_line text s)) (take_lines (n + 1) texts) t e in
    lines_step (n + 1) texts next.0 t next.2 (text_step (is_skipped (words_of text)) (is_readable text) (words_of text) s next.0 (at_by n (take_line text s) next.0 next.1) w)

-- A SCRIPT

abbrev nowhere : Addr
nowhere = record { number = 0 }

given_small : (o : Option Addr) → IsSmall o → (unwrap_or o nowhere).number < 2 ^ 32
given_small None small = omega arith
given_small (Some a) small = small

-- the lines of the source of tunnels, by whether it is 0.0.0.0
abbrev local_by : Bool → Addr → List (List ℕ)
local_by none a = cond none [] ((line_name name.Local ++ spaced (addr_text a ∷ [])) ∷ [])

abbrev given_by : Bool → Addr → Option Addr
given_by none a = cond none None (Some a)

local_plain : (none : Bool) (a : Addr) → a.number < 2 ^ 32 → ArePlain (local_by none a)
local_plain true a small = tt
local_plain false a small = (plain_words (line_name name.Local) (addr_text a ∷ []) (name_is_word name.Local) (addr_is_word a small, tt), tt)

local_taken : (none : Bool) (a : Addr) → a.number < 2 ^ 32 → all_taken (local_by none a) empty_script ≡ Ok (with_local (given_by none a) empty_script)
local_taken true a small = refl
local_taken false a small =
    ap (λ (r : Result ScriptRead ScriptCause). r >>= all_taken [])
    (line_taken (line_name name.Local) (addr_text a ∷ []) empty_script (name_is_word name.Local) (addr_is_word a small, tt) refl
    ∙ kind_taken name.Local (addr_text a ∷ []) empty_script
    ∙ ap (λ (o : Option Addr). or_cause cause.BadAddress o >>= (λ (x : Addr). local_given x empty_script)) (addr_of-addr_text a small))

local_same : (none : Bool) (a : Addr) → (none ≡ true → a.number ≡ 0) → unwrap_or (given_by none a) nowhere ≡ a
local_same true a zero = ap (λ (n : ℕ). let made : Addr = record { number = n } in made) (sym (zero refl))
local_same false a zero = refl

abbrev script_with : ScriptRead → Addr → Script
script_with s a = record { local = a; rounds = rounds_read s }

abbrev ok_script : Script → Result Script BadLine
ok_script script = Ok script

pub state_again : (s : ScriptRead) → IsReadAgain s → script_of (script_text (script_read s)) ≡ Ok (script_read s)
state_again s w =
    let a : Addr = unwrap_or s.local nowhere in
    let none : Bool = a.number == 0 in
    let small : a.number < 2 ^ 32 = given_small s.local w.small in
    let texts : List (List ℕ) = local_by none a ++ texts_of s in
    let o : Option Addr = given_by none a in
    let read : all_taken texts empty_script ≡ Ok (with_local o s) = taken_append (local_by none a) (texts_of s) empty_script (with_local o empty_script) (local_taken none a small) ∙ w.read o in
    ap (λ (ls : List (List ℕ)). take_lines 1 ls empty_script >>= (λ (x : ScriptRead). ok_script (script_read x))) (lines_again texts (plain_append (local_by none a) (texts_of s) (local_plain none a small) w.plain))
    ∙ ap (λ (r : Result ScriptRead BadLine). r >>= (λ (x : ScriptRead). ok_script (script_read x))) (taken_lines 1 texts empty_script (with_local o s) read)
    ∙ ap (λ (x : Addr). ok_script (script_with s x)) (local_same none a (eqb-true a.number 0))

-- a script that was read, and the state that its reading left
pub record IsRead (script : Script) : Type 0 where
  pub state : ScriptRead
  pub again : IsReadAgain state
  pub same : script_read state ≡ script

pub read_state : (given : List ℕ) (script : Script) → script_of given ≡ Ok script → IsRead script
read_state given script e =
    let read = then_ok (take_lines 1 (lines_of given) empty_script) (λ (x : ScriptRead). ok_script (script_read x)) script e in
    record { state = read.0; again = lines_step 1 (lines_of given) empty_script read.0 read.1 nothing_read; same = cc }

-- a script that was read is printed as a text that is read as it
pub script_again : (given : List ℕ) (script : Script) → script_of given ≡ Ok script → script_of (script_text script) ≡ Ok script
script_again given script e =
    let read = read_state given script e in
    subst (λ (x : Script). script_of (script_text x) ≡ Ok x) read.same (state_again read.state read.again)

-- a script that was read is within the limits
pub read_within : (given : List ℕ) (script : Script) → script_of given ≡ Ok script → IsWithinLimits script.rounds
read_within given script e =
    let read = read_state given script e in
    subst (λ (x : Script). IsWithinLimits x.rounds) read.same read.again.within
