-- An accepted script is within the limits.
use Rattle.std.proofs.Common.{◌≡◌, ℕ, ◌+◌, ◌≤◌, Bool, true, false, ◌&&◌, cond, List, [], ◌∷◌, ◌++◌, Option, Some, None, Result, Ok, Err, length, refl, ◌∙◌, ap, subst, nat_le, nat_lt, arith, length-append}
use Rattle.std.specs.Prelude.{unwrap_or}
use Rattle.std.specs.List.{flat_map}
use Rattle.std.proofs.lemmas.Bool.{leb-true}
use Rattle.std.proofs.lemmas.Bool.Decides.{nat_tests}
use Rattle.std.proofs.lemmas.Grind.{flat_map-append}
use Rattle.lvs_types.specs.declared.script.Script.{Script}
use Rattle.lvs_types.specs.declared.script.Round.{Round}
use Rattle.lvs_types.specs.declared.script.ScriptLine.{ScriptLine}
use Rattle.lvs_types.specs.declared.script.ScriptCause.{ScriptCause}
use Rattle.lvs_types.specs.declared.script.ScriptCause.TheVariants as cause
use Rattle.lvs_model.specs.declared.script.LineName.{LineName}
use Rattle.lvs_model.specs.declared.script.LineName.TheVariants as name
use Rattle.lvs_model.specs.declared.script.BadLine.{BadLine}
use Rattle.lvs_model.specs.Refusals.{◌>>=◌}
use Rattle.lvs_model.specs.Decimals.{number_of, is_number, value_after, addr_of}
use Rattle.lvs_model.specs.Lines.{lines_of, words_of, is_readable, is_skipped}
use Rattle.lvs_model.specs.Plans.{items_of_line, items_of_lines}
use Rattle.lvs_types.specs.Limits.{max_items, max_rounds}
use Rattle.lvs_model.specs.Scripts.{ScriptRead, empty_script, open_round, rounds_read, or_cause, one_word, number_given, refuse_if, checked_round, take_at, take_local, with_line, round_line, take_round_line, take_kind, take_line_words, take_line, take_lines, line_named, checked_place, at_line, script_of, script_read}
use Rattle.lvs_model.specs.ScriptLimits.{AreMoments, items_in, IsWithinLimits}

-- what was read so far is within the limits
pub record IsWithin (s : ScriptRead) : Type 0 where
  pub moments : AreMoments (rounds_read s)
  pub items : items_in (rounds_read s) ≤ s.items
  pub most : s.items ≤ max_items
  pub few : length (rounds_read s) ≤ max_rounds

abbrev Keeps : ScriptRead → Result ScriptRead ScriptCause → Type 0
Keeps s r = (t : ScriptRead) → r ≡ Ok t → IsWithin s → IsWithin t

then_ok : {A B E : Type 0} (r : Result A E) (f : A → Result B E) (y : B) → (r >>= f) ≡ Ok y → (x : A) × (r ≡ Ok x) × (f x ≡ Ok y)
then_ok (Ok x) f y e = (x, refl, e)
then_ok (Err why) f y e = cc

-- ONE MORE ROUND

moments_more : (rounds : List Round) (round : Round) → AreMoments rounds → round.moment ≤ 4294967295 → AreMoments (rounds ++ round ∷ [])
moments_more [] round before is = (is, tt)
moments_more (r ∷ rounds) round before is = (before.0, moments_more rounds round before.1 is)

items_more : (rounds : List Round) (round : Round) → items_in (rounds ++ round ∷ []) ≡ items_in rounds + length (items_of_lines round)
items_more [] round = omega arith
items_more (r ∷ rounds) round = omega (arith, items_more rounds round)

within_limit : (b : Bool) (n m : ℕ) → cond b (Some n) None ≡ Some m → (b ≡ true) × (n ≡ m)
within_limit true n m e = (refl, cc)
within_limit false n m e = cc

and_right : (a b c : Bool) → (a && b && c) ≡ true → c ≡ true
and_right true true c e = e
and_right true false c e = cc
and_right false b c e = cc

needed_some : {A : Type 0} (why : ScriptCause) (o : Option A) (x : A) → or_cause why o ≡ Ok x → o ≡ Some x
needed_some why None x e = cc
needed_some why (Some y) x e = cc

small_number : (word : List ℕ) (moment : ℕ) → number_given word ≡ Ok moment → moment ≤ 4294967295
small_number word moment e =
    let some = needed_some cause.BadNumber (number_of 10 4294967295 word) moment e in
    let both = within_limit (is_number word && nat_le (length word) 10 && nat_le (value_after 0 word) 4294967295) (value_after 0 word) moment some in
    let low = leb-true (value_after 0 word) 4294967295 (and_right (is_number word) (nat_le (length word) 10) (nat_le (value_after 0 word) 4294967295) both.0) in
    omega arith

few_if : (b c : Bool) (n : ℕ) (why other : ScriptCause) (x : Unit {0}) → cond b (Err why) (refuse_if c other) ≡ Ok x → c ≡ nat_le max_rounds n → n + 1 ≤ max_rounds
few_if true c n why other x e is = cc
few_if false true n why other x e is = cc
few_if false false n why other x e is = grind (arith, nat_tests)

few_more : (moment : ℕ) (s : ScriptRead) (x : Unit {0}) → checked_round moment s ≡ Ok x → length (rounds_read s) + 1 ≤ max_rounds
few_more moment s x e = few_if (nat_lt moment (unwrap_or s.moment 0)) (nat_le max_rounds (length (rounds_read s))) (length (rounds_read s)) cause.TimeBack cause.TooManyRounds x e refl

abbrev at_round : ℕ → Round
at_round moment = record { moment = moment; lines = [] }

within_round : (s : ScriptRead) (moment : ℕ) → moment ≤ 4294967295 → length (rounds_read s) + 1 ≤ max_rounds → IsWithin s → IsWithin (record s { closed = rounds_read s; moment = Some moment; lines = [] })
within_round s moment low few w = record {
  moments = moments_more (rounds_read s) (at_round moment) w.moments low;
  items = omega (arith, items_more (rounds_read s) (at_round moment), w.items);
  most = w.most;
  few = omega (arith, length-append (rounds_read s) (at_round moment ∷ []));
}

-- ONE MORE LINE

lines_more : (lines : List ScriptLine) (l : ScriptLine) → length (flat_map items_of_line (lines ++ l ∷ [])) ≡ length (flat_map items_of_line lines) + length (items_of_line l)
lines_more lines l =
    ap length (flat_map-append items_of_line lines (l ∷ []))
    ∙ length-append (flat_map items_of_line lines) (items_of_line l ++ [])
    ∙ omega (arith, length-append (items_of_line l) [])

abbrev grown : List Round → Option ℕ → List ScriptLine → ScriptLine → List Round
grown closed moment lines l = closed ++ open_round moment (lines ++ l ∷ [])

moments_line : (closed : List Round) (moment : Option ℕ) (lines : List ScriptLine) (l : ScriptLine) → AreMoments (closed ++ open_round moment lines) → AreMoments (grown closed moment lines l)
moments_line [] None lines l are = tt
moments_line [] (Some moment) lines l are = are
moments_line (r ∷ closed) moment lines l are = (are.0, moments_line closed moment lines l are.1)

items_line : (closed : List Round) (moment : Option ℕ) (lines : List ScriptLine) (l : ScriptLine) → items_in (grown closed moment lines l) ≤ items_in (closed ++ open_round moment lines) + length (items_of_line l)
items_line [] None lines l = omega arith
items_line [] (Some moment) lines l = omega (arith, lines_more lines l)
items_line (r ∷ closed) moment lines l = omega (arith, items_line closed moment lines l)

few_line : (closed : List Round) (moment : Option ℕ) (lines : List ScriptLine) (l : ScriptLine) → length (grown closed moment lines l) ≡ length (closed ++ open_round moment lines)
few_line [] None lines l = refl
few_line [] (Some moment) lines l = refl
few_line (r ∷ closed) moment lines l = omega (arith, few_line closed moment lines l)

within_line : (s : ScriptRead) (l : ScriptLine) → s.items + length (items_of_line l) ≤ max_items → IsWithin s → IsWithin (record s { lines = s.lines ++ l ∷ []; items = s.items + length (items_of_line l) })
within_line s l low w = record {
  moments = moments_line s.closed s.moment s.lines l w.moments;
  items = omega (arith, items_line s.closed s.moment s.lines l, w.items);
  most = low;
  few = omega (arith, few_line s.closed s.moment s.lines l, w.few);
}

-- EACH LINE

read_is : (s t : ScriptRead) → ◌≡◌ {A = Result ScriptRead BadLine} (Ok s) (Ok t) → s ≡ t
read_is s t e = cc

along : (s t : ScriptRead) → s ≡ t → IsWithin s → IsWithin t
along s t same w = let P : ScriptRead → Type 0 = λ r. IsWithin r in subst P same w

ok_is : (s t : ScriptRead) → ◌≡◌ {A = Result ScriptRead ScriptCause} (Ok s) (Ok t) → s ≡ t
ok_is s t e = cc

abbrev with_local : ScriptRead → List ℕ → Result ScriptRead ScriptCause
with_local s word = or_cause cause.BadAddress (addr_of word) >>= (λ addr. Ok (record s { local = Some addr }))

keep_local : (words : List (List ℕ)) (s : ScriptRead) → Keeps s (take_local words s)
keep_local words s t e w =
    let word = then_ok (one_word words) (with_local s) t e in
    let addr = then_ok (or_cause cause.BadAddress (addr_of word.0)) (λ addr. Ok (record s { local = Some addr })) t word.2 in
    along (record s { local = Some addr.0 }) t (ok_is (record s { local = Some addr.0 }) t addr.2) (record { moments = w.moments; items = w.items; most = w.most; few = w.few })

abbrev opened : ScriptRead → ℕ → ScriptRead
opened s moment = record s { closed = rounds_read s; moment = Some moment; lines = [] }

abbrev at_moment : ScriptRead → ℕ → Result ScriptRead ScriptCause
at_moment s moment = checked_round moment s >>= (λ (_ : Unit {0}). Ok (opened s moment))

keep_at : (words : List (List ℕ)) (s : ScriptRead) → Keeps s (take_at words s)
keep_at words s t e w =
    let word = then_ok (one_word words) (λ (word : List ℕ). number_given word >>= at_moment s) t e in
    let moment = then_ok (number_given word.0) (at_moment s) t word.2 in
    let checked = then_ok (checked_round moment.0 s) (λ (_ : Unit {0}). Ok (opened s moment.0)) t moment.2 in
    along (opened s moment.0) t (ok_is (opened s moment.0) t checked.2)
    (within_round s moment.0 (small_number word.0 moment.0 moment.1) (few_more moment.0 s checked.0 checked.1) w)

abbrev lined : ScriptRead → ScriptLine → ScriptRead
lined s l = record s { lines = s.lines ++ l ∷ []; items = s.items + length (items_of_line l) }

if_ok : (b : Bool) (x t : ScriptRead) (why : ScriptCause) → cond b (Ok x) (Err why) ≡ Ok t → (b ≡ true) × (x ≡ t)
if_ok true x t why e = (refl, ok_is x t e)
if_ok false x t why e = cc

keep_with : (l : ScriptLine) (s : ScriptRead) → Keeps s (with_line l s)
keep_with l s t e w =
    let both = if_ok (nat_le (s.items + length (items_of_line l)) max_items) (lined s l) t cause.TooManyItems e in
    along (lined s l) t both.1 (within_line s l (leb-true (s.items + length (items_of_line l)) max_items both.0) w)

keep_round_line : (kind : LineName) (words : List (List ℕ)) (s : ScriptRead) → Keeps s (take_round_line kind words s)
keep_round_line kind words s t e w =
    let read = then_ok (round_line kind words) (λ (l : ScriptLine). with_line l s) t e in
    keep_with read.0 s t read.2 w

keep_kind : (kind : LineName) (words : List (List ℕ)) (s : ScriptRead) → Keeps s (take_kind kind words s)
keep_kind name.Local words s = keep_local words s
keep_kind name.At words s = keep_at words s
keep_kind name.Ipvs words s = keep_round_line name.Ipvs words s
keep_kind name.Sysctl words s = keep_round_line name.Sysctl words s
keep_kind name.Incoming words s = keep_round_line name.Incoming words s
keep_kind name.Outgoing words s = keep_round_line name.Outgoing words s
keep_kind name.Sync words s = keep_round_line name.Sync words s
keep_kind name.List words s = keep_round_line name.List words s
keep_kind name.Conns words s = keep_round_line name.Conns words s
keep_kind name.Save words s = keep_round_line name.Save words s
keep_kind name.Icmp words s = keep_round_line name.Icmp words s

abbrev placed : List (List ℕ) → ScriptRead → LineName → Result ScriptRead ScriptCause
placed words s kind = checked_place kind s >>= (λ (_ : Unit {0}). take_kind kind words s)

keep_words : (words : List (List ℕ)) (s : ScriptRead) → Keeps s (take_line_words words s)
keep_words [] s t e w = along s t (ok_is s t e) w
keep_words (first ∷ words) s t e w =
    let kind = then_ok (or_cause cause.UnknownLine (line_named first)) (placed words s) t e in
    let place = then_ok (checked_place kind.0 s) (λ (_ : Unit {0}). take_kind kind.0 words s) t kind.2 in
    keep_kind kind.0 words s t place.2 w

keep_by : (skipped readable : Bool) (words : List (List ℕ)) (s : ScriptRead) → Keeps s (cond skipped (Ok s) (cond readable (take_line_words words s) (Err cause.UnknownLine)))
keep_by true readable words s t e w = along s t (ok_is s t e) w
keep_by false true words s t e w = keep_words words s t e w
keep_by false false words s t e w = cc

keep_line : (text : List ℕ) (s : ScriptRead) → Keeps s (take_line text s)
keep_line text s = keep_by (is_skipped (words_of text)) (is_readable text) (words_of text) s

-- A SCRIPT

at_line_ok : (number : ℕ) (r : Result ScriptRead ScriptCause) (t : ScriptRead) → at_line number r ≡ Ok t → r ≡ Ok t
at_line_ok number (Ok x) t e = ap (λ (y : ScriptRead). Ok y) (read_is x t e)
at_line_ok number (Err why) t e = cc

keep_lines : (number : ℕ) (texts : List (List ℕ)) (s t : ScriptRead) → take_lines number texts s ≡ Ok t → IsWithin s → IsWithin t
keep_lines number [] s t e w = along s t (read_is s t e) w
keep_lines number (text ∷ texts) s t e w =
    let next = then_ok (at_line number (take_line text s)) (take_lines (number + 1) texts) t e in
    keep_lines (number + 1) texts next.0 t next.2 (keep_line text s next.0 (at_line_ok number (take_line text s) next.0 next.1) w)

within_nothing : IsWithin empty_script
within_nothing = record { moments = tt; items = omega arith; most = omega arith; few = omega arith }

script_is : (s t : Script) → ◌≡◌ {A = Result Script BadLine} (Ok s) (Ok t) → s ≡ t
script_is s t e = cc

pub within_limits : (text : List ℕ) (script : Script) → script_of text ≡ Ok script → IsWithinLimits script.rounds
within_limits text script e =
    let read = then_ok (take_lines 1 (lines_of text) empty_script) (λ (s : ScriptRead). Ok (script_read s)) script e in
    let w : IsWithin read.0 = keep_lines 1 (lines_of text) empty_script read.0 read.1 within_nothing in
    let P : Script → Type 0 = λ s. IsWithinLimits s.rounds in
    let within : IsWithinLimits (script_read read.0).rounds = record { moments = w.moments; items = omega (arith, w.items, w.most); few = w.few } in
    subst P (script_is (script_read read.0) script read.2) within
