-- The listings of a script that was read have names: an ICMP error's bytes are some, and bytes.
use Rattle.std.proofs.Common.{◌≡◌, ℕ, suc, ◌+◌, ◌*◌, ◌<◌, ◌==◌, Bool, true, false, not, cond, List, [], ◌∷◌, ◌++◌, Option, Some, None, Result, Ok, Err, length, refl, ◌∙◌, ap, subst, nat_le, arith}
use Rattle.std.specs.List.{list_all, filter_map}
use Rattle.std.proofs.lemmas.Bool.Decides.{nat_tests}
use Rattle.std.proofs.lemmas.List.Elements.{filter_map-append}
use Rattle.std.proofs.lemmas.List.Folds.{list_all-append}
use Rattle.hex.specs.Hex.{IsBytes, decode_of}
use Rattle.hex.specs.declared.error.FromHexError.{FromHexError}
use Rattle.hex.proofs.HexLemmas.{decode_of-ok}
use Rattle.lvs_types.specs.declared.script.Script.{Script}
use Rattle.lvs_types.specs.declared.script.Round.{Round}
use Rattle.lvs_types.specs.declared.script.ScriptLine.{ScriptLine}
use Rattle.lvs_types.specs.declared.script.ScriptLine.TheVariants as line
use Rattle.lvs_types.specs.declared.script.ScriptCause.{ScriptCause}
use Rattle.lvs_types.specs.declared.script.ScriptCause.TheVariants as cause
use Rattle.lvs_types.specs.declared.script.SettingCause.{SettingCause}
use Rattle.lvs_types.specs.declared.settings.Setting.{Setting}
use Rattle.lvs_types.specs.declared.command.Command.{Command}
use Rattle.lvs_types.specs.declared.command.Command.TheVariants as command
use Rattle.lvs_types.specs.declared.command.Line.{Line}
use Rattle.lvs_types.specs.declared.command.Line.TheVariants.{Edit, Show}
use Rattle.lvs_types.specs.declared.service.ServiceKey.{ServiceKey}
use Rattle.lvs_types.specs.declared.dest.DestSpec.{DestSpec}
use Rattle.lvs_types.specs.declared.book.Shown.{Shown}
use Rattle.lvs_types.specs.declared.book.Shown.TheVariants as shown
use Rattle.lvs_types.specs.declared.icmp.Side.{Side}
use Rattle.lvs_types.specs.declared.icmp.Side.TheVariants.{Inward, Outward}
use Rattle.lvs_model.specs.declared.script.LineName.{LineName}
use Rattle.lvs_model.specs.declared.script.LineName.TheVariants as name
use Rattle.lvs_model.specs.declared.script.BadLine.{BadLine}
use Rattle.lvs_model.specs.declared.admin.BadWord.{BadWord}
use Rattle.lvs_model.specs.declared.admin.CommandName.{CommandName}
use Rattle.lvs_model.specs.declared.admin.CommandName.TheVariants.{AddService, EditService, DeleteService, ClearTables, AddServer, EditServer, DeleteServer, ListTables, SaveTables, SetTimeouts, StartDaemon, StopDaemon}
use Rattle.lvs_model.specs.declared.admin.GivenService.{GivenService}
use Rattle.lvs_model.specs.declared.admin.WordsRead.{WordsRead}
use Rattle.lvs_types.specs.declared.script.WordsCause.TheVariants as words_cause
use Rattle.lvs_model.specs.Refusals.{◌>>=◌, needed}
use Rattle.lvs_model.specs.AdminWords.{split_words, take_all}
use Rattle.lvs_model.specs.AdminLines.{settled, read_service, read_server, server_removed, daemon_started, daemon_stopped, listing_of, line_read, line_of_split, line_of_words}
use Rattle.lvs_model.specs.Decimals.{addr_of}
use Rattle.lvs_model.specs.SysctlWords.{setting_of_words}
use Rattle.lvs_model.specs.Lines.{lines_of, words_of, is_readable, is_skipped}
use Rattle.lvs_model.specs.Plans.{shown_by, listings_of, items_of_line}
use Rattle.lvs_model.specs.ReportLines.{is_byte, are_some_bytes, is_named}
use Rattle.lvs_types.specs.Limits.{max_items}
use Rattle.lvs_model.specs.Scripts.{ScriptRead, empty_script, open_round, rounds_read, or_cause, no_words, one_word, two_words, number_given, checked_round, bytes_decoded, bytes_of, line_of_admin, line_of_setting, listing_line, side_of_word, icmp_shown, icmp_line, take_at, take_local, with_line, round_line, take_round_line, take_kind, take_line_words, take_line, take_lines, line_named, checked_place, at_line, script_of, script_read}
use Rattle.lvs_report.proofs.Avoids.{and_true}
use Rattle.lvs_verdicts.specs.LegalTexts.{AreNamed}

then_ok : {A B E : Type 0} (r : Result A E) (f : A → Result B E) (y : B) → (r >>= f) ≡ Ok y → (x : A) × (r ≡ Ok x) × (f x ≡ Ok y)
then_ok (Ok x) f y e = (x, refl, e)
then_ok (Err why) f y e = cc

-- BYTES

byte_below : (b : ℕ) → b < 256 → is_byte b ≡ true
byte_below b below = grind (arith, nat_tests)

all_bytes : (bytes : List ℕ) → IsBytes bytes → list_all is_byte bytes ≡ true
all_bytes [] are = refl
all_bytes (b ∷ bytes) are =
    let first : is_byte b ≡ true = byte_below b (are 0) in
    let rest : list_all is_byte bytes ≡ true = all_bytes bytes (λ i. are (suc i)) in
    cc

nonempty : (b : ℕ) (bytes : List ℕ) → not (length (b ∷ bytes) == 0) ≡ true
nonempty b bytes = grind (arith, nat_tests)

some_bytes : (bytes : List ℕ) (n : ℕ) → not (n == 0) ≡ true → n ≡ 2 * length bytes → IsBytes bytes → are_some_bytes bytes ≡ true
some_bytes [] n some twice are = absurd (grind (arith, nat_tests))
some_bytes (b ∷ bytes) n some twice are = and_true _ _ (nonempty b bytes) (all_bytes (b ∷ bytes) are)

decoded_some : (text : List ℕ) (r : Result (List ℕ) FromHexError) (bytes : List ℕ) → decode_of text ≡ r → not (length text == 0) ≡ true → bytes_decoded r ≡ Ok bytes → are_some_bytes bytes ≡ true
decoded_some text (Err why) bytes is some e = cc
decoded_some text (Ok own) bytes is some e =
    let ok = decode_of-ok text own is in
    let same : own ≡ bytes = cc in
    subst (λ (l : List ℕ). are_some_bytes l ≡ true) same (some_bytes own (length text) some ok.2 ok.3)

bytes_by : (empty : Bool) (word bytes : List ℕ) → (length word == 0) ≡ empty → cond empty (Err cause.BadHex) (bytes_decoded (decode_of word)) ≡ Ok bytes → are_some_bytes bytes ≡ true
bytes_by true word bytes is e = cc
bytes_by false word bytes is e = decoded_some word (decode_of word) bytes refl (ap not is) e

bytes_named : (word bytes : List ℕ) → bytes_of word ≡ Ok bytes → are_some_bytes bytes ≡ true
bytes_named word bytes e = bytes_by (length word == 0) word bytes refl e

-- THE LINES OF IPVSADM'S WORDS

abbrev IsNamedLine : Line → Type 0
IsNamedLine l = (kind : Shown) → l ≡ Show kind → is_named kind ≡ true

edit_named : (c : Command) → IsNamedLine (Edit c)
edit_named c kind e = cc

show_named : (own : Shown) → is_named own ≡ true → IsNamedLine (Show own)
show_named own named kind e = let same : own ≡ kind = cc in subst (λ (k : Shown). is_named k ≡ true) same named

line_is : (own l : Line) → ◌≡◌ {A = Result Line BadWord} (Ok own) (Ok l) → IsNamedLine own → IsNamedLine l
line_is own l e named = let same : own ≡ l = cc in let P : Line → Type 0 = λ l. IsNamedLine l in subst P same named

tables_named : (connection : Bool) → is_named (cond connection shown.Conns shown.List) ≡ true
tables_named true = refl
tables_named false = refl

read_named : (count : ℕ) (r : WordsRead) (name : CommandName) (l : Line) → line_read count r name ≡ Ok l → IsNamedLine l
read_named count r AddService l e =
    let read = then_ok (read_service count r) (λ service. Ok (Edit (command.AddService service))) l e in
    line_is _ l read.2 (edit_named _)
read_named count r EditService l e =
    let read = then_ok (read_service count r) (λ service. Ok (Edit (command.EditService service))) l e in
    line_is _ l read.2 (edit_named _)
read_named count r DeleteService l e =
    let read = then_ok (needed count words_cause.Missing r.service) (λ (service : GivenService). Ok (Edit (command.RemoveService service.key))) l e in
    line_is _ l read.2 (edit_named _)
read_named count r ClearTables l e = line_is _ l e (edit_named _)
read_named count r AddServer l e =
    let read = then_ok (read_server count r) (λ (server : ServiceKey × DestSpec). Ok (Edit (command.AddServer server.0 server.1))) l e in
    line_is _ l read.2 (edit_named _)
read_named count r EditServer l e =
    let read = then_ok (read_server count r) (λ (server : ServiceKey × DestSpec). Ok (Edit (command.EditServer server.0 server.1))) l e in
    line_is _ l read.2 (edit_named _)
read_named count r DeleteServer l e =
    let read = then_ok (server_removed count r) (λ edit. Ok (Edit edit)) l e in
    line_is _ l read.2 (edit_named _)
read_named count r ListTables l e = line_is _ l e (show_named (listing_of r) (tables_named r.connection))
read_named count r SaveTables l e = line_is _ l e (show_named shown.Save refl)
read_named count r SetTimeouts l e = line_is _ l e (edit_named _)
read_named count r StartDaemon l e =
    let read = then_ok (daemon_started count r) (λ edit. Ok (Edit edit)) l e in
    line_is _ l read.2 (edit_named _)
read_named count r StopDaemon l e =
    let read = then_ok (daemon_stopped count r) (λ edit. Ok (Edit edit)) l e in
    line_is _ l read.2 (edit_named _)

abbrev read_on : List (List ℕ) → WordsRead → Result Line BadWord
read_on words r = settled (length words) r >>= (λ (_ : Unit {0}). line_read (length words) r r.command)

split_named : (words : List (List ℕ)) (l : Line) → line_of_split words ≡ Ok l → IsNamedLine l
split_named words l e =
    let read = then_ok (take_all words) (read_on words) l e in
    let rest = then_ok (settled (length words) read.0) (λ (_ : Unit {0}). line_read (length words) read.0 read.0.command) l read.2 in
    read_named (length words) read.0 read.0.command l rest.2

words_named : (words : List (List ℕ)) (l : Line) → line_of_words words ≡ Ok l → IsNamedLine l
words_named words = split_named (split_words words)

-- A LINE OF A ROUND

-- what a line shows has a name
abbrev IsSaid : ScriptLine → Type 0
IsSaid l = list_all is_named (filter_map shown_by (l ∷ [])) ≡ true

said_is : (own l : ScriptLine) → ◌≡◌ {A = Result ScriptLine ScriptCause} (Ok own) (Ok l) → IsSaid own → IsSaid l
said_is own l e said = let same : own ≡ l = cc in let P : ScriptLine → Type 0 = λ l. IsSaid l in subst P same said

show_said : (kind : Shown) → is_named kind ≡ true → IsSaid (line.Show kind)
show_said kind named = cc

admin_said : (r : Result Line BadWord) (l : ScriptLine) → ((own : Line) → r ≡ Ok own → IsNamedLine own) → line_of_admin r ≡ Ok l → IsSaid l
admin_said (Ok (Edit c)) l named e = said_is (line.Edit c) l e refl
admin_said (Ok (Show kind)) l named e = said_is (line.Show kind) l e (show_said kind (named (Show kind) refl kind refl))
admin_said (Err bad) l named e = cc

setting_said : (r : Result Setting SettingCause) (l : ScriptLine) → line_of_setting r ≡ Ok l → IsSaid l
setting_said (Ok setting) l e = said_is (line.Set setting) l e refl
setting_said (Err why) l e = cc

listing_said : (kind : Shown) (words : List (List ℕ)) (l : ScriptLine) → is_named kind ≡ true → listing_line kind words ≡ Ok l → IsSaid l
listing_said kind words l named e =
    let none = then_ok (no_words words) (λ (_ : Unit {0}). Ok (line.Show kind)) l e in
    said_is (line.Show kind) l none.2 (show_said kind named)

icmp_named : (side : Side) (bytes : List ℕ) → are_some_bytes bytes ≡ true → is_named (icmp_shown side bytes) ≡ true
icmp_named Inward bytes some = some
icmp_named Outward bytes some = some

abbrev icmp_bytes : List ℕ → Side → Result ScriptLine ScriptCause
icmp_bytes word side = bytes_of word >>= (λ (bytes : List ℕ). Ok (line.Show (icmp_shown side bytes)))

abbrev icmp_words : (List ℕ × List ℕ) → Result ScriptLine ScriptCause
icmp_words both = or_cause cause.WordCount (side_of_word both.0) >>= icmp_bytes both.1

icmp_said : (words : List (List ℕ)) (l : ScriptLine) → icmp_line words ≡ Ok l → IsSaid l
icmp_said words l e =
    let both = then_ok (two_words words) icmp_words l e in
    let side = then_ok (or_cause cause.WordCount (side_of_word both.0.0)) (icmp_bytes both.0.1) l both.2 in
    let bytes = then_ok (bytes_of both.0.1) (λ (bytes : List ℕ). Ok (line.Show (icmp_shown side.0 bytes))) l side.2 in
    said_is (line.Show (icmp_shown side.0 bytes.0)) l bytes.2 (show_said (icmp_shown side.0 bytes.0) (icmp_named side.0 bytes.0 (bytes_named both.0.1 bytes.0 bytes.1)))

abbrev marked_line : (List ℕ × List ℕ) → ℕ → Result ScriptLine ScriptCause
marked_line both mark = bytes_of both.1 >>= (λ (bytes : List ℕ). Ok (line.Incoming mark bytes))

incoming_said : (words : List (List ℕ)) (l : ScriptLine) → round_line name.Incoming words ≡ Ok l → IsSaid l
incoming_said words l e =
    let both = then_ok (two_words words) (λ (both : List ℕ × List ℕ). number_given both.0 >>= marked_line both) l e in
    let mark = then_ok (number_given both.0.0) (marked_line both.0) l both.2 in
    let bytes = then_ok (bytes_of both.0.1) (λ (bytes : List ℕ). Ok (line.Incoming mark.0 bytes)) l mark.2 in
    said_is (line.Incoming mark.0 bytes.0) l bytes.2 refl

outgoing_said : (words : List (List ℕ)) (l : ScriptLine) → round_line name.Outgoing words ≡ Ok l → IsSaid l
outgoing_said words l e =
    let hex = then_ok (one_word words) (λ (hex : List ℕ). bytes_of hex >>= (λ (bytes : List ℕ). Ok (line.Outgoing bytes))) l e in
    let bytes = then_ok (bytes_of hex.0) (λ (bytes : List ℕ). Ok (line.Outgoing bytes)) l hex.2 in
    said_is (line.Outgoing bytes.0) l bytes.2 refl

sync_said : (words : List (List ℕ)) (l : ScriptLine) → round_line name.Sync words ≡ Ok l → IsSaid l
sync_said words l e =
    let hex = then_ok (one_word words) (λ (hex : List ℕ). bytes_of hex >>= (λ (bytes : List ℕ). Ok (line.Sync bytes))) l e in
    let bytes = then_ok (bytes_of hex.0) (λ (bytes : List ℕ). Ok (line.Sync bytes)) l hex.2 in
    said_is (line.Sync bytes.0) l bytes.2 refl

line_said : (kind : LineName) (words : List (List ℕ)) (l : ScriptLine) → round_line kind words ≡ Ok l → IsSaid l
line_said name.Ipvs words l e = admin_said (line_of_words words) l (words_named words) e
line_said name.Sysctl words l e = setting_said (setting_of_words words) l e
line_said name.Incoming words l e = incoming_said words l e
line_said name.Outgoing words l e = outgoing_said words l e
line_said name.Sync words l e = sync_said words l e
line_said name.List words l e = listing_said shown.List words l refl e
line_said name.Conns words l e = listing_said shown.Conns words l refl e
line_said name.Save words l e = listing_said shown.Save words l refl e
line_said name.Icmp words l e = icmp_said words l e
line_said name.Local words l e = cc
line_said name.At words l e = cc

-- WHAT WAS READ SO FAR

abbrev IsRoundNamed : Round → Type 0
IsRoundNamed round = list_all is_named (listings_of round) ≡ true

abbrev grown : List Round → Option ℕ → List ScriptLine → ScriptLine → List Round
grown closed moment lines l = closed ++ open_round moment (lines ++ l ∷ [])

lines_named : (lines : List ScriptLine) (l : ScriptLine) → list_all is_named (filter_map shown_by lines) ≡ true → IsSaid l → list_all is_named (filter_map shown_by (lines ++ l ∷ [])) ≡ true
lines_named lines l named said =
    ap (list_all is_named) (filter_map-append shown_by lines (l ∷ []))
    ∙ list_all-append is_named (filter_map shown_by lines) (filter_map shown_by (l ∷ []))
    ∙ cc

named_line : (closed : List Round) (moment : Option ℕ) (lines : List ScriptLine) (l : ScriptLine) → IsSaid l → AreNamed (closed ++ open_round moment lines) → AreNamed (grown closed moment lines l)
named_line [] None lines l said are = tt
named_line [] (Some moment) lines l said are = (lines_named lines l are.0 said, tt)
named_line (round ∷ closed) moment lines l said are = (are.0, named_line closed moment lines l said are.1)

named_round : (rounds : List Round) (round : Round) → IsRoundNamed round → AreNamed rounds → AreNamed (rounds ++ round ∷ [])
named_round [] round named are = (named, tt)
named_round (first ∷ rounds) round named are = (are.0, named_round rounds round named are.1)

abbrev IsNamedRead : ScriptRead → Type 0
IsNamedRead s = AreNamed (rounds_read s)

abbrev Keeps : ScriptRead → Result ScriptRead ScriptCause → Type 0
Keeps s r = (t : ScriptRead) → r ≡ Ok t → IsNamedRead s → IsNamedRead t

along : (s t : ScriptRead) → s ≡ t → IsNamedRead s → IsNamedRead t
along s t same named = let P : ScriptRead → Type 0 = λ r. IsNamedRead r in subst P same named

ok_is : (s t : ScriptRead) → ◌≡◌ {A = Result ScriptRead ScriptCause} (Ok s) (Ok t) → s ≡ t
ok_is s t e = cc

read_is : (s t : ScriptRead) → ◌≡◌ {A = Result ScriptRead BadLine} (Ok s) (Ok t) → s ≡ t
read_is s t e = cc

-- EACH LINE

abbrev with_local : ScriptRead → List ℕ → Result ScriptRead ScriptCause
with_local s word = or_cause cause.BadAddress (addr_of word) >>= (λ addr. Ok (record s { local = Some addr }))

keep_local : (words : List (List ℕ)) (s : ScriptRead) → Keeps s (take_local words s)
keep_local words s t e named =
    let word = then_ok (one_word words) (with_local s) t e in
    let addr = then_ok (or_cause cause.BadAddress (addr_of word.0)) (λ addr. Ok (record s { local = Some addr })) t word.2 in
    along (record s { local = Some addr.0 }) t (ok_is (record s { local = Some addr.0 }) t addr.2) named

abbrev opened : ScriptRead → ℕ → ScriptRead
opened s moment = record s { closed = rounds_read s; moment = Some moment; lines = [] }

abbrev at_moment : ScriptRead → ℕ → Result ScriptRead ScriptCause
at_moment s moment = checked_round moment s >>= (λ (_ : Unit {0}). Ok (opened s moment))

keep_at : (words : List (List ℕ)) (s : ScriptRead) → Keeps s (take_at words s)
keep_at words s t e named =
    let word = then_ok (one_word words) (λ (word : List ℕ). number_given word >>= at_moment s) t e in
    let moment = then_ok (number_given word.0) (at_moment s) t word.2 in
    let checked = then_ok (checked_round moment.0 s) (λ (_ : Unit {0}). Ok (opened s moment.0)) t moment.2 in
    along (opened s moment.0) t (ok_is (opened s moment.0) t checked.2) (named_round (rounds_read s) (record { moment = moment.0; lines = [] }) refl named)

abbrev lined : ScriptRead → ScriptLine → ScriptRead
lined s l = record s { lines = s.lines ++ l ∷ []; items = s.items + length (items_of_line l) }

if_ok : (b : Bool) (x t : ScriptRead) (why : ScriptCause) → cond b (Ok x) (Err why) ≡ Ok t → x ≡ t
if_ok true x t why e = ok_is x t e
if_ok false x t why e = cc

keep_with : (l : ScriptLine) (s : ScriptRead) → IsSaid l → Keeps s (with_line l s)
keep_with l s said t e named =
    along (lined s l) t (if_ok (nat_le (s.items + length (items_of_line l)) max_items) (lined s l) t cause.TooManyItems e) (named_line s.closed s.moment s.lines l said named)

keep_round_line : (kind : LineName) (words : List (List ℕ)) (s : ScriptRead) → Keeps s (take_round_line kind words s)
keep_round_line kind words s t e named =
    let read = then_ok (round_line kind words) (λ (l : ScriptLine). with_line l s) t e in
    keep_with read.0 s (line_said kind words read.0 read.1) t read.2 named

keep_kind : (kind : LineName) (words : List (List ℕ)) (s : ScriptRead) → Keeps s (take_kind kind words s)
keep_kind name.Local words s = keep_local words s
keep_kind name.At words s = keep_at words s
keep_kind name.Ipvs words s = keep_round_line name.Ipvs words s
keep_kind name.Sysctl words s = keep_round_line name.Sysctl words s
keep_kind name.Incoming words s = keep_round_line name.Incoming words s
keep_kind name.Outgoing words s = keep_round_line name.Outgoing words s
keep_kind name.Sync words s = keep_round_line name.Sync words s
keep_kind name.List words s = keep_round_line name.List words s
keep_kind name.Conns words s = keep_round_line name.Conns words s
keep_kind name.Save words s = keep_round_line name.Save words s
keep_kind name.Icmp words s = keep_round_line name.Icmp words s

abbrev placed : List (List ℕ) → ScriptRead → LineName → Result ScriptRead ScriptCause
placed words s kind = checked_place kind s >>= (λ (_ : Unit {0}). take_kind kind words s)

keep_words : (words : List (List ℕ)) (s : ScriptRead) → Keeps s (take_line_words words s)
keep_words [] s t e named = along s t (ok_is s t e) named
keep_words (first ∷ words) s t e named =
    let kind = then_ok (or_cause cause.UnknownLine (line_named first)) (placed words s) t e in
    let place = then_ok (checked_place kind.0 s) (λ (_ : Unit {0}). take_kind kind.0 words s) t kind.2 in
    keep_kind kind.0 words s t place.2 named

keep_by : (skipped readable : Bool) (words : List (List ℕ)) (s : ScriptRead) → Keeps s (cond skipped (Ok s) (cond readable (take_line_words words s) (Err cause.UnknownLine)))
keep_by true readable words s t e named = along s t (ok_is s t e) named
keep_by false true words s t e named = keep_words words s t e named
keep_by false false words s t e named = cc

keep_line : (text : List ℕ) (s : ScriptRead) → Keeps s (take_line text s)
keep_line text s = keep_by (is_skipped (words_of text)) (is_readable text) (words_of text) s

at_line_ok : (number : ℕ) (r : Result ScriptRead ScriptCause) (t : ScriptRead) → at_line number r ≡ Ok t → r ≡ Ok t
at_line_ok number (Ok x) t e = ap (λ (y : ScriptRead). Ok y) (read_is x t e)
at_line_ok number (Err why) t e = cc

keep_lines : (number : ℕ) (texts : List (List ℕ)) (s t : ScriptRead) → take_lines number texts s ≡ Ok t → IsNamedRead s → IsNamedRead t
keep_lines number [] s t e named = along s t (read_is s t e) named
keep_lines number (text ∷ texts) s t e named =
    let next = then_ok (at_line number (take_line text s)) (take_lines (number + 1) texts) t e in
    keep_lines (number + 1) texts next.0 t next.2 (keep_line text s next.0 (at_line_ok number (take_line text s) next.0 next.1) named)

-- A SCRIPT

script_is : (s t : Script) → ◌≡◌ {A = Result Script BadLine} (Ok s) (Ok t) → s ≡ t
script_is s t e = cc

pub listings_named : (text : List ℕ) (script : Script) → script_of text ≡ Ok script → AreNamed script.rounds
listings_named text script e =
    let read = then_ok (take_lines 1 (lines_of text) empty_script) (λ (s : ScriptRead). Ok (script_read s)) script e in
    let P : Script → Type 0 = λ s. AreNamed s.rounds in
    subst P (script_is (script_read read.0) script read.2) (keep_lines 1 (lines_of text) empty_script read.0 read.1 tt)
