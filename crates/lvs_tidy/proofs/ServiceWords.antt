-- The words of a service are read as the command that gives it.
use Rattle.std.proofs.Common.{◌≡◌, ℕ, ◌+◌, ◌-◌, ◌^◌, ◌<◌, ◌≤◌, Bool, true, false, cond, ◌&&◌, not, ◌==◌, List, [], ◌∷◌, ◌++◌, length, Option, Some, None, Result, Ok, refl, sym, ◌∙◌, ap, arith, lit<, is_some}
use Rattle.std.specs.Prelude.{codes, unwrap_or}
use Rattle.std.specs.Fmt.{decimal}
use Rattle.std.proofs.lemmas.Bool.{eqb-true, eq-eqb}
use Rattle.std.proofs.Math.Nat.{one-le-pow}
use Rattle.lvs_types.specs.declared.script.WordsCause.TheVariants as cause
use Rattle.lvs_types.specs.declared.service.ServiceKey.{ServiceKey}
use Rattle.lvs_types.specs.declared.service.Scheduler.{Scheduler}
use Rattle.lvs_types.specs.declared.service.Service.{Service}
use Rattle.lvs_types.specs.declared.service.Cursor.{Cursor}
use Rattle.lvs_types.specs.declared.command.Line.{Line}
use Rattle.lvs_types.specs.declared.command.Line.TheVariants.{Edit}
use Rattle.lvs_types.specs.declared.command.Command.{Command}
use Rattle.lvs_types.specs.declared.command.Command.TheVariants as command
use Rattle.lvs_types.specs.Schedulers.{scheduler_name}
use Rattle.lvs_types.proofs.LedBack.{scheduler_named-scheduler_name}
use Rattle.lvs_model.specs.declared.admin.CommandName.{CommandName}
use Rattle.lvs_model.specs.declared.admin.CommandName.TheVariants.{AddService, EditService}
use Rattle.lvs_model.specs.declared.admin.OptionName.TheVariants as option
use Rattle.lvs_model.specs.declared.admin.Awaited.TheVariants.{AnOption, ValueOf}
use Rattle.lvs_model.specs.declared.admin.WordsRead.{WordsRead}
use Rattle.lvs_model.specs.declared.admin.BadWord.{BadWord}
use Rattle.lvs_model.specs.Refusals.{◌>>=◌, refused, needed, forbidden}
use Rattle.lvs_model.specs.Report.{addr_text}
use Rattle.lvs_model.specs.Edits.{fresh_cursor}
use Rattle.lvs_model.specs.AdminWords.{is_tcp_service, take_option, take_value, take_word, take_words, begun}
use Rattle.lvs_model.specs.AdminLines.{is_portless, settled, line_read, line_of_split}
use Rattle.lvs_model.specs.Listings.{mask_addr}
use Rattle.lvs_listing.specs.Savable.{IsSayablePersistence, IsSayableService}
use Rattle.lvs_listing.proofs.Numerals.{is_number-decimal, number_between-decimal}
use Rattle.lvs_listing.proofs.Wording.{AreWords, number_is_word, addr_is_word}
use Rattle.lvs_listing.proofs.Taking.{taken, waits, of_key, scheduler_is_word}
use Rattle.lvs_listing.proofs.ServiceLines.{mask_of-mask_addr}
use Rattle.lvs_tidy.specs.CommandWords.{key_option, key_value, persist_words, mask_words, one_packet_words, service_words}
use Rattle.lvs_tidy.proofs.Keys.{TakesKey, key_taken, option_is_word, value_is_word}

-- -A, or -E
abbrev pub named : Bool → CommandName
named false = AddService
named true = EditService

takes_key : (edit : Bool) → TakesKey (named edit)
takes_key false = record { tcp = refl; udp = refl; mark = refl }
takes_key true = record { tcp = refl; udp = refl; mark = refl }

-- WORDS

mask_small : (bits : ℕ) → (mask_addr bits).number < 2 ^ 32
mask_small bits =
    let some : 1 ≤ 2 ^ (32 - bits) = one-le-pow (32 - bits) 2 (lit< tt) in
    omega arith

-- the words of a mask, by whether it is the full one
abbrev mask_by : Bool → ℕ → List (List ℕ)
mask_by full bits = cond full [] (codes "-M" ∷ addr_text (mask_addr bits) ∷ [])

one_packet_is_word : (one_packet : Bool) → AreWords (one_packet_words one_packet)
one_packet_is_word true = (record { full = refl; graphic = refl; whole = refl }, tt)
one_packet_is_word false = tt

mask_is_word : (full : Bool) (bits : ℕ) (rest : List (List ℕ)) → AreWords rest → AreWords (mask_by full bits ++ rest)
mask_is_word true bits rest are = are
mask_is_word false bits rest are = (record { full = refl; graphic = refl; whole = refl }, (addr_is_word (mask_addr bits) (mask_small bits), are))

persist_is_word : (persist : Option ℕ) (bits : ℕ) (portless : Bool) (rest : List (List ℕ)) → IsSayablePersistence persist bits portless → AreWords rest → AreWords (persist_words persist ++ rest)
persist_is_word None bits portless rest said are = are
persist_is_word (Some seconds) bits portless rest said are =
    let high : seconds ≤ 2678400 = said.1 in (record { full = refl; graphic = refl; whole = refl }, (number_is_word seconds (omega arith), are))

pub service_are_words : (s : Service) → IsSayableService s → AreWords (service_words s)
service_are_words s said =
    let behind = persist_is_word s.persist s.mask_bits (is_portless s.key) (mask_words s.mask_bits ++ one_packet_words s.one_packet) said.persistence (mask_is_word (s.mask_bits == 32) s.mask_bits (one_packet_words s.one_packet) (one_packet_is_word s.one_packet)) in
    (option_is_word s.key, (value_is_word s.key said.key, (record { full = refl; graphic = refl; whole = refl }, (scheduler_is_word s.scheduler, behind))))

-- READING

-- what was read of a service's words
abbrev so_far : Bool → ServiceKey → Option Scheduler → Option ℕ → Option ℕ → Option ℕ → Option ℕ → WordsRead
so_far edit key scheduler persist netmask bits one_packet = record (of_key (named edit) key) { scheduler = scheduler; persist = persist; netmask_at = netmask; mask_bits = bits; one_packet_at = one_packet }

scheduler_option : (edit : Bool) (at : ℕ) (key : ServiceKey) → take_word at (codes "-s") (so_far edit key None None None None None) ≡ Ok (waits option.Scheduling (so_far edit key None None None None None))
scheduler_option false at key = refl
scheduler_option true at key = refl

scheduler_taken : (edit : Bool) (at : ℕ) (key : ServiceKey) (scheduler : Scheduler) (rest : List (List ℕ)) → take_words at (codes "-s" ∷ scheduler_name scheduler ∷ rest) (so_far edit key None None None None None) ≡ take_words (at + 1 + 1) rest (so_far edit key (Some scheduler) None None None None)
scheduler_taken edit at key scheduler rest =
    let before = so_far edit key None None None None None in
    taken at (codes "-s") (scheduler_name scheduler ∷ rest) before (waits option.Scheduling before) (scheduler_option edit at key)
    ∙ taken (at + 1) (scheduler_name scheduler) rest (waits option.Scheduling before) (so_far edit key (Some scheduler) None None None None)
    (ap (λ (given : Option Scheduler). needed (at + 1) cause.BadScheduler given >>= (λ (x : Scheduler). Ok (record before { scheduler = Some x; awaited = AnOption }))) (scheduler_named-scheduler_name scheduler))

-- the place behind the words of persistence
abbrev after_persist : Option ℕ → ℕ → ℕ
after_persist None at = at
after_persist (Some seconds) at = at + 1 + 1

-- persistence was asked for, and its seconds may come
abbrev may_last : Bool → ServiceKey → Scheduler → WordsRead
may_last edit key scheduler = record (so_far edit key (Some scheduler) (Some 300) None None None) { awaited = ValueOf option.Persistent }

persist_option : (edit : Bool) (at : ℕ) (key : ServiceKey) (scheduler : Scheduler) → take_word at (codes "-p") (so_far edit key (Some scheduler) None None None None) ≡ Ok (may_last edit key scheduler)
persist_option false at key scheduler = refl
persist_option true at key scheduler = refl

persist_taken : (edit : Bool) (at : ℕ) (key : ServiceKey) (scheduler : Scheduler) (persist : Option ℕ) (bits : ℕ) (portless : Bool) (rest : List (List ℕ)) → IsSayablePersistence persist bits portless → take_words at (persist_words persist ++ rest) (so_far edit key (Some scheduler) None None None None) ≡ take_words (after_persist persist at) rest (so_far edit key (Some scheduler) persist None None None)
persist_taken edit at key scheduler None bits portless rest said = refl
persist_taken edit at key scheduler (Some seconds) bits portless rest said =
    let low : 1 ≤ seconds = said.0 in
    let high : seconds ≤ 2678400 = said.1 in
    let before = may_last edit key scheduler in
    taken at (codes "-p") (decimal seconds ∷ rest) (so_far edit key (Some scheduler) None None None None) before (persist_option edit at key scheduler)
    ∙ taken (at + 1) (decimal seconds) rest before (so_far edit key (Some scheduler) (Some seconds) None None None)
    (ap (λ (b : Bool). cond b (take_value (at + 1) (decimal seconds) option.Persistent before) (take_option (at + 1) (decimal seconds) (record before { awaited = AnOption }))) (is_number-decimal seconds (omega arith))
    ∙ ap (λ (given : Option ℕ). needed (at + 1) cause.BadNumber given >>= (λ (n : ℕ). Ok (record before { persist = Some n; awaited = AnOption }))) (number_between-decimal 1 2678400 seconds low high (lit< tt)))

-- the place behind the words of a mask, where these stood, and the bits that they gave
abbrev after_mask : Bool → ℕ → ℕ
after_mask true at = at
after_mask false at = at + 1 + 1

abbrev place_unless : Bool → ℕ → Option ℕ
place_unless true at = None
place_unless false at = Some at

mask_option : (edit : Bool) (at : ℕ) (key : ServiceKey) (scheduler : Scheduler) (persist : Option ℕ) → take_word at (codes "-M") (so_far edit key (Some scheduler) persist None None None) ≡ Ok (waits option.Netmask (so_far edit key (Some scheduler) persist (Some at) None None))
mask_option false at key scheduler persist = refl
mask_option true at key scheduler persist = refl

mask_taken : (edit : Bool) (at : ℕ) (key : ServiceKey) (scheduler : Scheduler) (persist : Option ℕ) (full : Bool) (bits : ℕ) (rest : List (List ℕ)) → bits ≤ 32 → take_words at (mask_by full bits ++ rest) (so_far edit key (Some scheduler) persist None None None) ≡ take_words (after_mask full at) rest (so_far edit key (Some scheduler) persist (place_unless full at) (place_unless full bits) None)
mask_taken edit at key scheduler persist true bits rest low = refl
mask_taken edit at key scheduler persist false bits rest low =
    let before = waits option.Netmask (so_far edit key (Some scheduler) persist (Some at) None None) in
    taken at (codes "-M") (addr_text (mask_addr bits) ∷ rest) (so_far edit key (Some scheduler) persist None None None) before (mask_option edit at key scheduler persist)
    ∙ taken (at + 1) (addr_text (mask_addr bits)) rest before (so_far edit key (Some scheduler) persist (Some at) (Some bits) None)
    (ap (λ (given : Option ℕ). needed (at + 1) cause.BadAddress given >>= (λ (n : ℕ). Ok (record before { mask_bits = Some n; awaited = AnOption }))) (mask_of-mask_addr bits low))

abbrev place_where : Bool → ℕ → Option ℕ
place_where true at = Some at
place_where false at = None

one_packet_taken : (edit : Bool) (at : ℕ) (key : ServiceKey) (scheduler : Scheduler) (persist netmask bits : Option ℕ) (one_packet : Bool) → take_words at (one_packet_words one_packet) (so_far edit key (Some scheduler) persist netmask bits None) ≡ Ok (so_far edit key (Some scheduler) persist netmask bits (place_where one_packet at))
one_packet_taken false at key scheduler persist netmask bits true = refl
one_packet_taken true at key scheduler persist netmask bits true = refl
one_packet_taken edit at key scheduler persist netmask bits false = refl

-- where the words of a mask stand, and where -o does
abbrev mask_place : Option ℕ → ℕ
mask_place persist = after_persist persist 5

abbrev one_packet_place : Option ℕ → Bool → ℕ
one_packet_place persist full = after_mask full (mask_place persist)

abbrev all_read : Bool → Service → Bool → WordsRead
all_read edit s full = so_far edit s.key (Some s.scheduler) s.persist (place_unless full (mask_place s.persist)) (place_unless full s.mask_bits) (place_where s.one_packet (one_packet_place s.persist full))

mask_low : (persist : Option ℕ) (bits : ℕ) (portless : Bool) → IsSayablePersistence persist bits portless → bits ≤ 32
mask_low None bits portless said = let is : bits ≡ 32 = said.0 in omega arith
mask_low (Some seconds) bits portless said = said.2

service_taken : (edit : Bool) (s : Service) (full : Bool) → IsSayableService s → take_words 1 (key_option s.key ∷ key_value s.key ∷ codes "-s" ∷ scheduler_name s.scheduler ∷ (persist_words s.persist ++ (mask_by full s.mask_bits ++ one_packet_words s.one_packet))) (begun (named edit)) ≡ Ok (all_read edit s full)
service_taken edit s full said =
    let last = one_packet_words s.one_packet in
    let tail = mask_by full s.mask_bits ++ last in
    key_taken (named edit) s.key (codes "-s" ∷ scheduler_name s.scheduler ∷ (persist_words s.persist ++ tail)) (takes_key edit) said.key
    ∙ scheduler_taken edit 3 s.key s.scheduler (persist_words s.persist ++ tail)
    ∙ persist_taken edit 5 s.key s.scheduler s.persist s.mask_bits (is_portless s.key) tail said.persistence
    ∙ mask_taken edit (mask_place s.persist) s.key s.scheduler s.persist full s.mask_bits last (mask_low s.persist s.mask_bits (is_portless s.key) said.persistence)
    ∙ one_packet_taken edit (one_packet_place s.persist full) s.key s.scheduler s.persist (place_unless full (mask_place s.persist)) (place_unless full s.mask_bits) s.one_packet

-- AFTER THE LAST WORD

abbrev given : Bool → Service → Command
given false s = command.AddService s
given true s = command.EditService s

abbrev ok_given : Bool → Service → Result Line BadWord
ok_given edit s = Ok (Edit (given edit s))

abbrev line_from : ℕ → Result WordsRead BadWord → Result Line BadWord
line_from count read = read >>= (λ (r : WordsRead). settled count r >>= (λ (_ : Unit {0}). line_read count r r.command))

abbrev finished : Bool → Result (Unit {0}) BadWord → Result (Unit {0}) BadWord → Result (Unit {0}) BadWord → Service → Result Line BadWord
finished edit first second third service = (first >>= (λ (_ : Unit {0}). second >>= (λ (_ : Unit {0}). third >>= (λ (_ : Unit {0}). Ok service)))) >>= (λ (s : Service). Ok (Edit (given edit s)))

finished_ok : (edit : Bool) (first second third : Result (Unit {0}) BadWord) (service : Service) → first ≡ Ok tt → second ≡ Ok tt → third ≡ Ok tt → finished edit first second third service ≡ Ok (Edit (given edit service))
finished_ok edit first second third service a b c =
    ap (λ (x : Result (Unit {0}) BadWord). finished edit x second third service) a
    ∙ ap (λ (x : Result (Unit {0}) BadWord). finished edit (Ok tt) x third service) b
    ∙ ap (λ (x : Result (Unit {0}) BadWord). finished edit (Ok tt) (Ok tt) x service) c

abbrev mask_check : Option ℕ → Option ℕ → Result (Unit {0}) BadWord
mask_check persist netmask = cond (is_some persist) (Ok tt) (forbidden cause.Conflict netmask)

differ : (bits : ℕ) → bits ≡ 32 → (bits == 32) ≡ false → ⊥
differ bits is differs = let wrong : true ≡ false = sym (eq-eqb bits 32 is) ∙ differs in cc

mask_ok : (persist : Option ℕ) (bits at : ℕ) (portless full : Bool) → IsSayablePersistence persist bits portless → (bits == 32) ≡ full → mask_check persist (place_unless full at) ≡ Ok tt
mask_ok (Some seconds) bits at portless full said is = refl
mask_ok None bits at portless true said is = refl
mask_ok None bits at portless false said is = absurd (differ bits said.0 is)

abbrev one_packet_check : Bool → Option ℕ → Result (Unit {0}) BadWord
one_packet_check tcp at = cond tcp (forbidden cause.Conflict at) (Ok tt)

one_packet_ok : (tcp one_packet : Bool) (at : ℕ) → (tcp && one_packet) ≡ false → one_packet_check tcp (place_where one_packet at) ≡ Ok tt
one_packet_ok true true at not_both = cc
one_packet_ok true false at not_both = refl
one_packet_ok false true at not_both = refl
one_packet_ok false false at not_both = refl

abbrev port_check : Bool → Option ℕ → Result (Unit {0}) BadWord
port_check portless persist = cond (portless && not (is_some persist)) (refused 2 cause.ZeroPort) (Ok tt)

port_ok : (persist : Option ℕ) (bits : ℕ) (portless : Bool) → IsSayablePersistence persist bits portless → port_check portless persist ≡ Ok tt
port_ok None bits true said = cc
port_ok None bits false said = refl
port_ok (Some seconds) bits true said = refl
port_ok (Some seconds) bits false said = refl

abbrev given_service : Service → ℕ → Bool → Service
given_service s bits one_packet = record { key = s.key; scheduler = s.scheduler; persist = s.persist; mask_bits = bits; one_packet = one_packet; cursor = fresh_cursor }

read_end : (edit : Bool) (count : ℕ) (s : Service) (full : Bool) → line_from count (Ok (all_read edit s full)) ≡ finished edit (mask_check s.persist (place_unless full (mask_place s.persist))) (one_packet_check (is_tcp_service s.key) (place_where s.one_packet (one_packet_place s.persist full))) (port_check (is_portless s.key) s.persist) (given_service s (unwrap_or (place_unless full s.mask_bits) 32) (is_some (place_where s.one_packet (one_packet_place s.persist full))))
read_end false count s full = refl
read_end true count s full = refl

bits_again : (full : Bool) (bits : ℕ) → (bits == 32) ≡ full → unwrap_or (place_unless full bits) 32 ≡ bits
bits_again true bits is = sym (eqb-true bits 32 is)
bits_again false bits is = refl

flag_again : (one_packet : Bool) (at : ℕ) → is_some (place_where one_packet at) ≡ one_packet
flag_again true at = refl
flag_again false at = refl

cursor_again : (s : Service) → s.cursor ≡ fresh_cursor → given_service s s.mask_bits s.one_packet ≡ s
cursor_again s fresh = ap (λ (x : Cursor). let made : Service = record { key = s.key; scheduler = s.scheduler; persist = s.persist; mask_bits = s.mask_bits; one_packet = s.one_packet; cursor = x } in made) (sym fresh)

service_end : (edit : Bool) (count : ℕ) (s : Service) (full : Bool) → (s.mask_bits == 32) ≡ full → IsSayableService s → s.cursor ≡ fresh_cursor → line_from count (Ok (all_read edit s full)) ≡ Ok (Edit (given edit s))
service_end edit count s full is said fresh =
    let at = one_packet_place s.persist full in
    read_end edit count s full
    ∙ finished_ok edit (mask_check s.persist (place_unless full (mask_place s.persist))) (one_packet_check (is_tcp_service s.key) (place_where s.one_packet at)) (port_check (is_portless s.key) s.persist) (given_service s (unwrap_or (place_unless full s.mask_bits) 32) (is_some (place_where s.one_packet at)))
    (mask_ok s.persist s.mask_bits (mask_place s.persist) (is_portless s.key) full said.persistence is)
    (one_packet_ok (is_tcp_service s.key) s.one_packet at said.one_packet)
    (port_ok s.persist s.mask_bits (is_portless s.key) said.persistence)
    ∙ ap (λ (n : ℕ). ok_given edit (given_service s n (is_some (place_where s.one_packet at)))) (bits_again full s.mask_bits is)
    ∙ ap (λ (b : Bool). ok_given edit (given_service s s.mask_bits b)) (flag_again s.one_packet at)
    ∙ ap (ok_given edit) (cursor_again s fresh)

pub added_again : (s : Service) → IsSayableService s → s.cursor ≡ fresh_cursor → line_of_split (codes "-A" ∷ service_words s) ≡ Ok (Edit (command.AddService s))
added_again s said fresh =
    ap (line_from (length (codes "-A" ∷ service_words s))) (service_taken false s (s.mask_bits == 32) said)
    ∙ service_end false (length (codes "-A" ∷ service_words s)) s (s.mask_bits == 32) refl said fresh

pub edited_again : (s : Service) → IsSayableService s → s.cursor ≡ fresh_cursor → line_of_split (codes "-E" ∷ service_words s) ≡ Ok (Edit (command.EditService s))
edited_again s said fresh =
    ap (line_from (length (codes "-E" ∷ service_words s))) (service_taken true s (s.mask_bits == 32) said)
    ∙ service_end true (length (codes "-E" ∷ service_words s)) s (s.mask_bits == 32) refl said fresh
