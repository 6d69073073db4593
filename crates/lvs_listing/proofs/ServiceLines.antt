-- The line of a service is read as the command that adds it.
use Rattle.std.proofs.Common.{◌≡◌, ℕ, ◌-◌, ◌^◌, ◌<◌, ◌≤◌, Bool, true, false, cond, ◌&&◌, not, ◌==◌, List, [], ◌∷◌, ◌++◌, length, zero, suc, ◌⊎◌, inl, inr, Option, Some, None, Result, Ok, refl, sym, ◌∙◌, ap, arith, lit<, append_assoc}
use Rattle.std.specs.Prelude.{codes}
use Rattle.std.specs.Fmt.{decimal, digits}
use Rattle.std.proofs.lemmas.Bool.{eqb-true, eq-eqb}
use Rattle.std.proofs.lemmas.Bool.Decides.{leb_tells}
use Rattle.std.proofs.lemmas.List.{append-nil}
use Rattle.std.proofs.Math.Dec.{leb}
use Rattle.std.proofs.Math.Nat.{one-le-pow}
use Rattle.lvs_types.specs.declared.script.WordsCause.TheVariants as cause
use Rattle.lvs_types.specs.declared.service.ServiceKey.{ServiceKey}
use Rattle.lvs_types.specs.declared.service.ServiceKey.TheVariants.{Net, Mark}
use Rattle.lvs_types.specs.declared.service.Proto.TheVariants.{Tcp, Udp}
use Rattle.lvs_types.specs.declared.service.Scheduler.{Scheduler}
use Rattle.lvs_types.specs.declared.service.Service.{Service}
use Rattle.lvs_types.specs.declared.command.Line.{Line}
use Rattle.lvs_types.specs.declared.command.Line.TheVariants.{Edit}
use Rattle.lvs_types.specs.declared.command.Command.TheVariants as command
use Rattle.lvs_types.specs.Schedulers.{scheduler_name}
use Rattle.lvs_types.proofs.LedBack.{scheduler_named-scheduler_name}
use Rattle.lvs_model.specs.declared.admin.CommandName.TheVariants.{AddService}
use Rattle.lvs_model.specs.declared.admin.OptionName.TheVariants as option
use Rattle.lvs_model.specs.declared.admin.Awaited.TheVariants.{AnOption, ValueOf}
use Rattle.lvs_model.specs.declared.admin.WordsRead.{WordsRead}
use Rattle.lvs_model.specs.declared.admin.BadWord.{BadWord}
use Rattle.lvs_model.specs.Refusals.{◌>>=◌, refused, needed, forbidden}
use Rattle.lvs_model.specs.Decimals.{mask_of}
use Rattle.lvs_model.specs.Report.{addr_text}
use Rattle.lvs_model.specs.Edits.{with_fresh_cursor, fresh_cursor}
use Rattle.lvs_model.specs.AdminWords.{is_tcp_service, take_option, take_value, take_words, take_all}
use Rattle.lvs_model.specs.AdminLines.{is_portless, settled, line_read, line_of_split}
use Rattle.lvs_model.specs.Listings.{endpoint_text, mask_addr, mask_text, persist_text, flag_text, options_text, key_words, service_words}
use Rattle.lvs_listing.specs.Savable.{IsSayableKey, IsSayablePersistence, IsSayableService}
use Rattle.lvs_listing.proofs.Numerals.{first_true, second_true, is_number-decimal, number_between-decimal}
use Rattle.lvs_listing.proofs.Wording.{IsWord, AreWords, line_with, IsCommandText, number_is_word, addr_is_word}
use Rattle.lvs_listing.proofs.Taking.{taken, waits, key_option, key_value, key_option_is_word, key_value_is_word, of_key, service_key_taken, scheduler_is_word}

-- MASKS

-- a test of each number up to a last one
abbrev all_upto : ℕ → (ℕ → Bool) → Bool
all_upto zero p = p 0
all_upto (suc n) p = p (suc n) && all_upto n p

last_or_below : (n k : ℕ) → k ≤ suc n → ((leb k n ≡ true) × (k ≤ n)) ⊎ ((leb k n ≡ false) × (n < k)) → (k ≡ suc n) ⊎ (k ≤ n)
last_or_below n k low (inl below) = inr below.1
last_or_below n k low (inr above) = let past : n < k = above.1 in inl (omega arith)

upto_by : (n k : ℕ) (p : ℕ → Bool) → (k ≡ suc n) ⊎ (k ≤ n) → (k ≤ n → p k ≡ true) → p (suc n) ≡ true → p k ≡ true
upto_by n k p (inl same) below last = ap p same ∙ last
upto_by n k p (inr low) below last = below low

upto_true : (n k : ℕ) (p : ℕ → Bool) → k ≤ n → all_upto n p ≡ true → p k ≡ true
upto_true zero k p low all = let none : k ≡ 0 = omega arith in ap p none ∙ all
upto_true (suc n) k p low all =
    upto_by n k p (last_or_below n k low (leb_tells k n)) (λ less. upto_true n k p less (second_true (p (suc n)) (all_upto n p) all)) (first_true (p (suc n)) (all_upto n p) all)

abbrev gives : Option ℕ → ℕ → Bool
gives None n = false
gives (Some m) n = m == n

gives_true : (o : Option ℕ) (n : ℕ) → gives o n ≡ true → o ≡ Some n
gives_true None n is = cc
gives_true (Some m) n is = ap Some (eqb-true m n is)

all_masks : all_upto 32 (λ bits. gives (mask_of (addr_text (mask_addr bits))) bits) ≡ true
unfolding digits
all_masks = refl

pub mask_of-mask_addr : (bits : ℕ) → bits ≤ 32 → mask_of (addr_text (mask_addr bits)) ≡ Some bits
mask_of-mask_addr bits low = gives_true (mask_of (addr_text (mask_addr bits))) bits (upto_true 32 bits (λ bits. gives (mask_of (addr_text (mask_addr bits))) bits) low all_masks)

abbrev same_test : Bool → Bool → Bool
same_test true b = b
same_test false b = not b

same_test_true : (a b : Bool) → same_test a b ≡ true → a ≡ b
same_test_true true true is = refl
same_test_true true false is = cc
same_test_true false true is = cc
same_test_true false false is = refl

all_full : all_upto 32 (λ bits. same_test ((mask_addr bits).number == 4294967295) (bits == 32)) ≡ true
all_full = refl

pub full_mask : (bits : ℕ) → bits ≤ 32 → ((mask_addr bits).number == 4294967295) ≡ (bits == 32)
full_mask bits low = same_test_true ((mask_addr bits).number == 4294967295) (bits == 32) (upto_true 32 bits (λ bits. same_test ((mask_addr bits).number == 4294967295) (bits == 32)) low all_full)

mask_small : (bits : ℕ) → (mask_addr bits).number < 2 ^ 32
mask_small bits =
    let some : 1 ≤ 2 ^ (32 - bits) = one-le-pow (32 - bits) 2 (lit< tt) in
    omega arith

-- WORDS

abbrev flag_words : Bool → List (List ℕ)
flag_words true = codes "-o" ∷ []
flag_words false = []

-- the words behind the scheduler's name, by whether the mask is the full one
abbrev tail_words : Option ℕ → Bool → ℕ → Bool → List (List ℕ)
tail_words None full bits one_packet = flag_words one_packet
tail_words (Some seconds) true bits one_packet = codes "-p" ∷ decimal seconds ∷ flag_words one_packet
tail_words (Some seconds) false bits one_packet = codes "-p" ∷ decimal seconds ∷ codes "-M" ∷ addr_text (mask_addr bits) ∷ flag_words one_packet

abbrev other_words : ServiceKey → Scheduler → List (List ℕ) → List (List ℕ)
other_words key scheduler tail = key_option key ∷ key_value key ∷ codes "-s" ∷ scheduler_name scheduler ∷ tail

flags_are_words : (one_packet : Bool) → AreWords (flag_words one_packet)
flags_are_words true = (record { full = refl; graphic = refl; whole = refl }, tt)
flags_are_words false = tt

literal_p : IsWord (codes "-p")
literal_p = record { full = refl; graphic = refl; whole = refl }

literal_m : IsWord (codes "-M")
literal_m = record { full = refl; graphic = refl; whole = refl }

literal_s : IsWord (codes "-s")
literal_s = record { full = refl; graphic = refl; whole = refl }

tail_are_words : (persist : Option ℕ) (full : Bool) (bits : ℕ) (one_packet portless : Bool) → IsSayablePersistence persist bits portless → AreWords (tail_words persist full bits one_packet)
tail_are_words None full bits one_packet portless said = flags_are_words one_packet
tail_are_words (Some seconds) true bits one_packet portless said =
    let high : seconds ≤ 2678400 = said.1 in (literal_p, (number_is_word seconds (omega arith), flags_are_words one_packet))
tail_are_words (Some seconds) false bits one_packet portless said =
    let high : seconds ≤ 2678400 = said.1 in
    (literal_p, (number_is_word seconds (omega arith), (literal_m, (addr_is_word (mask_addr bits) (mask_small bits), flags_are_words one_packet))))

-- READING

-- what is read up to the scheduler's name
abbrev with_scheduler : ServiceKey → Scheduler → WordsRead
with_scheduler key scheduler = record (of_key AddService key) { scheduler = Some scheduler }

scheduler_taken : (key : ServiceKey) (scheduler : Scheduler) (rest : List (List ℕ)) → take_words 3 (codes "-s" ∷ scheduler_name scheduler ∷ rest) (of_key AddService key) ≡ take_words 5 rest (with_scheduler key scheduler)
scheduler_taken key scheduler rest =
    taken 3 (codes "-s") (scheduler_name scheduler ∷ rest) (of_key AddService key) (waits option.Scheduling (of_key AddService key)) refl
    ∙ taken 4 (scheduler_name scheduler) rest (waits option.Scheduling (of_key AddService key)) (with_scheduler key scheduler)
    (ap (λ (given : Option Scheduler). needed 4 cause.BadScheduler given >>= (λ (s : Scheduler). Ok (record (of_key AddService key) { scheduler = Some s; awaited = AnOption }))) (scheduler_named-scheduler_name scheduler))

abbrev with_persist : ℕ → WordsRead → WordsRead
with_persist seconds r = record r { persist = Some seconds }

persist_taken : (key : ServiceKey) (scheduler : Scheduler) (seconds : ℕ) (rest : List (List ℕ)) → 1 ≤ seconds → seconds ≤ 2678400 → take_words 5 (codes "-p" ∷ decimal seconds ∷ rest) (with_scheduler key scheduler) ≡ take_words 7 rest (with_persist seconds (with_scheduler key scheduler))
persist_taken key scheduler seconds rest low high =
    let before : WordsRead = record (with_scheduler key scheduler) { persist = Some 300; awaited = ValueOf option.Persistent } in
    taken 5 (codes "-p") (decimal seconds ∷ rest) (with_scheduler key scheduler) before refl
    ∙ taken 6 (decimal seconds) rest before (with_persist seconds (with_scheduler key scheduler))
    (ap (λ (b : Bool). cond b (take_value 6 (decimal seconds) option.Persistent before) (take_option 6 (decimal seconds) (record before { awaited = AnOption }))) (is_number-decimal seconds (omega arith))
    ∙ ap (λ (given : Option ℕ). needed 6 cause.BadNumber given >>= (λ (seconds : ℕ). Ok (record before { persist = Some seconds; awaited = AnOption }))) (number_between-decimal 1 2678400 seconds low high (lit< tt)))

abbrev with_mask : ℕ → WordsRead → WordsRead
with_mask bits r = record r { netmask_at = Some 7; mask_bits = Some bits }

mask_taken : (key : ServiceKey) (scheduler : Scheduler) (seconds bits : ℕ) (rest : List (List ℕ)) → bits ≤ 32 → take_words 7 (codes "-M" ∷ addr_text (mask_addr bits) ∷ rest) (with_persist seconds (with_scheduler key scheduler)) ≡ take_words 9 rest (with_mask bits (with_persist seconds (with_scheduler key scheduler)))
mask_taken key scheduler seconds bits rest low =
    let before : WordsRead = record (with_persist seconds (with_scheduler key scheduler)) { netmask_at = Some 7; awaited = ValueOf option.Netmask } in
    taken 7 (codes "-M") (addr_text (mask_addr bits) ∷ rest) (with_persist seconds (with_scheduler key scheduler)) before refl
    ∙ taken 8 (addr_text (mask_addr bits)) rest before (with_mask bits (with_persist seconds (with_scheduler key scheduler)))
    (ap (λ (given : Option ℕ). needed 8 cause.BadAddress given >>= (λ (bits : ℕ). Ok (record before { mask_bits = Some bits; awaited = AnOption }))) (mask_of-mask_addr bits low))

abbrev flag_at : ℕ → Bool → Option ℕ
flag_at at true = Some at
flag_at at false = None

-- all that is read of a service's line
abbrev all_read : ServiceKey → Scheduler → Option ℕ → Bool → ℕ → Bool → WordsRead
all_read key scheduler None full bits one_packet = record (with_scheduler key scheduler) { one_packet_at = flag_at 5 one_packet }
all_read key scheduler (Some seconds) true bits one_packet = record (with_persist seconds (with_scheduler key scheduler)) { one_packet_at = flag_at 7 one_packet }
all_read key scheduler (Some seconds) false bits one_packet = record (with_mask bits (with_persist seconds (with_scheduler key scheduler))) { one_packet_at = flag_at 9 one_packet }

tail_taken : (key : ServiceKey) (scheduler : Scheduler) (persist : Option ℕ) (full : Bool) (bits : ℕ) (one_packet portless : Bool) → IsSayablePersistence persist bits portless → take_words 5 (tail_words persist full bits one_packet) (with_scheduler key scheduler) ≡ Ok (all_read key scheduler persist full bits one_packet)
tail_taken key scheduler None full bits true portless said = refl
tail_taken key scheduler None full bits false portless said = refl
tail_taken key scheduler (Some seconds) true bits true portless said = persist_taken key scheduler seconds (codes "-o" ∷ []) said.0 said.1
tail_taken key scheduler (Some seconds) true bits false portless said = persist_taken key scheduler seconds [] said.0 said.1
tail_taken key scheduler (Some seconds) false bits true portless said =
    persist_taken key scheduler seconds (codes "-M" ∷ addr_text (mask_addr bits) ∷ codes "-o" ∷ []) said.0 said.1 ∙ mask_taken key scheduler seconds bits (codes "-o" ∷ []) said.2
tail_taken key scheduler (Some seconds) false bits false portless said =
    persist_taken key scheduler seconds (codes "-M" ∷ addr_text (mask_addr bits) ∷ []) said.0 said.1 ∙ mask_taken key scheduler seconds bits [] said.2

pub service_taken : (key : ServiceKey) (scheduler : Scheduler) (persist : Option ℕ) (full : Bool) (bits : ℕ) (one_packet : Bool) → IsSayableKey key → IsSayablePersistence persist bits (is_portless key) → take_all (codes "-A" ∷ other_words key scheduler (tail_words persist full bits one_packet)) ≡ Ok (all_read key scheduler persist full bits one_packet)
service_taken key scheduler persist full bits one_packet said lasts =
    service_key_taken key (codes "-s" ∷ scheduler_name scheduler ∷ tail_words persist full bits one_packet) said
    ∙ scheduler_taken key scheduler (tail_words persist full bits one_packet)
    ∙ tail_taken key scheduler persist full bits one_packet (is_portless key) lasts

-- AFTER THE LAST WORD

abbrev finished : Result (Unit {0}) BadWord → Result (Unit {0}) BadWord → Service → Result Line BadWord
finished first second service = (first >>= (λ (_ : Unit {0}). second >>= (λ (_ : Unit {0}). Ok service))) >>= (λ (s : Service). Ok (Edit (command.AddService s)))

finished_ok : (first second : Result (Unit {0}) BadWord) (service : Service) → first ≡ Ok tt → second ≡ Ok tt → finished first second service ≡ Ok (Edit (command.AddService service))
finished_ok first second service a b = ap (λ (x : Result (Unit {0}) BadWord). finished x second service) a ∙ ap (λ (x : Result (Unit {0}) BadWord). finished (Ok tt) x service) b

abbrev one_packet_check : Bool → Option ℕ → Result (Unit {0}) BadWord
one_packet_check tcp at = cond tcp (forbidden cause.Conflict at) (Ok tt)

one_packet_ok : (tcp one_packet : Bool) (at : ℕ) → (tcp && one_packet) ≡ false → one_packet_check tcp (flag_at at one_packet) ≡ Ok tt
one_packet_ok true true at not_both = cc
one_packet_ok true false at not_both = refl
one_packet_ok false true at not_both = refl
one_packet_ok false false at not_both = refl

abbrev port_check : Bool → Bool → Result (Unit {0}) BadWord
port_check portless lasts = cond (portless && not lasts) (refused 2 cause.ZeroPort) (Ok tt)

port_ok : (portless : Bool) → port_check portless true ≡ Ok tt
port_ok true = refl
port_ok false = refl

-- from what was read to the line
abbrev line_from : ℕ → Result WordsRead BadWord → Result Line BadWord
line_from count read = read >>= (λ (r : WordsRead). settled count r >>= (λ (_ : Unit {0}). line_read count r r.command))

abbrev given_service : ServiceKey → Scheduler → Option ℕ → ℕ → Bool → Service
given_service key scheduler persist bits one_packet = record { key = key; scheduler = scheduler; persist = persist; mask_bits = bits; one_packet = one_packet; cursor = fresh_cursor }

abbrev added : Service → Result Line BadWord
added service = Ok (Edit (command.AddService service))

line_end : (count : ℕ) (key : ServiceKey) (scheduler : Scheduler) (persist : Option ℕ) (full : Bool) (bits : ℕ) (one_packet : Bool) → IsSayablePersistence persist bits (is_portless key) → (is_tcp_service key && one_packet) ≡ false → (full ≡ true → bits ≡ 32) → line_from count (Ok (all_read key scheduler persist full bits one_packet)) ≡ added (given_service key scheduler persist bits one_packet)
line_end count key scheduler None full bits true said tcp is =
    finished_ok (one_packet_check (is_tcp_service key) (Some 5)) (port_check (is_portless key) false) (given_service key scheduler None 32 true) (one_packet_ok (is_tcp_service key) true 5 tcp) (ap (λ (b : Bool). port_check b false) said.1)
    ∙ ap (λ (n : ℕ). added (given_service key scheduler None n true)) (sym said.0)
line_end count key scheduler None full bits false said tcp is =
    finished_ok (one_packet_check (is_tcp_service key) None) (port_check (is_portless key) false) (given_service key scheduler None 32 false) (one_packet_ok (is_tcp_service key) false 5 tcp) (ap (λ (b : Bool). port_check b false) said.1)
    ∙ ap (λ (n : ℕ). added (given_service key scheduler None n false)) (sym said.0)
line_end count key scheduler (Some seconds) true bits true said tcp is =
    finished_ok (one_packet_check (is_tcp_service key) (Some 7)) (port_check (is_portless key) true) (given_service key scheduler (Some seconds) 32 true) (one_packet_ok (is_tcp_service key) true 7 tcp) (port_ok (is_portless key))
    ∙ ap (λ (n : ℕ). added (given_service key scheduler (Some seconds) n true)) (sym (is refl))
line_end count key scheduler (Some seconds) true bits false said tcp is =
    finished_ok (one_packet_check (is_tcp_service key) None) (port_check (is_portless key) true) (given_service key scheduler (Some seconds) 32 false) (one_packet_ok (is_tcp_service key) false 7 tcp) (port_ok (is_portless key))
    ∙ ap (λ (n : ℕ). added (given_service key scheduler (Some seconds) n false)) (sym (is refl))
line_end count key scheduler (Some seconds) false bits true said tcp is =
    finished_ok (one_packet_check (is_tcp_service key) (Some 9)) (port_check (is_portless key) true) (given_service key scheduler (Some seconds) bits true) (one_packet_ok (is_tcp_service key) true 9 tcp) (port_ok (is_portless key))
line_end count key scheduler (Some seconds) false bits false said tcp is =
    finished_ok (one_packet_check (is_tcp_service key) None) (port_check (is_portless key) true) (given_service key scheduler (Some seconds) bits false) (one_packet_ok (is_tcp_service key) false 9 tcp) (port_ok (is_portless key))

service_read : (key : ServiceKey) (scheduler : Scheduler) (persist : Option ℕ) (full : Bool) (bits : ℕ) (one_packet : Bool) → IsSayableKey key → IsSayablePersistence persist bits (is_portless key) → (is_tcp_service key && one_packet) ≡ false → (full ≡ true → bits ≡ 32) → line_of_split (codes "-A" ∷ other_words key scheduler (tail_words persist full bits one_packet)) ≡ added (given_service key scheduler persist bits one_packet)
service_read key scheduler persist full bits one_packet said lasts tcp is =
    ap (line_from (length (codes "-A" ∷ other_words key scheduler (tail_words persist full bits one_packet)))) (service_taken key scheduler persist full bits one_packet said lasts)
    ∙ line_end (length (codes "-A" ∷ other_words key scheduler (tail_words persist full bits one_packet))) key scheduler persist full bits one_packet lasts tcp is

-- THE TEXT

-- what is written behind the scheduler's name
abbrev tail_text : Option ℕ → Bool → ℕ → Bool → List ℕ
tail_text persist full bits one_packet = persist_text (codes " -p ") persist ++ cond full [] (codes " -M " ++ addr_text (mask_addr bits)) ++ flag_text (codes " -o") one_packet

lasting_spelled : (name seconds : List ℕ) → name ++ (codes " -p " ++ seconds ++ [] ++ []) ≡ line_with name (codes "-p" ∷ seconds ∷ [])
lasting_spelled name seconds = ap (λ (rest : List ℕ). name ++ 32 ∷ 45 ∷ 112 ∷ 32 ∷ rest) (append-nil (seconds ++ []) ∙ append-nil seconds)

lasting_ops_spelled : (name seconds : List ℕ) → name ++ (codes " -p " ++ seconds ++ [] ++ codes " -o") ≡ line_with name (codes "-p" ∷ seconds ∷ codes "-o" ∷ [])
lasting_ops_spelled name seconds = simp append_assoc

masked_spelled : (name seconds mask : List ℕ) → name ++ (codes " -p " ++ seconds ++ (codes " -M " ++ mask) ++ []) ≡ line_with name (codes "-p" ∷ seconds ∷ codes "-M" ∷ mask ∷ [])
masked_spelled name seconds mask = simp (append_assoc, append-nil)

masked_ops_spelled : (name seconds mask : List ℕ) → name ++ (codes " -p " ++ seconds ++ (codes " -M " ++ mask) ++ codes " -o") ≡ line_with name (codes "-p" ∷ seconds ∷ codes "-M" ∷ mask ∷ codes "-o" ∷ [])
masked_ops_spelled name seconds mask = simp append_assoc

tail_spelled : (name : List ℕ) (persist : Option ℕ) (full : Bool) (bits : ℕ) (one_packet : Bool) → (persist ≡ None → full ≡ true) → name ++ tail_text persist full bits one_packet ≡ line_with name (tail_words persist full bits one_packet)
unfolding persist_text flag_text
tail_spelled name None true bits true none = refl
tail_spelled name None true bits false none = append-nil name
tail_spelled name None false bits one_packet none = let wrong : false ≡ true = none refl in cc
tail_spelled name (Some seconds) true bits true none = lasting_ops_spelled name (decimal seconds)
tail_spelled name (Some seconds) true bits false none = lasting_spelled name (decimal seconds)
tail_spelled name (Some seconds) false bits true none = masked_ops_spelled name (decimal seconds) (addr_text (mask_addr bits))
tail_spelled name (Some seconds) false bits false none = masked_spelled name (decimal seconds) (addr_text (mask_addr bits))

options_spelled : (s : Service) → s.mask_bits ≤ 32 → options_text (codes " -p ") (codes " -M ") (codes " -o") s ≡ tail_text s.persist (s.mask_bits == 32) s.mask_bits s.one_packet
unfolding options_text mask_text
options_spelled s low =
    ap (λ (full : Bool). tail_text s.persist full s.mask_bits s.one_packet) (full_mask s.mask_bits low)

key_spelled : (key : ServiceKey) (rest : List ℕ) → codes "-A " ++ key_words key ++ codes " -s " ++ rest ≡ codes "-A" ++ 32 ∷ (key_option key ++ 32 ∷ (key_value key ++ 32 ∷ (codes "-s" ++ 32 ∷ rest)))
unfolding key_words
key_spelled (Net Tcp addr port) rest = ap (λ (more : List ℕ). 45 ∷ 65 ∷ 32 ∷ 45 ∷ 116 ∷ 32 ∷ more) (append_assoc (endpoint_text addr port) (codes " -s ") rest)
key_spelled (Net Udp addr port) rest = ap (λ (more : List ℕ). 45 ∷ 65 ∷ 32 ∷ 45 ∷ 117 ∷ 32 ∷ more) (append_assoc (endpoint_text addr port) (codes " -s ") rest)
key_spelled (Mark mark) rest = ap (λ (more : List ℕ). 45 ∷ 65 ∷ 32 ∷ 45 ∷ 102 ∷ 32 ∷ more) (append_assoc (decimal mark) (codes " -s ") rest)

mask_low : (persist : Option ℕ) (bits : ℕ) (portless : Bool) → IsSayablePersistence persist bits portless → bits ≤ 32
mask_low None bits portless said = let is : bits ≡ 32 = said.0 in omega arith
mask_low (Some seconds) bits portless said = said.2

full_unless : (persist : Option ℕ) (bits : ℕ) (portless : Bool) → IsSayablePersistence persist bits portless → persist ≡ None → (bits == 32) ≡ true
full_unless None bits portless said is = eq-eqb bits 32 said.0
full_unless (Some seconds) bits portless said is = cc

words_spelled : (s : Service) → IsSayableService s → service_words s ≡ line_with (codes "-A") (other_words s.key s.scheduler (tail_words s.persist (s.mask_bits == 32) s.mask_bits s.one_packet)) ++ 10 ∷ []
words_spelled s said =
    let name = scheduler_name s.scheduler in
    let tail = tail_text s.persist (s.mask_bits == 32) s.mask_bits s.one_packet in
    let low = mask_low s.persist s.mask_bits (is_portless s.key) said.persistence in
    let key : List ℕ = codes "-A " ++ key_words s.key ++ codes " -s " in
    ap (λ (options : List ℕ). key ++ name ++ options ++ 10 ∷ []) (options_spelled s low)
    ∙ ap (λ (text : List ℕ). text ++ 10 ∷ [])
    (append_assoc key name tail
    ∙ ap (λ (more : List ℕ). key ++ more) (tail_spelled name s.persist (s.mask_bits == 32) s.mask_bits s.one_packet (full_unless s.persist s.mask_bits (is_portless s.key) said.persistence))
    ∙ key_spelled s.key (line_with name (tail_words s.persist (s.mask_bits == 32) s.mask_bits s.one_packet)))

pub service_text : (s : Service) → IsSayableService s → IsCommandText (service_words s) (command.AddService (with_fresh_cursor s))
service_text s said = record {
  first = codes "-A";
  others = other_words s.key s.scheduler (tail_words s.persist (s.mask_bits == 32) s.mask_bits s.one_packet);
  spelled = words_spelled s said;
  first_word = record { full = refl; graphic = refl; whole = refl };
  other_words = (key_option_is_word s.key, (key_value_is_word s.key said.key, (literal_s, (scheduler_is_word s.scheduler, tail_are_words s.persist (s.mask_bits == 32) s.mask_bits s.one_packet (is_portless s.key) said.persistence))));
  plain = refl;
  read = service_read s.key s.scheduler s.persist (s.mask_bits == 32) s.mask_bits s.one_packet said.key said.persistence said.one_packet (eqb-true s.mask_bits 32);
}
