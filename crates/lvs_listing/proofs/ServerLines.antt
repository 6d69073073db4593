-- The line of a server is read as the command that adds it.
use Rattle.std.proofs.Common.{◌≡◌, ℕ, ◌^◌, ◌<◌, ◌≤◌, Bool, true, false, cond, ◌==◌, List, [], ◌∷◌, ◌++◌, length, Option, Some, None, Result, Ok, refl, sym, ◌∙◌, ap, arith, lit<, append_assoc}
use Rattle.std.specs.Prelude.{codes}
use Rattle.std.specs.Fmt.{decimal}
use Rattle.std.proofs.lemmas.Bool.{eqb-true}
use Rattle.std.proofs.lemmas.List.{append-nil}
use Rattle.lvs_types.specs.declared.script.WordsCause.TheVariants as cause
use Rattle.lvs_types.specs.declared.service.ServiceKey.{ServiceKey}
use Rattle.lvs_types.specs.declared.service.ServiceKey.TheVariants.{Net, Mark}
use Rattle.lvs_types.specs.declared.service.Proto.TheVariants.{Tcp, Udp}
use Rattle.lvs_types.specs.declared.service.Method.{Method}
use Rattle.lvs_types.specs.declared.service.Method.TheVariants.{Masq, Tunnel, Direct}
use Rattle.lvs_types.specs.declared.dest.DestSpec.{DestSpec}
use Rattle.lvs_types.specs.declared.command.Line.{Line}
use Rattle.lvs_types.specs.declared.command.Line.TheVariants.{Edit}
use Rattle.lvs_types.specs.declared.command.Command.TheVariants as command
use Rattle.lvs_model.specs.declared.admin.CommandName.TheVariants.{AddServer}
use Rattle.lvs_model.specs.declared.admin.OptionName.TheVariants as option
use Rattle.lvs_model.specs.declared.admin.Awaited.TheVariants.{AnOption}
use Rattle.lvs_model.specs.declared.admin.GivenEndpoint.{GivenEndpoint}
use Rattle.lvs_model.specs.declared.admin.WordsRead.{WordsRead}
use Rattle.lvs_model.specs.declared.admin.BadWord.{BadWord}
use Rattle.lvs_model.specs.Refusals.{◌>>=◌, needed}
use Rattle.lvs_model.specs.Same.{method_eq}
use Rattle.lvs_model.specs.AdminWords.{take_words, take_all}
use Rattle.lvs_model.specs.AdminLines.{settled, service_port, server_port, line_read, line_of_split}
use Rattle.lvs_model.specs.Listings.{endpoint_text, key_words, method_word, threshold_text, server_words}
use Rattle.lvs_listing.specs.Savable.{IsSayableKey, IsSayableServer}
use Rattle.lvs_listing.proofs.Numerals.{number_between-decimal, endpoint_of-endpoint_text}
use Rattle.lvs_listing.proofs.Wording.{IsWord, AreWords, line_with, IsCommandText, number_is_word, endpoint_is_word}
use Rattle.lvs_listing.proofs.Taking.{taken, waits, key_option, key_value, key_option_is_word, key_value_is_word, of_key, server_key_taken}

-- WORDS

-- an option with a threshold, by whether it is 0
abbrev threshold_words : List ℕ → Bool → ℕ → List (List ℕ)
threshold_words word true threshold = []
threshold_words word false threshold = word ∷ decimal threshold ∷ []

abbrev limits : Bool → ℕ → Bool → ℕ → List (List ℕ)
limits no_upper upper no_lower lower = threshold_words (codes "-x") no_upper upper ++ threshold_words (codes "-y") no_lower lower

abbrev other_words : ServiceKey → DestSpec → Bool → Bool → List (List ℕ)
other_words key d no_upper no_lower =
    key_option key ∷ key_value key ∷ codes "-r" ∷ endpoint_text d.addr d.port ∷ method_word d.method ∷ codes "-w" ∷ decimal d.weight ∷ limits no_upper d.upper no_lower d.lower

method_is_word : (method : Method) → IsWord (method_word method)
method_is_word Masq = record { full = refl; graphic = refl; whole = refl }
method_is_word Tunnel = record { full = refl; graphic = refl; whole = refl }
method_is_word Direct = record { full = refl; graphic = refl; whole = refl }

limits_are_words : (no_upper : Bool) (upper : ℕ) (no_lower : Bool) (lower : ℕ) → upper < 2 ^ 64 → lower < 2 ^ 64 → AreWords (limits no_upper upper no_lower lower)
limits_are_words true upper true lower high low = tt
limits_are_words true upper false lower high low = (record { full = refl; graphic = refl; whole = refl }, (number_is_word lower low, tt))
limits_are_words false upper true lower high low = (record { full = refl; graphic = refl; whole = refl }, (number_is_word upper high, tt))
limits_are_words false upper false lower high low =
    (record { full = refl; graphic = refl; whole = refl }, (number_is_word upper high, (record { full = refl; graphic = refl; whole = refl }, (number_is_word lower low, tt))))

-- READING

abbrev with_server : ServiceKey → DestSpec → WordsRead
with_server key d = record (of_key AddServer key) { server = Some (record { addr = d.addr; port = Some d.port }) }

server_taken : (key : ServiceKey) (d : DestSpec) (rest : List (List ℕ)) → d.addr.number < 2 ^ 32 → d.port < 2 ^ 16 → take_words 3 (codes "-r" ∷ endpoint_text d.addr d.port ∷ rest) (of_key AddServer key) ≡ take_words 5 rest (with_server key d)
server_taken key d rest small short =
    taken 3 (codes "-r") (endpoint_text d.addr d.port ∷ rest) (of_key AddServer key) (waits option.RealServer (of_key AddServer key)) refl
    ∙ taken 4 (endpoint_text d.addr d.port) rest (waits option.RealServer (of_key AddServer key)) (with_server key d)
    (ap (λ (given : Option GivenEndpoint). needed 4 cause.BadAddress given >>= (λ (endpoint : GivenEndpoint). Ok (record (of_key AddServer key) { server = Some endpoint; awaited = AnOption }))) (endpoint_of-endpoint_text d.addr d.port small short))

abbrev with_method : ServiceKey → DestSpec → Method → WordsRead
with_method key d method = record (with_server key d) { method = Some method }

method_taken : (key : ServiceKey) (d : DestSpec) (method : Method) (rest : List (List ℕ)) → take_words 5 (method_word method ∷ rest) (with_server key d) ≡ take_words 6 rest (with_method key d method)
method_taken key d Masq rest = refl
method_taken key d Tunnel rest = refl
method_taken key d Direct rest = refl

abbrev with_weight : ServiceKey → DestSpec → WordsRead
with_weight key d = record (with_method key d d.method) { weight = Some d.weight }

weight_taken : (key : ServiceKey) (d : DestSpec) (rest : List (List ℕ)) → d.weight ≤ 2147483647 → take_words 6 (codes "-w" ∷ decimal d.weight ∷ rest) (with_method key d d.method) ≡ take_words 8 rest (with_weight key d)
weight_taken key d rest low =
    taken 6 (codes "-w") (decimal d.weight ∷ rest) (with_method key d d.method) (waits option.Weight (with_method key d d.method)) refl
    ∙ taken 7 (decimal d.weight) rest (waits option.Weight (with_method key d d.method)) (with_weight key d)
    (ap (λ (given : Option ℕ). needed 7 cause.BadNumber given >>= (λ (weight : ℕ). Ok (record (with_method key d d.method) { weight = Some weight; awaited = AnOption }))) (number_between-decimal 0 2147483647 d.weight (omega arith) low (lit< tt)))

abbrev with_upper : ServiceKey → DestSpec → WordsRead
with_upper key d = record (with_weight key d) { upper = Some d.upper }

upper_taken : (key : ServiceKey) (d : DestSpec) (rest : List (List ℕ)) → d.upper < 2 ^ 32 → take_words 8 (codes "-x" ∷ decimal d.upper ∷ rest) (with_weight key d) ≡ take_words 10 rest (with_upper key d)
upper_taken key d rest low =
    taken 8 (codes "-x") (decimal d.upper ∷ rest) (with_weight key d) (waits option.UpperThreshold (with_weight key d)) refl
    ∙ taken 9 (decimal d.upper) rest (waits option.UpperThreshold (with_weight key d)) (with_upper key d)
    (ap (λ (given : Option ℕ). needed 9 cause.BadNumber given >>= (λ (upper : ℕ). Ok (record (with_weight key d) { upper = Some upper; awaited = AnOption }))) (number_between-decimal 0 4294967295 d.upper (omega arith) (omega arith) (lit< tt)))

lower_taken : (key : ServiceKey) (d : DestSpec) → d.lower < 2 ^ 32 → take_words 8 (codes "-y" ∷ decimal d.lower ∷ []) (with_weight key d) ≡ Ok (record (with_weight key d) { lower = Some d.lower })
lower_taken key d low =
    taken 8 (codes "-y") (decimal d.lower ∷ []) (with_weight key d) (waits option.LowerThreshold (with_weight key d)) refl
    ∙ taken 9 (decimal d.lower) [] (waits option.LowerThreshold (with_weight key d)) (record (with_weight key d) { lower = Some d.lower })
    (ap (λ (given : Option ℕ). needed 9 cause.BadNumber given >>= (λ (lower : ℕ). Ok (record (with_weight key d) { lower = Some lower; awaited = AnOption }))) (number_between-decimal 0 4294967295 d.lower (omega arith) (omega arith) (lit< tt)))

lower_after : (key : ServiceKey) (d : DestSpec) → d.lower < 2 ^ 32 → take_words 10 (codes "-y" ∷ decimal d.lower ∷ []) (with_upper key d) ≡ Ok (record (with_upper key d) { lower = Some d.lower })
lower_after key d low =
    taken 10 (codes "-y") (decimal d.lower ∷ []) (with_upper key d) (waits option.LowerThreshold (with_upper key d)) refl
    ∙ taken 11 (decimal d.lower) [] (waits option.LowerThreshold (with_upper key d)) (record (with_upper key d) { lower = Some d.lower })
    (ap (λ (given : Option ℕ). needed 11 cause.BadNumber given >>= (λ (lower : ℕ). Ok (record (with_upper key d) { lower = Some lower; awaited = AnOption }))) (number_between-decimal 0 4294967295 d.lower (omega arith) (omega arith) (lit< tt)))

abbrev limit_given : Bool → ℕ → Option ℕ
limit_given true limit = None
limit_given false limit = Some limit

abbrev all_read : ServiceKey → DestSpec → Bool → Bool → WordsRead
all_read key d no_upper no_lower = record (with_weight key d) { upper = limit_given no_upper d.upper; lower = limit_given no_lower d.lower }

limits_taken : (key : ServiceKey) (d : DestSpec) (no_upper no_lower : Bool) → d.upper < 2 ^ 32 → d.lower < 2 ^ 32 → take_words 8 (limits no_upper d.upper no_lower d.lower) (with_weight key d) ≡ Ok (all_read key d no_upper no_lower)
limits_taken key d true true high low = refl
limits_taken key d true false high low = lower_taken key d low
limits_taken key d false true high low = upper_taken key d [] high
limits_taken key d false false high low = upper_taken key d (codes "-y" ∷ decimal d.lower ∷ []) high ∙ lower_after key d low

words_taken : (key : ServiceKey) (d : DestSpec) (no_upper no_lower : Bool) → IsSayableKey key → IsSayableServer key d → take_all (codes "-a" ∷ other_words key d no_upper no_lower) ≡ Ok (all_read key d no_upper no_lower)
words_taken key d no_upper no_lower said server =
    let small : d.upper < 2 ^ 32 = server.upper in
    let below : d.lower ≤ d.upper = server.lower in
    server_key_taken key (codes "-r" ∷ endpoint_text d.addr d.port ∷ method_word d.method ∷ codes "-w" ∷ decimal d.weight ∷ limits no_upper d.upper no_lower d.lower) said
    ∙ server_taken key d (method_word d.method ∷ codes "-w" ∷ decimal d.weight ∷ limits no_upper d.upper no_lower d.lower) server.addr server.port
    ∙ method_taken key d d.method (codes "-w" ∷ decimal d.weight ∷ limits no_upper d.upper no_lower d.lower)
    ∙ weight_taken key d (limits no_upper d.upper no_lower d.lower) server.weight
    ∙ limits_taken key d no_upper no_lower small (omega arith)

-- AFTER THE LAST WORD

abbrev line_from : ℕ → Result WordsRead BadWord → Result Line BadWord
line_from count read = read >>= (λ (r : WordsRead). settled count r >>= (λ (_ : Unit {0}). line_read count r r.command))

abbrev spec_with : DestSpec → ℕ → ℕ → ℕ → DestSpec
spec_with d port upper lower = record { addr = d.addr; port = port; method = d.method; weight = d.weight; upper = upper; lower = lower }

abbrev added : ServiceKey → DestSpec → Result Line BadWord
added key d = Ok (Edit (command.AddServer key d))

port_stays : (method : Method) (key : ServiceKey) (port : ℕ) → (method_eq method Masq ≡ false → port ≡ service_port key) → server_port method key (Some port) ≡ port
port_stays Masq key port kept = refl
port_stays Tunnel key port kept = sym (kept refl)
port_stays Direct key port kept = sym (kept refl)

abbrev unless_given : Option ℕ → ℕ
unless_given None = 0
unless_given (Some limit) = limit

limit_stays : (none : Bool) (limit : ℕ) → (none ≡ true → limit ≡ 0) → unless_given (limit_given none limit) ≡ limit
limit_stays true limit is = sym (is refl)
limit_stays false limit is = refl

line_end : (count : ℕ) (key : ServiceKey) (d : DestSpec) (no_upper no_lower : Bool) → line_from count (Ok (all_read key d no_upper no_lower)) ≡ added key (spec_with d (server_port d.method key (Some d.port)) (unless_given (limit_given no_upper d.upper)) (unless_given (limit_given no_lower d.lower)))
line_end count key d true true = refl
line_end count key d true false = refl
line_end count key d false true = refl
line_end count key d false false = refl

server_read : (key : ServiceKey) (d : DestSpec) (no_upper no_lower : Bool) → IsSayableKey key → IsSayableServer key d → (no_upper ≡ true → d.upper ≡ 0) → (no_lower ≡ true → d.lower ≡ 0) → line_of_split (codes "-a" ∷ other_words key d no_upper no_lower) ≡ added key d
server_read key d no_upper no_lower said server upper lower =
    ap (line_from (length (codes "-a" ∷ other_words key d no_upper no_lower))) (words_taken key d no_upper no_lower said server)
    ∙ line_end (length (codes "-a" ∷ other_words key d no_upper no_lower)) key d no_upper no_lower
    ∙ ap (λ (port : ℕ). added key (spec_with d port (unless_given (limit_given no_upper d.upper)) (unless_given (limit_given no_lower d.lower)))) (port_stays d.method key d.port server.port_kept)
    ∙ ap (λ (limit : ℕ). added key (spec_with d d.port limit (unless_given (limit_given no_lower d.lower)))) (limit_stays no_upper d.upper upper)
    ∙ ap (λ (limit : ℕ). added key (spec_with d d.port d.upper limit)) (limit_stays no_lower d.lower lower)

-- THE TEXT

abbrev limit_text : List ℕ → Bool → ℕ → List ℕ
limit_text word none limit = cond none [] (word ++ decimal limit)

limits_spelled : (weight : List ℕ) (no_upper : Bool) (upper : ℕ) (no_lower : Bool) (lower : ℕ) → weight ++ limit_text (codes " -x ") no_upper upper ++ limit_text (codes " -y ") no_lower lower ≡ line_with weight (limits no_upper upper no_lower lower)
limits_spelled weight true upper true lower = simp append-nil
limits_spelled weight true upper false lower = simp append-nil
limits_spelled weight false upper true lower = simp (append_assoc, append-nil)
limits_spelled weight false upper false lower = simp append_assoc

-- the words behind the key
abbrev behind_key : DestSpec → List ℕ → List ℕ
behind_key d rest = endpoint_text d.addr d.port ++ 32 ∷ (method_word d.method ++ 32 ∷ (codes "-w" ++ 32 ∷ rest))

key_spelled : (key : ServiceKey) (rest : List ℕ) → codes "-a " ++ key_words key ++ codes " -r " ++ rest ≡ codes "-a" ++ 32 ∷ (key_option key ++ 32 ∷ (key_value key ++ 32 ∷ (codes "-r" ++ 32 ∷ rest)))
unfolding key_words
key_spelled (Net Tcp addr port) rest = ap (λ (more : List ℕ). 45 ∷ 97 ∷ 32 ∷ 45 ∷ 116 ∷ 32 ∷ more) (append_assoc (endpoint_text addr port) (codes " -r ") rest)
key_spelled (Net Udp addr port) rest = ap (λ (more : List ℕ). 45 ∷ 97 ∷ 32 ∷ 45 ∷ 117 ∷ 32 ∷ more) (append_assoc (endpoint_text addr port) (codes " -r ") rest)
key_spelled (Mark mark) rest = ap (λ (more : List ℕ). 45 ∷ 97 ∷ 32 ∷ 45 ∷ 102 ∷ 32 ∷ more) (append_assoc (decimal mark) (codes " -r ") rest)

regrouped : (key endpoint method weight upper lower : List ℕ) → key ++ endpoint ++ 32 ∷ [] ++ method ++ codes " -w " ++ weight ++ upper ++ lower ≡ key ++ (endpoint ++ 32 ∷ (method ++ 32 ∷ (codes "-w" ++ 32 ∷ (weight ++ upper ++ lower))))
regrouped key endpoint method weight upper lower = simp append_assoc

words_spelled : (key : ServiceKey) (d : DestSpec) → server_words key d ≡ line_with (codes "-a") (other_words key d (d.upper == 0) (d.lower == 0)) ++ 10 ∷ []
unfolding threshold_text
words_spelled key d =
    let prefix : List ℕ = codes "-a " ++ key_words key ++ codes " -r " in
    let rest : List ℕ = line_with (decimal d.weight) (limits (d.upper == 0) d.upper (d.lower == 0) d.lower) in
    ap (λ (text : List ℕ). text ++ 10 ∷ [])
    (regrouped prefix (endpoint_text d.addr d.port) (method_word d.method) (decimal d.weight) (limit_text (codes " -x ") (d.upper == 0) d.upper) (limit_text (codes " -y ") (d.lower == 0) d.lower)
    ∙ ap (λ (more : List ℕ). prefix ++ behind_key d more) (limits_spelled (decimal d.weight) (d.upper == 0) d.upper (d.lower == 0) d.lower)
    ∙ key_spelled key (behind_key d rest))

pub server_text : (key : ServiceKey) (d : DestSpec) → IsSayableKey key → IsSayableServer key d → IsCommandText (server_words key d) (command.AddServer key d)
server_text key d said server =
    let small : d.upper < 2 ^ 32 = server.upper in
    let below : d.lower ≤ d.upper = server.lower in
    let light : d.weight ≤ 2147483647 = server.weight in
    record {
      first = codes "-a";
      others = other_words key d (d.upper == 0) (d.lower == 0);
      spelled = words_spelled key d;
      first_word = record { full = refl; graphic = refl; whole = refl };
      other_words = (key_option_is_word key, (key_value_is_word key said, (record { full = refl; graphic = refl; whole = refl }, (endpoint_is_word d.addr d.port server.addr server.port, (method_is_word d.method, (record { full = refl; graphic = refl; whole = refl }, (number_is_word d.weight (omega arith), limits_are_words (d.upper == 0) d.upper (d.lower == 0) d.lower (omega arith) (omega arith))))))));
      plain = refl;
      read = server_read key d (d.upper == 0) (d.lower == 0) said server (eqb-true d.upper 0) (eqb-true d.lower 0);
    }
