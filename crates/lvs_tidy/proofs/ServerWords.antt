-- The words of a server are read as the command that gives it.
use Rattle.std.proofs.Common.{◌≡◌, ℕ, ◌+◌, ◌^◌, ◌<◌, ◌≤◌, Bool, true, false, cond, ◌==◌, List, [], ◌∷◌, ◌++◌, length, Option, Some, None, Result, Ok, refl, sym, ◌∙◌, ap, arith, lit<}
use Rattle.std.specs.Prelude.{codes, unwrap_or}
use Rattle.std.specs.Fmt.{decimal}
use Rattle.std.proofs.lemmas.Bool.{eqb-true}
use Rattle.lvs_types.specs.declared.script.WordsCause.TheVariants as cause
use Rattle.lvs_types.specs.declared.addr.Addr.{Addr}
use Rattle.lvs_types.specs.declared.service.ServiceKey.{ServiceKey}
use Rattle.lvs_types.specs.declared.service.Method.{Method}
use Rattle.lvs_types.specs.declared.service.Method.TheVariants.{Masq, Tunnel, Direct}
use Rattle.lvs_types.specs.declared.dest.DestSpec.{DestSpec}
use Rattle.lvs_types.specs.declared.command.Line.{Line}
use Rattle.lvs_types.specs.declared.command.Line.TheVariants.{Edit}
use Rattle.lvs_types.specs.declared.command.Command.{Command}
use Rattle.lvs_types.specs.declared.command.Command.TheVariants as command
use Rattle.lvs_model.specs.declared.admin.CommandName.{CommandName}
use Rattle.lvs_model.specs.declared.admin.CommandName.TheVariants.{AddServer, EditServer}
use Rattle.lvs_model.specs.declared.admin.OptionName.TheVariants as option
use Rattle.lvs_model.specs.declared.admin.Awaited.TheVariants.{AnOption}
use Rattle.lvs_model.specs.declared.admin.GivenEndpoint.{GivenEndpoint}
use Rattle.lvs_model.specs.declared.admin.WordsRead.{WordsRead}
use Rattle.lvs_model.specs.declared.admin.BadWord.{BadWord}
use Rattle.lvs_model.specs.Refusals.{◌>>=◌, needed}
use Rattle.lvs_model.specs.Same.{method_eq}
use Rattle.lvs_model.specs.AdminWords.{take_word, take_words, begun}
use Rattle.lvs_model.specs.AdminLines.{settled, service_port, server_port, line_read, line_of_split}
use Rattle.lvs_model.specs.Listings.{endpoint_text, method_word}
use Rattle.lvs_listing.specs.Savable.{IsSayableKey}
use Rattle.lvs_listing.proofs.Numerals.{number_between-decimal, endpoint_of-endpoint_text}
use Rattle.lvs_listing.proofs.Wording.{AreWords, IsWord, number_is_word, endpoint_is_word}
use Rattle.lvs_listing.proofs.Taking.{taken, waits, of_key}
use Rattle.lvs_laws.specs.Saying.{IsSayableSpec}
use Rattle.lvs_tidy.specs.CommandWords.{key_option, key_value, server_words}
use Rattle.lvs_tidy.proofs.Keys.{TakesKey, key_taken, option_is_word, value_is_word}

-- -a, or -e
abbrev pub named : Bool → CommandName
named false = AddServer
named true = EditServer

takes_key : (edit : Bool) → TakesKey (named edit)
takes_key false = record { tcp = refl; udp = refl; mark = refl }
takes_key true = record { tcp = refl; udp = refl; mark = refl }

-- WORDS

-- the words of a threshold, by whether it is 0
abbrev limit_by : List ℕ → Bool → ℕ → List (List ℕ)
limit_by word none limit = cond none [] (word ∷ decimal limit ∷ [])

method_is_word : (method : Method) → IsWord (method_word method)
method_is_word Masq = record { full = refl; graphic = refl; whole = refl }
method_is_word Tunnel = record { full = refl; graphic = refl; whole = refl }
method_is_word Direct = record { full = refl; graphic = refl; whole = refl }

limit_is_word : (word : List ℕ) (none : Bool) (limit : ℕ) (rest : List (List ℕ)) → IsWord word → limit < 2 ^ 64 → AreWords rest → AreWords (limit_by word none limit ++ rest)
limit_is_word word true limit rest is low are = are
limit_is_word word false limit rest is low are = (is, (number_is_word limit low, are))

last_is_word : (word : List ℕ) (none : Bool) (limit : ℕ) → IsWord word → limit < 2 ^ 64 → AreWords (limit_by word none limit)
last_is_word word true limit is low = tt
last_is_word word false limit is low = (is, (number_is_word limit low, tt))

pub server_are_words : (key : ServiceKey) (d : DestSpec) → IsSayableKey key → IsSayableSpec key d → d.lower ≤ 4294967295 → AreWords (server_words key d)
server_are_words key d said server low =
    let high : d.upper < 2 ^ 32 = server.upper in
    let light : d.weight ≤ 2147483647 = server.weight in
    let behind = limit_is_word (codes "-x") (d.upper == 0) d.upper (limit_by (codes "-y") (d.lower == 0) d.lower) (record { full = refl; graphic = refl; whole = refl }) (omega arith) (last_is_word (codes "-y") (d.lower == 0) d.lower (record { full = refl; graphic = refl; whole = refl }) (omega arith)) in
    (option_is_word key, (value_is_word key said, (record { full = refl; graphic = refl; whole = refl }, (endpoint_is_word d.addr d.port server.addr server.port, (method_is_word d.method, (record { full = refl; graphic = refl; whole = refl }, (number_is_word d.weight (omega arith), behind)))))))

-- READING

-- what was read of a server's words
abbrev so_far : Bool → ServiceKey → Option GivenEndpoint → Option Method → Option ℕ → Option ℕ → Option ℕ → WordsRead
so_far edit key server method weight upper lower = record (of_key (named edit) key) { server = server; method = method; weight = weight; upper = upper; lower = lower }

abbrev place : Addr → ℕ → GivenEndpoint
place addr port = record { addr = addr; port = Some port }

server_option : (edit : Bool) (key : ServiceKey) → take_word 3 (codes "-r") (so_far edit key None None None None None) ≡ Ok (waits option.RealServer (so_far edit key None None None None None))
server_option false key = refl
server_option true key = refl

server_taken : (edit : Bool) (key : ServiceKey) (addr : Addr) (port : ℕ) (rest : List (List ℕ)) → addr.number < 2 ^ 32 → port < 2 ^ 16 → take_words 3 (codes "-r" ∷ endpoint_text addr port ∷ rest) (so_far edit key None None None None None) ≡ take_words 5 rest (so_far edit key (Some (place addr port)) None None None None)
server_taken edit key addr port rest small short =
    let before = so_far edit key None None None None None in
    taken 3 (codes "-r") (endpoint_text addr port ∷ rest) before (waits option.RealServer before) (server_option edit key)
    ∙ taken 4 (endpoint_text addr port) rest (waits option.RealServer before) (so_far edit key (Some (place addr port)) None None None None)
    (ap (λ (given : Option GivenEndpoint). needed 4 cause.BadAddress given >>= (λ (x : GivenEndpoint). Ok (record before { server = Some x; awaited = AnOption }))) (endpoint_of-endpoint_text addr port small short))

method_option : (edit : Bool) (key : ServiceKey) (server : Option GivenEndpoint) (method : Method) → take_word 5 (method_word method) (so_far edit key server None None None None) ≡ Ok (so_far edit key server (Some method) None None None)
method_option false key server Masq = refl
method_option false key server Tunnel = refl
method_option false key server Direct = refl
method_option true key server Masq = refl
method_option true key server Tunnel = refl
method_option true key server Direct = refl

weight_option : (edit : Bool) (key : ServiceKey) (server : Option GivenEndpoint) (method : Option Method) → take_word 6 (codes "-w") (so_far edit key server method None None None) ≡ Ok (waits option.Weight (so_far edit key server method None None None))
weight_option false key server method = refl
weight_option true key server method = refl

weight_taken : (edit : Bool) (key : ServiceKey) (server : Option GivenEndpoint) (method : Option Method) (weight : ℕ) (rest : List (List ℕ)) → weight ≤ 2147483647 → take_words 6 (codes "-w" ∷ decimal weight ∷ rest) (so_far edit key server method None None None) ≡ take_words 8 rest (so_far edit key server method (Some weight) None None)
weight_taken edit key server method weight rest light =
    let before = so_far edit key server method None None None in
    taken 6 (codes "-w") (decimal weight ∷ rest) before (waits option.Weight before) (weight_option edit key server method)
    ∙ taken 7 (decimal weight) rest (waits option.Weight before) (so_far edit key server method (Some weight) None None)
    (ap (λ (given : Option ℕ). needed 7 cause.BadNumber given >>= (λ (n : ℕ). Ok (record before { weight = Some n; awaited = AnOption }))) (number_between-decimal 0 2147483647 weight (omega arith) light (lit< tt)))

abbrev after_limit : Bool → ℕ → ℕ
after_limit true at = at
after_limit false at = at + 1 + 1

abbrev limit_given : Bool → ℕ → Option ℕ
limit_given true limit = None
limit_given false limit = Some limit

upper_option : (edit : Bool) (at : ℕ) (key : ServiceKey) (server : Option GivenEndpoint) (method : Option Method) (weight : Option ℕ) → take_word at (codes "-x") (so_far edit key server method weight None None) ≡ Ok (waits option.UpperThreshold (so_far edit key server method weight None None))
upper_option false at key server method weight = refl
upper_option true at key server method weight = refl

upper_taken : (edit : Bool) (at : ℕ) (key : ServiceKey) (server : Option GivenEndpoint) (method : Option Method) (weight : Option ℕ) (none : Bool) (upper : ℕ) (rest : List (List ℕ)) → upper ≤ 4294967295 → take_words at (limit_by (codes "-x") none upper ++ rest) (so_far edit key server method weight None None) ≡ take_words (after_limit none at) rest (so_far edit key server method weight (limit_given none upper) None)
upper_taken edit at key server method weight true upper rest low = refl
upper_taken edit at key server method weight false upper rest low =
    let before = so_far edit key server method weight None None in
    taken at (codes "-x") (decimal upper ∷ rest) before (waits option.UpperThreshold before) (upper_option edit at key server method weight)
    ∙ taken (at + 1) (decimal upper) rest (waits option.UpperThreshold before) (so_far edit key server method weight (Some upper) None)
    (ap (λ (given : Option ℕ). needed (at + 1) cause.BadNumber given >>= (λ (n : ℕ). Ok (record before { upper = Some n; awaited = AnOption }))) (number_between-decimal 0 4294967295 upper (omega arith) low (lit< tt)))

lower_option : (edit : Bool) (at : ℕ) (key : ServiceKey) (server : Option GivenEndpoint) (method : Option Method) (weight upper : Option ℕ) → take_word at (codes "-y") (so_far edit key server method weight upper None) ≡ Ok (waits option.LowerThreshold (so_far edit key server method weight upper None))
lower_option false at key server method weight upper = refl
lower_option true at key server method weight upper = refl

lower_taken : (edit : Bool) (at : ℕ) (key : ServiceKey) (server : Option GivenEndpoint) (method : Option Method) (weight upper : Option ℕ) (none : Bool) (lower : ℕ) → lower ≤ 4294967295 → take_words at (limit_by (codes "-y") none lower) (so_far edit key server method weight upper None) ≡ Ok (so_far edit key server method weight upper (limit_given none lower))
lower_taken edit at key server method weight upper true lower low = refl
lower_taken edit at key server method weight upper false lower low =
    let before = so_far edit key server method weight upper None in
    taken at (codes "-y") (decimal lower ∷ []) before (waits option.LowerThreshold before) (lower_option edit at key server method weight upper)
    ∙ taken (at + 1) (decimal lower) [] (waits option.LowerThreshold before) (so_far edit key server method weight upper (Some lower))
    (ap (λ (given : Option ℕ). needed (at + 1) cause.BadNumber given >>= (λ (n : ℕ). Ok (record before { lower = Some n; awaited = AnOption }))) (number_between-decimal 0 4294967295 lower (omega arith) low (lit< tt)))

abbrev all_read : Bool → ServiceKey → DestSpec → Bool → Bool → WordsRead
all_read edit key d no_upper no_lower = so_far edit key (Some (place d.addr d.port)) (Some d.method) (Some d.weight) (limit_given no_upper d.upper) (limit_given no_lower d.lower)

all_taken : (edit : Bool) (key : ServiceKey) (d : DestSpec) (no_upper no_lower : Bool) → IsSayableKey key → IsSayableSpec key d → d.lower ≤ 4294967295 → take_words 1 (key_option key ∷ key_value key ∷ codes "-r" ∷ endpoint_text d.addr d.port ∷ method_word d.method ∷ codes "-w" ∷ decimal d.weight ∷ (limit_by (codes "-x") no_upper d.upper ++ limit_by (codes "-y") no_lower d.lower)) (begun (named edit)) ≡ Ok (all_read edit key d no_upper no_lower)
all_taken edit key d no_upper no_lower said server low =
    let high : d.upper < 2 ^ 32 = server.upper in
    let last = limit_by (codes "-y") no_lower d.lower in
    let limits = limit_by (codes "-x") no_upper d.upper ++ last in
    key_taken (named edit) key (codes "-r" ∷ endpoint_text d.addr d.port ∷ method_word d.method ∷ codes "-w" ∷ decimal d.weight ∷ limits) (takes_key edit) said
    ∙ server_taken edit key d.addr d.port (method_word d.method ∷ codes "-w" ∷ decimal d.weight ∷ limits) server.addr server.port
    ∙ taken 5 (method_word d.method) (codes "-w" ∷ decimal d.weight ∷ limits) (so_far edit key (Some (place d.addr d.port)) None None None None) (so_far edit key (Some (place d.addr d.port)) (Some d.method) None None None) (method_option edit key (Some (place d.addr d.port)) d.method)
    ∙ weight_taken edit key (Some (place d.addr d.port)) (Some d.method) d.weight limits server.weight
    ∙ upper_taken edit 8 key (Some (place d.addr d.port)) (Some d.method) (Some d.weight) no_upper d.upper last (omega arith)
    ∙ lower_taken edit (after_limit no_upper 8) key (Some (place d.addr d.port)) (Some d.method) (Some d.weight) (limit_given no_upper d.upper) no_lower d.lower low

-- AFTER THE LAST WORD

abbrev given : Bool → ServiceKey → DestSpec → Command
given false key d = command.AddServer key d
given true key d = command.EditServer key d

abbrev line_from : ℕ → Result WordsRead BadWord → Result Line BadWord
line_from count read = read >>= (λ (r : WordsRead). settled count r >>= (λ (_ : Unit {0}). line_read count r r.command))

abbrev ok_given : Bool → ServiceKey → DestSpec → Result Line BadWord
ok_given edit key d = Ok (Edit (given edit key d))

abbrev spec_with : DestSpec → ℕ → ℕ → ℕ → DestSpec
spec_with d port upper lower = record { addr = d.addr; port = port; method = d.method; weight = d.weight; upper = upper; lower = lower }

port_stays : (method : Method) (key : ServiceKey) (port : ℕ) → (method_eq method Masq ≡ false → port ≡ service_port key) → server_port method key (Some port) ≡ port
port_stays Masq key port kept = refl
port_stays Tunnel key port kept = sym (kept refl)
port_stays Direct key port kept = sym (kept refl)

limit_stays : (none : Bool) (limit : ℕ) → (none ≡ true → limit ≡ 0) → unwrap_or (limit_given none limit) 0 ≡ limit
limit_stays true limit is = sym (is refl)
limit_stays false limit is = refl

read_end : (edit : Bool) (count : ℕ) (key : ServiceKey) (d : DestSpec) (no_upper no_lower : Bool) → line_from count (Ok (all_read edit key d no_upper no_lower)) ≡ ok_given edit key (spec_with d (server_port d.method key (Some d.port)) (unwrap_or (limit_given no_upper d.upper) 0) (unwrap_or (limit_given no_lower d.lower) 0))
read_end false count key d no_upper no_lower = refl
read_end true count key d no_upper no_lower = refl

server_end : (edit : Bool) (count : ℕ) (key : ServiceKey) (d : DestSpec) → IsSayableSpec key d → line_from count (Ok (all_read edit key d (d.upper == 0) (d.lower == 0))) ≡ ok_given edit key d
server_end edit count key d server =
    let no_upper = d.upper == 0 in
    let no_lower = d.lower == 0 in
    read_end edit count key d no_upper no_lower
    ∙ ap (λ (port : ℕ). ok_given edit key (spec_with d port (unwrap_or (limit_given no_upper d.upper) 0) (unwrap_or (limit_given no_lower d.lower) 0))) (port_stays d.method key d.port server.port_kept)
    ∙ ap (λ (limit : ℕ). ok_given edit key (spec_with d d.port limit (unwrap_or (limit_given no_lower d.lower) 0))) (limit_stays no_upper d.upper (eqb-true d.upper 0))
    ∙ ap (λ (limit : ℕ). ok_given edit key (spec_with d d.port d.upper limit)) (limit_stays no_lower d.lower (eqb-true d.lower 0))

pub added_again : (key : ServiceKey) (d : DestSpec) → IsSayableKey key → IsSayableSpec key d → d.lower ≤ 4294967295 → line_of_split (codes "-a" ∷ server_words key d) ≡ Ok (Edit (command.AddServer key d))
added_again key d said server low =
    ap (line_from (length (codes "-a" ∷ server_words key d))) (all_taken false key d (d.upper == 0) (d.lower == 0) said server low)
    ∙ server_end false (length (codes "-a" ∷ server_words key d)) key d server

pub edited_again : (key : ServiceKey) (d : DestSpec) → IsSayableKey key → IsSayableSpec key d → d.lower ≤ 4294967295 → line_of_split (codes "-e" ∷ server_words key d) ≡ Ok (Edit (command.EditServer key d))
edited_again key d said server low =
    ap (line_from (length (codes "-e" ∷ server_words key d))) (all_taken true key d (d.upper == 0) (d.lower == 0) said server low)
    ∙ server_end true (length (codes "-e" ∷ server_words key d)) key d server
