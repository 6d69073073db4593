-- The commands that add services and their servers make these services and servers.
use Rattle.std.proofs.Common.{◌≡◌, ℕ, ◌+◌, ◌≤◌, Bool, true, false, cond, not, ◌&&◌, ◌||◌, ◌==◌, List, [], ◌∷◌, ◌++◌, map, Option, Some, None, refl, sym, ◌∙◌, ap, arith, append_assoc, nat_lt}
use Rattle.std.specs.List.{list_any, list_all, find}
use Rattle.std.proofs.lemmas.Bool.{eq-eqb}
use Rattle.std.proofs.lemmas.Bool.Decides.{nat_tests}
use Rattle.std.proofs.lemmas.List.{append-nil}
use Rattle.std.proofs.lemmas.List.Folds.{list_any-append, list_all-append}
use Rattle.lvs_types.specs.declared.addr.DestId.{DestId}
use Rattle.lvs_types.specs.declared.service.ServiceKey.{ServiceKey}
use Rattle.lvs_types.specs.declared.service.ServiceKey.TheVariants.{Net, Mark}
use Rattle.lvs_types.specs.declared.service.Proto.TheVariants.{Tcp, Udp}
use Rattle.lvs_types.specs.declared.service.Service.{Service}
use Rattle.lvs_types.specs.declared.dest.DestSpec.{DestSpec}
use Rattle.lvs_types.specs.declared.dest.Dest.{Dest}
use Rattle.lvs_types.specs.declared.dest.DestRow.{DestRow}
use Rattle.lvs_types.specs.declared.snapshot.Snapshot.{Snapshot}
use Rattle.lvs_types.specs.declared.command.Command.{Command}
use Rattle.lvs_types.specs.declared.command.Command.TheVariants as command
use Rattle.lvs_types.specs.Thresholds.{has_bad_thresholds}
use Rattle.lvs_model.specs.State.{State}
use Rattle.lvs_model.specs.Same.{service_key_eq}
use Rattle.lvs_model.specs.Lookups.{has_service_key, is_server_at, stands_at}
use Rattle.lvs_model.specs.Edits.{with_fresh_cursor, add_service_by, is_revivable, new_dest, place_server, add_server_by, is_server}
use Rattle.lvs_model.specs.Listings.{rows_of}
use Rattle.lvs_listing.specs.Savable.{stand_together, AreSavableServers, AreSavableServices, IsSavable, said, said_rows, said_services, after, HasTables}
use Rattle.lvs_listing.proofs.Numerals.{first_true, second_true, both_true}
use Rattle.lvs_listing.proofs.SavedTexts.{server_commands, service_commands, count_on}

-- LISTS

none_left : (a b : Bool) → (a || b) ≡ false → a ≡ false
none_left true b none = cc
none_left false b none = refl

none_right : (a b : Bool) → (a || b) ≡ false → b ≡ false
none_right true b none = cc
none_right false b none = none

none_both : (a b : Bool) → a ≡ false → b ≡ false → (a || b) ≡ false
none_both true b p q = cc
none_both false b p q = q

none_and : (a b : Bool) → b ≡ false → (a && b) ≡ false
none_and true b none = none
none_and false b none = refl

last_true : (a b : Bool) → b ≡ true → (a || (b || false)) ≡ true
last_true true b is = refl
last_true false true is = refl
last_true false false is = cc

-- of three tests the one in the middle fails
not_named : (a b c : Bool) → b ≡ false → (a && b && c) ≡ false
not_named true true c none = cc
not_named true false c none = refl
not_named false b c none = refl

below_none : (a b : ℕ) → b ≤ a → nat_lt a b ≡ false
below_none a b low = grind (arith, nat_tests)

abbrev said_pair : ServiceKey → DestSpec → ServiceKey × DestSpec
said_pair key spec = (key, spec)

all_live_append : (xs ys : List Dest) → list_all (λ (d : Dest). d.live) xs ≡ true → list_all (λ (d : Dest). d.live) ys ≡ true → list_all (λ (d : Dest). d.live) (xs ++ ys) ≡ true
all_live_append xs ys p q = list_all-append (λ (d : Dest). d.live) xs ys ∙ both_true (list_all (λ (d : Dest). d.live) xs) (list_all (λ (d : Dest). d.live) ys) p q

-- ONE COMMAND

-- a director with these services and servers, and this next id of a server
abbrev holding : State → List Service → List Dest → ℕ → State
holding s services dests next = record s { services = services; dests = dests; next_dest = next }

service_added : (s : State) (services : List Service) (dests : List Dest) (next : ℕ) (service : Service) (more : List Command) → list_any (has_service_key service.key) services ≡ false → after (holding s services dests next) (command.AddService service ∷ more) ≡ after (holding s (services ++ with_fresh_cursor service ∷ []) dests next) more
service_added s services dests next service more apart =
    ap (λ (known : Bool). after (add_service_by (holding s services dests next) service known).1 more) apart

server_added : (s : State) (services : List Service) (dests : List Dest) (next : ℕ) (key : ServiceKey) (spec : DestSpec) (more : List Command) → list_any (has_service_key key) services ≡ true → list_any (is_server_at key spec.addr spec.port) dests ≡ false → has_bad_thresholds spec ≡ false → find (is_revivable key spec) dests ≡ None → after (holding s services dests next) (command.AddServer key spec ∷ more) ≡ after (holding s services (dests ++ new_dest (record { 0 = next }) key spec ∷ []) (next + 1)) more
server_added s services dests next key spec more there free fits none =
    let before = holding s services dests next in
    ap (λ (known : Bool). after (add_server_by before key spec known (is_server before key spec.addr spec.port) (has_bad_thresholds spec)).1 more) there
    ∙ ap (λ (known : Bool). after (add_server_by before key spec true known (has_bad_thresholds spec)).1 more) free
    ∙ ap (λ (crossed : Bool). after (add_server_by before key spec true false crossed).1 more) fits
    ∙ ap (λ (trashed : Option Dest). after (place_server before key spec trashed) more) none

-- THE SERVERS OF A SERVICE

revival_by : (live same together : Bool) (d : Dest) (rest : Option Dest) → live ≡ true → rest ≡ None → cond (not live && same && together) (Some d) rest ≡ None
revival_by true same together d rest is none = none
revival_by false same together d rest is none = cc

no_revival : (key : ServiceKey) (spec : DestSpec) (dests : List Dest) → list_all (λ (d : Dest). d.live) dests ≡ true → find (is_revivable key spec) dests ≡ None
no_revival key spec [] live = refl
no_revival key spec (d ∷ dests) live =
    revival_by d.live (service_key_eq d.service key) (stands_at spec.addr spec.port d) d (find (is_revivable key spec) dests) (first_true d.live (list_all (λ (d : Dest). d.live) dests) live) (no_revival key spec dests (second_true d.live (list_all (λ (d : Dest). d.live) dests) live))

-- a server at the place of a specification stands with none of these rows, unless the specification does
abbrev IsFree : ServiceKey → List Dest → List DestRow → Type 0
IsFree key dests before = (spec : DestSpec) → list_any (stand_together spec) before ≡ false → list_any (is_server_at key spec.addr spec.port) dests ≡ false

free_more : (key : ServiceKey) (dests : List Dest) (before : List DestRow) (row : DestRow) (id : DestId) → IsFree key dests before → IsFree key (dests ++ new_dest id key row.dest.spec ∷ []) (before ++ row ∷ [])
free_more key dests before row id free spec none =
    let apart : (list_any (stand_together spec) before || list_any (stand_together spec) (row ∷ [])) ≡ false = sym (list_any-append (stand_together spec) before (row ∷ [])) ∙ none in
    let last : (stand_together spec row || false) ≡ false = none_right (list_any (stand_together spec) before) (list_any (stand_together spec) (row ∷ [])) apart in
    list_any-append (is_server_at key spec.addr spec.port) dests (new_dest id key row.dest.spec ∷ [])
    ∙ none_both (list_any (is_server_at key spec.addr spec.port) dests) (list_any (is_server_at key spec.addr spec.port) (new_dest id key row.dest.spec ∷ []))
    (free spec (none_left (list_any (stand_together spec) before) (list_any (stand_together spec) (row ∷ [])) apart))
    (none_both (is_server_at key spec.addr spec.port (new_dest id key row.dest.spec)) false (none_and (service_key_eq key key) (stand_together spec row) (none_left (stand_together spec row) false last)) refl)

thresholds_fit : (spec : DestSpec) → spec.lower ≤ spec.upper → has_bad_thresholds spec ≡ false
thresholds_fit spec low = below_none spec.upper spec.lower low

-- the servers that rows make, their ids from a number on
abbrev made : ℕ → ServiceKey → List DestRow → List Dest
made n key [] = []
made n key (row ∷ rows) = new_dest (record { 0 = n }) key row.dest.spec ∷ made (n + 1) key rows

made_live : (n : ℕ) (key : ServiceKey) (rows : List DestRow) → list_all (λ (d : Dest). d.live) (made n key rows) ≡ true
made_live n key [] = refl
made_live n key (row ∷ rows) = made_live (n + 1) key rows

servers_added : (s : State) (services : List Service) (dests : List Dest) (n : ℕ) (key : ServiceKey) (before rows : List DestRow) (more : List Command) → list_any (has_service_key key) services ≡ true → list_all (λ (d : Dest). d.live) dests ≡ true → IsFree key dests before → AreSavableServers key before rows → after (holding s services dests n) (server_commands key rows ++ more) ≡ after (holding s services (dests ++ made n key rows) (count_on n rows)) more
servers_added s services dests n key before [] more there live free are = ap (λ (ds : List Dest). after (holding s services ds n) more) (sym (append-nil dests))
servers_added s services dests n key before (row ∷ rows) more there live free are =
    let d : Dest = new_dest (record { 0 = n }) key row.dest.spec in
    server_added s services dests n key row.dest.spec (server_commands key rows ++ more) there (free row.dest.spec are.1) (thresholds_fit row.dest.spec are.0.lower) (no_revival key row.dest.spec dests live)
    ∙ servers_added s services (dests ++ d ∷ []) (n + 1) key (before ++ row ∷ []) rows more there (all_live_append dests (d ∷ []) live refl) (free_more key dests before row (record { 0 = n }) free) are.2
    ∙ ap (λ (ds : List Dest). after (holding s services ds (count_on (n + 1) rows)) more) (append_assoc dests (d ∷ []) (made (n + 1) key rows))

-- ALL SERVICES

fresh_key : (key : ServiceKey) (services : List Service) → list_any (has_service_key key) (map with_fresh_cursor services) ≡ list_any (has_service_key key) services
fresh_key key [] = refl
fresh_key key (service ∷ services) = ap (λ (others : Bool). service_key_eq service.key key || others) (fresh_key key services)

map_fresh_append : (xs : List Service) (service : Service) → map with_fresh_cursor (xs ++ service ∷ []) ≡ map with_fresh_cursor xs ++ with_fresh_cursor service ∷ []
map_fresh_append [] service = refl
map_fresh_append (x ∷ xs) service = ap (λ (rest : List Service). with_fresh_cursor x ∷ rest) (map_fresh_append xs service)

key_eq_refl : (key : ServiceKey) → service_key_eq key key ≡ true
key_eq_refl (Net Tcp addr port) = both_true (addr.number == addr.number) (port == port) (eq-eqb addr.number addr.number refl) (eq-eqb port port refl)
key_eq_refl (Net Udp addr port) = both_true (addr.number == addr.number) (port == port) (eq-eqb addr.number addr.number refl) (eq-eqb port port refl)
key_eq_refl (Mark mark) = eq-eqb mark mark refl

any_last : (p : Service → Bool) (xs : List Service) (x : Service) → p x ≡ true → list_any p (xs ++ x ∷ []) ≡ true
any_last p xs x is = list_any-append p xs (x ∷ []) ∙ last_true (list_any p xs) (p x) is

abbrev names : ServiceKey → Dest → Bool
names key d = service_key_eq d.service key

-- no server names a service that isn't among these
abbrev AreNamed : List Service → List Dest → Type 0
AreNamed before dests = (key : ServiceKey) → list_any (has_service_key key) before ≡ false → list_any (names key) dests ≡ false

unnamed_free : (key : ServiceKey) (spec : DestSpec) (dests : List Dest) → list_any (names key) dests ≡ false → list_any (is_server_at key spec.addr spec.port) dests ≡ false
unnamed_free key spec [] none = refl
unnamed_free key spec (d ∷ dests) none =
    none_both (is_server_at key spec.addr spec.port d) (list_any (is_server_at key spec.addr spec.port) dests)
    (not_named d.live (names key d) (stands_at spec.addr spec.port d) (none_left (names key d) (list_any (names key) dests) none))
    (unnamed_free key spec dests (none_right (names key d) (list_any (names key) dests) none))

made_names : (n : ℕ) (key other : ServiceKey) (rows : List DestRow) → service_key_eq key other ≡ false → list_any (names other) (made n key rows) ≡ false
made_names n key other [] apart = refl
made_names n key other (row ∷ rows) apart = none_both (service_key_eq key other) (list_any (names other) (made (n + 1) key rows)) apart (made_names (n + 1) key other rows apart)

named_more : (before : List Service) (dests : List Dest) (n : ℕ) (service : Service) (rows : List DestRow) → AreNamed before dests → AreNamed (before ++ service ∷ []) (dests ++ made n service.key rows)
named_more before dests n service rows named key none =
    let apart : (list_any (has_service_key key) before || list_any (has_service_key key) (service ∷ [])) ≡ false = sym (list_any-append (has_service_key key) before (service ∷ [])) ∙ none in
    let last : (service_key_eq service.key key || false) ≡ false = none_right (list_any (has_service_key key) before) (list_any (has_service_key key) (service ∷ [])) apart in
    list_any-append (names key) dests (made n service.key rows)
    ∙ none_both (list_any (names key) dests) (list_any (names key) (made n service.key rows))
    (named key (none_left (list_any (has_service_key key) before) (list_any (has_service_key key) (service ∷ [])) apart))
    (made_names n service.key key rows (none_left (service_key_eq service.key key) false last))

abbrev made_all : List DestRow → ℕ → List Service → List Dest
made_all rows n [] = []
made_all rows n (service ∷ services) = made n service.key (rows_of service.key rows) ++ made_all rows (count_on n (rows_of service.key rows)) services

abbrev count_all : List DestRow → ℕ → List Service → ℕ
count_all rows n [] = n
count_all rows n (service ∷ services) = count_all rows (count_on n (rows_of service.key rows)) services

services_added : (s : State) (rows : List DestRow) (before services : List Service) (dests : List Dest) (n : ℕ) → list_all (λ (d : Dest). d.live) dests ≡ true → AreNamed before dests → AreSavableServices rows before services → after (holding s (map with_fresh_cursor before) dests n) (service_commands rows services) ≡ holding s (map with_fresh_cursor (before ++ services)) (dests ++ made_all rows n services) (count_all rows n services)
services_added s rows before [] dests n live named are =
    ap (λ (services : List Service). holding s (map with_fresh_cursor services) dests n) (sym (append-nil before)) ∙ ap (λ (ds : List Dest). holding s (map with_fresh_cursor (before ++ [])) ds n) (sym (append-nil dests))
services_added s rows before (service ∷ services) dests n live named are =
    let own : List DestRow = rows_of service.key rows in
    let next : List Service = before ++ service ∷ [] in
    let more : List Command = service_commands rows services in
    let later : ℕ = count_on n own in
    let there : list_any (has_service_key service.key) (map with_fresh_cursor next) ≡ true = fresh_key service.key next ∙ any_last (has_service_key service.key) before service (key_eq_refl service.key) in
    let free : IsFree service.key dests [] = λ spec none. unnamed_free service.key spec dests (named service.key are.2) in
    service_added s (map with_fresh_cursor before) dests n (with_fresh_cursor service) (server_commands service.key own ++ more) (fresh_key service.key before ∙ are.2)
    ∙ ap (λ (all : List Service). after (holding s all dests n) (server_commands service.key own ++ more)) (sym (map_fresh_append before service))
    ∙ servers_added s (map with_fresh_cursor next) dests n service.key [] own more there live free are.1
    ∙ services_added s rows next services (dests ++ made n service.key own) later (all_live_append dests (made n service.key own) live (made_live n service.key own)) (named_more before dests n service own named) are.3
    ∙ ap (λ (all : List Service). holding s (map with_fresh_cursor all) ((dests ++ made n service.key own) ++ made_all rows later services) (count_all rows later services)) (append_assoc before (service ∷ []) services)
    ∙ ap (λ (ds : List Dest). holding s (map with_fresh_cursor (before ++ service ∷ services)) ds (count_all rows later services)) (append_assoc dests (made n service.key own) (made_all rows later services))

-- WHAT IS MADE

map_said_append : (xs ys : List Dest) → map said (xs ++ ys) ≡ map said xs ++ map said ys
map_said_append [] ys = refl
map_said_append (x ∷ xs) ys = ap (λ (rest : List (ServiceKey × DestSpec)). said x ∷ rest) (map_said_append xs ys)

said_made : (n : ℕ) (key : ServiceKey) (rows : List DestRow) → map said (made n key rows) ≡ said_rows key rows
said_made n key [] = refl
said_made n key (row ∷ rows) = ap (λ (rest : List (ServiceKey × DestSpec)). said_pair key row.dest.spec ∷ rest) (said_made (n + 1) key rows)

said_made_all : (rows : List DestRow) (n : ℕ) (services : List Service) → map said (made_all rows n services) ≡ said_services rows services
said_made_all rows n [] = refl
said_made_all rows n (service ∷ services) =
    let own : List DestRow = rows_of service.key rows in
    map_said_append (made n service.key own) (made_all rows (count_on n own) services)
    ∙ ap (λ (prefix : List (ServiceKey × DestSpec)). prefix ++ map said (made_all rows (count_on n own) services)) (said_made n service.key own)
    ∙ ap (λ (rest : List (ServiceKey × DestSpec)). said_rows service.key own ++ rest) (said_made_all rows (count_on n own) services)

live_made_all : (rows : List DestRow) (n : ℕ) (services : List Service) → list_all (λ (d : Dest). d.live) (made_all rows n services) ≡ true
live_made_all rows n [] = refl
live_made_all rows n (service ∷ services) =
    let own : List DestRow = rows_of service.key rows in
    all_live_append (made n service.key own) (made_all rows (count_on n own) services) (made_live n service.key own) (live_made_all rows (count_on n own) services)

pub tables_made : (tables : Snapshot) (s : State) → IsSavable tables → s.services ≡ [] → s.dests ≡ [] → HasTables tables (after s (service_commands tables.dests tables.services))
tables_made tables s are no_services no_dests =
    let rows : List DestRow = tables.dests in
    let services : List Service = tables.services in
    let last : State = holding s (map with_fresh_cursor services) (made_all rows s.next_dest services) (count_all rows s.next_dest services) in
    let made_so : after s (service_commands rows services) ≡ last =
    ap (λ (all : List Service). after (holding s all s.dests s.next_dest) (service_commands rows services)) no_services
    ∙ ap (λ (ds : List Dest). after (holding s [] ds s.next_dest) (service_commands rows services)) no_dests
    ∙ services_added s rows [] services [] s.next_dest refl (λ key none. refl) are in
    record {
      services = ap (λ (t : State). t.services) made_so;
      servers = ap (λ (t : State). map said t.dests) made_so ∙ said_made_all rows s.next_dest services;
      live = ap (λ (t : State). list_all (λ (d : Dest). d.live) t.dests) made_so ∙ live_made_all rows s.next_dest services;
    }
