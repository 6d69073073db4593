-- A well formed director whose tables words can say shows tables that can be saved.
use Rattle.std.proofs.Common.{◌≡◌, ◌==◌, Bool, true, false, cond, not, ◌&&◌, ◌||◌, ℕ, List, [], ◌∷◌, ◌++◌, Some, refl, sym, ap, subst, ◌∙◌, map, nat_le, append-nil}
use Rattle.std.proofs.lemmas.Bool.{and_parts, not-true}
use Rattle.std.proofs.lemmas.List.Elements.{filter-append}
use Rattle.std.specs.List.{AllByRecursion, IsDistinct, filter, flat_map, list_any}
use Rattle.lvs_types.specs.declared.service.ServiceKey.{ServiceKey}
use Rattle.lvs_types.specs.declared.service.Service.{Service}
use Rattle.lvs_types.specs.declared.dest.Dest.{Dest}
use Rattle.lvs_types.specs.declared.dest.DestRow.{DestRow}
use Rattle.lvs_types.specs.declared.entry.Entry.{Entry}
use Rattle.lvs_types.specs.declared.template.Template.{Template}
use Rattle.lvs_types.specs.declared.addr.Addr.{Addr}
use Rattle.lvs_types.specs.declared.item.Item.{Item}
use Rattle.lvs_model.specs.State.{State, initial}
use Rattle.lvs_model.specs.Step.{run}
use Rattle.lvs_model.specs.Same.{addr_eq, service_key_eq}
use Rattle.lvs_model.specs.Lists.{insert_by, sorted_by}
use Rattle.lvs_model.specs.Lookups.{has_service_key, is_server_of, servers_of, service_at}
use Rattle.lvs_model.specs.Counts.{row_of}
use Rattle.lvs_model.specs.Snapshots.{shown_dests, snapshot_of}
use Rattle.lvs_model.specs.Listings.{rows_of}
use Rattle.lvs_model.specs.WellFormed.{IsWellFormed, place_eq, place_of}
use Rattle.lvs_well_formed.proofs.Lists.{all_weaker, all_both, all_true, all_unmap, all_filter, all_filtered}
use Rattle.lvs_well_formed.proofs.Distinct.{distinct_parts, distinct_filter}
use Rattle.lvs_well_formed.proofs.Keys.{service_key_same, service_key_true, service_key_flip}
use Rattle.lvs_well_formed.proofs.Services.{other_server}
use Rattle.lvs_well_formed.proofs.Found.{services_found}
use Rattle.lvs_listing.specs.Savable.{IsSayableService, IsSayableServer, IsSavable, AreSavableServers, AreSavableServices, stand_together}
use Rattle.lvs_well_formed.proofs.Steps.{run_well_formed, initial_well_formed}
use Rattle.lvs_laws.specs.Saying.{IsSayableItem, IsSayableDest, HasSayableTables}
use Rattle.lvs_laws.proofs.SaveEdits.{run_keeps, initial_sayable}

-- FILTERS

-- none stays where none passes
filter_none : {X : Type 0} (p : X → Bool) (xs : List X) → AllByRecursion (λ x. p x ≡ false) xs → filter p xs ≡ []
filter_none p [] each = refl
filter_none p (x ∷ xs) each = ap (λ b. cond b (x ∷ filter p xs) (filter p xs)) each.0 ∙ filter_none p xs each.1

-- each stays where each passes
filter_all : {X : Type 0} (p : X → Bool) (xs : List X) → AllByRecursion (λ x. p x ≡ true) xs → filter p xs ≡ xs
filter_all p [] each = refl
filter_all p (x ∷ xs) each = ap (λ b. cond b (x ∷ filter p xs) (filter p xs)) each.0 ∙ ap (λ ys. x ∷ ys) (filter_all p xs each.1)

-- a sort keeps what holds of each
insert_keeps : {X : Type 0} (P : X → Type 0) (number : X → ℕ) (x : X) (xs : List X) → P x → AllByRecursion P xs → AllByRecursion P (insert_by number x xs)
insert_keeps P number x [] here each = (here, tt)
insert_keeps P number x (y ∷ ys) here each =
    let M : Bool → Type 0 = λ b. AllByRecursion P (cond b (x ∷ y ∷ ys) (y ∷ insert_by number x ys)) in
    elim (nat_le (number x) (number y)) as M [ true ↦ (here, each) | false ↦ (each.0, insert_keeps P number x ys here each.1) ]

sorted_keeps : {X : Type 0} (P : X → Type 0) (number : X → ℕ) (xs : List X) → AllByRecursion P xs → AllByRecursion P (sorted_by number xs)
sorted_keeps P number [] each = tt
sorted_keeps P number (x ∷ xs) each = insert_keeps P number x (sorted_by number xs) each.0 (sorted_keeps P number xs each.1)

-- THE SERVERS OF A SERVICE AMONG THOSE THAT ARE SHOWN

abbrev live_dests : List Service → List Dest → List Dest
live_dests services dests = flat_map (λ (service : Service). servers_of service.key dests) services

abbrev trashed_dests : List Dest → List Dest
trashed_dests dests = sorted_by (λ (d : Dest). d.id.0) (filter (λ (d : Dest). not d.live) dests)

not_of : (key : ServiceKey) (d : Dest) → not d.live ≡ true → is_server_of key d ≡ false
not_of key d trashed = ap (λ b. b && service_key_eq d.service key) (not-true d.live trashed)

-- none of them is in the trash
none_trashed : (key : ServiceKey) (dests : List Dest) → filter (is_server_of key) (trashed_dests dests) ≡ []
none_trashed key dests =
    filter_none (is_server_of key) (trashed_dests dests)
    (sorted_keeps (λ (d : Dest). is_server_of key d ≡ false) (λ (d : Dest). d.id.0) (filter (λ (d : Dest). not d.live) dests)
    (all_filtered (λ (d : Dest). is_server_of key d ≡ false) (λ (d : Dest). not d.live) dests (λ d trashed. not_of key d trashed)))

own_servers : (key other : ServiceKey) (dests : List Dest) → service_key_eq other key ≡ true → filter (is_server_of key) (servers_of other dests) ≡ servers_of key dests
own_servers key other dests same =
    let equal = service_key_true other key same in
    subst (λ k. filter (is_server_of key) (servers_of k dests) ≡ servers_of key dests) (sym equal)
    (filter_all (is_server_of key) (servers_of key dests) (all_filtered (λ (d : Dest). is_server_of key d ≡ true) (is_server_of key) dests (λ d is. is)))

other_servers : (key other : ServiceKey) (dests : List Dest) → service_key_eq other key ≡ false → filter (is_server_of key) (servers_of other dests) ≡ []
other_servers key other dests differs =
    filter_none (is_server_of key) (servers_of other dests) (all_filtered (λ (d : Dest). is_server_of key d ≡ false) (is_server_of other) dests (λ d is. other_server key other d differs is))

none_live : (key : ServiceKey) (services : List Service) (dests : List Dest) → AllByRecursion (λ (x : Service). service_key_eq x.key key ≡ false) services → filter (is_server_of key) (live_dests services dests) ≡ []
none_live key [] dests each = refl
none_live key (x ∷ xs) dests each =
    filter-append (is_server_of key) (servers_of x.key dests) (live_dests xs dests)
    ∙ ap (λ ds. ds ++ filter (is_server_of key) (live_dests xs dests)) (other_servers key x.key dests each.0)
    ∙ none_live key xs dests each.1

abbrev OwnAmong : ServiceKey → List Service → List Dest → Type 0
OwnAmong key services dests = filter (is_server_of key) (live_dests services dests) ≡ servers_of key dests

own_here : (key : ServiceKey) (x : Service) (xs : List Service) (dests : List Dest) → service_key_eq x.key key ≡ true → AllByRecursion (λ (y : Service). service_key_eq x.key y.key ≡ false) xs → OwnAmong key (x ∷ xs) dests
own_here key x xs dests same apart =
    let equal = service_key_true x.key key same in
    let others = all_weaker (λ (y : Service). service_key_eq x.key y.key ≡ false) (λ (y : Service). service_key_eq y.key key ≡ false) xs
    (λ y differs. service_key_flip key y.key (subst (λ k. service_key_eq k y.key ≡ false) equal differs)) apart in
    filter-append (is_server_of key) (servers_of x.key dests) (live_dests xs dests)
    ∙ ap (λ ds. filter (is_server_of key) (servers_of x.key dests) ++ ds) (none_live key xs dests others)
    ∙ append-nil (filter (is_server_of key) (servers_of x.key dests))
    ∙ own_servers key x.key dests same

own_later : (key : ServiceKey) (x : Service) (xs : List Service) (dests : List Dest) → service_key_eq x.key key ≡ false → OwnAmong key xs dests → OwnAmong key (x ∷ xs) dests
own_later key x xs dests differs later =
    filter-append (is_server_of key) (servers_of x.key dests) (live_dests xs dests)
    ∙ ap (λ ds. ds ++ filter (is_server_of key) (live_dests xs dests)) (other_servers key x.key dests differs)
    ∙ later

own_live : (key : ServiceKey) (services : List Service) (dests : List Dest) (service : Service) → IsDistinct service_key_eq (map (λ (x : Service). x.key) services) → service_at key services ≡ Some service → OwnAmong key services dests
own_live key [] dests service apart found = absurd cc
own_live key (x ∷ xs) dests service apart found =
    let parts = distinct_parts service_key_eq x.key (map (λ (y : Service). y.key) xs) apart in
    let M : Bool → Type 0 = λ b. service_key_eq x.key key ≡ b → cond b (Some x) (service_at key xs) ≡ Some service → OwnAmong key (x ∷ xs) dests in
    (elim (service_key_eq x.key key) as M [
      | true ↦ (λ here is. own_here key x xs dests here (all_unmap (λ k. service_key_eq x.key k ≡ false) (λ (y : Service). y.key) xs parts.0))
      | false ↦ (λ here is. own_later key x xs dests here (own_live key xs dests service parts.1 is))
    ]) refl found

-- the rows of a service are those of its servers
rows_filtered : (key : ServiceKey) (es : List Entry) (ts : List Template) (ds : List Dest) → rows_of key (map (row_of es ts) ds) ≡ map (row_of es ts) (filter (is_server_of key) ds)
rows_filtered key es ts [] = refl
rows_filtered key es ts (d ∷ ds) =
    let M : Bool → Type 0 = λ b. cond b (row_of es ts d ∷ rows_of key (map (row_of es ts) ds)) (rows_of key (map (row_of es ts) ds)) ≡ map (row_of es ts) (cond b (d ∷ filter (is_server_of key) ds) (filter (is_server_of key) ds)) in
    elim (is_server_of key d) as M [ true ↦ ap (λ rows. row_of es ts d ∷ rows) (rows_filtered key es ts ds) | false ↦ rows_filtered key es ts ds ]

own_rows : (s : State) (key : ServiceKey) (service : Service) → IsWellFormed s → service_at key s.services ≡ Some service → rows_of key (snapshot_of s).dests ≡ map (row_of s.entries s.templates) (servers_of key s.dests)
own_rows s key service w found =
    rows_filtered key s.entries s.templates (shown_dests s.services s.dests)
    ∙ ap (λ ds. map (row_of s.entries s.templates) ds)
    (filter-append (is_server_of key) (live_dests s.services s.dests) (trashed_dests s.dests)
    ∙ ap (λ ds. filter (is_server_of key) (live_dests s.services s.dests) ++ ds) (none_trashed key s.dests)
    ∙ append-nil (filter (is_server_of key) (live_dests s.services s.dests))
    ∙ own_live key s.services s.dests service w.service_keys found)

-- SERVERS THAT CAN BE SAVED

apart_by : (service addr port : Bool) → ((service && addr) && port) ≡ false → service ≡ true → (addr && port) ≡ false
apart_by true addr port differs same = differs
apart_by false addr port differs same = absurd cc

-- two servers of one service stand apart
stand_apart : (key : ServiceKey) (es : List Entry) (ts : List Template) (d other : Dest) → is_server_of key d ≡ true → is_server_of key other ≡ true → place_eq (place_of d) (place_of other) ≡ false
    → stand_together other.spec (row_of es ts d) ≡ false
stand_apart key es ts d other own also differs =
    let first = service_key_true d.service key (and_parts d.live (service_key_eq d.service key) own).1 in
    let second = service_key_true other.service key (and_parts other.live (service_key_eq other.service key) also).1 in
    apart_by (service_key_eq d.service other.service) (addr_eq d.spec.addr other.spec.addr) (d.spec.port == other.spec.port) differs
    (subst (λ k. service_key_eq k other.service ≡ true) (second ∙ sym first) (service_key_same other.service))

none_more : {X : Type 0} (p : X → Bool) (xs : List X) (y : X) → list_any p xs ≡ false → p y ≡ false → list_any p (xs ++ y ∷ []) ≡ false
none_more p [] y none here = ap (λ b. b || false) here
none_more p (x ∷ xs) y none here =
    let M : Bool → Type 0 = λ b. (b || list_any p xs) ≡ false → (b || list_any p (xs ++ y ∷ [])) ≡ false in
    (elim (p x) as M [ true ↦ (λ is. is) | false ↦ (λ is. none_more p xs y is here) ]) none

servers_savable : (key : ServiceKey) (es : List Entry) (ts : List Template) (before : List DestRow) (ds : List Dest) → AllByRecursion (λ (d : Dest). is_server_of key d ≡ true) ds → AllByRecursion IsSayableDest ds
    → AllByRecursion (λ (d : Dest). list_any (stand_together d.spec) before ≡ false) ds → IsDistinct place_eq (map place_of ds) → AreSavableServers key before (map (row_of es ts) ds)
servers_savable key es ts before [] own are none apart = tt
servers_savable key es ts before (d ∷ ds) own are none apart =
    let parts = distinct_parts place_eq (place_of d) (map place_of ds) apart in
    let differ = all_unmap (λ place. place_eq (place_of d) place ≡ false) place_of ds parts.0 in
    let stands = all_both (λ (x : Dest). is_server_of key x ≡ true) (λ (x : Dest). place_eq (place_of d) (place_of x) ≡ false) (λ (x : Dest). stand_together x.spec (row_of es ts d) ≡ false) ds
    (λ x also differs. stand_apart key es ts d x own.0 also differs) own.1 differ in
    let later = all_both (λ (x : Dest). list_any (stand_together x.spec) before ≡ false) (λ (x : Dest). stand_together x.spec (row_of es ts d) ≡ false) (λ (x : Dest). list_any (stand_together x.spec) (before ++ row_of es ts d ∷ []) ≡ false) ds
    (λ x first second. none_more (stand_together x.spec) before (row_of es ts d) first second) none.1 stands in (
      subst (λ k. IsSayableServer k d.spec) (service_key_true d.service key (and_parts d.live (service_key_eq d.service key) own.0).1) are.0,
      none.0,
      servers_savable key es ts (before ++ row_of es ts d ∷ []) ds own.1 are.1 later parts.1,
    )

own_savable : (s : State) (service : Service) → IsWellFormed s → HasSayableTables s → service_at service.key s.services ≡ Some service → AreSavableServers service.key [] (rows_of service.key (snapshot_of s).dests)
own_savable s service w are found =
    subst (λ rows. AreSavableServers service.key [] rows) (sym (own_rows s service.key service w found))
    (servers_savable service.key s.entries s.templates [] (servers_of service.key s.dests)
    (all_filtered (λ (d : Dest). is_server_of service.key d ≡ true) (is_server_of service.key) s.dests (λ d is. is))
    (all_filter IsSayableDest (is_server_of service.key) s.dests are.servers)
    (all_true (λ (d : Dest). list_any (stand_together d.spec) [] ≡ false) (servers_of service.key s.dests) (λ d. refl))
    (distinct_filter place_eq place_of (is_server_of service.key) s.dests w.places))

-- SERVICES THAT CAN BE SAVED

services_savable : (rows : List DestRow) (before services : List Service) → AllByRecursion IsSayableService services → AllByRecursion (λ (x : Service). AreSavableServers x.key [] (rows_of x.key rows)) services
    → AllByRecursion (λ (x : Service). list_any (has_service_key x.key) before ≡ false) services → IsDistinct service_key_eq (map (λ (x : Service). x.key) services) → AreSavableServices rows before services
services_savable rows before [] are servers none apart = tt
services_savable rows before (x ∷ xs) are servers none apart =
    let parts = distinct_parts service_key_eq x.key (map (λ (y : Service). y.key) xs) apart in
    let differ = all_unmap (λ k. service_key_eq x.key k ≡ false) (λ (y : Service). y.key) xs parts.0 in
    let later = all_both (λ (y : Service). list_any (has_service_key y.key) before ≡ false) (λ (y : Service). service_key_eq x.key y.key ≡ false) (λ (y : Service). list_any (has_service_key y.key) (before ++ x ∷ []) ≡ false) xs
    (λ y first second. none_more (has_service_key y.key) before x first second) none.1 differ in
    (are.0, servers.0, none.0, services_savable rows (before ++ x ∷ []) xs are.1 servers.1 later parts.1)

pub snapshot_savable : (s : State) → IsWellFormed s → HasSayableTables s → IsSavable (snapshot_of s)
snapshot_savable s w are =
    services_savable (snapshot_of s).dests [] s.services are.services
    (all_weaker (λ (x : Service). service_at x.key s.services ≡ Some x) (λ (x : Service). AreSavableServers x.key [] (rows_of x.key (snapshot_of s).dests)) s.services (λ x found. own_savable s x w are found) (services_found s w))
    (all_true (λ (x : Service). list_any (has_service_key x.key) [] ≡ false) s.services (λ x. refl)) w.service_keys

pub ever_savable : (local : Addr) (buckets : ℕ) (items : List Item) → AllByRecursion IsSayableItem items → IsSavable (snapshot_of (run (initial local buckets) items).1)
ever_savable local buckets items each =
    snapshot_savable (run (initial local buckets) items).1 (run_well_formed (initial local buckets) items (initial_well_formed local buckets)) (run_keeps (initial local buckets) items each (initial_sayable local buckets))
