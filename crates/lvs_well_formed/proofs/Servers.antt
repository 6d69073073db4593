-- A server that is added, revived or edited keeps the state well formed.
use Rattle.std.proofs.Common.{◌≡◌, ◌==◌, ℕ, ◌+◌, Bool, true, false, not, ◌&&◌, List, [], ◌∷◌, ◌++◌, Option, Some, None, refl, sym, ap, subst, ◌∙◌}
use Rattle.std.proofs.lemmas.Bool.{and_parts, eqb-true, not-true}
use Rattle.std.specs.List.{AllByRecursion, find, list_any}
use Rattle.lvs_types.specs.declared.addr.Addr.{Addr}
use Rattle.lvs_types.specs.declared.addr.DestId.{DestId}
use Rattle.lvs_types.specs.declared.service.ServiceKey.{ServiceKey}
use Rattle.lvs_types.specs.declared.dest.Dest.{Dest}
use Rattle.lvs_types.specs.declared.dest.DestSpec.{DestSpec}
use Rattle.lvs_types.specs.declared.entry.Entry.{Entry}
use Rattle.lvs_types.specs.declared.template.Template.{Template}
use Rattle.lvs_types.specs.Thresholds.{has_bad_thresholds}
use Rattle.lvs_model.specs.State.{State}
use Rattle.lvs_model.specs.Same.{addr_eq, service_key_eq}
use Rattle.lvs_model.specs.Lists.{update_first}
use Rattle.lvs_model.specs.Lookups.{dest_at, has_dest_id, has_service_key, is_server_of, stands_at, is_server_at}
use Rattle.lvs_model.specs.Edits.{is_service, is_server, is_revivable, new_dest, revived, place_server, add_server_by, respecified, edit_server_by}
use Rattle.lvs_model.specs.WellFormed.{HasService, HasCursor, HasGoodThresholds, IsLastOf, is_live_server, place_eq, place_of, Place}
use Rattle.lvs_well_formed.proofs.Lists.{all_weaker, all_both, all_true, all_push, all_find, find_none, find_passes, any_none}
use Rattle.lvs_well_formed.proofs.Distinct.{distinct_push}
use Rattle.lvs_well_formed.proofs.Finds.{find_push}
use Rattle.lvs_well_formed.proofs.Keys.{addr_true, service_key_true, service_key_same}
use Rattle.lvs_well_formed.proofs.Ids.{goes_push}
use Rattle.lvs_well_formed.proofs.Parts.{Parts, After, ids_stay, stays}
use Rattle.lvs_well_formed.proofs.Alike.{Stays, StaysNamed, found_stays, stays_from, all_named, entries_stay, templates_stay, update_alike}
use Rattle.lvs_well_formed.proofs.AlikeStates.{with_alike}
use Rattle.lvs_well_formed.proofs.Entries.{dests_found}
use Rattle.lvs_well_formed.proofs.Revivals.{moved_after}

-- A NEW SERVER

pushed_stays : (ds : List Dest) (new : Dest) (id : DestId) → Stays (dest_at id ds) (dest_at id (ds ++ new ∷ []))
pushed_stays ds new id = stays_from (dest_at id ds) (dest_at id (ds ++ new ∷ [])) (λ d is. found_stays d d (dest_at id (ds ++ new ∷ [])) (find_push (has_dest_id id) ds d new is) refl)

live_pushed : (key : ServiceKey) (ds : List Dest) (new : Dest) (id : DestId) (o : Option Dest) → dest_at id ds ≡ o → is_live_server key o ≡ true → is_live_server key (dest_at id (ds ++ new ∷ [])) ≡ true
live_pushed key ds new id None is live = absurd cc
live_pushed key ds new id (Some d) is live = subst (λ o. is_live_server key o ≡ true) (sym (find_push (has_dest_id id) ds d new is)) live

last_pushed : (ds : List Dest) (new : Dest) (key : ServiceKey) (o : Option DestId) → IsLastOf ds key o → IsLastOf (ds ++ new ∷ []) key o
last_pushed ds new key None last = tt
last_pushed ds new key (Some id) last = live_pushed key ds new id (dest_at id ds) refl last

pub new_server_after : (s : State) (new : Dest) → new.id.0 ≡ s.next_dest → AllByRecursion (λ (d : Dest). place_eq (place_of d) (place_of new) ≡ false) s.dests → HasService s.services new → HasGoodThresholds new → Parts s
    → After s (record s { dests = s.dests ++ new ∷ []; next_dest = s.next_dest + 1 })
new_server_after s new id apart has good p =
    let later = s.dests ++ new ∷ [] in
    let goes = goes_push s.next_dest (λ (d : Dest). d.id.0) s.dests new id p.dests.ids in
    record {
      parts = record {
        services = record {
          keys = p.services.keys;
          live = all_push (HasService s.services) s.dests new p.services.live has;
          cursors = all_weaker (HasCursor s.dests) (HasCursor later) s.services (λ x last. last_pushed s.dests new x.key x.cursor.last last) p.services.cursors;
        };
        dests = record {
          ids = goes.drawn;
          places = distinct_push place_eq place_of s.dests new apart p.dests.places;
          thresholds = all_push HasGoodThresholds s.dests new p.dests.thresholds good;
        };
        entries = entries_stay s.next_entry s.next_template s.dests later s.entries (all_true (λ (e : Entry). StaysNamed s.dests later e.server) s.entries (λ e. all_named s.dests later (pushed_stays s.dests new) e.server)) p.entries;
        templates = templates_stay s.next_template s.dests later s.templates (all_true (λ (t : Template). StaysNamed s.dests later t.server) s.templates (λ t. all_named s.dests later (pushed_stays s.dests new) t.server)) p.templates;
        pending = p.pending;
      };
      ids = record { entries = (ids_stay s).entries; dests = goes.rises; templates = (ids_stay s).templates };
    }

-- no live server and no trashed one stands there: none does
no_place : (live service addr port : Bool) → ((live && service) && (addr && port)) ≡ false → ((not live && service) && (addr && port)) ≡ false → ((service && addr) && port) ≡ false
no_place true false addr port live trashed = refl
no_place true true false port live trashed = refl
no_place true true true port live trashed = live
no_place false false addr port live trashed = refl
no_place false true false port live trashed = refl
no_place false true true port live trashed = trashed

new_place : (s : State) (key : ServiceKey) (spec : DestSpec) → is_server s key spec.addr spec.port ≡ false → find (is_revivable key spec) s.dests ≡ None
    → AllByRecursion (λ (d : Dest). place_eq (place_of d) (record { service = key; addr = spec.addr; port = spec.port }) ≡ false) s.dests
new_place s key spec live trashed =
    all_both (λ (d : Dest). is_server_at key spec.addr spec.port d ≡ false) (λ (d : Dest). is_revivable key spec d ≡ false)
    (λ (d : Dest). place_eq (place_of d) (record { service = key; addr = spec.addr; port = spec.port }) ≡ false) s.dests
    (λ d first second. no_place d.live (service_key_eq d.service key) (addr_eq d.spec.addr spec.addr) (d.spec.port == spec.port) first second)
    (any_none (is_server_at key spec.addr spec.port) s.dests live) (find_none (is_revivable key spec) s.dests trashed)

-- AN EDITED SERVER

place_true : (key : ServiceKey) (spec : DestSpec) (d : Dest) → service_key_eq d.service key ≡ true → stands_at spec.addr spec.port d ≡ true → place_of d ≡ record { service = key; addr = spec.addr; port = spec.port }
place_true key spec d service stands =
    let parts = and_parts (addr_eq d.spec.addr spec.addr) (d.spec.port == spec.port) stands in
    let services = service_key_true d.service key service in
    let addrs = addr_true d.spec.addr spec.addr parts.0 in
    let ports = eqb-true d.spec.port spec.port parts.1 in
    ap (λ (x : ServiceKey). let place : Place = record { service = x; addr = d.spec.addr; port = d.spec.port } in place) services
    ∙ ap (λ (x : Addr). let place : Place = record { service = key; addr = x; port = d.spec.port } in place) addrs
    ∙ ap (λ (x : ℕ). let place : Place = record { service = key; addr = spec.addr; port = x } in place) ports

same_place : (spec : DestSpec) (d : Dest) → stands_at spec.addr spec.port d ≡ true → place_of (record d { spec = spec }) ≡ place_of d
same_place spec d stands = sym (place_true d.service spec d (service_key_same d.service) stands)

pub edit_server_after : (s : State) (key : ServiceKey) (spec : DestSpec) (a b c : Bool) → has_bad_thresholds spec ≡ c → Parts s → After s (edit_server_by s key spec a b c).1
edit_server_after s key spec false b c is p = stays s p
edit_server_after s key spec true false c is p = stays s p
edit_server_after s key spec true true true is p = stays s p
edit_server_after s key spec true true false is p =
    with_alike s (update_first (is_server_at key spec.addr spec.port) (respecified s.entries spec) s.dests)
    (update_alike (is_server_at key spec.addr spec.port) (respecified s.entries spec) s.dests
    (λ d here. record {
      id = refl;
      place = same_place spec d (and_parts (is_server_of key d) (stands_at spec.addr spec.port d) here).1;
      live = refl;
      thresholds = λ _. is;
    })) p

-- AN ADDED SERVER

place_after : (s : State) (key : ServiceKey) (spec : DestSpec) (o : Option Dest) → find (is_revivable key spec) s.dests ≡ o → is_service s key ≡ true → is_server s key spec.addr spec.port ≡ false → has_bad_thresholds spec ≡ false → Parts s
    → After s (place_server s key spec o)
place_after s key spec None is known live good p =
    new_server_after s (new_dest (record { 0 = s.next_dest }) key spec) refl (new_place s key spec live is) (λ _. known) good p
place_after s key spec (Some d) is known live good p =
    let test = find_passes (is_revivable key spec) s.dests d is in
    let stands = and_parts (not d.live && service_key_eq d.service key) (stands_at spec.addr spec.port d) test in
    let trashed = and_parts (not d.live) (service_key_eq d.service key) stands.0 in
    moved_after s (revived s.entries spec d) d (all_find (λ (x : Dest). dest_at x.id s.dests ≡ Some x) (is_revivable key spec) s.dests d (dests_found s p) is) (same_place spec d stands.1) (not-true d.live trashed.0)
    (λ _. subst (λ k. list_any (has_service_key k) s.services ≡ true) (sym (service_key_true d.service key trashed.1)) known) good p

pub add_server_after : (s : State) (key : ServiceKey) (spec : DestSpec) (a b c : Bool) → is_service s key ≡ a → is_server s key spec.addr spec.port ≡ b → has_bad_thresholds spec ≡ c → Parts s → After s (add_server_by s key spec a b c).1
add_server_after s key spec false b c known live good p = stays s p
add_server_after s key spec true true c known live good p = stays s p
add_server_after s key spec true false true known live good p = stays s p
add_server_after s key spec true false false known live good p = place_after s key spec (find (is_revivable key spec) s.dests) refl known live good p
