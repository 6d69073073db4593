-- A new connection keeps the state well formed: its service, its template, the pick and its entry.
use Rattle.std.proofs.Common.{◌≡◌, ◌==◌, ℕ, Bool, true, false, cond, List, [], ◌∷◌, Option, Some, None, refl, sym, ap, subst, is_some, ◌∙◌, map, slice_get, arith}
use Rattle.std.specs.Option.{option_or}
use Rattle.std.specs.List.{AllByRecursion, IsDistinct, find, list_any}
use Rattle.lvs_types.specs.declared.addr.Addr.{Addr}
use Rattle.lvs_types.specs.declared.addr.DestId.{DestId}
use Rattle.lvs_types.specs.declared.service.Proto.{Proto}
use Rattle.lvs_types.specs.declared.service.ServiceKey.{ServiceKey}
use Rattle.lvs_types.specs.declared.service.ServiceKey.TheVariants.{Net, Mark}
use Rattle.lvs_types.specs.declared.service.Service.{Service}
use Rattle.lvs_types.specs.declared.service.Cursor.{Cursor}
use Rattle.lvs_types.specs.declared.settings.Settings.{Settings}
use Rattle.lvs_types.specs.declared.dest.Dest.{Dest}
use Rattle.lvs_types.specs.declared.dest.Candidate.{Candidate}
use Rattle.lvs_types.specs.declared.template.Template.{Template}
use Rattle.lvs_model.specs.State.{State}
use Rattle.lvs_model.specs.Same.{service_key_eq}
use Rattle.lvs_model.specs.Lists.{update_first}
use Rattle.lvs_model.specs.Counts.{candidates, candidate_of}
use Rattle.lvs_model.specs.Pick.{pick}
use Rattle.lvs_model.specs.Lookups.{dest_at, has_dest_id, find_service, marked_service, service_at, has_service_key, is_server_of, servers_of, template_at, has_template_key, has_template_id}
use Rattle.lvs_model.specs.Packets.{Packet, key_of, may_connect}
use Rattle.lvs_model.specs.Binding.{put_template, template_tried}
use Rattle.lvs_model.specs.Persistence.{template_key, usable_server, usable, takes_templates}
use Rattle.lvs_model.specs.Scheduling.{with_cursor, new_template, replace_template, take_pick, pick_at, picked, schedule, renewed, use_template, try_template, persist_by, serve_packet, admit, connect}
use Rattle.lvs_model.specs.WellFormed.{IsLastOf, is_live_server, HasCursor, HasService, TemplateHasServer, service_keys}
use Rattle.lvs_well_formed.proofs.Lists.{all_weaker, all_find, all_get, all_filter, all_passing, all_map, all_update, find_passes}
use Rattle.lvs_well_formed.proofs.Distinct.{keys_update}
use Rattle.lvs_well_formed.proofs.Finds.{find_put}
use Rattle.lvs_well_formed.proofs.Keys.{nat_same, service_key_true, dest_id_true}
use Rattle.lvs_well_formed.proofs.Parts.{Parts, After, ids_stay, stays, then_after}
use Rattle.lvs_well_formed.proofs.Entries.{IsFree, dests_found}
use Rattle.lvs_well_formed.proofs.Bindings.{tried_there, tried_id, tried_key}
use Rattle.lvs_well_formed.proofs.Templates.{IsTemplateOf, template_found, template_older, with_template_put, with_template_added}
use Rattle.lvs_well_formed.proofs.Forwards.{connect_to_after}
use Rattle.lvs_well_formed.proofs.Picks.{pick_last}

-- what is asked of a packet that makes a connection: its key is free
abbrev pub IsNew : State → Packet → Type 0
IsNew s p = IsFree s (key_of p.proto p.head)

-- THE CURSOR

-- the keys of the services, and whether each is there, stay with the keys
pub has_service_same : (services later : List Service) (key : ServiceKey) → service_keys later ≡ service_keys services → list_any (has_service_key key) later ≡ list_any (has_service_key key) services
has_service_same [] [] key same = refl
has_service_same [] (other ∷ others) key same = absurd cc
has_service_same (x ∷ xs) [] key same = absurd cc
has_service_same (x ∷ xs) (other ∷ others) key same =
    let first : other.key ≡ x.key = cc in
    let rest = has_service_same xs others key cc in
    cc

pub with_services_alike : (s : State) (later : List Service) → service_keys later ≡ service_keys s.services → AllByRecursion (HasCursor s.dests) later → Parts s → After s (record s { services = later })
with_services_alike s later same cursors p = record {
  parts = record {
    services = record {
      keys = subst (λ keys. IsDistinct service_key_eq keys) (sym same) p.services.keys;
      live = all_weaker (HasService s.services) (HasService later) s.dests (λ d has live. has_service_same s.services later d.service same ∙ has live) p.services.live;
      cursors = cursors;
    };
    dests = p.dests;
    entries = p.entries;
    templates = p.templates;
    pending = p.pending;
  };
  ids = record { entries = (ids_stay s).entries; dests = (ids_stay s).dests; templates = (ids_stay s).templates };
}

pub cursor_after : (s : State) (key : ServiceKey) (cursor : Cursor) → IsLastOf s.dests key cursor.last → Parts s → After s (with_cursor key cursor s)
cursor_after s key cursor last p =
    let turn : Service → Service = λ service. record service { cursor = cursor } in
    with_services_alike s (update_first (has_service_key key) turn s.services)
    (keys_update (λ (service : Service). service.key) (has_service_key key) turn s.services (λ service here. refl))
    (all_update (HasCursor s.dests) (has_service_key key) turn s.services (λ service here old. subst (λ k. IsLastOf s.dests k cursor.last) (sym (service_key_true service.key key here)) last) p.services.cursors) p

-- THE PICK

pub take_pick_after : (s : State) (p : Packet) (service : Service) (d : Dest) (o : Option ℕ) → dest_at d.id s.dests ≡ Some d → IsNew s p → Parts s → After s (take_pick s p service d o).1
take_pick_after s p service d None found new parts = connect_to_after s p service d None found new tt parts
take_pick_after s p service d (Some seconds) found new parts =
    let t = new_template s (template_key service p.head.src) seconds d in
    let there : TemplateHasServer s.dests t = ap (λ (o : Option Dest). is_some o) found in
    then_after s (replace_template t s) (take_pick s p service d (Some seconds)).1 (with_template_added s t refl there parts)
    (λ q. connect_to_after (replace_template t s) p service d (Some t.id) found new (omega arith) q)

pick_at_after : (s : State) (p : Packet) (service : Service) (cursor : Cursor) (o : Option Dest) → IsLastOf s.dests service.key cursor.last → ((d : Dest) → o ≡ Some d → dest_at d.id s.dests ≡ Some d) → IsNew s p → Parts s
    → After s (pick_at s p service cursor o).1
pick_at_after s p service cursor None last found new parts = stays s parts
pick_at_after s p service cursor (Some d) last found new parts =
    let turned : State = with_cursor service.key cursor s in
    then_after s turned (pick_at s p service cursor (Some d)).1 (cursor_after s service.key cursor last parts)
    (λ q. take_pick_after turned p service d service.persist (found d refl) new q)

server_found : (s : State) (key : ServiceKey) (place : ℕ) (d : Dest) → Parts s → slice_get (servers_of key s.dests) place ≡ Some d → dest_at d.id s.dests ≡ Some d
server_found s key place d parts is =
    all_get (λ (x : Dest). dest_at x.id s.dests ≡ Some x) (servers_of key s.dests) place d (all_filter (λ (x : Dest). dest_at x.id s.dests ≡ Some x) (is_server_of key) s.dests (dests_found s parts)) is

picked_after : (s : State) (p : Packet) (service : Service) (o : Option (ℕ × Cursor)) → ((choice : ℕ × Cursor) → o ≡ Some choice → IsLastOf s.dests service.key choice.1.last) → IsNew s p → Parts s → After s (picked s p service o).1
picked_after s p service None last new parts = stays s parts
picked_after s p service (Some choice) last new parts =
    pick_at_after s p service choice.1 (slice_get (servers_of service.key s.dests) choice.0) (last choice refl) (λ d is. server_found s service.key choice.0 d parts is) new parts

-- each candidate is a live server of the service
live_candidates : (s : State) (key : ServiceKey) → Parts s → AllByRecursion (λ (c : Candidate). IsLastOf s.dests key (Some c.id)) (candidates key s.dests s.entries)
live_candidates s key parts =
    all_map (λ (c : Candidate). IsLastOf s.dests key (Some c.id)) (candidate_of s.entries) (servers_of key s.dests)
    (all_passing (λ (d : Dest). dest_at d.id s.dests ≡ Some d) (λ (d : Dest). IsLastOf s.dests key (Some d.id)) (is_server_of key) s.dests
    (λ d live found. subst (λ o. is_live_server key o ≡ true) (sym found) live) (dests_found s parts))

pub schedule_after : (s : State) (p : Packet) (service : Service) → HasCursor s.dests service → IsNew s p → Parts s → After s (schedule s p service).1
schedule_after s p service has new parts =
    let addrs : List Addr = map (λ (d : Dest). d.spec.addr) (servers_of service.key s.dests) in
    picked_after s p service (pick service.scheduler (candidates service.key s.dests s.entries) addrs service.cursor p.head.src p.head.dst)
    (λ choice is. pick_last (IsLastOf s.dests service.key) service.scheduler (candidates service.key s.dests s.entries) addrs service.cursor p.head.src p.head.dst choice has (live_candidates s service.key parts) is) new parts

-- A TEMPLATE

usable_step : (b : Bool) (x d : Dest) → cond b (Some x) None ≡ Some d → x ≡ d
usable_step true x d is = cc
usable_step false x d is = absurd cc

usable_at : (settings : Settings) (ds : List Dest) (id : DestId) (o : Option Dest) (d : Dest) → dest_at id ds ≡ o → usable settings o ≡ Some d → dest_at id ds ≡ Some d
usable_at settings ds id None d found is = absurd cc
usable_at settings ds id (Some x) d found is = let same = usable_step (takes_templates settings x) x d is in found ∙ ap (λ (y : Dest). Some y) same

usable_found : (settings : Settings) (ds : List Dest) (o : Option DestId) (d : Dest) → usable_server settings ds o ≡ Some d → dest_at d.id ds ≡ Some d
usable_found settings ds None d is = absurd cc
usable_found settings ds (Some id) d is =
    let found = usable_at settings ds id (dest_at id ds) d refl is in
    let same = dest_id_true d.id id (find_passes (has_dest_id id) ds d found) in
    subst (λ i. dest_at i ds ≡ Some d) (sym same) found

use_template_after : (s : State) (p : Packet) (service : Service) (seconds : ℕ) (t : Template) (o : Option Dest) → ((d : Dest) → o ≡ Some d → dest_at d.id s.dests ≡ Some d) → IsTemplateOf s t → HasCursor s.dests service → IsNew s p → Parts s
    → After s (use_template s p service seconds t o).1
use_template_after s p service seconds t None found is has new parts = schedule_after s p service has new parts
use_template_after s p service seconds t (Some d) found is has new parts =
    let after : Template = renewed s seconds t in
    let put : State = record s { templates = put_template after s.templates } in
    let there = all_find (TemplateHasServer s.dests) (has_template_id t.id) s.templates t parts.templates.servers is in
    then_after s put (use_template s p service seconds t (Some d)).1 (with_template_put s t after is refl refl there parts)
    (λ q. connect_to_after put p service d (Some t.id) (found d refl) new (template_older s (has_template_id t.id) t parts is) q)

try_template_after : (s : State) (p : Packet) (service : Service) (seconds : ℕ) (old t : Template) → find (has_template_id t.id) s.templates ≡ Some old → t.id ≡ old.id → t.key ≡ old.key → TemplateHasServer s.dests t → HasCursor s.dests service → IsNew s p → Parts s
    → After s (try_template s p service seconds t).1
try_template_after s p service seconds old t is id key there has new parts =
    let put : State = record s { templates = put_template t s.templates } in
    then_after s put (try_template s p service seconds t).1 (with_template_put s old t is id key there parts)
    (λ q. use_template_after put p service seconds t (usable_server s.settings s.dests t.server) (λ d found. usable_found s.settings s.dests t.server d found)
    (find_put (has_template_id t.id) t s.templates old is (nat_same t.id.0)) has new q)

persist_after : (s : State) (p : Packet) (service : Service) (seconds : ℕ) (o : Option Template) → ((t : Template) → o ≡ Some t → IsTemplateOf s t) → HasCursor s.dests service → IsNew s p → Parts s → After s (persist_by s p service seconds o).1
persist_after s p service seconds None is has new parts = schedule_after s p service has new parts
persist_after s p service seconds (Some t) is has new parts =
    let tried : Template = template_tried s t t.server in
    let same = tried_id s t t.server in
    let found : find (has_template_id tried.id) s.templates ≡ Some t = subst (λ i. find (has_template_id i) s.templates ≡ Some t) (sym same) (is t refl) in
    let there = all_find (TemplateHasServer s.dests) (has_template_id t.id) s.templates t parts.templates.servers (is t refl) in
    try_template_after s p service seconds t tried found same (tried_key s t t.server) (tried_there s t t.server parts there) has new parts

serve_after : (s : State) (p : Packet) (service : Service) (o : Option ℕ) → HasCursor s.dests service → IsNew s p → Parts s → After s (serve_packet s p service o).1
serve_after s p service None has new parts = schedule_after s p service has new parts
serve_after s p service (Some seconds) has new parts =
    let key = template_key service p.head.src in
    persist_after s p service seconds (template_at key s.templates) (λ t is. template_found s (has_template_key key) t parts is) has new parts

admit_after : (s : State) (p : Packet) (o : Option Service) (b : Bool) → ((service : Service) → o ≡ Some service → HasCursor s.dests service) → IsNew s p → Parts s → After s (admit s p o b).1
admit_after s p None b has new parts = stays s parts
admit_after s p (Some service) false has new parts = stays s parts
admit_after s p (Some service) true has new parts = serve_after s p service service.persist (has service refl) new parts

either_found : {X : Type 0} (P : X → Type 0) (a b : Option X) (x : X) → ((y : X) → a ≡ Some y → P y) → ((y : X) → b ≡ Some y → P y) → option_or a b ≡ Some x → P x
either_found P None b x first second is = second x is
either_found P (Some y) b x first second is = let same : y ≡ x = cc in subst P same (first y refl)

marked_found : (P : Service → Type 0) (b : Bool) (o : Option Service) (x : Service) → ((y : Service) → o ≡ Some y → P y) → cond b None o ≡ Some x → P x
marked_found P true o x each is = absurd cc
marked_found P false o x each is = each x is

service_cursor : (s : State) (proto : Proto) (addr : Addr) (port mark : ℕ) (service : Service) → Parts s → find_service proto addr port mark s.services ≡ Some service → HasCursor s.dests service
service_cursor s proto addr port mark service parts is =
    let P = HasCursor s.dests in
    let each = λ (key : ServiceKey) (x : Service) (found : service_at key s.services ≡ Some x). all_find P (has_service_key key) s.services x parts.services.cursors found in
    either_found P (marked_service mark s.services) (option_or (service_at (Net proto addr port) s.services) (service_at (Net proto addr 0) s.services)) service
    (λ x found. marked_found P (mark == 0) (service_at (Mark mark) s.services) x (each (Mark mark)) found)
    (λ x found. either_found P (service_at (Net proto addr port) s.services) (service_at (Net proto addr 0) s.services) x (each (Net proto addr port)) (each (Net proto addr 0)) found) is

-- a packet of no connection
pub connect_after : (s : State) (p : Packet) → IsNew s p → Parts s → After s (connect s p).1
connect_after s p new parts =
    admit_after s p (find_service p.proto p.head.dst p.head.dport p.mark s.services) (may_connect s.settings p.proto p.head)
    (λ service is. service_cursor s p.proto p.head.dst p.head.dport p.mark service parts is) new parts
