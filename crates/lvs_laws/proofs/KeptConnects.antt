-- A connection through bindings, and through packets of no connection.
use Rattle.std.proofs.Common.{◌≡◌, ◌==◌, ℕ, Bool, true, false, cond, Option, Some, None, refl, ap, is_some, map, slice_get}
use Rattle.lvs_types.specs.declared.addr.DestId.{DestId}
use Rattle.lvs_types.specs.declared.addr.TemplateId.{TemplateId}
use Rattle.lvs_types.specs.declared.service.Service.{Service}
use Rattle.lvs_types.specs.declared.service.Cursor.{Cursor}
use Rattle.lvs_types.specs.declared.dest.Dest.{Dest}
use Rattle.lvs_types.specs.declared.template.Template.{Template}
use Rattle.lvs_types.specs.declared.entry.Entry.{Entry}
use Rattle.lvs_types.specs.declared.reply.Reply.{Reply}
use Rattle.lvs_model.specs.State.{State}
use Rattle.lvs_model.specs.Counts.{candidates}
use Rattle.lvs_model.specs.Pick.{pick}
use Rattle.lvs_model.specs.Lookups.{find_service, servers_of, template_at}
use Rattle.lvs_model.specs.Packets.{Packet, may_connect}
use Rattle.lvs_model.specs.Binding.{put_template, template_tried, bound_to, bind_entry, try_binding, server_for_entry}
use Rattle.lvs_model.specs.Persistence.{template_key, usable_server}
use Rattle.lvs_model.specs.Forwarding.{forwarded}
use Rattle.lvs_model.specs.Scheduling.{connect_to, enter, new_entry, connection_port, is_one_packet, with_cursor, new_template, replace_template, take_pick, pick_at, picked, schedule, renewed, use_template, persist_by, serve_packet, admit, connect}
use Rattle.lvs_well_formed.proofs.Entries.{IsEntryOf}
use Rattle.lvs_laws.specs.Keeping.{IsSameConnection, entry_of_id, met}
use Rattle.lvs_laws.proofs.Kept.{IsKept, same_self, put_else, push_else, put_kept}

-- BINDING

pub bind_same : (s : State) (e : Entry) (o : Option Dest) → e.server ≡ None → IsSameConnection e (bind_entry s e o).0
bind_same s e None none = same_self e
bind_same s e (Some d) none =
    let unbound : is_some e.server ≡ false = ap (λ (o : Option DestId). is_some o) none in
    record { id = refl; key = refl; daddr = refl; dport = refl; server = λ bound. absurd cc; method = λ bound. absurd cc }

pub try_same : (s : State) (e : Entry) (o : Option DestId) → e.server ≡ o → IsSameConnection e (try_binding s e o).0
try_same s e (Some id) is = same_self e
try_same s e None is = bind_same s e (server_for_entry s.services s.dests e) is

pub met_same : (s : State) (e : Entry) → IsSameConnection e (met s e).0
met_same s e = try_same s e e.server refl

bind_kept : (s : State) (x e : Entry) (o : Option Dest) → IsEntryOf s x → x.server ≡ None → IsEntryOf s e → IsKept e (bind_entry s x o).1.entries
bind_kept s x e None there none found = record { later = e; found = found; same = same_self e }
bind_kept s x e (Some d) there none found = put_kept s.entries x (bound_to d x) e there (bind_same s x (Some d) none) found

pub try_kept : (s : State) (x e : Entry) (o : Option DestId) → IsEntryOf s x → x.server ≡ o → IsEntryOf s e → IsKept e (try_binding s x o).1.entries
try_kept s x e (Some id) there is found = record { later = e; found = found; same = same_self e }
try_kept s x e None there is found = bind_kept s x e (server_for_entry s.services s.dests x) there is found

-- an entry of another id is bound
bind_else : (s : State) (x : Entry) (o : Option Dest) (id : ℕ) → (x.id == id) ≡ false → entry_of_id id (bind_entry s x o).1.entries ≡ entry_of_id id s.entries
bind_else s x None id differs = refl
bind_else s x (Some d) id differs = put_else (bound_to d x) s.entries id differs

pub try_else : (s : State) (x : Entry) (o : Option DestId) (id : ℕ) → (x.id == id) ≡ false → entry_of_id id (try_binding s x o).1.entries ≡ entry_of_id id s.entries
try_else s x (Some bound) id differs = refl
try_else s x None id differs = bind_else s x (server_for_entry s.services s.dests x) id differs

bind_settings : (s : State) (e : Entry) (o : Option Dest) → (bind_entry s e o).1.settings ≡ s.settings
bind_settings s e None = refl
bind_settings s e (Some d) = refl

pub try_settings : (s : State) (e : Entry) (o : Option DestId) → (try_binding s e o).1.settings ≡ s.settings
try_settings s e (Some id) = refl
try_settings s e None = bind_settings s e (server_for_entry s.services s.dests e)

-- A PACKET OF NO CONNECTION: each id but the next one finds what it found

abbrev pub FindsSame : ℕ → State → State → Type 0
FindsSame id s t = entry_of_id id t.entries ≡ entry_of_id id s.entries

connect_by : (b : Bool) (id : ℕ) (s : State) (r : Reply) (entered : Reply × State) → FindsSame id s entered.1 → FindsSame id s (cond b (r, s) entered).1
connect_by true id s r entered same = refl
connect_by false id s r entered same = same

connect_to_same : (s : State) (p : Packet) (service : Service) (d : Dest) (template : Option TemplateId) (id : ℕ) → (s.next_entry == id) ≡ false → FindsSame id s (connect_to s p service d template).1
connect_to_same s p service d template id differs =
    let e : Entry = new_entry s p service d template in
    connect_by (is_one_packet service p.proto) id s (forwarded s p d.spec.method d.spec.addr (connection_port d p.head)) (enter s p e d) (push_else e s.entries id differs)

take_pick_same : (s : State) (p : Packet) (service : Service) (d : Dest) (o : Option ℕ) (id : ℕ) → (s.next_entry == id) ≡ false → FindsSame id s (take_pick s p service d o).1
take_pick_same s p service d None id differs = connect_to_same s p service d None id differs
take_pick_same s p service d (Some seconds) id differs =
    let t = new_template s (template_key service p.head.src) seconds d in connect_to_same (replace_template t s) p service d (Some t.id) id differs

pick_at_same : (s : State) (p : Packet) (service : Service) (cursor : Cursor) (o : Option Dest) (id : ℕ) → (s.next_entry == id) ≡ false → FindsSame id s (pick_at s p service cursor o).1
pick_at_same s p service cursor None id differs = refl
pick_at_same s p service cursor (Some d) id differs = take_pick_same (with_cursor service.key cursor s) p service d service.persist id differs

picked_same : (s : State) (p : Packet) (service : Service) (o : Option (ℕ × Cursor)) (id : ℕ) → (s.next_entry == id) ≡ false → FindsSame id s (picked s p service o).1
picked_same s p service None id differs = refl
picked_same s p service (Some choice) id differs = pick_at_same s p service choice.1 (slice_get (servers_of service.key s.dests) choice.0) id differs

schedule_same : (s : State) (p : Packet) (service : Service) (id : ℕ) → (s.next_entry == id) ≡ false → FindsSame id s (schedule s p service).1
schedule_same s p service id differs =
    picked_same s p service (pick service.scheduler (candidates service.key s.dests s.entries) (map (λ (d : Dest). d.spec.addr) (servers_of service.key s.dests)) service.cursor p.head.src p.head.dst) id differs

use_template_same : (s : State) (p : Packet) (service : Service) (seconds : ℕ) (t : Template) (o : Option Dest) (id : ℕ) → (s.next_entry == id) ≡ false → FindsSame id s (use_template s p service seconds t o).1
use_template_same s p service seconds t None id differs = schedule_same s p service id differs
use_template_same s p service seconds t (Some d) id differs = connect_to_same (record s { templates = put_template (renewed s seconds t) s.templates }) p service d (Some t.id) id differs

persist_same : (s : State) (p : Packet) (service : Service) (seconds : ℕ) (o : Option Template) (id : ℕ) → (s.next_entry == id) ≡ false → FindsSame id s (persist_by s p service seconds o).1
persist_same s p service seconds None id differs = schedule_same s p service id differs
persist_same s p service seconds (Some t) id differs =
    let tried : Template = template_tried s t t.server in
    use_template_same (record s { templates = put_template tried s.templates }) p service seconds tried (usable_server s.settings s.dests tried.server) id differs

serve_same : (s : State) (p : Packet) (service : Service) (o : Option ℕ) (id : ℕ) → (s.next_entry == id) ≡ false → FindsSame id s (serve_packet s p service o).1
serve_same s p service None id differs = schedule_same s p service id differs
serve_same s p service (Some seconds) id differs = persist_same s p service seconds (template_at (template_key service p.head.src) s.templates) id differs

admit_same : (s : State) (p : Packet) (o : Option Service) (b : Bool) (id : ℕ) → (s.next_entry == id) ≡ false → FindsSame id s (admit s p o b).1
admit_same s p None b id differs = refl
admit_same s p (Some service) false id differs = refl
admit_same s p (Some service) true id differs = serve_same s p service service.persist id differs

pub connect_same : (s : State) (p : Packet) (id : ℕ) → (s.next_entry == id) ≡ false → FindsSame id s (connect s p).1
connect_same s p id differs = admit_same s p (find_service p.proto p.head.dst p.head.dport p.mark s.services) (may_connect s.settings p.proto p.head) id differs
