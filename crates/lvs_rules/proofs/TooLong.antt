-- What is told of a packet that is too long is what its reply says.
use Rattle.std.proofs.Common.{◌≡◌, ℕ, ◌&&◌, List, [], ◌∷◌, Bool, true, false, cond, Option, Some, None, refl, sym, ap, ◌∙◌, slice_get}
use Rattle.std.specs.Option.{option_map}
use Rattle.std.specs.List.{find}
use Rattle.lvs_types.specs.declared.addr.Addr.{Addr}
use Rattle.lvs_types.specs.declared.addr.DestId.{DestId}
use Rattle.lvs_types.specs.declared.addr.TemplateId.{TemplateId}
use Rattle.lvs_types.specs.declared.head.Head.{Head}
use Rattle.lvs_types.specs.declared.service.Method.{Method}
use Rattle.lvs_types.specs.declared.service.Service.{Service}
use Rattle.lvs_types.specs.declared.service.Cursor.{Cursor}
use Rattle.lvs_types.specs.declared.dest.Dest.{Dest}
use Rattle.lvs_types.specs.declared.entry.Entry.{Entry}
use Rattle.lvs_types.specs.declared.entry.Key.{Key}
use Rattle.lvs_types.specs.declared.template.Template.{Template}
use Rattle.lvs_types.specs.declared.settings.Settings.{Settings}
use Rattle.lvs_types.specs.declared.reply.Reply.{Reply}
use Rattle.lvs_types.specs.declared.reply.Reply.TheVariants as reply
use Rattle.lvs_types.specs.declared.reply.DropCause.TheVariants as drops
use Rattle.lvs_model.specs.State.{State}
use Rattle.lvs_model.specs.Packets.{Packet, may_connect}
use Rattle.lvs_model.specs.Rewriting.{is_too_long, bytes_for}
use Rattle.lvs_model.specs.Forwarding.{forwarded}
use Rattle.lvs_model.specs.Scheduling.{connect_to, is_one_packet, connection_port, take_pick, new_template, replace_template, with_cursor, pick_at, picked, schedule, use_template, persist_by, serve_packet, admit, connect, renewed}
use Rattle.lvs_model.specs.Persistence.{template_key, takes_templates, usable, usable_server}
use Rattle.lvs_model.specs.declared.incoming.Standing.{Standing}
use Rattle.lvs_model.specs.declared.incoming.Standing.TheVariants.{Reused, ServerGone, InUse}
use Rattle.lvs_model.specs.Incoming.{continue, continue_at, continue_bound, end_entry, server_named, standing_of, arrive}
use Rattle.lvs_model.specs.Binding.{try_binding, put_template, put_entry, bound_to, count_bound, count_ended, server_for_entry, template_tried, bind_template, binding_in, serves_at, template_service, bind_entry}
use Rattle.lvs_model.specs.Lists.{without}
use Rattle.lvs_model.specs.Lookups.{template_at, servers_of, find_service, entry_at, dest_at, has_dest_id, has_entry_id, is_server_of}
use Rattle.lvs_well_formed.proofs.Keys.{nat_same}
use Rattle.lvs_rules.specs.declared.view.Overload.{Overload}
use Rattle.lvs_rules.specs.declared.view.View.{View}
use Rattle.lvs_rules.specs.declared.too_long.Bound.{Bound}
use Rattle.lvs_rules.specs.Views.{dest_in, dests_in, seen_in}
use Rattle.lvs_rules.specs.TooLong.{says_too_long, HaveDistinctIds, exceeds_to, choice_in, exceeds_choice, exceeds_pick, exceeds_used, exceeds_template, exceeds_service, exceeds_admitted, exceeds_connection, overload_left, dest_bound, bound_with, bound_in, exceeds_by, exceeds_bound, exceeds_arrived}
use Rattle.lvs_rules.proofs.Leaving.{as_they_are, overload_alone, nth_in}
use Rattle.lvs_rules.proofs.Ended.{found_by_id, server_by_id, put_leaves, ended_in, bound_ended_in, bound_is_found, bound_total}

-- A NEW CONNECTION

forwarded_by : (b : Bool) (m : Method) (a : Addr) (bytes : List ℕ) → says_too_long (cond b (reply.Drop drops.TooLong) (reply.Forward m a bytes)) ≡ b
forwarded_by true m a bytes = refl
forwarded_by false m a bytes = refl

forwarded_told : (s : State) (p : Packet) (m : Method) (a : Addr) (port : ℕ) → says_too_long (forwarded s p m a port) ≡ is_too_long p.head m
forwarded_told s p m a port = forwarded_by (is_too_long p.head m) m a (bytes_for s.local p.head p.bytes m a port)

connect_to_by : (b : Bool) (r q : Reply) (s t : State) (x : Bool) → says_too_long r ≡ x → says_too_long q ≡ x → says_too_long (cond {A = Reply × State} b (r, s) (q, t)).0 ≡ x
connect_to_by true r q s t x a b = a
connect_to_by false r q s t x a b = b

connect_to_told : (s : State) (p : Packet) (service : Service) (d : Dest) (t : Option TemplateId) → says_too_long (connect_to s p service d t).0 ≡ is_too_long p.head d.spec.method
connect_to_told s p service d t =
    connect_to_by (is_one_packet service p.proto) _ _ _ _ (is_too_long p.head d.spec.method) (forwarded_told s p d.spec.method d.spec.addr (connection_port d p.head)) (forwarded_told s p d.spec.method d.spec.addr (connection_port d p.head))

take_pick_told : (s : State) (p : Packet) (service : Service) (d : Dest) (o : Option ℕ) → says_too_long (take_pick s p service d o).0 ≡ is_too_long p.head d.spec.method
take_pick_told s p service d None = connect_to_told s p service d None
take_pick_told s p service d (Some seconds) =
    let t = new_template s (template_key service p.head.src) seconds d in connect_to_told (replace_template t s) p service d (Some t.id)

pick_at_told : (s : State) (p : Packet) (service : Service) (c : Cursor) (o : Option Dest) → says_too_long (pick_at s p service c o).0 ≡ exceeds_to p.head o
pick_at_told s p service c None = refl
pick_at_told s p service c (Some d) = take_pick_told (with_cursor service.key c s) p service d service.persist

picked_told : (s : State) (p : Packet) (service : Service) (o : Option (ℕ × Cursor)) → says_too_long (picked s p service o).0 ≡ exceeds_choice s.dests p service o
picked_told s p service None = refl
picked_told s p service (Some choice) = pick_at_told s p service choice.1 (slice_get (servers_of service.key s.dests) choice.0)

schedule_told : (s : State) (p : Packet) (service : Service) → says_too_long (schedule s p service).0 ≡ exceeds_pick s p service
schedule_told s p service = picked_told s p service (choice_in s p service)

use_template_told : (s : State) (p : Packet) (service : Service) (seconds : ℕ) (t : Template) (o : Option Dest) → says_too_long (use_template s p service seconds t o).0 ≡ exceeds_used (exceeds_pick s p service) p.head o
use_template_told s p service seconds t None = schedule_told s p service
use_template_told s p service seconds t (Some d) = connect_to_told (record s { templates = put_template (renewed s seconds t) s.templates }) p service d (Some t.id)

persist_by_told : (s : State) (p : Packet) (service : Service) (seconds : ℕ) (o : Option Template) → says_too_long (persist_by s p service seconds o).0 ≡ exceeds_template s p service o
persist_by_told s p service seconds None = schedule_told s p service
persist_by_told s p service seconds (Some t) =
    let tried = template_tried s t t.server in
    use_template_told (record s { templates = put_template tried s.templates }) p service seconds tried (usable_server s.settings s.dests tried.server)

serve_told : (s : State) (p : Packet) (service : Service) (o : Option ℕ) → says_too_long (serve_packet s p service o).0 ≡ exceeds_service s p service o
serve_told s p service None = schedule_told s p service
serve_told s p service (Some seconds) = persist_by_told s p service seconds (template_at (template_key service p.head.src) s.templates)

admit_told : (s : State) (p : Packet) (o : Option Service) (b : Bool) → says_too_long (admit s p o b).0 ≡ exceeds_admitted s p o b
admit_told s p None b = refl
admit_told s p (Some service) false = refl
admit_told s p (Some service) true = serve_told s p service service.persist

pub connect_told : (s : State) (p : Packet) → says_too_long (connect s p).0 ≡ exceeds_connection s p
connect_told s p = admit_told s p (find_service p.proto p.head.dst p.head.dport p.mark s.services) (may_connect s.settings p.proto p.head)

-- A TEMPLATE DOESN'T LOOK AT WHAT OVERLOADS ITS SERVER

find_by : (a b : Bool) (d other : Dest) (x y : Option Dest) (o : Option Overload) → a ≡ b → other ≡ dest_in o d → x ≡ option_map (dest_in o) y → cond a (Some other) x ≡ option_map (dest_in o) (cond b (Some d) y)
find_by true true d other x y o same is rest = ap (λ z. Some z) is
find_by true false d other x y o same is rest = absurd cc
find_by false true d other x y o same is rest = absurd cc
find_by false false d other x y o same is rest = rest

find_in : (p : Dest → Bool) (o : Option Overload) (ds : List Dest) → ((d : Dest) (b : Bool) → p (record d { overloaded = b }) ≡ p d) → find p (dests_in o ds) ≡ option_map (dest_in o) (find p ds)
find_in p o [] blind = refl
find_in p o (d ∷ ds) blind =
    find_by (p (dest_in o d)) (p d) d (dest_in o d) (find p (dests_in o ds)) (find p ds) o (ap p (overload_alone o d) ∙ blind d (dest_in o d).overloaded) refl (find_in p o ds blind)

bind_in : (t : Template) (o : Option Overload) (found : Option Dest) → bind_template t (option_map (dest_in o) found) ≡ bind_template t found
bind_in t o None = refl
bind_in t o (Some d) = ap (λ (x : Dest). record t { server = Some x.id; method = x.spec.method }) (overload_alone o d)

binding_there : (t : Template) (o : Option Overload) (service : Option Service) (ds : List Dest) → bind_template t (binding_in service t.daddr t.dport t.key.vport (dests_in o ds)) ≡ bind_template t (binding_in service t.daddr t.dport t.key.vport ds)
binding_there t o None ds = refl
binding_there t o (Some service) ds =
    let found : Option Dest = find (λ d. is_server_of service.key d && serves_at t.daddr t.dport t.key.vport d) ds in
    ap (bind_template t) (find_in (λ d. is_server_of service.key d && serves_at t.daddr t.dport t.key.vport d) o ds (λ d b. refl)) ∙ bind_in t o found

tried_in : (view : View) (s : State) (t : Template) (o : Option DestId) → template_tried (seen_in view s) t o ≡ template_tried s t o
tried_in view s t None = binding_there t view.overload (template_service t.key s.services) s.dests
tried_in view s t (Some id) = refl

usable_by : (a b : Bool) (o : Option Overload) (d : Dest) → a ≡ b → cond a (Some (dest_in o d)) None ≡ option_map (dest_in o) (cond b (Some d) None)
usable_by true true o d same = refl
usable_by true false o d same = absurd cc
usable_by false true o d same = absurd cc
usable_by false false o d same = refl

usable_there : (settings : Settings) (o : Option Overload) (found : Option Dest) → usable settings (option_map (dest_in o) found) ≡ option_map (dest_in o) (usable settings found)
usable_there settings o None = refl
usable_there settings o (Some d) = usable_by (takes_templates settings (dest_in o d)) (takes_templates settings d) o d (ap (takes_templates settings) (overload_alone o d))

usable_in : (settings : Settings) (o : Option Overload) (ds : List Dest) (id : Option DestId) → usable_server settings (dests_in o ds) id ≡ option_map (dest_in o) (usable_server settings ds id)
usable_in settings o ds None = refl
usable_in settings o ds (Some id) = ap (usable settings) (find_in (has_dest_id id) o ds (λ d b. refl)) ∙ usable_there settings o (dest_at id ds)

used_in : (picked : Bool) (head : Head) (o : Option Overload) (found : Option Dest) → exceeds_used picked head (option_map (dest_in o) found) ≡ exceeds_used picked head found
used_in picked head o None = refl
used_in picked head o (Some d) = ap (λ (x : Dest). is_too_long head x.spec.method) (overload_alone o d)

-- a template is tried on the tables as they are
pub template_told : (view : View) (s : State) (p : Packet) (service : Service) (t : Template)
    → exceeds_template (seen_in view s) p service (Some t) ≡ exceeds_used (exceeds_pick (seen_in view s) p service) p.head (usable_server s.settings s.dests (template_tried s t t.server).server)
template_told view s p service t =
    let picked : Bool = exceeds_pick (seen_in view s) p service in
    ap (λ (tried : Template). exceeds_used picked p.head (usable_server s.settings (dests_in view.overload s.dests) tried.server)) (tried_in view s t t.server)
    ∙ ap (exceeds_used picked p.head) (usable_in s.settings view.overload s.dests (template_tried s t t.server).server)
    ∙ used_in picked p.head view.overload (usable_server s.settings s.dests (template_tried s t t.server).server)

-- A CONNECTION THAT IS THERE

pub continue_told : (s : State) (p : Packet) (e : Entry) (standing : Standing) → says_too_long (continue s p e standing).0 ≡ exceeds_by standing (exceeds_connection (end_entry e s) p) (is_too_long p.head e.method)
continue_told s p e Reused = connect_told (end_entry e s) p
continue_told s p e ServerGone = refl
continue_told s p e InUse = forwarded_told s p e.method e.daddr e.dport

-- where the entry was bound, and its end leaves what the view shows
bound_told : (s : State) (p : Packet) (es : List Entry) (ds : List Dest) (b : Bound) → b.entry.id ≡ b.found.id → without (has_entry_id b.entry.id) es ≡ without (has_entry_id b.entry.id) s.entries
    → count_ended b.entry.server (without (has_entry_id b.entry.id) s.entries) ds ≡ dests_in (overload_left (without (has_entry_id b.entry.id) s.entries) b.server) s.dests
    → says_too_long (continue_at (record s { entries = es; dests = ds }) p b.entry b.server).0 ≡ exceeds_bound s p b
bound_told s p es ds b one entries dests =
    let left : List Entry = without (has_entry_id b.entry.id) s.entries in
    let standing : Standing = standing_of s.settings p b.entry b.server in
    let known : Bool = is_too_long p.head b.entry.method in
    continue_told (record s { entries = es; dests = ds }) p b.entry standing
    ∙ ap (λ (later : List Entry). exceeds_by standing (exceeds_connection (record s { entries = later; dests = count_ended b.entry.server later ds }) p) known) entries
    ∙ ap (λ (later : List Dest). exceeds_by standing (exceeds_connection (record s { entries = left; dests = later }) p) known) dests
    ∙ ap (λ (id : ℕ). exceeds_by standing (exceeds_connection (record s { entries = without (has_entry_id id) s.entries; dests = dests_in (overload_left (without (has_entry_id id) s.entries) b.server) s.dests }) p) known) one

named_told : (s : State) (p : Packet) (e : Entry) (id : DestId) → HaveDistinctIds s → e.server ≡ Some id → says_too_long (continue_bound p (e, s)).0 ≡ exceeds_bound s p (record { found = e; entry = e; server = dest_at id s.dests })
named_told s p e id apart is =
    let left : List Entry = without (has_entry_id e.id) s.entries in
    ap (λ (o : Option DestId). says_too_long (continue_at s p e (server_named o s.dests)).0) is
    ∙ bound_told s p s.entries s.dests (record { found = e; entry = e; server = dest_at id s.dests }) refl refl (ap (λ (o : Option DestId). count_ended o left s.dests) is ∙ ended_in id left s.dests apart.dests)

unbound_told : (s : State) (p : Packet) (e : Entry) → e.server ≡ None → says_too_long (continue_bound p (e, s)).0 ≡ exceeds_bound s p (record { found = e; entry = e; server = None })
unbound_told s p e is =
    let left : List Entry = without (has_entry_id e.id) s.entries in
    ap (λ (o : Option DestId). says_too_long (continue_at s p e (server_named o s.dests)).0) is
    ∙ bound_told s p s.entries s.dests (record { found = e; entry = e; server = None }) refl refl (ap (λ (o : Option DestId). count_ended o left s.dests) is ∙ sym (as_they_are s.dests))

newly_told : (s : State) (p : Packet) (e : Entry) (d : Dest) → HaveDistinctIds s → find (has_entry_id e.id) s.entries ≡ Some e → server_for_entry s.services s.dests e ≡ Some d
    → says_too_long (continue_bound p (bind_entry s e (Some d))).0 ≡ exceeds_bound s p (bound_with s e (Some d))
newly_told s p e d apart there is =
    let b : Entry = bound_to d e in
    let left : List Entry = without (has_entry_id e.id) s.entries in
    let es : List Entry = put_entry b s.entries in
    let ds : List Dest = count_bound d.id es s.dests in
    let found : dest_at d.id ds ≡ Some (dest_bound s e d) =
    bound_is_found d es left s.dests (server_by_id s.services e s.dests d apart.dests is) (bound_total d.id b e s.entries apart.entries refl there) in
    ap (λ (o : Option Dest). says_too_long (continue_at (record s { entries = es; dests = ds }) p b o).0) found
    ∙ bound_told s p es ds (bound_with s e (Some d)) refl (put_leaves (has_entry_id e.id) b s.entries (nat_same e.id)) (bound_ended_in d (dest_bound s e d) es left s.dests apart.dests refl found)

bindable_told : (s : State) (p : Packet) (e : Entry) (o : Option Dest) → HaveDistinctIds s → find (has_entry_id e.id) s.entries ≡ Some e → e.server ≡ None → server_for_entry s.services s.dests e ≡ o
    → says_too_long (continue_bound p (bind_entry s e o)).0 ≡ exceeds_bound s p (bound_with s e o)
bindable_told s p e None apart there unbound is = unbound_told s p e unbound
bindable_told s p e (Some d) apart there unbound is = newly_told s p e d apart there is

entry_told : (s : State) (p : Packet) (e : Entry) (o : Option DestId) → HaveDistinctIds s → find (has_entry_id e.id) s.entries ≡ Some e → e.server ≡ o → says_too_long (continue_bound p (try_binding s e o)).0 ≡ exceeds_bound s p (bound_in s e o)
entry_told s p e None apart there is = bindable_told s p e (server_for_entry s.services s.dests e) apart there is refl
entry_told s p e (Some id) apart there is = named_told s p e id apart is

arrived_by : (s : State) (p : Packet) (key : Key) (o : Option Entry) → HaveDistinctIds s → entry_at key s.entries ≡ o → says_too_long (arrive s p o).0 ≡ exceeds_arrived s p o
arrived_by s p key None apart is = connect_told s p
arrived_by s p key (Some e) apart is = entry_told s p e e.server apart (found_by_id key s.entries e apart.entries is) refl

-- of every packet
pub arrived_told : (s : State) (p : Packet) (key : Key) → HaveDistinctIds s → says_too_long (arrive s p (entry_at key s.entries)).0 ≡ exceeds_arrived s p (entry_at key s.entries)
arrived_told s p key apart = arrived_by s p key (entry_at key s.entries) apart refl

to_in : (head : Head) (o : Option Overload) (found : Option Dest) → exceeds_to head (option_map (dest_in o) found) ≡ exceeds_to head found
to_in head o None = refl
to_in head o (Some d) = ap (λ (x : Dest). is_too_long head x.spec.method) (overload_alone o d)

-- the picked server's method is the same in every view
pub choice_told : (view : View) (s : State) (p : Packet) (service : Service) (choice : ℕ × Cursor) → exceeds_choice (seen_in view s).dests p service (Some choice) ≡ exceeds_to p.head (slice_get (servers_of service.key s.dests) choice.0)
choice_told view s p service choice = ap (exceeds_to p.head) (nth_in service.key view.overload s.dests choice.0) ∙ to_in p.head view.overload (slice_get (servers_of service.key s.dests) choice.0)
