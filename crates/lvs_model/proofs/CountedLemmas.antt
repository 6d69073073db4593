-- Each step moves the director's numbers by one at most.
use Rattle.std.proofs.Common.{not, ◌≡◌, ◌==◌, take, subst, ℕ, nat_le, lit<, lit≤, bit_and, is_some, ◌+◌, ◌<◌, ◌≤◌, Bool, true, false, cond, List, [], ◌∷◌, ◌++◌, Option, Some, None, Result, Ok, Err, refl, arith, slice_get, map, ◌&&◌, ◌*◌, length, length-append}
use Rattle.std.specs.List.{AllByRecursion, find, filter, filter_map, cons_option}
use Rattle.std.proofs.lemmas.List.Sums.{count_by-le-length, length-filter}
use Rattle.lvs_types.specs.declared.addr.Addr.{Addr}
use Rattle.lvs_types.specs.declared.settings.Settings.{Settings}
use Rattle.lvs_types.specs.declared.settings.Daemons.{Daemons}
use Rattle.lvs_types.specs.declared.addr.DestId.{DestId}
use Rattle.lvs_types.specs.declared.addr.TemplateId.{TemplateId}
use Rattle.lvs_types.specs.declared.head.Head.{Head}
use Rattle.lvs_types.specs.declared.head.Malformed.{Malformed}
use Rattle.lvs_types.specs.declared.service.Proto.{Proto}
use Rattle.lvs_types.specs.declared.service.Service.{Service}
use Rattle.lvs_types.specs.declared.service.ServiceKey.{ServiceKey}
use Rattle.lvs_types.specs.declared.service.Cursor.{Cursor}
use Rattle.lvs_types.specs.declared.dest.Dest.{Dest}
use Rattle.lvs_types.specs.declared.dest.DestSpec.{DestSpec}
use Rattle.lvs_types.specs.declared.entry.Entry.{Entry}
use Rattle.lvs_types.specs.declared.entry.TcpState.{TcpState}
use Rattle.lvs_types.specs.declared.template.Template.{Template}
use Rattle.lvs_types.specs.declared.sync.SyncRecord.{SyncRecord}
use Rattle.lvs_types.specs.declared.item.Item.{Item}
use Rattle.lvs_types.specs.declared.reply.Reply.{Reply}
use Rattle.lvs_model.specs.State.{State, initial}
use Rattle.lvs_model.specs.Lists.{without, update_first, lower_of, least_by}
use Rattle.lvs_model.specs.Messages.{HasOldFlags}
use Rattle.lvs_model.specs.Binding.{put_entry, bind_entry, try_binding, server_for_entry, put_template, template_tried, bound_to}
use Rattle.lvs_model.specs.declared.incoming.Standing.{Standing}
use Rattle.lvs_model.specs.declared.incoming.Standing.TheVariants.{Reused, ServerGone, InUse}
use Rattle.lvs_model.specs.Incoming.{end_entry}
use Rattle.lvs_model.specs.Forwarding.{after_packet, records_due, template_records, records_of_template, forward_known}
use Rattle.lvs_model.specs.SyncRules.{due_for_sync, of_entry, accept, is_template_record}
use Rattle.lvs_model.specs.Timeouts.{is_active}
use Rattle.lvs_types.specs.declared.service.Method.{Method}
use Rattle.lvs_types.specs.declared.service.Method.TheVariants.{Masq, Tunnel, Direct}
use Rattle.lvs_types.specs.declared.item.Item.TheVariants as item
use Rattle.lvs_types.specs.declared.command.Command.{Command}
use Rattle.lvs_types.specs.declared.command.Command.TheVariants as command
use Rattle.lvs_types.specs.declared.reply.Reply.TheVariants as reply
use Rattle.lvs_types.specs.declared.reply.DropCause.TheVariants as drops
use Rattle.lvs_types.specs.declared.sync.SyncItem.{SyncItem}
use Rattle.lvs_types.specs.declared.sync.SyncItem.TheVariants.{V4, V6}
use Rattle.lvs_types.specs.declared.sync.Learnt.{Learnt}
use Rattle.lvs_types.specs.declared.sync.Learnt.TheVariants as learnt
use Rattle.lvs_types.specs.Methods.{method_code}
use Rattle.lvs_types.specs.Transport.{transport_of}
use Rattle.lvs_types.specs.Thresholds.{has_bad_thresholds}
use Rattle.lvs_model.specs.Reading.{read}
use Rattle.lvs_model.specs.Scheduling.{enter, connect_to, is_one_packet, state_before, new_entry, take_pick, new_template, replace_template, with_cursor, pick_at, picked, schedule, use_template, try_template, persist_by, serve_packet, admit, connect, renewed}
use Rattle.lvs_model.specs.Persistence.{template_key, usable_server}
use Rattle.lvs_model.specs.Incoming.{continue, arrive, take_back, incoming_packet, incoming_of, incoming_read, server_named, standing_of}
use Rattle.lvs_model.specs.Outgoing.{answer_out, outgoing_of, outgoing_read}
use Rattle.lvs_model.specs.Packets.{key_of, may_connect}
use Rattle.lvs_model.specs.Lookups.{entry_at, template_at, template_of_id, servers_of, find_service, reply_entry, has_key, is_reply_of, is_server_at, has_entry_id, has_template_key, has_template_id}
use Rattle.lvs_model.specs.Counts.{candidates, counts_active, counts_inactive}
use Rattle.lvs_model.specs.Same.{dest_eq}
use Rattle.lvs_model.specs.Pick.{pick}
use Rattle.lvs_model.specs.Edits.{edit, add_service_by, edit_service_by, remove_service_by, add_server_by, place_server, edit_server_by, remove_server_by, remove_server_at, start_master, start_backup, stop_master, stop_backup, is_service, is_server, is_revivable}
use Rattle.lvs_model.specs.Learning.{learn_by, learn_item, learn_record, learn_connection, learn_template, relearn, relearn_template, add_entry, add_template, recorded_entry, recorded_template, relearnt, goes_to_recorded, recorded_key, recorded_template_key, template_goes_to_recorded}
use Rattle.lvs_model.specs.Step.{step, IsInRange}
use Rattle.lvs_model.specs.Packets.{Packet}
use Rattle.lvs_model.specs.Clock.{is_swept, reaped_template, reaped_templates}
use Rattle.lvs_model.specs.Counted.{IsNumbered, IsNumberedServer, IsCounted, IsCountedEntry, AreCountedEntries}

all_put : (P : Entry → Type 0) (p : Entry → Bool) (v : Entry) (es : List Entry) → P v → AllByRecursion P es → AllByRecursion P (update_first p (λ _. v) es)
all_put P p v [] here each = tt
all_put P p v (e ∷ es) here each =
    let Q : Bool → Type 0 = λ b. AllByRecursion P (cond b (v ∷ es) (e ∷ update_first p (λ _. v) es)) in
    elim (p e) as Q [ true ↦ (here, each.1) | false ↦ (each.0, all_put P p v es here each.1) ]

all_filter : {X : Type 0} (P : X → Type 0) (p : X → Bool) (xs : List X) → AllByRecursion P xs → AllByRecursion P (filter p xs)
all_filter P p [] each = tt
all_filter P p (x ∷ xs) each =
    let Q : Bool → Type 0 = λ b. AllByRecursion P (cond b (x ∷ filter p xs) (filter p xs)) in
    elim (p x) as Q [ true ↦ (each.0, all_filter P p xs each.1) | false ↦ all_filter P p xs each.1 ]

all_append : {X : Type 0} (P : X → Type 0) (xs ys : List X) → AllByRecursion P xs → AllByRecursion P ys → AllByRecursion P (xs ++ ys)
all_append P [] ys first then = then
all_append P (x ∷ xs) ys first then = (first.0, all_append P xs ys first.1 then)

all_find : (P : Entry → Type 0) (p : Entry → Bool) (es : List Entry) (e : Entry) → AllByRecursion P es → find p es ≡ Some e → P e
all_find P p [] e each found = absurd cc
all_find P p (x ∷ es) e each found =
    let Q : Bool → Type 0 = λ b. cond b (Some x) (find p es) ≡ Some e → P e in
    (elim (p x) as Q [ true ↦ (λ is. let same : x ≡ e = cc in subst P same each.0) | false ↦ (λ is. all_find P p es e each.1 is) ]) found

-- how long each change of a list leaves it
length_put : {X : Type 0} (p : X → Bool) (f : X → X) (xs : List X) → length (update_first p f xs) ≡ length xs
length_put p f [] = refl
length_put p f (x ∷ xs) =
    let Q : Bool → Type 0 = λ b. length (cond b (f x ∷ xs) (x ∷ update_first p f xs)) ≡ length (x ∷ xs) in
    elim (p x) as Q [ true ↦ refl | false ↦ omega (arith, length_put p f xs) ]

length_filter : {X : Type 0} (p : X → Bool) (xs : List X) → length (filter p xs) ≤ length xs
length_filter p xs = rw (length-filter p xs) (count_by-le-length p xs)

length_cons_option : {X : Type 0} (o : Option X) (xs : List X) (n : ℕ) → length xs ≤ n → length (cons_option o xs) ≤ n + 1
length_cons_option None xs n few = omega (arith, few)
length_cons_option (Some x) xs n few = omega (arith, few)

length_filter_map : {X Y : Type 0} (f : X → Option Y) (xs : List X) → length (filter_map f xs) ≤ length xs
length_filter_map f [] = lit≤ tt
length_filter_map f (x ∷ xs) =
    let few : length (cons_option (f x) (filter_map f xs)) ≤ length xs + 1 = length_cons_option (f x) (filter_map f xs) (length xs) (length_filter_map f xs) in
    let one : length (x ∷ xs) ≡ length xs + 1 = omega arith in
    rw one few

length_records : (o : Option Template) → length (template_records o) ≤ 1
length_records None = lit≤ tt
length_records (Some t) = lit≤ tt

length_of_template : (id : Option TemplateId) (ts : List Template) → length (records_of_template id ts) ≤ 1
length_of_template None ts = lit≤ tt
length_of_template (Some id) ts = length_records (template_of_id id ts)

length_due_by : (b : Bool) (r : SyncRecord) (more : List SyncRecord) → length more ≤ 1 → length (cond b (r ∷ more) []) ≤ 2
length_due_by true r more few = omega (arith, few)
length_due_by false r more few = lit≤ tt

length_due : (s : State) (before : Option TcpState) (e : Entry) → length (records_due s before e) ≤ 2
length_due s before e = length_due_by (is_some s.daemons.master && due_for_sync s.settings before e) (of_entry e) (records_of_template e.template s.templates) (length_of_template e.template s.templates)

-- a record of an entry or a template can be told in version 0
of_entry_old : (m : Method) (b : Bool) → let flags = method_code m + cond b 0 0x100 in (flags < 0x10000) × (bit_and flags 0x600 ≡ 0)
of_entry_old Masq true = (lit< tt, refl)
of_entry_old Masq false = (lit< tt, refl)
of_entry_old Tunnel true = (lit< tt, refl)
of_entry_old Tunnel false = (lit< tt, refl)
of_entry_old Direct true = (lit< tt, refl)
of_entry_old Direct false = (lit< tt, refl)

of_template_old : (m : Method) → let flags = method_code m + 0x1000 in (flags < 0x10000) × (bit_and flags 0x600 ≡ 0)
of_template_old Masq = (lit< tt, refl)
of_template_old Tunnel = (lit< tt, refl)
of_template_old Direct = (lit< tt, refl)

template_records_old : (o : Option Template) → AllByRecursion HasOldFlags (template_records o)
template_records_old None = tt
template_records_old (Some t) = (of_template_old t.method, tt)

records_old : (id : Option TemplateId) (ts : List Template) → AllByRecursion HasOldFlags (records_of_template id ts)
records_old None ts = tt
records_old (Some id) ts = template_records_old (template_of_id id ts)

due_old_by : (b : Bool) (e : Entry) (more : List SyncRecord) → AllByRecursion HasOldFlags more → AllByRecursion HasOldFlags (cond b (of_entry e ∷ more) [])
due_old_by true e more each = (of_entry_old e.method (is_active e.state), each)
due_old_by false e more each = tt

due_old : (s : State) (before : Option TcpState) (e : Entry) → AllByRecursion HasOldFlags (records_due s before e)
due_old s before e = due_old_by (is_some s.daemons.master && due_for_sync s.settings before e) e (records_of_template e.template s.templates) (records_old e.template s.templates)

-- WHAT STEPS CHANGE

later : (n m : ℕ) (es : List Entry) → n ≤ m → AllByRecursion (IsCountedEntry n) es → AllByRecursion (IsCountedEntry m) es
later n m [] more each = tt
later n m (e ∷ es) more each = (let few : e.packets ≤ n + 1 = each.0 in omega (arith, few, more), later n m es more each.1)

-- from a state to a later one no more than so many steps and so many new templates
record Follows (steps drawn : ℕ) (s t : State) : Type 0 where
  now : s.now ≤ 4294967295 → t.now ≤ 4294967295
  buckets : t.buckets ≡ s.buckets
  next_entry : t.next_entry ≤ s.next_entry + steps
  next_dest : t.next_dest ≤ s.next_dest + steps
  next_template : t.next_template ≤ s.next_template + drawn
  entries : length t.entries ≤ length s.entries + steps
  templates : length t.templates ≤ length s.templates + drawn
  pending : length t.pending ≤ length s.pending + 2 * steps
  flags : AllByRecursion HasOldFlags s.pending → AllByRecursion HasOldFlags t.pending
  packets : (n m : ℕ) → n + steps ≤ m → AreCountedEntries n s.entries → AreCountedEntries m t.entries

-- an entry that has counted no more packets than those of the state
abbrev IsOf : State → Entry → Type 0
IsOf s e = (n : ℕ) → AreCountedEntries n s.entries → IsCountedEntry n e

same : (s : State) → Follows 0 0 s s
same s = record {
  now = λ fits. fits;
  buckets = refl;
  next_entry = omega arith;
  next_dest = omega arith;
  next_template = omega arith;
  entries = omega arith;
  templates = omega arith;
  pending = omega arith;
  flags = λ each. each;
  packets = λ n m more each. later n m s.entries (omega (arith, more)) each;
}

more : (a b c d : ℕ) (s t : State) → a ≤ c → b ≤ d → Follows a b s t → Follows c d s t
more a b c d s t steps drawn f = record {
  now = f.now;
  buckets = f.buckets;
  next_entry = omega (arith, f.next_entry);
  next_dest = omega (arith, f.next_dest);
  next_template = omega (arith, f.next_template);
  entries = omega (arith, f.entries);
  templates = omega (arith, f.templates);
  pending = omega (arith, f.pending);
  flags = f.flags;
  packets = λ n m up each. f.packets n m (omega (arith, up, steps)) each;
}

at_most : (s t : State) → Follows 0 0 s t → Follows 1 1 s t
at_most s t f = more 0 0 1 1 s t (lit≤ tt) (lit≤ tt) f

-- lists and settings that no bound speaks of
with_tables : (a b : ℕ) (s t : State) (services : List Service) (dests : List Dest) (settings : Settings) (daemons : Daemons) → Follows a b s t
    → Follows a b s (record t { services = services; dests = dests; settings = settings; daemons = daemons })
with_tables a b s t services dests settings daemons f = record {
  now = f.now;
  buckets = f.buckets;
  next_entry = f.next_entry;
  next_dest = f.next_dest;
  next_template = f.next_template;
  entries = f.entries;
  templates = f.templates;
  pending = f.pending;
  flags = f.flags;
  packets = f.packets;
}

with_dests : (a b : ℕ) (s t : State) (dests : List Dest) → Follows a b s t → Follows a b s (record t { dests = dests })
with_dests a b s t dests f = with_tables a b s t t.services dests t.settings t.daemons f

with_entries : (a b : ℕ) (s t : State) (es : List Entry) → length es ≤ length t.entries → ((n : ℕ) → AreCountedEntries n s.entries → (m : ℕ) → AreCountedEntries m t.entries → n ≤ m → AreCountedEntries m es) → Follows a b s t
    → Follows a b s (record t { entries = es })
with_entries a b s t es few kept f = record {
  now = f.now;
  buckets = f.buckets;
  next_entry = f.next_entry;
  next_dest = f.next_dest;
  next_template = f.next_template;
  entries = omega (arith, few, f.entries);
  templates = f.templates;
  pending = f.pending;
  flags = f.flags;
  packets = λ n m up each. kept n each m (f.packets n m up each) (omega (arith, up));
}

with_templates : (a b : ℕ) (s t : State) (ts : List Template) → length ts ≤ length t.templates → Follows a b s t → Follows a b s (record t { templates = ts })
with_templates a b s t ts few f = record {
  now = f.now;
  buckets = f.buckets;
  next_entry = f.next_entry;
  next_dest = f.next_dest;
  next_template = f.next_template;
  entries = f.entries;
  templates = omega (arith, few, f.templates);
  pending = f.pending;
  flags = f.flags;
  packets = f.packets;
}

-- ONE CHANGE OF ONE LIST

put_entry_follows : (a b : ℕ) (s t : State) (e : Entry) → IsOf s e → Follows a b s t → Follows a b s (record t { entries = put_entry e t.entries })
put_entry_follows a b s t e few f =
    with_entries a b s t (put_entry e t.entries) (omega (arith, length_put (has_entry_id e.id) (λ _. e) t.entries))
    (λ n each m now up. all_put (IsCountedEntry m) (has_entry_id e.id) e t.entries (let here : e.packets ≤ n + 1 = few n each in omega (arith, here, up)) now)
    f

filter_entries_follows : (a b : ℕ) (s t : State) (p : Entry → Bool) → Follows a b s t → Follows a b s (record t { entries = filter p t.entries })
filter_entries_follows a b s t p f =
    with_entries a b s t (filter p t.entries) (length_filter p t.entries) (λ n each m now up. all_filter (IsCountedEntry m) p t.entries now) f

put_template_follows : (a b : ℕ) (s t : State) (template : Template) → Follows a b s t → Follows a b s (record t { templates = put_template template t.templates })
put_template_follows a b s t template f =
    with_templates a b s t (put_template template t.templates) (omega (arith, length_put (has_template_id template.id) (λ _. template) t.templates)) f

-- a template takes the place of those that pass
new_template_follows : (s t : State) (p : Template → Bool) (template : Template) → Follows 0 0 s t
    → Follows 0 1 s (record t { templates = without p t.templates ++ template ∷ []; next_template = t.next_template + 1 })
new_template_follows s t p template f = record {
  now = f.now;
  buckets = f.buckets;
  next_entry = f.next_entry;
  next_dest = f.next_dest;
  next_template = omega (arith, f.next_template);
  entries = f.entries;
  templates = omega (arith, length-append (without p t.templates) (template ∷ []), length_filter (λ x. not (p x)) t.templates, f.templates);
  pending = f.pending;
  flags = f.flags;
  packets = f.packets;
}

-- an entry of one packet at most stands last, and two more records wait at most
new_entry_follows : (b : ℕ) (s t : State) (e : Entry) (rs : List SyncRecord) → e.packets ≤ 1 → length rs ≤ length t.pending + 2 → (AllByRecursion HasOldFlags t.pending → AllByRecursion HasOldFlags rs) → Follows 0 b s t
    → Follows 1 b s (record t { entries = t.entries ++ e ∷ []; pending = rs; next_entry = t.next_entry + 1 })
new_entry_follows b s t e rs one few old f = record {
  now = f.now;
  buckets = f.buckets;
  next_entry = omega (arith, f.next_entry);
  next_dest = omega (arith, f.next_dest);
  next_template = f.next_template;
  entries = omega (arith, length-append t.entries (e ∷ []), f.entries);
  templates = f.templates;
  pending = omega (arith, few, f.pending);
  flags = λ each. old (f.flags each);
  packets = λ n m up each. all_append (IsCountedEntry m) t.entries (e ∷ []) (f.packets n m (omega (arith, up)) each) (omega (arith, one), tt);
}

-- BINDING

bind_follows : (a b : ℕ) (s t : State) (e : Entry) (o : Option Dest) → IsOf s e → Follows a b s t → Follows a b s (bind_entry t e o).1
bind_follows a b s t e None few f = f
bind_follows a b s t e (Some d) few f = with_dests a b s _ _ (put_entry_follows a b s t (bound_to d e) few f)

bind_few : (s t : State) (e : Entry) (o : Option Dest) → IsOf s e → IsOf s (bind_entry t e o).0
bind_few s t e None few = few
bind_few s t e (Some d) few = few

try_follows : (a b : ℕ) (s t : State) (e : Entry) (o : Option DestId) → IsOf s e → Follows a b s t → Follows a b s (try_binding t e o).1
try_follows a b s t e (Some id) few f = f
try_follows a b s t e None few f = bind_follows a b s t e (server_for_entry t.services t.dests e) few f

try_few : (s t : State) (e : Entry) (o : Option DestId) → IsOf s e → IsOf s (try_binding t e o).0
try_few s t e (Some id) few = few
try_few s t e None few = bind_few s t e (server_for_entry t.services t.dests e) few

end_follows : (a b : ℕ) (s t : State) (e : Entry) → Follows a b s t → Follows a b s (end_entry e t)
end_follows a b s t e f = with_dests a b s _ _ (filter_entries_follows a b s t (λ x. not (has_entry_id e.id x)) f)

-- PACKETS

-- a connection that is there
known_follows : (s t : State) (p : Packet) (e : Entry) → IsOf s e → Follows 0 0 s t → Follows 1 1 s (forward_known t p e).1
known_follows s t p e few f =
    let after = after_packet t p e in
    let due = records_due t e.state after in
    record {
      now = f.now;
      buckets = f.buckets;
      next_entry = omega (arith, f.next_entry);
      next_dest = omega (arith, f.next_dest);
      next_template = omega (arith, f.next_template);
      entries = omega (arith, length_put (has_entry_id e.id) (λ _. after) t.entries, f.entries);
      templates = omega (arith, f.templates);
      pending = omega (arith, length-append t.pending due, length_due t e.state after, f.pending);
      flags = λ each. all_append HasOldFlags t.pending due (f.flags each) (due_old t e.state after);
      packets = λ n m up each.
          let here : e.packets ≤ n + 1 = few n each in
          all_put (IsCountedEntry m) (has_entry_id e.id) after t.entries (omega (arith, here, up)) (f.packets n m (omega (arith, up)) each);
    }

enter_follows : (b : ℕ) (s t : State) (p : Packet) (e : Entry) (d : Dest) → e.packets ≤ 1 → Follows 0 b s t → Follows 1 b s (enter t p e d).1
enter_follows b s t p e d one f =
    let before : Option TcpState = state_before p.proto in
    let due : List SyncRecord = records_due t before e in
    let few : length (t.pending ++ due) ≤ length t.pending + 2 = omega (arith, length-append t.pending due, length_due t before e) in
    with_dests 1 b s _ _ (new_entry_follows b s t e (t.pending ++ due) one few (λ old. all_append HasOldFlags t.pending due old (due_old t before e)) f)

connect_to_by : (n : ℕ) (one_packet : Bool) (s t : State) (p : Packet) (service : Service) (d : Dest) (template : Option TemplateId) (r : Reply) → n ≤ 1 → Follows 0 n s t
    → Follows 1 1 s (cond one_packet (r, t) (enter t p (new_entry t p service d template) d)).1
connect_to_by n true s t p service d template r drawn f = more 0 n 1 1 s t (lit≤ tt) drawn f
connect_to_by n false s t p service d template r drawn f =
    more 1 n 1 1 s _ (lit≤ tt) drawn (enter_follows n s t p (new_entry t p service d template) d (lit≤ tt) f)

connect_to_follows : (n : ℕ) (s t : State) (p : Packet) (service : Service) (d : Dest) (template : Option TemplateId) → n ≤ 1 → Follows 0 n s t → Follows 1 1 s (connect_to t p service d template).1
connect_to_follows n s t p service d template drawn f = connect_to_by n (is_one_packet service p.proto) s t p service d template _ drawn f

take_pick_follows : (s t : State) (p : Packet) (service : Service) (d : Dest) (o : Option ℕ) → Follows 0 0 s t → Follows 1 1 s (take_pick t p service d o).1
take_pick_follows s t p service d None f = connect_to_follows 0 s t p service d None (lit≤ tt) f
take_pick_follows s t p service d (Some seconds) f =
    let template : Template = new_template t (template_key service p.head.src) seconds d in
    connect_to_follows 1 s (replace_template template t) p service d (Some template.id) (lit≤ tt) (new_template_follows s t (has_template_key template.key) template f)

pick_at_follows : (s t : State) (p : Packet) (service : Service) (cursor : Cursor) (o : Option Dest) → Follows 0 0 s t → Follows 1 1 s (pick_at t p service cursor o).1
pick_at_follows s t p service cursor None f = at_most s t f
pick_at_follows s t p service cursor (Some d) f =
    let turned : State = with_cursor service.key cursor t in
    take_pick_follows s turned p service d service.persist (with_tables 0 0 s t turned.services t.dests t.settings t.daemons f)

picked_follows : (s t : State) (p : Packet) (service : Service) (o : Option (ℕ × Cursor)) → Follows 0 0 s t → Follows 1 1 s (picked t p service o).1
picked_follows s t p service None f = at_most s t f
picked_follows s t p service (Some choice) f = pick_at_follows s t p service choice.1 (slice_get (servers_of service.key t.dests) choice.0) f

schedule_follows : (s t : State) (p : Packet) (service : Service) → Follows 0 0 s t → Follows 1 1 s (schedule t p service).1
schedule_follows s t p service f =
    picked_follows s t p service (pick service.scheduler (candidates service.key t.dests t.entries) (map (λ (d : Dest). d.spec.addr) (servers_of service.key t.dests)) service.cursor p.head.src p.head.dst) f

use_template_follows : (s t : State) (p : Packet) (service : Service) (seconds : ℕ) (template : Template) (o : Option Dest) → Follows 0 0 s t → Follows 1 1 s (use_template t p service seconds template o).1
use_template_follows s t p service seconds template None f = schedule_follows s t p service f
use_template_follows s t p service seconds template (Some d) f =
    connect_to_follows 0 s _ p service d (Some template.id) (lit≤ tt) (put_template_follows 0 0 s t (renewed t seconds template) f)

try_template_follows : (s t : State) (p : Packet) (service : Service) (seconds : ℕ) (template : Template) → Follows 0 0 s t → Follows 1 1 s (try_template t p service seconds template).1
try_template_follows s t p service seconds template f =
    use_template_follows s _ p service seconds template (usable_server t.settings t.dests template.server) (put_template_follows 0 0 s t template f)

persist_follows : (s t : State) (p : Packet) (service : Service) (seconds : ℕ) (o : Option Template) → Follows 0 0 s t → Follows 1 1 s (persist_by t p service seconds o).1
persist_follows s t p service seconds None f = schedule_follows s t p service f
persist_follows s t p service seconds (Some template) f = try_template_follows s t p service seconds (template_tried t template template.server) f

serve_follows : (s t : State) (p : Packet) (service : Service) (o : Option ℕ) → Follows 0 0 s t → Follows 1 1 s (serve_packet t p service o).1
serve_follows s t p service None f = schedule_follows s t p service f
serve_follows s t p service (Some seconds) f = persist_follows s t p service seconds (template_at (template_key service p.head.src) t.templates) f

admit_follows : (s t : State) (p : Packet) (o : Option Service) (allowed : Bool) → Follows 0 0 s t → Follows 1 1 s (admit t p o allowed).1
admit_follows s t p None allowed f = at_most s t f
admit_follows s t p (Some service) false f = at_most s t f
admit_follows s t p (Some service) true f = serve_follows s t p service service.persist f

connect_follows : (s t : State) (p : Packet) → Follows 0 0 s t → Follows 1 1 s (connect t p).1
connect_follows s t p f =
    admit_follows s t p (find_service p.proto p.head.dst p.head.dport p.mark t.services) (may_connect t.settings p.proto p.head) f

either_follows : (a b : ℕ) (c : Bool) (s t u : State) → Follows a b s t → Follows a b s u → Follows a b s (cond c t u)
either_follows a b true s t u first other = first
either_follows a b false s t u first other = other

continue_follows : (s t : State) (p : Packet) (e : Entry) (standing : Standing) → IsOf s e → Follows 0 0 s t → Follows 1 1 s (continue t p e standing).1
continue_follows s t p e Reused few f = connect_follows s (end_entry e t) p (end_follows 0 0 s t e f)
continue_follows s t p e ServerGone few f =
    at_most s _ (either_follows 0 0 (t.settings.expire_nodest == 0) s t (end_entry e t) f (end_follows 0 0 s t e f))
continue_follows s t p e InUse few f = known_follows s t p e few f

arrive_follows : (s : State) (p : Packet) (o : Option Entry) → ((e : Entry) → o ≡ Some e → IsOf s e) → Follows 1 1 s (arrive s p o).1
arrive_follows s p None few = connect_follows s s p (same s)
arrive_follows s p (Some e) few =
    let bound : Entry × State = try_binding s e e.server in
    let server = server_named bound.0.server bound.1.dests in
    continue_follows s bound.1 p bound.0 (standing_of bound.1.settings p bound.0 server)
    (try_few s s e e.server (few e refl)) (try_follows 0 0 s s e e.server (few e refl) (same s))

take_back_follows : (s : State) (r : Reply) (t : State) → Follows 1 1 s t → Follows 1 1 s (take_back s (r, t)).1
take_back_follows s (reply.Drop drops.TooLong) t f = at_most s s (same s)
take_back_follows s r t f = f

found_few : (s : State) (p : Entry → Bool) (e : Entry) → find p s.entries ≡ Some e → IsOf s e
found_few s p e found = λ n each. all_find (IsCountedEntry n) p s.entries e each found

incoming_packet_follows : (s : State) (p : Packet) → Follows 1 1 s (incoming_packet s p).1
incoming_packet_follows s p =
    let o : Option Entry = entry_at (key_of p.proto p.head) s.entries in
    let answer : Reply × State = arrive s p o in
    take_back_follows s answer.0 answer.1 (arrive_follows s p o (found_few s (has_key (key_of p.proto p.head))))

incoming_of_follows : (s : State) (mark : ℕ) (head : Head) (bytes : List ℕ) (o : Option Proto) → Follows 1 1 s (incoming_of s mark head bytes o).1
incoming_of_follows s mark head bytes None = at_most s s (same s)
incoming_of_follows s mark head bytes (Some proto) =
    incoming_packet_follows s (record { mark = mark; proto = proto; head = head; bytes = take head.total bytes })

incoming_follows : (s : State) (mark : ℕ) (bytes : List ℕ) (r : Result Head Malformed) → Follows 1 1 s (incoming_read s mark bytes r).1
incoming_follows s mark bytes (Err why) = at_most s s (same s)
incoming_follows s mark bytes (Ok head) = incoming_of_follows s mark head bytes (transport_of head)

least_choice : (P : Entry → Type 0) (b : Bool) (x y e : Entry) → P x → P y → cond b (Some x) (Some y) ≡ Some e → P e
least_choice P true x y e px py is = let same : x ≡ e = cc in subst P same px
least_choice P false x y e px py is = let same : y ≡ e = cc in subst P same py

least_of : (P : Entry → Type 0) (x : Entry) (o : Option Entry) (e : Entry) → P x → ((y : Entry) → o ≡ Some y → P y) → lower_of (λ (z : Entry). z.id) x o ≡ Some e → P e
least_of P x None e px py is = let same : x ≡ e = cc in subst P same px
least_of P x (Some y) e px py is = least_choice P (nat_le x.id y.id) x y e px (py y refl) is

-- the least entry is one of the list
all_least : (P : Entry → Type 0) (es : List Entry) (e : Entry) → AllByRecursion P es → least_by (λ (x : Entry). x.id) es ≡ Some e → P e
all_least P [] e each found = absurd cc
all_least P (x ∷ es) e each found = least_of P x (least_by (λ (y : Entry). y.id) es) e each.0 (λ y is. all_least P es y each.1 is) found

answer_out_follows : (s : State) (head : Head) (bytes : List ℕ) (o : Option Entry) → ((e : Entry) → o ≡ Some e → IsOf s e) → Follows 1 1 s (answer_out s head bytes o).1
answer_out_follows s head bytes None few = at_most s s (same s)
answer_out_follows s head bytes (Some e) few = at_most s _ (put_entry_follows 0 0 s s _ (few e refl) (same s))

outgoing_of_follows : (s : State) (head : Head) (bytes : List ℕ) (o : Option Proto) → Follows 1 1 s (outgoing_of s head bytes o).1
outgoing_of_follows s head bytes None = at_most s s (same s)
outgoing_of_follows s head bytes (Some proto) =
    let answers : Entry → Bool = is_reply_of proto head.src head.sport head.dst head.dport in
    answer_out_follows s head _ (reply_entry proto head.src head.sport head.dst head.dport s.entries)
    (λ e is n each. all_least (IsCountedEntry n) (filter answers s.entries) e (all_filter (IsCountedEntry n) answers s.entries each) is)

outgoing_follows : (s : State) (bytes : List ℕ) (r : Result Head Malformed) → Follows 1 1 s (outgoing_read s bytes r).1
outgoing_follows s bytes (Err why) = at_most s s (same s)
outgoing_follows s bytes (Ok head) = outgoing_of_follows s head bytes (transport_of head)

-- EDITS

-- an edit changes neither the entries nor the templates, and draws one id at most
edited : (s : State) (services : List Service) (dests : List Dest) (settings : Settings) (daemons : Daemons) → Follows 1 1 s (record s { services = services; dests = dests; settings = settings; daemons = daemons })
edited s services dests settings daemons = at_most s _ (with_tables 0 0 s s services dests settings daemons (same s))

unchanged : (s : State) → Follows 1 1 s s
unchanged s = at_most s s (same s)

new_dest_follows : (s : State) (dests : List Dest) → Follows 1 1 s (record s { dests = dests; next_dest = s.next_dest + 1 })
new_dest_follows s dests = let f = edited s s.services dests s.settings s.daemons in record {
  now = f.now;
  buckets = f.buckets;
  next_entry = f.next_entry;
  next_dest = omega arith;
  next_template = f.next_template;
  entries = f.entries;
  templates = f.templates;
  pending = f.pending;
  flags = f.flags;
  packets = f.packets;
}

none_pending_follows : (s : State) (daemons : Daemons) → Follows 1 1 s (record s { daemons = daemons; pending = [] })
none_pending_follows s daemons = let f = edited s s.services s.dests s.settings daemons in record {
  now = f.now;
  buckets = f.buckets;
  next_entry = f.next_entry;
  next_dest = f.next_dest;
  next_template = f.next_template;
  entries = f.entries;
  templates = f.templates;
  pending = omega arith;
  flags = λ each. tt;
  packets = f.packets;
}

add_service_follows : (s : State) (service : Service) (b : Bool) → Follows 1 1 s (add_service_by s service b).1
add_service_follows s service true = unchanged s
add_service_follows s service false = edited s _ s.dests s.settings s.daemons

edit_service_follows : (s : State) (service : Service) (b : Bool) → Follows 1 1 s (edit_service_by s service b).1
edit_service_follows s service false = unchanged s
edit_service_follows s service true = edited s _ s.dests s.settings s.daemons

remove_service_follows : (s : State) (key : ServiceKey) (b : Bool) → Follows 1 1 s (remove_service_by s key b).1
remove_service_follows s key false = unchanged s
remove_service_follows s key true = edited s _ _ s.settings s.daemons

place_follows : (s : State) (key : ServiceKey) (spec : DestSpec) (o : Option Dest) → Follows 1 1 s (place_server s key spec o)
place_follows s key spec None = new_dest_follows s _
place_follows s key spec (Some d) = edited s s.services _ s.settings s.daemons

add_server_follows : (s : State) (key : ServiceKey) (spec : DestSpec) (a b c : Bool) → Follows 1 1 s (add_server_by s key spec a b c).1
add_server_follows s key spec false b c = unchanged s
add_server_follows s key spec true true c = unchanged s
add_server_follows s key spec true false true = unchanged s
add_server_follows s key spec true false false = place_follows s key spec (find (is_revivable key spec) s.dests)

edit_server_follows : (s : State) (key : ServiceKey) (spec : DestSpec) (a b c : Bool) → Follows 1 1 s (edit_server_by s key spec a b c).1
edit_server_follows s key spec false b c = unchanged s
edit_server_follows s key spec true false c = unchanged s
edit_server_follows s key spec true true true = unchanged s
edit_server_follows s key spec true true false = edited s s.services _ s.settings s.daemons

remove_at_follows : (s : State) (key : ServiceKey) (o : Option Dest) → Follows 1 1 s (remove_server_at s key o).1
remove_at_follows s key None = unchanged s
remove_at_follows s key (Some d) = edited s _ _ s.settings s.daemons

remove_server_follows : (s : State) (key : ServiceKey) (addr : Addr) (port : ℕ) (b : Bool) → Follows 1 1 s (remove_server_by s key addr port b).1
remove_server_follows s key addr port false = unchanged s
remove_server_follows s key addr port true = remove_at_follows s key (find (is_server_at key addr port) s.dests)

start_master_follows : (s : State) (id : ℕ) (o : Option ℕ) → Follows 1 1 s (start_master s id o).1
start_master_follows s id (Some runs) = unchanged s
start_master_follows s id None = edited s s.services s.dests s.settings _

start_backup_follows : (s : State) (id : ℕ) (o : Option ℕ) → Follows 1 1 s (start_backup s id o).1
start_backup_follows s id (Some runs) = unchanged s
start_backup_follows s id None = edited s s.services s.dests s.settings _

stop_master_follows : (s : State) (o : Option ℕ) → Follows 1 1 s (stop_master s o).1
stop_master_follows s None = unchanged s
stop_master_follows s (Some runs) = none_pending_follows s _

stop_backup_follows : (s : State) (o : Option ℕ) → Follows 1 1 s (stop_backup s o).1
stop_backup_follows s None = unchanged s
stop_backup_follows s (Some runs) = edited s s.services s.dests s.settings _

edit_follows : (s : State) (c : Command) → Follows 1 1 s (edit s c).1
edit_follows s (command.AddService service) = add_service_follows s service (is_service s service.key)
edit_follows s (command.EditService service) = edit_service_follows s service (is_service s service.key)
edit_follows s (command.RemoveService key) = remove_service_follows s key (is_service s key)
edit_follows s command.Clear = edited s _ _ s.settings s.daemons
edit_follows s (command.AddServer key spec) = add_server_follows s key spec (is_service s key) (is_server s key spec.addr spec.port) (has_bad_thresholds spec)
edit_follows s (command.EditServer key spec) = edit_server_follows s key spec (is_service s key) (is_server s key spec.addr spec.port) (has_bad_thresholds spec)
edit_follows s (command.RemoveServer key addr port) = remove_server_follows s key addr port (is_service s key)
edit_follows s (command.Timeouts established fin_wait udp) = edited s s.services s.dests _ s.daemons
edit_follows s (command.StartMaster id) = start_master_follows s id s.daemons.master
edit_follows s (command.StartBackup id) = start_backup_follows s id s.daemons.backup
edit_follows s command.StopMaster = stop_master_follows s s.daemons.master
edit_follows s command.StopBackup = stop_backup_follows s s.daemons.backup

-- RECORDS THAT ARRIVE

-- a learnt entry
add_entry_follows : (s t : State) (e : Entry) → e.packets ≤ 1 → Follows 0 0 s t → Follows 1 1 s (add_entry t e)
add_entry_follows s t e one f =
    let few : IsOf s e = λ n each. omega (arith, one) in
    let pushed = new_entry_follows 0 s t e t.pending one (omega arith) (λ old. old) f in
    more 1 0 1 1 s _ (lit≤ tt) (lit≤ tt) (try_follows 1 0 s _ e None few pushed)

relearn_follows : (s : State) (r : SyncRecord) (e : Entry) (b : Bool) → IsOf s e → Follows 1 1 s (relearn s r e b)
relearn_follows s r e true few =
    let after : Entry = relearnt s r e in
    at_most s _ (try_follows 0 0 s _ after after.server few (put_entry_follows 0 0 s s after few (same s)))
relearn_follows s r e false few =
    let left : State = end_entry e s in add_entry_follows s left (recorded_entry left r) (lit≤ tt) (end_follows 0 0 s s e (same s))

learn_connection_follows : (s : State) (r : SyncRecord) (o : Option Entry) → ((e : Entry) → o ≡ Some e → IsOf s e) → Follows 1 1 s (learn_connection s r o)
learn_connection_follows s r None few = add_entry_follows s s (recorded_entry s r) (lit≤ tt) (same s)
learn_connection_follows s r (Some e) few = relearn_follows s r e (goes_to_recorded r e) (few e refl)

add_template_follows : (s : State) (t : Template) → Follows 1 1 s (add_template s t)
add_template_follows s t = more 0 1 1 1 s _ (lit≤ tt) (lit≤ tt) (new_template_follows s s (has_template_key t.key) (template_tried s t None) (same s))

relearn_template_follows : (s : State) (r : SyncRecord) (t : Template) (b : Bool) → Follows 1 1 s (relearn_template s r t b)
relearn_template_follows s r t true = at_most s _ (put_template_follows 0 0 s s _ (same s))
relearn_template_follows s r t false = add_template_follows s (recorded_template s r)

learn_template_follows : (s : State) (r : SyncRecord) (o : Option Template) → Follows 1 1 s (learn_template s r o)
learn_template_follows s r None = add_template_follows s (recorded_template s r)
learn_template_follows s r (Some t) = relearn_template_follows s r t (template_goes_to_recorded r t)

learn_record_follows : (s : State) (r : SyncRecord) → Follows 1 1 s (learn_record s r)
learn_record_follows s r =
    either_follows 1 1 (is_template_record r) s _ _
    (learn_template_follows s r (template_at (recorded_template_key r) s.templates))
    (learn_connection_follows s r (entry_at (recorded_key r) s.entries) (found_few s (has_key (recorded_key r))))

learn_item_follows : (s : State) (i : SyncItem) → Follows 1 1 s (learn_item s i)
learn_item_follows s V6 = unchanged s
learn_item_follows s (V4 r) = learn_record_follows s r

learn_follows : (s : State) (i : SyncItem) (a : Learnt) → Follows 1 1 s (learn_by s i a).1
learn_follows s i learnt.Accepted = learn_item_follows s i
learn_follows s i learnt.Off = unchanged s
learn_follows s i learnt.OtherId = unchanged s
learn_follows s i learnt.V6 = unchanged s
learn_follows s i learnt.BadProto = unchanged s
learn_follows s i learnt.BadState = unchanged s
learn_follows s i learnt.BadMethod = unchanged s

-- STEPS

step_follows : (s : State) (i : Item) → IsInRange i → Follows 1 1 s (step s i).1
step_follows s (item.Incoming mark bytes) fits = incoming_follows s mark bytes (read bytes)
step_follows s (item.Outgoing bytes) fits = outgoing_follows s bytes (read bytes)
step_follows s (item.Edit edit_command) fits = edit_follows s edit_command
step_follows s (item.Set setting) fits = edited s s.services s.dests _ s.daemons
step_follows s (item.Learn sync_id record_item) fits = learn_follows s record_item (accept s.daemons.backup sync_id record_item)
step_follows s (item.BadSync why) fits = unchanged s
step_follows s (item.Tick moment) fits = let f = unchanged s in record {
  now = λ before. fits;
  buckets = f.buckets;
  next_entry = f.next_entry;
  next_dest = f.next_dest;
  next_template = f.next_template;
  entries = f.entries;
  templates = f.templates;
  pending = f.pending;
  flags = f.flags;
  packets = f.packets;
}
step_follows s (item.Sweep bucket) fits =
    at_most s _ (with_dests 0 0 s _ _ (filter_entries_follows 0 0 s s (λ e. not (is_swept s bucket e)) (same s)))
step_follows s item.Reap fits =
    at_most s _ (with_dests 0 0 s _ _ (with_templates 0 0 s s (reaped_templates s) (length_filter_map (reaped_template s) s.templates) (same s)))
step_follows s item.SendSync fits = none_pending_follows s s.daemons

pub numbered_step : (n : ℕ) (s : State) (i : Item) → IsInRange i → IsNumbered n s → IsNumbered (n + 1) (step s i).1
numbered_step n s i fits c = let f = step_follows s i fits in record {
  now = f.now c.now;
  buckets = rw f.buckets c.buckets;
  next_entry = omega (arith, f.next_entry, c.next_entry);
  next_dest = omega (arith, f.next_dest, c.next_dest);
  next_template = omega (arith, f.next_template, c.next_template);
  entries = omega (arith, f.entries, c.entries);
  templates = omega (arith, f.templates, c.templates);
  pending = omega (arith, f.pending, c.pending);
  flags = f.flags c.flags;
}

packets_after : (n : ℕ) (s t : State) → Follows 1 1 s t → AreCountedEntries n s.entries → AreCountedEntries (n + 1) t.entries
packets_after n s t f each = f.packets n (n + 1) (omega arith) each

pub packets_step : (n : ℕ) (s : State) (i : Item) → AreCountedEntries n s.entries → AreCountedEntries (n + 1) (step s i).1.entries
packets_step n s (item.Incoming mark bytes) each = packets_after n s _ (incoming_follows s mark bytes (read bytes)) each
packets_step n s (item.Outgoing bytes) each = packets_after n s _ (outgoing_follows s bytes (read bytes)) each
packets_step n s (item.Edit edit_command) each = packets_after n s _ (edit_follows s edit_command) each
packets_step n s (item.Set setting) each = packets_after n s _ (unchanged s) each
packets_step n s (item.Learn sync_id record_item) each = packets_after n s _ (learn_follows s record_item (accept s.daemons.backup sync_id record_item)) each
packets_step n s (item.BadSync why) each = packets_after n s _ (unchanged s) each
packets_step n s (item.Tick moment) each = packets_after n s _ (unchanged s) each
packets_step n s (item.Sweep bucket) each = packets_after n s _ (step_follows s (item.Sweep bucket) tt) each
packets_step n s item.Reap each = packets_after n s _ (unchanged s) each
packets_step n s item.SendSync each = packets_after n s _ (unchanged s) each

pub counted_step : (n : ℕ) (s : State) (i : Item) → IsInRange i → IsCounted n s → IsCounted (n + 1) (step s i).1
counted_step n s i fits c = record { numbers = numbered_step n s i fits c.numbers; packets = packets_step n s i c.packets }

pub counted_initial : (local : Addr) (buckets : ℕ) → 0 < buckets → IsCounted 0 (initial local buckets)
counted_initial local buckets some = record {
  numbers = record {
    now = lit≤ tt;
    buckets = some;
    next_entry = lit≤ tt;
    next_dest = lit≤ tt;
    next_template = lit≤ tt;
    entries = lit≤ tt;
    templates = lit≤ tt;
    pending = lit≤ tt;
    flags = tt;
  };
  packets = tt;
}

pub numbered_server : (n : ℕ) (s : State) (id : DestId) → IsNumbered n s → IsNumberedServer n s id
numbered_server n s id c = record {
  active = omega (arith, count_by-le-length (counts_active id) s.entries, c.entries);
  inactive = omega (arith, count_by-le-length (counts_inactive id) s.entries, c.entries);
  templates = omega (arith, count_by-le-length (λ (t : Template). dest_eq t.server id) s.templates, c.templates);
}
