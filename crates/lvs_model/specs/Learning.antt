-- A record of a sync message arrives (the connection synchronisation protocol; what a record makes of the tables is this project's profile).
use Rattle.std.specs.Prelude.{ℕ, ◌+◌, ◌%◌, Bool, true, false, ◌&&◌, ◌==◌, [], ◌∷◌, ◌++◌, Option, Some, None, if◌then◌else◌}
use Rattle.std.specs.Option.{unwrap_or}
use Rattle.lvs_types.specs.declared.service.Proto.{Proto}
use Rattle.lvs_types.specs.declared.service.Proto.TheVariants.{Tcp, Udp}
use Rattle.lvs_types.specs.declared.service.Method.{Method}
use Rattle.lvs_types.specs.declared.service.Method.TheVariants.{Direct}
use Rattle.lvs_types.specs.declared.entry.TcpState.{TcpState}
use Rattle.lvs_types.specs.declared.entry.Key.{Key}
use Rattle.lvs_types.specs.declared.entry.Entry.{Entry}
use Rattle.lvs_types.specs.declared.template.TemplateKey.{TemplateKey}
use Rattle.lvs_types.specs.declared.template.Template.{Template}
use Rattle.lvs_types.specs.declared.sync.SyncItem.{SyncItem}
use Rattle.lvs_types.specs.declared.sync.SyncItem.TheVariants.{V4, V6}
use Rattle.lvs_types.specs.declared.sync.SyncRecord.{SyncRecord}
use Rattle.lvs_types.specs.declared.sync.Learnt.{Learnt}
use Rattle.lvs_types.specs.declared.sync.Learnt.TheVariants as learnt
use Rattle.lvs_types.specs.declared.reply.Reply.{Reply}
use Rattle.lvs_types.specs.declared.reply.Reply.TheVariants as reply
use Rattle.lvs_types.specs.Methods.{method_of_code}
use Rattle.lvs_types.specs.StateNumbers.{state_of_number}
use Rattle.lvs_model.specs.State.{State}
use Rattle.lvs_model.specs.Same.{addr_eq}
use Rattle.lvs_model.specs.Lists.{without}
use Rattle.lvs_model.specs.SyncRules.{accept, is_template_record}
use Rattle.lvs_model.specs.Lookups.{entry_at, template_at, has_template_key}
use Rattle.lvs_model.specs.Binding.{put_entry, try_binding, put_template, template_tried}
use Rattle.lvs_model.specs.Incoming.{end_entry}

-- a timeout of 0 counts as 180 seconds
abbrev pub learnt_timeout : SyncRecord → ℕ
learnt_timeout r = if r.timeout == 0 then 180 else r.timeout

-- the protocol of an accepted connection record
abbrev pub recorded_proto : SyncRecord → Proto
recorded_proto r = if r.code == 6 then Tcp else Udp

-- the method of the low three bits of an accepted record's flags
abbrev pub recorded_method : SyncRecord → Method
recorded_method r = unwrap_or (method_of_code (r.flags % 8)) Direct

-- the state of an accepted record's number; UDP has none
abbrev pub recorded_state : Proto → ℕ → Option TcpState
recorded_state Udp number = None
recorded_state Tcp number = state_of_number number

abbrev pub recorded_key : SyncRecord → Key
recorded_key r = record { proto = recorded_proto r; caddr = r.caddr; cport = r.cport; vaddr = r.vaddr; vport = r.vport }

-- an unbound entry as it is recorded
abbrev pub recorded_entry : State → SyncRecord → Entry
recorded_entry s r = record {
  id = s.next_entry;
  key = recorded_key r;
  server = None;
  method = recorded_method r;
  daddr = r.daddr;
  dport = r.dport;
  state = recorded_state (recorded_proto r) r.state;
  timeout = learnt_timeout r;
  deadline = s.now + learnt_timeout r;
  packets = 0;
  template = None;
  mark = r.mark;
}

-- the entry stands last, and is bound where a server is found for it
abbrev pub add_entry : State → Entry → State
add_entry s e = (try_binding (record s { entries = s.entries ++ e ∷ []; next_entry = s.next_entry + 1 }) e None).1

-- the timeout and the state of TCP are those recorded
abbrev pub relearnt : State → SyncRecord → Entry → Entry
relearnt s r e = record e {
  state = recorded_state (recorded_proto r) r.state;
  timeout = learnt_timeout r;
  deadline = s.now + learnt_timeout r;
}

abbrev pub goes_to_recorded : SyncRecord → Entry → Bool
goes_to_recorded r e = addr_eq e.daddr r.daddr && (e.dport == r.dport)

-- the entry of the key goes to the recorded address and port, or to another
abbrev pub relearn : State → SyncRecord → Entry → Bool → State
relearn s r e true =
    let after = relearnt s r e in (try_binding (record s { entries = put_entry after s.entries }) after after.server).1
relearn s r e false = let left = end_entry e s in add_entry left (recorded_entry left r)

abbrev pub learn_connection : State → SyncRecord → Option Entry → State
learn_connection s r None = add_entry s (recorded_entry s r)
learn_connection s r (Some e) = relearn s r e (goes_to_recorded r e)

-- the key as it is recorded
abbrev pub recorded_template_key : SyncRecord → TemplateKey
recorded_template_key r = record { code = r.code; client = r.caddr; vaddr = r.vaddr; vport = r.vport }

abbrev pub recorded_template : State → SyncRecord → Template
recorded_template s r = record {
  id = record { 0 = s.next_template };
  key = recorded_template_key r;
  server = None;
  method = recorded_method r;
  daddr = r.daddr;
  dport = r.dport;
  timeout = learnt_timeout r;
  deadline = s.now + learnt_timeout r;
}

-- the template of that key leaves, if there is one; this one stands last, bound where a server is found for it
abbrev pub add_template : State → Template → State
add_template s t = record s {
  templates = without (has_template_key t.key) s.templates ++ template_tried s t None ∷ [];
  next_template = s.next_template + 1;
}

abbrev pub relearnt_template : State → SyncRecord → Template → Template
relearnt_template s r t = record t { timeout = learnt_timeout r; deadline = s.now + learnt_timeout r }

abbrev pub template_goes_to_recorded : SyncRecord → Template → Bool
template_goes_to_recorded r t = addr_eq t.daddr r.daddr && (t.dport == r.dport)

abbrev pub relearn_template : State → SyncRecord → Template → Bool → State
relearn_template s r t true =
    record s { templates = put_template (template_tried s (relearnt_template s r t) t.server) s.templates }
relearn_template s r t false = add_template s (recorded_template s r)

abbrev pub learn_template : State → SyncRecord → Option Template → State
learn_template s r None = add_template s (recorded_template s r)
learn_template s r (Some t) = relearn_template s r t (template_goes_to_recorded r t)

-- an accepted record: of a template where its flags say so, and else of a connection
abbrev pub learn_record : State → SyncRecord → State
learn_record s r =
    if is_template_record r then learn_template s r (template_at (recorded_template_key r) s.templates)
    else learn_connection s r (entry_at (recorded_key r) s.entries)

abbrev pub learn_item : State → SyncItem → State
learn_item s V6 = s
learn_item s (V4 r) = learn_record s r

abbrev pub learn_by : State → SyncItem → Learnt → Reply × State
learn_by s item learnt.Accepted = (reply.Learnt learnt.Accepted, learn_item s item)
learn_by s item answer = (reply.Learnt answer, s)

abbrev pub learn : State → ℕ → SyncItem → Reply × State
learn s sync_id item = learn_by s item (accept s.daemons.backup sync_id item)
