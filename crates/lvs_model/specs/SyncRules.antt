-- Which connections are synchronised, what is sent of them, and what becomes of a record that arrives (the Linux ipvs-sysctl document, sync_threshold; the rest is this project's profile).
use Rattle.std.specs.Prelude.{ℕ, ◌+◌, ◌%◌, Bool, true, false, not, ◌&&◌, ◌||◌, ◌==◌, Option, Some, None, is_some, if◌then◌else◌, bit_and}
use Rattle.lvs_types.specs.declared.service.Proto.TheVariants.{Tcp}
use Rattle.lvs_types.specs.declared.entry.TcpState.{TcpState}
use Rattle.lvs_types.specs.declared.entry.TcpState.TheVariants.{Established, FinWait, TimeWait, Close, CloseWait}
use Rattle.lvs_types.specs.declared.entry.Entry.{Entry}
use Rattle.lvs_types.specs.declared.template.Template.{Template}
use Rattle.lvs_types.specs.declared.settings.Settings.{Settings}
use Rattle.lvs_types.specs.declared.sync.SyncRecord.{SyncRecord}
use Rattle.lvs_types.specs.declared.sync.SyncItem.{SyncItem}
use Rattle.lvs_types.specs.declared.sync.SyncItem.TheVariants.{V4, V6}
use Rattle.lvs_types.specs.declared.sync.Learnt.{Learnt}
use Rattle.lvs_types.specs.declared.sync.Learnt.TheVariants as learnt
use Rattle.lvs_types.specs.Protocols.{proto_code, proto_of_code}
use Rattle.lvs_types.specs.Methods.{method_code, method_of_code}
use Rattle.lvs_types.specs.StateNumbers.{state_number, state_of_number}
use Rattle.lvs_model.specs.Same.{proto_eq}
use Rattle.lvs_model.specs.Timeouts.{is_active}

-- the states whose entries are sent
abbrev pub is_synced_state : Option TcpState → Bool
is_synced_state (Some Established) = true
is_synced_state (Some FinWait) = true
is_synced_state (Some TimeWait) = true
is_synced_state (Some Close) = true
is_synced_state (Some CloseWait) = true
is_synced_state _ = false

abbrev pub same_state : Option TcpState → Option TcpState → Bool
same_state None None = true
same_state None (Some s) = false
same_state (Some s) None = false
same_state (Some s) (Some t) = state_number s == state_number t

-- so many packets are those at which an entry is sent though its state stays: the threshold, and again each period unless that is 0
abbrev pub is_count_due : Settings → ℕ → Bool
is_count_due settings packets =
    if settings.period == 0 then packets == settings.threshold else packets % settings.period == settings.threshold

-- a packet makes an entry to be sent, by the state before the packet and the entry after it; whether a master daemon runs isn't looked at
abbrev pub due_for_sync : Settings → Option TcpState → Entry → Bool
due_for_sync settings old entry =
    proto_eq entry.key.proto Tcp && is_synced_state entry.state && (not (same_state old entry.state) || is_count_due settings entry.packets)

-- the state of a record; 0 for UDP
abbrev pub state_code : Option TcpState → ℕ
state_code None = 0
state_code (Some s) = state_number s

-- the record of an entry; its flags have 0x100 where the entry isn't active
abbrev pub of_entry : Entry → SyncRecord
of_entry e = record {
  code = proto_code e.key.proto;
  flags = method_code e.method + (if is_active e.state then 0 else 0x100);
  state = state_code e.state;
  cport = e.key.cport;
  vport = e.key.vport;
  dport = e.dport;
  mark = e.mark;
  timeout = e.timeout;
  caddr = e.key.caddr;
  vaddr = e.key.vaddr;
  daddr = e.daddr;
}

-- the record of a template; its flags have 0x1000, and it tells the mark of a mark service
abbrev pub of_template : Template → SyncRecord
of_template t = record {
  code = t.key.code;
  flags = method_code t.method + 0x1000;
  state = 0;
  cport = 0;
  vport = t.key.vport;
  dport = t.dport;
  mark = if t.key.code == 0 then t.key.vaddr.number else 0;
  timeout = t.timeout;
  caddr = t.key.client;
  vaddr = t.key.vaddr;
  daddr = t.daddr;
}

-- the record is that of a template: its flags have 0x1000
abbrev pub is_template_record : SyncRecord → Bool
is_template_record r = not (bit_and r.flags 0x1000 == 0)

-- the protocol is TCP or UDP, or 0 in the record of a template
abbrev pub has_known_protocol : SyncRecord → Bool
has_known_protocol r = is_some (proto_of_code r.code) || (is_template_record r && (r.code == 0))

-- the state of a TCP connection's record is one that there is
abbrev pub has_known_state : SyncRecord → Bool
has_known_state r = is_template_record r || not (r.code == 6) || is_some (state_of_number r.state)

-- the low three bits are a method's
abbrev pub has_known_method : SyncRecord → Bool
has_known_method r = is_some (method_of_code (r.flags % 8))

-- an IPv4 record that a backup with the right sync id takes or refuses
abbrev pub accept_record : SyncRecord → Learnt
accept_record r =
    if not (has_known_protocol r) then learnt.BadProto
    else if not (has_known_state r) then learnt.BadState
    else if not (has_known_method r) then learnt.BadMethod
    else learnt.Accepted

abbrev pub accept_item : SyncItem → Learnt
accept_item V6 = learnt.V6
accept_item (V4 r) = accept_record r

-- what becomes of a record that arrives, by the backup daemon's sync id, the message's sync id and the record; a backup with sync id 0 takes every id
abbrev pub accept : Option ℕ → ℕ → SyncItem → Learnt
accept None id item = learnt.Off
accept (Some own) id item = if (own == 0) || (own == id) then accept_item item else learnt.OtherId
