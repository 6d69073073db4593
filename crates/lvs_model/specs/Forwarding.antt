-- A packet is forwarded, and its entry and the pending sync records follow.
use Rattle.std.specs.Prelude.{ℕ, ◌+◌, ◌&&◌, List, [], ◌∷◌, ◌++◌, Option, Some, None, if◌then◌else◌, is_some}
use Rattle.lvs_types.specs.declared.head.Head.{Head}
use Rattle.lvs_types.specs.declared.service.Method.{Method}
use Rattle.lvs_types.specs.declared.service.Method.TheVariants.{Masq, Tunnel, Direct}
use Rattle.lvs_types.specs.declared.entry.Direction.{Direction}
use Rattle.lvs_types.specs.declared.entry.Direction.TheVariants.{Input, InputOnly}
use Rattle.lvs_types.specs.declared.entry.TcpState.{TcpState}
use Rattle.lvs_types.specs.declared.entry.Entry.{Entry}
use Rattle.lvs_types.specs.declared.addr.Addr.{Addr}
use Rattle.lvs_types.specs.declared.addr.TemplateId.{TemplateId}
use Rattle.lvs_types.specs.declared.template.Template.{Template}
use Rattle.lvs_types.specs.declared.sync.SyncRecord.{SyncRecord}
use Rattle.lvs_types.specs.declared.settings.Settings.{Settings}
use Rattle.lvs_types.specs.declared.reply.Reply.{Reply}
use Rattle.lvs_types.specs.declared.reply.Reply.TheVariants as reply
use Rattle.lvs_types.specs.declared.reply.DropCause.TheVariants as drops
use Rattle.lvs_model.specs.State.{State}
use Rattle.lvs_model.specs.Packets.{Packet}
use Rattle.lvs_model.specs.Rewriting.{bytes_for, is_too_long}
use Rattle.lvs_model.specs.TcpStates.{next_state}
use Rattle.lvs_model.specs.Timeouts.{timeout_of}
use Rattle.lvs_model.specs.SyncRules.{due_for_sync, of_entry, of_template}
use Rattle.lvs_model.specs.Lookups.{template_of_id}
use Rattle.lvs_model.specs.Binding.{put_entry}

-- which table an incoming packet is looked up in: the director sees no answers but those of masqueraded connections
abbrev pub direction_in : Method → Direction
direction_in Masq = Input
direction_in Tunnel = InputOnly
direction_in Direct = InputOnly

abbrev pub state_after : Option TcpState → Direction → Head → Option TcpState
state_after None direction head = None
state_after (Some old) direction head = Some (next_state old direction head)

-- the entry in this state, its timeout that of the state, and due after it
abbrev pub in_state : Settings → ℕ → Option TcpState → Entry → Entry
in_state settings now state e = record e { state = state; timeout = timeout_of settings state; deadline = now + timeout_of settings state }

-- the entry after one more packet of its client
abbrev pub after_packet : State → Packet → Entry → Entry
after_packet s p e =
    in_state s.settings s.now (state_after e.state (direction_in e.method) p.head) (record e { packets = e.packets + 1 })

abbrev pub template_records : Option Template → List SyncRecord
template_records None = []
template_records (Some t) = of_template t ∷ []

abbrev pub records_of_template : Option TemplateId → List Template → List SyncRecord
records_of_template None templates = []
records_of_template (Some id) templates = template_records (template_of_id id templates)

-- what is to be sent of the entry, which was in the state before: its record and that of its template, where the master daemon runs and the entry is due for it
abbrev pub records_due : State → Option TcpState → Entry → List SyncRecord
records_due s before e =
    if is_some s.daemons.master && due_for_sync s.settings before e then of_entry e ∷ records_of_template e.template s.templates else []

-- the packet goes to this address and port, unless its tunnel packet would be too long
abbrev pub forwarded : State → Packet → Method → Addr → ℕ → Reply
forwarded s p method daddr dport =
    if is_too_long p.head method then reply.Drop drops.TooLong else reply.Forward method daddr (bytes_for s.local p.head p.bytes method daddr dport)

-- a packet of a connection that is there
abbrev pub forward_known : State → Packet → Entry → Reply × State
forward_known s p e =
    let after = after_packet s p e in (
      forwarded s p e.method e.daddr e.dport,
      record s { entries = put_entry after s.entries; pending = s.pending ++ records_due s e.state after },
    )
