-- An incoming packet: the rules in their order.
use Rattle.std.specs.Prelude.{ℕ, not, Bool, true, false, ◌&&◌, ◌||◌, ◌==◌, List, Option, Some, None, Result, Ok, Err, if◌then◌else◌, nat_lt, take}
use Rattle.lvs_types.specs.declared.addr.DestId.{DestId}
use Rattle.lvs_types.specs.declared.head.Head.{Head}
use Rattle.lvs_types.specs.declared.head.Malformed.{Malformed}
use Rattle.lvs_types.specs.declared.service.Proto.{Proto}
use Rattle.lvs_types.specs.declared.dest.Dest.{Dest}
use Rattle.lvs_types.specs.declared.entry.TcpState.{TcpState}
use Rattle.lvs_types.specs.declared.entry.TcpState.TheVariants.{TimeWait, None0, Established, SynSent, SynRecv, FinWait, Close, CloseWait, LastAck, Listen, SynAck}
use Rattle.lvs_types.specs.declared.entry.Entry.{Entry}
use Rattle.lvs_types.specs.declared.settings.Settings.{Settings}
use Rattle.lvs_types.specs.declared.reply.Reply.{Reply}
use Rattle.lvs_types.specs.declared.reply.Reply.TheVariants as reply
use Rattle.lvs_types.specs.declared.reply.DropCause.TheVariants as drops
use Rattle.lvs_types.specs.Transport.{transport_of}
use Rattle.lvs_model.specs.declared.incoming.Standing.{Standing}
use Rattle.lvs_model.specs.declared.incoming.Standing.TheVariants.{Reused, ServerGone, InUse}
use Rattle.lvs_model.specs.State.{State}
use Rattle.lvs_model.specs.Lists.{without}
use Rattle.lvs_model.specs.Lookups.{entry_at, dest_at, has_entry_id}
use Rattle.lvs_model.specs.Reading.{read}
use Rattle.lvs_model.specs.Binding.{count_ended, try_binding}
use Rattle.lvs_model.specs.Packets.{Packet, key_of, is_syn_of}
use Rattle.lvs_model.specs.Forwarding.{forward_known}
use Rattle.lvs_model.specs.Scheduling.{connect}

-- the entry leaves, and its server's overload is looked at with the entries that stay
abbrev pub end_entry : Entry → State → State
end_entry e s =
    let entries = without (has_entry_id e.id) s.entries in
    record s { entries = entries; dests = count_ended e.server entries s.dests }

abbrev pub is_time_wait : Option TcpState → Bool
is_time_wait None = false
is_time_wait (Some TimeWait) = true
is_time_wait (Some None0) = false
is_time_wait (Some Established) = false
is_time_wait (Some SynSent) = false
is_time_wait (Some SynRecv) = false
is_time_wait (Some FinWait) = false
is_time_wait (Some Close) = false
is_time_wait (Some CloseWait) = false
is_time_wait (Some LastAck) = false
is_time_wait (Some Listen) = false
is_time_wait (Some SynAck) = false

-- a live server without weight
abbrev pub is_quiescent : Option Dest → Bool
is_quiescent None = false
is_quiescent (Some d) = d.live && (d.spec.weight == 0)

abbrev pub is_trashed : Option Dest → Bool
is_trashed None = false
is_trashed (Some d) = not d.live

-- the server that an entry names
abbrev pub server_named : Option DestId → List Dest → Option Dest
server_named None dests = None
server_named (Some id) dests = dest_at id dests

-- a SYN takes up the place of an old connection: in TIME_WAIT with conn_reuse_mode 1, or at a server without weight with expire_nodest_conn (the Linux ipvs-sysctl document)
abbrev pub is_reused : Settings → Packet → Entry → Option Dest → Bool
is_reused settings p e server =
    is_syn_of p.proto p.head
    && (((settings.reuse_mode == 1) && is_time_wait e.state) || (nat_lt 0 settings.expire_nodest && is_quiescent server))

-- the server of the connection was removed: with expire_nodest_conn the entry ends, else it stays as it is
abbrev pub gone : State → Entry → Reply × State
gone s e = (reply.Drop drops.Gone, if s.settings.expire_nodest == 0 then s else end_entry e s)

-- reuse comes first
abbrev pub standing_of : Settings → Packet → Entry → Option Dest → Standing
standing_of settings p e server = if is_reused settings p e server then Reused else if is_trashed server then ServerGone else InUse

abbrev pub continue : State → Packet → Entry → Standing → Reply × State
continue s p e Reused = connect (end_entry e s) p
continue s p e ServerGone = gone s e
continue s p e InUse = forward_known s p e

abbrev pub continue_at : State → Packet → Entry → Option Dest → Reply × State
continue_at s p e server = continue s p e (standing_of s.settings p e server)

-- a packet whose entry is there, after the entry's binding was tried
abbrev pub continue_bound : Packet → Entry × State → Reply × State
continue_bound p bound = continue_at bound.1 p bound.0 (server_named bound.0.server bound.1.dests)

abbrev pub arrive : State → Packet → Option Entry → Reply × State
arrive s p None = connect s p
arrive s p (Some e) = continue_bound p (try_binding s e e.server)

-- a packet that is too long for its tunnel changes nothing at all
abbrev pub take_back : State → Reply × State → Reply × State
take_back s (reply.Drop drops.TooLong, after) = (reply.Drop drops.TooLong, s)
take_back s (answer, after) = (answer, after)

abbrev pub incoming_packet : State → Packet → Reply × State
incoming_packet s p = take_back s (arrive s p (entry_at (key_of p.proto p.head) s.entries))

abbrev pub incoming_of : State → ℕ → Head → List ℕ → Option Proto → Reply × State
incoming_of s mark head bytes None = (reply.Pass, s)
incoming_of s mark head bytes (Some proto) = incoming_packet s (record { mark = mark; proto = proto; head = head; bytes = take head.total bytes })

abbrev pub incoming_read : State → ℕ → List ℕ → Result Head Malformed → Reply × State
incoming_read s mark bytes (Err why) = (reply.Drop (drops.Malformed why), s)
incoming_read s mark bytes (Ok head) = incoming_of s mark head bytes (transport_of head)

abbrev pub incoming : State → ℕ → List ℕ → Reply × State
incoming s mark bytes = incoming_read s mark bytes (read bytes)
