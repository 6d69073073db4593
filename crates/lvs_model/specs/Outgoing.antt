-- An outgoing packet: the answer of a masqueraded connection.
use Rattle.std.specs.Prelude.{ℕ, List, Option, Some, None, Result, Ok, Err, take}
use Rattle.lvs_types.specs.declared.head.Head.{Head}
use Rattle.lvs_types.specs.declared.head.Malformed.{Malformed}
use Rattle.lvs_types.specs.declared.service.Proto.{Proto}
use Rattle.lvs_types.specs.declared.entry.Direction.TheVariants.{Output}
use Rattle.lvs_types.specs.declared.entry.Entry.{Entry}
use Rattle.lvs_types.specs.declared.reply.Reply.{Reply}
use Rattle.lvs_types.specs.declared.reply.Reply.TheVariants as reply
use Rattle.lvs_types.specs.declared.reply.DropCause.TheVariants as drops
use Rattle.lvs_types.specs.Transport.{transport_of}
use Rattle.lvs_model.specs.State.{State}
use Rattle.lvs_model.specs.Reading.{read}
use Rattle.lvs_model.specs.Rewriting.{masq_out_bytes}
use Rattle.lvs_model.specs.Lookups.{reply_entry}
use Rattle.lvs_model.specs.Binding.{put_entry}
use Rattle.lvs_model.specs.Forwarding.{state_after, in_state}

-- the source becomes the virtual side, whether the entry's server is live or not; packets and pending records stay
abbrev pub answer_out : State → Head → List ℕ → Option Entry → Reply × State
answer_out s head bytes None = (reply.Pass, s)
answer_out s head bytes (Some e) = (
  reply.Outward (masq_out_bytes head bytes e.key.vaddr e.key.vport),
  record s { entries = put_entry (in_state s.settings s.now (state_after e.state Output head) e) s.entries },
)

abbrev pub outgoing_of : State → Head → List ℕ → Option Proto → Reply × State
outgoing_of s head bytes None = (reply.Pass, s)
outgoing_of s head bytes (Some proto) =
    answer_out s head (take head.total bytes) (reply_entry proto head.src head.sport head.dst head.dport s.entries)

abbrev pub outgoing_read : State → List ℕ → Result Head Malformed → Reply × State
outgoing_read s bytes (Err why) = (reply.Drop (drops.Malformed why), s)
outgoing_read s bytes (Ok head) = outgoing_of s head bytes (transport_of head)

abbrev pub outgoing : State → List ℕ → Reply × State
outgoing s bytes = outgoing_read s bytes (read bytes)
