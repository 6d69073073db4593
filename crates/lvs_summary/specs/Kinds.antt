-- The kinds of acts that a summary counts.
use Rattle.std.specs.Prelude.{Bool}
use Rattle.lvs_types.specs.declared.book.Noted.{Noted}
use Rattle.lvs_model.specs.Summaries.{is_incoming, is_forward}

-- the act is of an incoming packet
abbrev pub takes_packet : Noted → Bool
takes_packet act = is_incoming act.item

-- the act sent a packet on to a server
abbrev pub sends_on : Noted → Bool
sends_on act = is_forward act.reply
