-- What a packet leaves that the director passes on.
use Rattle.std.specs.Prelude.{ℕ, List, Option, Some, None, Result, Ok, Err}
use Rattle.lvs_types.specs.declared.head.Head.{Head}
use Rattle.lvs_types.specs.declared.head.Malformed.{Malformed}
use Rattle.lvs_types.specs.declared.service.Proto.{Proto}
use Rattle.lvs_types.specs.declared.entry.Entry.{Entry}
use Rattle.lvs_types.specs.Transport.{transport_of}
use Rattle.lvs_model.specs.State.{State}
use Rattle.lvs_model.specs.Reading.{read}
use Rattle.lvs_model.specs.Lookups.{entry_at}
use Rattle.lvs_model.specs.Packets.{key_of}
use Rattle.lvs_model.specs.Binding.{try_binding}
use Rattle.lvs_model.specs.Incoming.{end_entry}

abbrev pub entry_of_head : State → Head → Option Proto → Option Entry
entry_of_head s head None = None
entry_of_head s head (Some proto) = entry_at (key_of proto head) s.entries

abbrev pub entry_of_read : State → Result Head Malformed → Option Entry
entry_of_read s (Err why) = None
entry_of_read s (Ok head) = entry_of_head s head (transport_of head)

-- the entry of a packet's key, where the packet is one that the director looks at
abbrev pub entry_of_packet : State → List ℕ → Option Entry
entry_of_packet s bytes = entry_of_read s (read bytes)

-- without an entry nothing changes; an entry is there no more, since only a packet that takes up its place is passed on, and what its binding left stays
abbrev pub passed : State → Option Entry → State
passed s None = s
passed s (Some e) = let bound = try_binding s e e.server in end_entry bound.0 bound.1
