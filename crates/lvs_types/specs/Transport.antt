-- The transport protocol of a packet (RFC 791, sections 3.1 and 3.2).
use Rattle.std.specs.Prelude.{Option, None, if◌then◌else◌}
use Rattle.lvs_types.specs.declared.head.Head.{Head}
use Rattle.lvs_types.specs.declared.service.Proto.{Proto}
use Rattle.lvs_types.specs.Protocols.{proto_of_code}

-- the protocol of a packet, none for a fragment and for others than TCP and UDP
abbrev pub transport_of : Head → Option Proto
transport_of head = if head.fragment then None else proto_of_code head.code
