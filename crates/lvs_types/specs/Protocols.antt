-- The numbers of the transport protocols (RFC 791, section 3.1; IANA, Protocol Numbers).
use Rattle.std.specs.Prelude.{ℕ, ◌==◌, Option, Some, None, if◌then◌else◌}
use Rattle.lvs_types.specs.declared.service.Proto.{Proto}
use Rattle.lvs_types.specs.declared.service.Proto.TheVariants.{Tcp, Udp}

-- the number of a protocol: 6 TCP (RFC 9293), 17 UDP (RFC 768)
abbrev pub proto_code : Proto → ℕ
proto_code Tcp = 6
proto_code Udp = 17

-- the protocol of a number
abbrev pub proto_of_code : ℕ → Option Proto
proto_of_code code = if code == 6 then Some Tcp else (if code == 17 then Some Udp else None)
