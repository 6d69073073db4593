-- What is left to look at where the IP header of a packet is right.
use Rattle.std.specs.Prelude.{List, ℕ, ◌&&◌, ◌||◌, if◌then◌else◌, Result, Ok, Err}
use Rattle.lvs_types.specs.declared.head.Head.{Head}
use Rattle.lvs_types.specs.declared.head.Malformed.{Malformed}
use Rattle.lvs_types.specs.declared.head.Malformed.TheVariants.{L4Short}
use Rattle.lvs_model.specs.Reading.{is_tcp, is_udp, is_tcp_short, is_udp_short, head_of}

-- the last cause, or the head (RFC 768; RFC 9293, section 3.1)
abbrev pub read_rest : List ℕ → Result Head Malformed
read_rest bytes = if (is_tcp bytes && is_tcp_short bytes) || (is_udp bytes && is_udp_short bytes) then Err L4Short else Ok (head_of bytes)
