-- A packet on its way through the director, and the memory that was taken for it.
use Rattle.std.specs.Prelude.{◌≡◌, ◌+◌, ◌≤◌, ℕ, [], Ok, Some, length, vec_capacity}
use Rattle.lvs_types.specs.Transport.{transport_of}
use Rattle.lvs_model.specs.Packets.{Packet}
use Rattle.lvs_model.specs.Reading.{read}
use Rattle.lvs_rules.specs.declared.packet.Packet.{Packet as Held}
use Rattle.lvs_rules.specs.declared.packet.ServerLists.{ServerLists}
use Rattle.lvs_rules.specs.declared.packet.Rooms.{Rooms}

abbrev pub packet_of : Held → Packet
packet_of p = record { mark = p.mark; proto = p.proto; head = p.head; bytes = p.bytes.now }

-- its head is the reading of its bytes, which are the packet and no more
pub record IsReadPacket (p : Held) : Type 0 where
  pub reading : read p.bytes.now ≡ Ok p.head
  pub whole : p.head.total ≡ length p.bytes.now
  pub transport : transport_of p.head ≡ Some p.proto

-- the lists serve for all servers
pub record ServesAll (l : ServerLists) (servers : ℕ) : Type 0 where
  pub no_candidates : l.candidates.items ≡ []
  pub candidates : servers ≤ vec_capacity l.candidates
  pub no_addrs : l.addrs.items ≡ []
  pub addrs : servers ≤ vec_capacity l.addrs

-- the memory serves for the packet and for all servers
pub record ServesFor (r : Rooms) (servers : ℕ) (p : Held) : Type 0 where
  pub no_bytes : r.bytes.items ≡ []
  pub bytes : length p.bytes.now + 20 ≤ vec_capacity r.bytes
  pub lists : ServesAll r.lists servers
