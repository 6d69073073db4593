-- What a contract sees of a packet.
use Rattle.std.specs.Prelude.{ℕ, List}
use Rattle.lvs_types.specs.declared.head.Head.{Head}

-- what its headers say, its bytes up to the total length, and those of them after the IP header
pub record PacketSeen : Type 0 where
  pub head : Head
  pub whole : List ℕ
  pub payload : List ℕ
