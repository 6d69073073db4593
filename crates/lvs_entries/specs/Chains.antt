-- The number of a connection's chain, by the client's side (this project's profile).
use Rattle.std.specs.Prelude.{ℕ, ◌/◌, ◌%◌, Bool, ◌==◌}
use Rattle.lvs_types.specs.declared.addr.Addr.{Addr}
use Rattle.lvs_types.specs.declared.service.Proto.{Proto}
use Rattle.lvs_types.specs.declared.entry.Key.{Key}
use Rattle.lvs_types.specs.declared.entry.Entry.{Entry}
use Rattle.lvs_types.specs.Protocols.{proto_code}
use Rattle.lvs_model.specs.Numbers.{mix}

-- which of 256 chains: by the eight bits below those that tell bucket and worker
abbrev pub chain_of : Proto → Addr → ℕ → ℕ
chain_of proto client port = mix (proto_code proto) client port / 256 % 256

-- the chain of a key
abbrev pub key_chain : Key → ℕ
key_chain key = chain_of key.proto key.caddr key.cport

-- it stands in the chain of that number
abbrev pub is_in_chain : ℕ → Entry → Bool
is_in_chain chain e = key_chain e.key == chain
