-- The picks sh and dh (ipvsadm(8), scheduling methods; the hash and the slots are this project's profile).
use Rattle.std.specs.Prelude.{ℕ, ◌+◌, ◌-◌, ◌*◌, ◌/◌, ◌%◌, ◌^◌, max, nat_lt, if◌then◌else◌, List, [], ◌∷◌, length, sum_by, Option, Some, None, slice_get}
use Rattle.lvs_types.specs.declared.addr.Addr.{Addr}
use Rattle.lvs_types.specs.declared.dest.Candidate.{Candidate}

-- the slot of an address, 0 to 255: the high byte of its product with 2654435761, modulo 2^32 (this project's profile)
abbrev pub slot_of : Addr → ℕ
slot_of addr = addr.number * 2654435761 % 2 ^ 32 / 2 ^ 24

-- how many times a server stands in the sequence of sh: its weight, at least once (this project's profile)
abbrev pub share : Candidate → ℕ
share server = max server.weight 1

-- the place of the server that is element k of the sequence in which each server stands `share` times, in order
abbrev pub owner_of : ℕ → List Candidate → ℕ
owner_of k [] = 0
owner_of k (server ∷ servers) = if nat_lt k (share server) then 0 else 1 + owner_of (k - share server) servers

-- the place of the server that slot k holds with sh: the sequence, over and over (this project's profile)
abbrev pub sh_slot : List Candidate → ℕ → Option ℕ
sh_slot [] k = None
sh_slot (server ∷ servers) k = Some (owner_of (k % sum_by share (server ∷ servers)) (server ∷ servers))

-- the place of the server that slot k holds with dh: the servers in order, over and over (this project's profile)
abbrev pub dh_slot : List Candidate → ℕ → Option ℕ
dh_slot [] k = None
dh_slot (server ∷ servers) k = Some (k % length (server ∷ servers))

-- the place, where an eligible server stands there
abbrev pub if_eligible : ℕ → Option Candidate → Option ℕ
if_eligible place None = None
if_eligible place (Some server) = if server.eligible then Some place else None

-- the server that a slot holds, where it is eligible
abbrev pub eligible_in : List Candidate → Option ℕ → Option ℕ
eligible_in servers None = None
eligible_in servers (Some place) = if_eligible place (slice_get servers place)

-- source hashing: the place of the server of the slot of the packet's source (ipvsadm(8), sh)
abbrev pub pick_sh : List Candidate → Addr → Option ℕ
pick_sh servers source = eligible_in servers (sh_slot servers (slot_of source))

-- destination hashing: the place of the server of the slot of the packet's destination (ipvsadm(8), dh)
abbrev pub pick_dh : List Candidate → Addr → Option ℕ
pick_dh servers destination = eligible_in servers (dh_slot servers (slot_of destination))
