-- The picks fo, ovf and mh (fo and ovf after ipvsadm(8), mh after Maglev hashing; the details are this project's profile).
use Rattle.std.specs.Prelude.{ℕ, zero, suc, ◌+◌, ◌*◌, ◌/◌, ◌%◌, max, Bool, false, ◌&&◌, ◌==◌, nat_le, is_none, if◌then◌else◌, List, [], ◌∷◌, ◌++◌, take, drop, replicate, filter, fold, position, sum_by, count_by, slice_set, slice_index_or, Option, Some, None}
use Rattle.std.specs.List.{position_or_len}
use Rattle.lvs_types.specs.declared.addr.Addr.{Addr}
use Rattle.lvs_types.specs.declared.dest.Candidate.{Candidate}
use Rattle.lvs_model.specs.AddressHash.{slot_of, eligible_in}

-- the greatest weight of the servers
abbrev pub greatest_weight : List Candidate → ℕ
greatest_weight [] = 0
greatest_weight (server ∷ servers) = max server.weight (greatest_weight servers)

-- the place of the first server of greatest weight among those that pass the test
abbrev pub heaviest : (Candidate → Bool) → List Candidate → Option ℕ
heaviest passes servers = position (λ server. passes server && (server.weight == greatest_weight (filter passes servers))) servers

abbrev pub is_eligible_candidate : Candidate → Bool
is_eligible_candidate server = server.eligible

-- the server has at most as many active connections as its weight
abbrev pub has_room : Candidate → Bool
has_room server = server.eligible && nat_le server.active server.weight

-- weighted failover: the eligible server of greatest weight (ipvsadm(8), fo)
abbrev pub pick_fo : List Candidate → Option ℕ
pick_fo servers = heaviest is_eligible_candidate servers

-- weighted overflow: the same among the servers with room (ipvsadm(8), ovf)
abbrev pub pick_ovf : List Candidate → Option ℕ
pick_ovf servers = heaviest has_room servers

-- the sum of the weights
abbrev pub total_weight : List Candidate → ℕ
total_weight servers = sum_by (λ (server : Candidate). server.weight) servers

-- how many slots a server takes in a round of mh, where the weights add up to total: none without a weight (this project's profile)
abbrev pub slots_a_round : ℕ → Candidate → ℕ
slots_a_round total server = if server.weight == 0 then 0 else max 1 (64 * server.weight / total)

-- a round of mh: the places of the servers in order, from the given one on, each as many times as its turns
abbrev pub round_from : ℕ → ℕ → List Candidate → List ℕ
round_from total place [] = []
round_from total place (server ∷ servers) = replicate (slots_a_round total server) place ++ round_from total (place + 1) servers

-- who takes the next so many slots: the rest of a round, and then rounds over and over
abbrev pub takers : ℕ → List ℕ → List ℕ → List ℕ
takers zero rest round = []
takers (suc n) [] [] = []
takers (suc n) [] (place ∷ places) = place ∷ takers n places (place ∷ places)
takers (suc n) (place ∷ rest) round = place ∷ takers n rest round

-- the slot is the server's at the place
abbrev pub is_of : ℕ → Option ℕ → Bool
is_of place None = false
is_of place (Some taken) = taken == place

-- the slot that a server prefers when it has taken so many (this project's profile)
abbrev pub preferred : Addr → ℕ → ℕ
preferred addr taken = (slot_of addr + taken * (2 * (addr.number % 128) + 1)) % 256

-- the first free slot from the given one on, going round
abbrev pub first_free : ℕ → List (Option ℕ) → ℕ
first_free start slots = (start + position_or_len (λ slot. is_none slot) (drop start slots ++ take start slots)) % 256

-- the slots after the server at the place has taken one more, which is the first free one from the one that it prefers
abbrev pub take_slot : List Addr → List (Option ℕ) → ℕ → List (Option ℕ)
take_slot addrs slots place =
    slice_set slots (first_free (preferred (slice_index_or addrs place (record { number = 0 })) (count_by (is_of place) slots)) slots) (Some place)

-- the 256 slots of mh, each with the place of its server: filled in rounds from the servers with a weight, eligible or not (this project's profile)
unfoldable pub mh_table : List Candidate → List Addr → List (Option ℕ)
mh_table servers addrs =
    let round = round_from (total_weight servers) 0 servers in
    fold (take_slot addrs) (replicate 256 None) (takers 256 [] round)

-- Maglev hashing: the place of the server of the client's slot, where it is eligible
abbrev pub pick_mh : List Candidate → List Addr → Addr → Option ℕ
pick_mh servers addrs client = eligible_in servers (slice_index_or (mh_table servers addrs) (slot_of client) None)
