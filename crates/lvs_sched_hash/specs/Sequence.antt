-- The sequence of sh, in which each server stands as often as its weight.
use Rattle.std.specs.Prelude.{ℕ, ◌≡◌, ◌+◌, ◌<◌, ◌≤◌, List, [], ◌∷◌, ◌++◌, length, take, replicate, sum_by}
use Rattle.lvs_types.specs.declared.dest.Candidate.{Candidate}
use Rattle.lvs_model.specs.AddressHash.{share}

-- element e is one of the server at the place, which has so many elements from there on
pub record IsElement (servers : List Candidate) (e place left : ℕ) : Type 0 where
  pub within : place < length servers
  pub some : 0 < left
  pub begins : sum_by share (take place servers) ≤ e
  pub ends : e + left ≡ sum_by share (take (place + 1) servers)

-- the places of the servers from the given one on, each as often as its share
abbrev pub written_out : ℕ → List Candidate → List ℕ
written_out place [] = []
written_out place (server ∷ servers) = replicate (share server) place ++ written_out (place + 1) servers
