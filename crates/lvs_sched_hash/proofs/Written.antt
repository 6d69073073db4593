-- The sequence of sh, written out.
use Rattle.std.proofs.Common.{◌≡◌, ℕ, ◌+◌, ◌-◌, ◌<◌, ◌≤◌, List, [], ◌∷◌, ◌++◌, length, sum_by, replicate, get_or, slice_get, Some, ⊎_elim, refl, ap, ◌∙◌, arith, rules, length-append}
use Rattle.std.proofs.lemmas.Bool.{cases_lt}
use Rattle.std.proofs.lemmas.Bool.Decides.{nat_tests}
use Rattle.std.proofs.lemmas.Option.{slice_get-get_or}
use Rattle.std.proofs.lemmas.List.{get_or_append_left, length-replicate, get_or-replicate, get_or-append_right}
use Rattle.std.proofs.lemmas.List.Sums.{sum_by-cons}
use Rattle.lvs_types.specs.declared.dest.Candidate.{Candidate}
use Rattle.lvs_model.specs.AddressHash.{share, owner_of}
use Rattle.lvs_sched_hash.specs.Sequence.{written_out}

pub length-written_out : (place : ℕ) (servers : List Candidate) → length (written_out place servers) ≡ sum_by share servers
length-written_out place [] = refl
length-written_out place (server ∷ servers) =
    let whole = sum_by-cons share server servers in
    let joined = length-append (replicate (share server) place) (written_out (place + 1) servers) in
    let block = length-replicate (share server) place in
    let rest = length-written_out (place + 1) servers in
    omega arith

owner_here : (k : ℕ) (server : Candidate) (servers : List Candidate) → k < share server → owner_of k (server ∷ servers) ≡ 0
owner_here k server servers here = search (rules, nat_tests)

owner_past : (k : ℕ) (server : Candidate) (servers : List Candidate) → share server ≤ k → owner_of k (server ∷ servers) ≡ 1 + owner_of (k - share server) servers
owner_past k server servers past = search (rules, nat_tests)

in_block : (n place k : ℕ) (rest : List ℕ) → k < n → get_or (replicate n place ++ rest) k 0 ≡ place
in_block n place k rest here = let block = length-replicate n place in get_or_append_left (replicate n place) rest 0 k (omega arith) ∙ get_or-replicate n k place 0 here

pub written_at : (place k : ℕ) (servers : List Candidate) → k < sum_by share servers → get_or (written_out place servers) k 0 ≡ place + owner_of k servers
written_at place k [] within = absurd (omega arith)
written_at place k (server ∷ servers) within =
    let whole = sum_by-cons share server servers in
    ⊎_elim
    (λ here. let owner = owner_here k server servers here in in_block (share server) place k (written_out (place + 1) servers) here ∙ omega arith)
    (λ past.
    let owner = owner_past k server servers past in
    let rest = written_at (place + 1) (k - share server) servers (omega arith) in
    get_or-append_right (replicate (share server) place) (written_out (place + 1) servers) (share server) k 0 (length-replicate (share server) place) past ∙ omega arith)
    (cases_lt k (share server))

pub written_owner : (servers : List Candidate) (k : ℕ) → k < sum_by share servers → slice_get (written_out 0 servers) k ≡ Some (owner_of k servers)
written_owner servers k within =
    let size = length-written_out 0 servers in
    let at = written_at 0 k servers within in
    slice_get-get_or (written_out 0 servers) k 0 (omega arith) ∙ ap Some (omega arith)
