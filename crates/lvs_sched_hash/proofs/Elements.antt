-- The element behind an element, and whose an element is.
use Rattle.std.proofs.Common.{◌≡◌, ◌≢◌, ℕ, zero, suc, ◌+◌, ◌-◌, ◌%◌, ◌<◌, ◌≤◌, List, [], ◌∷◌, length, take, sum_by, arith, rules, slice_index_or, add-one}
use Rattle.std.proofs.Math.Nat.{mod-eq_of_lt}
use Rattle.std.proofs.lemmas.Bool.Decides.{nat_tests}
use Rattle.std.proofs.lemmas.List.Sums.{sum_by-cons, sum_by_more, sum_by-take-le}
use Rattle.lvs_types.specs.declared.dest.Candidate.{Candidate}
use Rattle.lvs_model.specs.AddressHash.{share, owner_of}
use Rattle.lvs_sched_hash.specs.Sequence.{IsElement}

pub owner_within : (servers : List Candidate) (e place : ℕ) → place < length servers → sum_by share (take place servers) ≤ e → e < sum_by share (take (suc place) servers) → owner_of e servers ≡ place
owner_within [] e place within begins ends = absurd (omega arith)
owner_within (server ∷ servers) e zero within begins ends =
    let here : e < share server = omega arith in
    search (rules, nat_tests)
owner_within (server ∷ servers) e (suc place) within begins ends =
    let first = sum_by-cons share server (take place servers) in
    let second = sum_by-cons share server (take (suc place) servers) in
    let past : share server ≤ e = omega arith in
    let later : owner_of (e - share server) servers ≡ place = owner_within servers (e - share server) place (omega arith) (omega arith) (omega arith) in
    search (rules, nat_tests)

pub owner_is : (servers : List Candidate) (e place left : ℕ) → IsElement servers e place left → owner_of e servers ≡ place
owner_is servers e place left is = let ends = rw add-one at is.ends in owner_within servers e place is.within is.begins (omega arith)

pub next_server : (servers : List Candidate) (e place left next : ℕ) (d : Candidate) → IsElement servers e place left → left ≤ 1 → place + 1 ≢ length servers → next ≡ share (slice_index_or servers (place + 1) d) → IsElement servers ((e + 1) % sum_by share servers) (place + 1) next
next_server servers e place left next d is last more shares =
    let further : place + 1 < length servers = omega (arith, is.within) in
    let ends = sum_by_more share servers (place + 1) d further in
    let whole = sum_by-take-le share servers (place + 1 + 1) in
    let same : (e + 1) % sum_by share servers ≡ e + 1 = mod-eq_of_lt (omega arith) in
    rw same (record { within = further; some = omega arith; begins = omega arith; ends = omega arith })
