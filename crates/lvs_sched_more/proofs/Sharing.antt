-- The slots of mh are shared out evenly.
use Rattle.std.proofs.Common.{◌≡◌, ◌≢◌, ℕ, zero, suc, ◌+◌, ◌<◌, ◌≤◌, true, cond, ◌==◌, List, [], ◌∷◌, length, replicate, fold, count_by, Option, Some, None, is_none, is_some, slice_get, refl, sym, ◌∙◌, ⊎_elim, arith, length-append, length-set}
use Rattle.std.proofs.lemmas.Bool.{cases_lt}
use Rattle.std.specs.List.{list_all}
use Rattle.std.proofs.lemmas.Bool.Decides.{nat_tests}
use Rattle.std.proofs.lemmas.List.{length-replicate}
use Rattle.std.proofs.lemmas.List.Folds.{sum_by-replicate}
use Rattle.std.proofs.lemmas.List.Sums.{sum_by-cons, count_by-le-length}
use Rattle.lvs_types.specs.declared.addr.Addr.{Addr}
use Rattle.lvs_types.specs.declared.dest.Candidate.{Candidate}
use Rattle.lvs_model.specs.MorePicks.{is_of, take_slot, takers, slots_a_round, total_weight, round_from, mh_table}
use Rattle.lvs_sched_more.specs.Evenness.{slots_of, IsEven}
use Rattle.lvs_sched_more.proofs.Rounds.{turns_some}
use Rattle.lvs_sched_more.proofs.Counts.{IsFilledBy, filled_by, all_taken}
use Rattle.lvs_sched_more.proofs.Orders.{times, times_block, InTurn, in_turn_now, in_turn_without, in_turn_block, takers_even, length-takers}

apart : (m n : ℕ) → m ≢ n → cond {A = ℕ} (m == n) 1 0 ≡ 0
apart m n other = grind (arith, nat_tests)

same : (m n : ℕ) → m ≡ n → cond {A = ℕ} (m == n) 1 0 ≡ 1
same m n is = grind (arith, nat_tests)

-- a place before the round's first has no turn in it
pub times_early : (total k q : ℕ) (servers : List Candidate) → q < k → times q (round_from total k servers) ≡ 0
times_early total k q [] early = refl
times_early total k q (server ∷ servers) early =
    let block = times_block q (slots_a_round total server) k (round_from total (k + 1) servers) in
    let other = apart k q (omega arith) in
    let here = rw other at block in
    let later = times_early total (k + 1) q servers (omega arith) in
    omega arith

-- in a round a server's place stands as often as it has turns
pub times_in_round : (total k m q : ℕ) (servers : List Candidate) (server : Candidate) → slice_get servers m ≡ Some server → q ≡ k + m → times q (round_from total k servers) ≡ slots_a_round total server
times_in_round total k m q [] server there is = cc
times_in_round total k zero q (first ∷ servers) server there is =
    let block = times_block q (slots_a_round total first) k (round_from total (k + 1) servers) in
    let own = same k q (omega arith) in
    let here = rw own at block in
    let later = times_early total (k + 1) q servers (omega arith) in
    let both : first ≡ server = cc in
    rw (← both) (omega arith)
times_in_round total k (suc m) q (first ∷ servers) server there is =
    let block = times_block q (slots_a_round total first) k (round_from total (k + 1) servers) in
    let other = apart k q (omega arith) in
    let here = rw other at block in
    let later = times_in_round total (k + 1) m q servers server there (omega arith) in
    omega arith

-- two servers with equal turns come in order in a round
pub round_in_turn : (total k m n i j : ℕ) (servers : List Candidate) (first second : Candidate) → slice_get servers m ≡ Some first → slice_get servers n ≡ Some second → m < n → i ≡ k + m → j ≡ k + n → slots_a_round total first ≡ slots_a_round total second → InTurn i j (round_from total k servers)
round_in_turn total k m n i j [] first second there then order is_i is_j equal = tt
round_in_turn total k m zero i j (server ∷ servers) first second there then order is_i is_j equal = absurd (omega arith)
round_in_turn total k zero (suc n) i j (server ∷ servers) first second there then order is_i is_j equal =
    let rest = round_from total (k + 1) servers in
    let none = times_early total (k + 1) i servers (omega arith) in
    let all = times_in_round total (k + 1) n j servers second then (omega arith) in
    let own = same k i (omega arith) in
    let both : server ≡ first = cc in
    let as_many : slots_a_round total server ≡ slots_a_round total second = rw both equal in
    in_turn_block i j (slots_a_round total server) k rest (in_turn_without i j rest none) (rw own (omega arith))
round_in_turn total k (suc m) (suc n) i j (server ∷ servers) first second there then order is_i is_j equal =
    let rest = round_from total (k + 1) servers in
    let later = round_in_turn total (k + 1) m n i j servers first second there then (omega arith) (omega arith) (omega arith) equal in
    let other = apart k i (omega arith) in
    let now = in_turn_now i j rest later in
    in_turn_block i j (slots_a_round total server) k rest later (rw other (omega arith))

pub number_at_first : (n : ℕ) → length {A = Option ℕ} (replicate n None) ≡ n
number_at_first n = length-replicate {A = Option ℕ} n None

-- all slots are free at first
pub free_at_first : (n : ℕ) → count_by (λ (slot : Option ℕ). is_none slot) (replicate n None) ≡ n
free_at_first n = let whole = sum_by-replicate (λ (slot : Option ℕ). cond (is_none slot) 1 0) n None in omega arith

pub nobody_at_first : (n place : ℕ) → count_by (is_of place) (replicate n None) ≡ 0
nobody_at_first n place = let whole = sum_by-replicate (λ (slot : Option ℕ). cond (is_of place slot) 1 0) n None in omega arith

full_at : (addrs : List Addr) (slots : List (Option ℕ)) (n : ℕ) (round : List ℕ) → length slots ≡ 256 → count_by (λ slot. is_none slot) slots ≡ n → 0 < length round → IsFilledBy slots (takers n [] round) (fold (take_slot addrs) slots (takers n [] round))
full_at addrs slots n round number free some =
    let size = length-takers n [] round some in
    filled_by addrs slots (takers n [] round) number (omega arith)

-- a round is not empty where a server has a weight
pub round_some : (total : ℕ) (servers : List Candidate) (place : ℕ) (server : Candidate) → slice_get servers place ≡ Some server → 0 < server.weight → 0 < length (round_from total 0 servers)
round_some total servers place server there some =
    let turn = turns_some total server some in
    let stands = times_in_round total 0 place place servers server there (omega arith) in
    let most = count_by-le-length (λ p. p == place) (round_from total 0 servers) in
    omega arith

-- all that is said of the slots of a round that is not empty
pub even_at : (addrs : List Addr) (slots : List (Option ℕ)) (n t i j : ℕ) (round : List ℕ) → length slots ≡ 256 → count_by (λ slot. is_none slot) slots ≡ n → ((place : ℕ) → count_by (is_of place) slots ≡ 0) → 0 < length round → InTurn i j round → times i round ≡ t → times j round ≡ t → (slots_of j (fold (take_slot addrs) slots (takers n [] round)) ≤ slots_of i (fold (take_slot addrs) slots (takers n [] round))) × (slots_of i (fold (take_slot addrs) slots (takers n [] round)) ≤ slots_of j (fold (take_slot addrs) slots (takers n [] round)) + t)
even_at addrs slots n t i j round number free nobody some turn first second =
    let filled = full_at addrs slots n round number free some in
    let even = takers_even i j t n [] round tt turn (omega arith) first second in
    let of_i = filled.taken i in
    let of_j = filled.taken j in
    let none_i = nobody i in
    let none_j = nobody j in
    (omega arith, omega arith)

-- the slots of servers with equal turns
pub table_even : (servers : List Candidate) (addrs : List Addr) → IsEven servers (mh_table servers addrs)
unfolding mh_table
table_even servers addrs i j first second order there then some some_too equal =
    let total = total_weight servers in
    even_at addrs (replicate 256 None) 256 (slots_a_round total first) i j (round_from total 0 servers) (number_at_first 256) (free_at_first 256) (nobody_at_first 256) (round_some total servers i first there some) (round_in_turn total 0 i j i j servers first second there then order (omega arith) (omega arith) equal) (times_in_round total 0 i i servers first there (omega arith)) (times_in_round total 0 j j servers second then (omega arith) ∙ sym equal)

-- with a weight somebody takes a turn
pub round_of_weight : (total k : ℕ) (servers : List Candidate) → 0 < total_weight servers → 0 < length (round_from total k servers)
round_of_weight total k [] some = absurd (omega arith)
round_of_weight total k (server ∷ servers) some =
    let whole = sum_by-cons (λ (server : Candidate). server.weight) server servers in
    let joined = length-append (replicate (slots_a_round total server) k) (round_from total (k + 1) servers) in
    let block = length-replicate (slots_a_round total server) k in
    ⊎_elim
    (λ here. let turn = turns_some total server here in omega arith)
    (λ none. let later = round_of_weight total (k + 1) servers (omega arith) in omega arith)
    (cases_lt 0 server.weight)

pub number_kept : (addrs : List Addr) (slots : List (Option ℕ)) (places : List ℕ) → length (fold (take_slot addrs) slots places) ≡ length slots
number_kept addrs slots [] = refl
number_kept addrs slots (place ∷ places) = number_kept addrs (take_slot addrs slots place) places ∙ length-set slots _ _

pub table_number : (servers : List Candidate) (addrs : List Addr) → length (mh_table servers addrs) ≡ 256
unfolding mh_table
table_number servers addrs = number_kept addrs (replicate 256 None) (takers 256 [] (round_from (total_weight servers) 0 servers)) ∙ number_at_first 256

-- with a weight every slot is taken
pub table_full : (servers : List Candidate) (addrs : List Addr) → 0 < total_weight servers → list_all (λ slot. is_some slot) (mh_table servers addrs) ≡ true
unfolding mh_table
table_full servers addrs some =
    let total = total_weight servers in
    let round = round_from total 0 servers in
    let ready = round_of_weight total 0 servers some in
    let size = length-takers 256 [] round ready in
    let filled = full_at addrs (replicate 256 None) 256 round (number_at_first 256) (free_at_first 256) ready in
    all_taken (fold (take_slot addrs) (replicate 256 None) (takers 256 [] round)) (omega (arith, filled.free, size, free_at_first 256))
