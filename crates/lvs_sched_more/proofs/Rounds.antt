-- Rounds of turns, step by step.
use Rattle.std.proofs.Common.{◌≡◌, ℕ, zero, suc, ◌+◌, ◌<◌, List, [], ◌∷◌, ◌++◌, length, drop, get_or, replicate, fold, sum_by, Option, None, ⊎_elim, refl, ◌∙◌, arith, rules, add-one, drop-cons}
use Rattle.std.proofs.lemmas.Bool.{cases_lt}
use Rattle.std.proofs.lemmas.Bool.Decides.{nat_tests}
use Rattle.std.proofs.lemmas.List.Sums.{sum_by-cons}
use Rattle.lvs_types.specs.declared.dest.Candidate.{Candidate}
use Rattle.lvs_types.specs.declared.addr.Addr.{Addr}
use Rattle.lvs_model.specs.MorePicks.{take_slot, takers, slots_a_round, round_from, mh_table}

-- one server takes one slot
pub take_step : {A : Type 0} (step : A → ℕ → A) (a : A) (place left less free fewer : ℕ) (rest round : List ℕ) → left ≡ less + 1 → free ≡ fewer + 1 → fold step a (takers free (replicate left place ++ rest) round) ≡ fold step (step a place) (takers fewer (replicate less place ++ rest) round)
take_step step a place left less free fewer rest round taken used = rw (taken, used, add-one, add-one) refl

-- where a round has ended, the next begins
pub next_round : (n : ℕ) (round : List ℕ) → takers n [] round ≡ takers n round round
next_round zero round = refl
next_round (suc n) [] = refl
next_round (suc n) (place ∷ places) = refl

-- without a weight nobody takes a turn, and with one somebody does
pub turns_none : (total : ℕ) (server : Candidate) → server.weight ≡ 0 → slots_a_round total server ≡ 0
turns_none total server none = search (rules, nat_tests)

pub turns_some : (total : ℕ) (server : Candidate) → 0 < server.weight → 0 < slots_a_round total server
turns_some total server some = grind (arith, nat_tests)

pub round_none : (total place : ℕ) (servers : List Candidate) → sum_by (λ (server : Candidate). server.weight) servers ≡ 0 → round_from total place servers ≡ []
round_none total place [] none = refl
round_none total place (server ∷ servers) none =
    let whole = sum_by-cons (λ (server : Candidate). server.weight) server servers in
    let here = turns_none total server (omega arith) in
    rw here (round_none total (place + 1) servers (omega arith))

pub some_turns : (total : ℕ) (servers : List Candidate) → 0 < sum_by (λ (server : Candidate). server.weight) servers → 0 < sum_by (slots_a_round total) servers
some_turns total [] some = absurd (omega arith)
some_turns total (server ∷ servers) some =
    let whole = sum_by-cons (λ (server : Candidate). server.weight) server servers in
    let all = sum_by-cons (slots_a_round total) server servers in
    ⊎_elim
    (λ here. let turn = turns_some total server here in omega arith)
    (λ none. let later = some_turns total servers (omega arith) in omega arith)
    (cases_lt 0 server.weight)

-- the server at the place, and then those behind it
pub round_step : (total place : ℕ) (servers : List Candidate) (d : Candidate) → place < length servers → round_from total place (drop place servers) ≡ replicate (slots_a_round total (get_or servers place d)) place ++ round_from total (place + 1) (drop (place + 1) servers)
round_step total place servers d within = rw (drop-cons servers place d) (rw add-one refl)

-- the table, with the sum of the weights as a number of its own
pub table_filled : (servers : List Candidate) (addrs : List Addr) (total : ℕ) (slots : List (Option ℕ)) → total ≡ sum_by (λ (server : Candidate). server.weight) servers → slots ≡ fold (take_slot addrs) (replicate 256 None) (takers 256 [] (round_from total 0 servers)) → slots ≡ mh_table servers addrs
unfolding mh_table
table_filled servers addrs total slots sum is = is ∙ rw sum refl

-- without a weight every slot stays free
pub table_empty : (servers : List Candidate) (addrs : List Addr) → sum_by (λ (server : Candidate). server.weight) servers ≡ 0 → replicate 256 None ≡ mh_table servers addrs
unfolding mh_table
table_empty servers addrs none = rw (round_none (sum_by (λ (server : Candidate). server.weight) servers) 0 servers none) refl
