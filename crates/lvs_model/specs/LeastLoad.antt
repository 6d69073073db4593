-- Which server has the least load (lc, wlc, sed and nq of ipvsadm(8); the loads and the ties are this project's profile).
use Rattle.std.specs.Prelude.{◌≡◌, ℕ, zero, suc, ◌+◌, ◌*◌, Bool, false, not, ◌&&◌, ◌==◌, nat_lt, List, [], ◌∷◌, Option, Some, None}
use Rattle.std.specs.Option.{option_or}
use Rattle.std.specs.List.{list_any, position}
use Rattle.lvs_types.specs.declared.dest.Candidate.{Candidate}

-- an eligible candidate of weight 0
abbrev pub is_weightless : Candidate → Bool
is_weightless c = c.eligible && (c.weight == 0)

-- no eligible candidate has weight 0
abbrev pub AreWeighed : List Candidate → Type 0
AreWeighed cs = list_any is_weightless cs ≡ false

-- the load of a server: an active connection weighs as much as 256 inactive ones
abbrev pub load : Candidate → ℕ
load c = 256 * c.active + c.inactive

-- lc: the one with the lower load is better
abbrev pub is_better_lc : Candidate → Candidate → Bool
is_better_lc a b = nat_lt (load a) (load b)

-- wlc: the one with the lower load over weight is better, over whole numbers
abbrev pub is_better_wlc : Candidate → Candidate → Bool
is_better_wlc a b = nat_lt (load a * b.weight) (load b * a.weight)

-- sed: the one with the lower expected delay is better, which is the number of active connections with the new one, over weight
abbrev pub is_better_sed : Candidate → Candidate → Bool
is_better_sed a b = nat_lt ((a.active + 1) * b.weight) ((b.active + 1) * a.weight)

-- an eligible candidate such that no eligible one is better
abbrev pub is_best : (Candidate → Candidate → Bool) → List Candidate → Candidate → Bool
is_best better cs c = c.eligible && not (list_any (λ other. other.eligible && better other c) cs)

-- the place of the first such candidate, from 0
abbrev pub first_best : (Candidate → Candidate → Bool) → List Candidate → Option ℕ
first_best better cs = position (is_best better cs) cs

-- lc: the least load (ipvsadm(8), lc)
abbrev pub pick_lc : List Candidate → Option ℕ
pick_lc cs = first_best is_better_lc cs

-- wlc: the least load over weight (ipvsadm(8), wlc)
abbrev pub pick_wlc : List Candidate → Option ℕ
pick_wlc cs = first_best is_better_wlc cs

-- sed: the shortest expected delay (ipvsadm(8), sed)
abbrev pub pick_sed : List Candidate → Option ℕ
pick_sed cs = first_best is_better_sed cs

-- an eligible candidate without active connections
abbrev pub is_idle : Candidate → Bool
is_idle c = c.eligible && (c.active == 0)

-- nq: the first idle one, and else the shortest expected delay (ipvsadm(8), nq)
abbrev pub pick_nq : List Candidate → Option ℕ
pick_nq cs = option_or (position is_idle cs) (pick_sed cs)

-- the candidates once the one at that place has one more inactive connection
abbrev pub with_connection : ℕ → List Candidate → List Candidate
with_connection place [] = []
with_connection zero (c ∷ cs) = record c { inactive = c.inactive + 1 } ∷ cs
with_connection (suc place) (c ∷ cs) = c ∷ with_connection place cs

-- a place, and those that follow once it has one more connection
abbrev pub loads_from : Option ℕ → (ℕ → List ℕ) → List ℕ
loads_from None later = []
loads_from (Some place) later = place ∷ later place

-- the places of so many picks in a row, each of which makes one more inactive connection
abbrev pub picks_in_row : (List Candidate → Option ℕ) → List Candidate → ℕ → List ℕ
picks_in_row pick cs zero = []
picks_in_row pick cs (suc n) = loads_from (pick cs) (λ place. picks_in_row pick (with_connection place cs) n)
