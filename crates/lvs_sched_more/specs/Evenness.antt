-- How evenly the slots of mh are shared out.
use Rattle.std.specs.Prelude.{ℕ, ◌≡◌, ◌+◌, ◌<◌, ◌≤◌, List, Option, Some, slice_get, count_by}
use Rattle.lvs_types.specs.declared.dest.Candidate.{Candidate}
use Rattle.lvs_model.specs.MorePicks.{is_of, slots_a_round, total_weight}

-- how many slots the server at the place has
abbrev pub slots_of : ℕ → List (Option ℕ) → ℕ
slots_of place slots = count_by (is_of place) slots

-- of two servers that have a weight and equally many slots a round the earlier has at least as many slots, and at most those of a round more
abbrev pub IsEven : List Candidate → List (Option ℕ) → Type 0
IsEven servers slots = (i j : ℕ) (first second : Candidate) → i < j → slice_get servers i ≡ Some first → slice_get servers j ≡ Some second → 0 < first.weight → 0 < second.weight → slots_a_round (total_weight servers) first ≡ slots_a_round (total_weight servers) second → (slots_of j slots ≤ slots_of i slots) × (slots_of i slots ≤ slots_of j slots + slots_a_round (total_weight servers) first)
