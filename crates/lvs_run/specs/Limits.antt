-- How many steps the rounds of a script take at most.
use Rattle.std.specs.Prelude.{ℕ, ◌+◌, ◌*◌, List, [], ◌∷◌, length}
use Rattle.lvs_types.specs.declared.script.Round.{Round}
use Rattle.lvs_model.specs.Plans.{items_of_lines}

-- the steps of a round, at most: its tick, the clock's items for 256 buckets, and control's, sync's and 16 workers' lists, each no longer than the items of the lines
abbrev pub most_steps : Round → ℕ
most_steps round = 18 * length (items_of_lines round) + 300

abbrev pub steps_in : List Round → ℕ
steps_in [] = 0
steps_in (round ∷ rounds) = most_steps round + steps_in rounds
