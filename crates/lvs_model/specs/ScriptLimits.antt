-- What the limits of the grammar say of the rounds of a script (this project's profile).
use Rattle.std.specs.Prelude.{ℕ, ◌+◌, ◌≤◌, List, [], ◌∷◌, length}
use Rattle.lvs_types.specs.Limits.{max_items, max_moment, max_rounds}
use Rattle.lvs_types.specs.declared.script.Round.{Round}
use Rattle.lvs_model.specs.Plans.{items_of_lines}

-- no moment is past the greatest one
abbrev pub AreMoments : List Round → Type 0
AreMoments [] = Unit {0}
AreMoments (round ∷ rounds) = (round.moment ≤ max_moment) × AreMoments rounds

-- how many items the lines have
abbrev pub items_in : List Round → ℕ
items_in [] = 0
items_in (round ∷ rounds) = length (items_of_lines round) + items_in rounds

pub record IsWithinLimits (rounds : List Round) : Type 0 where
  pub moments : AreMoments rounds
  pub items : items_in rounds ≤ max_items
  pub few : length rounds ≤ max_rounds
