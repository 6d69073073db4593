-- Before an item and after it.
use Rattle.std.specs.Prelude.{◌≡◌, ◌+◌, ◌<◌, ◌^◌, ◌++◌, [], ◌∷◌}
use Rattle.lvs_types.specs.declared.item.Item.{Item}
use Rattle.lvs_model.specs.State.{State}
use Rattle.lvs_model.specs.Step.{step, IsInRange}
use Rattle.lvs_model.specs.Counted.{IsCounted}
use Rattle.lvs_model.specs.WellFormed.{IsWellFormed}
use Rattle.lvs_board.specs.Seen.{BoardSeen, noted}
use Rattle.lvs_board.specs.Stands.{StandsFor}

-- the board can take the item in this state
pub record CanTake (board : BoardSeen) (s : State) (next : Item) : Type 0 where
  pub stands : StandsFor board s
  pub well_formed : IsWellFormed s
  pub counted : IsCounted board.steps s
  pub young : board.steps < 2 ^ 62
  pub in_range : IsInRange next

-- the board took it, and noted the definition's answer
pub record HasTaken (board later : BoardSeen) (s : State) (next : Item) : Type 0 where
  pub stands : StandsFor later (step s next).1
  pub book : later.book ≡ board.book ++ noted 0 0 next (step s next).0 ∷ []
  pub steps : later.steps ≡ board.steps + 1
