-- Items that were placed one after the other, with how many each actor has.
use Rattle.std.specs.Prelude.{◌≡◌, ℕ, ◌+◌, List, [], map, length}
use Rattle.lvs_types.specs.declared.item.Item.{Item}
use Rattle.lvs_types.specs.declared.book.Placed.{Placed}
use Rattle.lvs_model.specs.Plans.{items_of_actor, placed_after}

abbrev pub items_placed : List Placed → List Item
items_placed placed = map (λ (p : Placed). p.item) placed

-- each has the number that it has among the items of its actor
pub record IsPlaced (placed : List Placed) (clock control sync worker : ℕ) : Type 0 where
  pub few : clock + control + sync + worker ≡ length placed
  pub all : placed ≡ placed_after [] (items_placed placed)
  pub clock_items : clock ≡ length (items_of_actor 0 (items_placed placed))
  pub control_items : control ≡ length (items_of_actor 1 (items_placed placed))
  pub sync_items : sync ≡ length (items_of_actor 2 (items_placed placed))
  pub worker_items : worker ≡ length (items_of_actor 3 (items_placed placed))
