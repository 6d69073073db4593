-- The next item of an actor.
use Rattle.std.specs.Prelude.{◌≡◌, ℕ, ◌+◌, ◌==◌, List, [], ◌∷◌, Option, Some, None, if◌then◌else◌}
use Rattle.lvs_types.specs.declared.item.Item.{Item}
use Rattle.lvs_model.specs.Progress.{Queue}

-- a list of which nothing was taken
abbrev pub whole_queue : List Item → Queue
whole_queue items = record { next = 0; items = items }

abbrev pub next_in : ℕ → ℕ → List Item → Option (Item × Queue)
next_in number next [] = None
next_in number next (first ∷ items) = if number == next then Some (first, record { next = number + 1; items = items }) else None

-- the next item of a list, where it has this number, and what is left behind it
abbrev pub next_of : ℕ → Option Queue → Option (Item × Queue)
next_of number None = None
next_of number (Some q) = next_in number q.next q.items

-- the item and what is left of the list are the next ones
abbrev pub IsNext : ℕ → Option Queue → Option Item → Queue → Type 0
IsNext number q None left = next_of number q ≡ None
IsNext number q (Some first) left = next_of number q ≡ Some (first, left)
