-- A chain as a map by id, and what a removal leaves of it.
use Rattle.std.specs.Prelude.{◌≡◌, ℕ, List, ◌∷◌, Option, Some, None}
use Rattle.std.specs.List.{AllByRecursion}
use Rattle.std.specs.List.Sorted.{IsPermutation}
use Rattle.lvs_types.specs.declared.entry.Entry.{Entry}

-- each entry stands at its id
abbrev pub AreKeyed : List (ℕ × Entry) → Type 0
AreKeyed pairs = AllByRecursion (λ (pair : ℕ × Entry). pair.0 ≡ pair.1.id) pairs

-- the entry was taken out, and the others may have moved
abbrev pub IsTaken : Option Entry → List Entry → List Entry → Type 0
IsTaken None old new = new ≡ old
IsTaken (Some e) old new = IsPermutation old (e ∷ new)
