-- Ids rise, and are never used again.
use Rattle.std.specs.Prelude.{◌≡◌, ℕ, ◌<◌, ◌≤◌, Bool, true, ◌==◌, List}
use Rattle.std.specs.List.{AllByRecursion, list_any}
use Rattle.lvs_model.specs.State.{State}
use Rattle.lvs_model.specs.WellFormed.{entry_ids, dest_ids, template_ids}

abbrev pub is_among : List ℕ → ℕ → Bool
is_among ids id = list_any (λ other. other == id) ids

-- below the number an id is one of the earlier ones
abbrev pub IsNewOrAmong : ℕ → List ℕ → ℕ → Type 0
IsNewOrAmong next ids id = id < next → is_among ids id ≡ true

-- the next id never falls, and each later id is one of the earlier ones or at least the earlier next one
pub record Rises (next : ℕ) (ids : List ℕ) (later_next : ℕ) (later_ids : List ℕ) : Type 0 where
  pub next_id : next ≤ later_next
  pub each : AllByRecursion (IsNewOrAmong next ids) later_ids

-- so it is with the ids of entries, servers and templates
pub record IdsRise (s later : State) : Type 0 where
  pub entries : Rises s.next_entry (entry_ids s.entries) later.next_entry (entry_ids later.entries)
  pub dests : Rises s.next_dest (dest_ids s.dests) later.next_dest (dest_ids later.dests)
  pub templates : Rises s.next_template (template_ids s.templates) later.next_template (template_ids later.templates)
