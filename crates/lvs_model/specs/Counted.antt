-- How far a director's numbers have come after so many steps.
use Rattle.std.specs.Prelude.{ℕ, ◌+◌, ◌*◌, ◌<◌, ◌≤◌, List, length}
use Rattle.std.specs.List.{AllByRecursion}
use Rattle.lvs_types.specs.declared.addr.DestId.{DestId}
use Rattle.lvs_types.specs.declared.entry.Entry.{Entry}
use Rattle.lvs_model.specs.State.{State}
use Rattle.lvs_model.specs.Counts.{active, inactive, template_count}
use Rattle.lvs_model.specs.Messages.{HasOldFlags}

-- ids are at most the number of steps and one more; each step adds one entry, one template and two sync records at most
pub record IsNumbered (steps : ℕ) (s : State) : Type 0 where
  pub now : s.now ≤ 4294967295
  pub buckets : 0 < s.buckets
  pub next_entry : s.next_entry ≤ steps + 1
  pub next_dest : s.next_dest ≤ steps + 1
  pub next_template : s.next_template ≤ steps + 1
  pub entries : length s.entries ≤ steps
  pub templates : length s.templates ≤ steps
  pub pending : length s.pending ≤ 2 * steps
  pub flags : AllByRecursion HasOldFlags s.pending

-- each of a server's three numbers is at most the number of steps
pub record IsNumberedServer (steps : ℕ) (s : State) (id : DestId) : Type 0 where
  pub active : active id s.entries ≤ steps
  pub inactive : inactive id s.entries ≤ steps
  pub templates : template_count id s.templates ≤ steps

-- so many steps have counted at most so many packets
abbrev pub IsCountedEntry : ℕ → Entry → Type 0
IsCountedEntry steps e = e.packets ≤ steps + 1

abbrev pub AreCountedEntries : ℕ → List Entry → Type 0
AreCountedEntries steps entries = AllByRecursion (IsCountedEntry steps) entries

-- the numbers of the director, and the packets of its entries
pub record IsCounted (steps : ℕ) (s : State) : Type 0 where
  pub numbers : IsNumbered steps s
  pub packets : AreCountedEntries steps s.entries
