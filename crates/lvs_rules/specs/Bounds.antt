-- Numbers that are far from their types' ends, and an id that nothing names yet.
use Rattle.std.specs.Prelude.{◌≡◌, ◌<◌, ◌≤◌, ◌^◌}
use Rattle.std.specs.List.{AllByRecursion}
use Rattle.lvs_types.specs.declared.entry.Entry.{Entry}
use Rattle.lvs_model.specs.State.{State}
use Rattle.lvs_model.specs.Counts.{refs}

abbrev pub HasFewPackets : Entry → Type 0
HasFewPackets e = e.packets < 2 ^ 63

-- one more id, packet or deadline fits
pub record HasHeadroom (s : State) : Type 0 where
  pub now : s.now < 2 ^ 32
  pub next_entry : s.next_entry ≤ 2 ^ 62
  pub next_dest : s.next_dest ≤ 2 ^ 62
  pub next_template : s.next_template ≤ 2 ^ 62
  pub packets : AllByRecursion HasFewPackets s.entries

-- no entry and no template names the id that the next new server gets
abbrev pub IsNextUnnamed : State → Type 0
IsNextUnnamed s = refs (record { 0 = s.next_dest }) s.entries s.templates ≡ 0
