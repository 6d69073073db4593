-- A young director has room.
use Rattle.std.proofs.Common.{ℕ, ◌+◌, ◌<◌, ◌≤◌, ◌^◌, List, [], ◌∷◌, arith}
use Rattle.std.specs.List.{AllByRecursion}
use Rattle.lvs_types.specs.declared.entry.Entry.{Entry}
use Rattle.lvs_model.specs.State.{State}
use Rattle.lvs_model.specs.Counted.{IsCounted, IsCountedEntry}
use Rattle.lvs_rules.specs.Bounds.{HasHeadroom, HasFewPackets}

few : (n : ℕ) (es : List Entry) → n < 2 ^ 62 → AllByRecursion (IsCountedEntry n) es → AllByRecursion HasFewPackets es
few n [] young each = tt
few n (e ∷ es) young each = (let small : e.packets ≤ n + 1 = each.0 in omega arith, few n es young each.1)

pub room_of_young : (n : ℕ) (s : State) → n < 2 ^ 62 → IsCounted n s → HasHeadroom s
room_of_young n s young c = record {
  now = omega (arith, c.numbers.now);
  next_entry = omega (arith, c.numbers.next_entry);
  next_dest = omega (arith, c.numbers.next_dest);
  next_template = omega (arith, c.numbers.next_template);
  packets = few n s.entries young c.packets;
}
