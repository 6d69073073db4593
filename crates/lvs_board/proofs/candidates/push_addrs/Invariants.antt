use Rattle.std.specs.Prelude.{◌≡◌, ◌≤◌, ◌++◌, drop, length, filter_map, vec_len, vec_capacity}
use Rattle.lvs_dests.specs.Rows.{dests_of}
use Rattle.lvs_board.specs.Candidates.{addr_in}
use Rattle.lvs_board.proofs.candidates.push_addrs.Given as goal

-- those that are left still come
abbrev pub invariant-loop-c : goal.invariant-loop-c
invariant-loop-c l = record {
  so_far : l.addrs.items ++ filter_map (addr_in (dests_of l.dests.rows)) (drop l.c-index l.candidates) ≡ filter_map (addr_in (dests_of l.dests.rows)) l.candidates;
  fewer : vec_len l.addrs ≤ l.c-index;
  room : length l.candidates ≤ vec_capacity l.addrs;
}
