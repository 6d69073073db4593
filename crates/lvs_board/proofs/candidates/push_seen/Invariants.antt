use Rattle.std.specs.Prelude.{◌≡◌, ◌≤◌, ◌++◌, drop, length, map, vec_len, vec_capacity}
use Rattle.lvs_board.specs.Candidates.{candidate_in}
use Rattle.lvs_board.proofs.candidates.push_seen.Given as goal

-- those that are left still come
abbrev pub invariant-loop-c : goal.invariant-loop-c
invariant-loop-c l = record {
  so_far : l.found.items ++ map (candidate_in l.view) (drop l.c-index l.candidates) ≡ map (candidate_in l.view) l.candidates;
  fewer : vec_len l.found ≤ l.c-index;
  room : length l.candidates ≤ vec_capacity l.found;
}
