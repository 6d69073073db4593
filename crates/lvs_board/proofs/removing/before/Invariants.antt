use Rattle.std.specs.Prelude.{◌≡◌, None, drop}
use Rattle.lvs_board.specs.Removals.{candidate_before}
use Rattle.lvs_board.proofs.removing.before.Given as goal

-- it is found among those that are left
abbrev pub invariant-loop-c : goal.invariant-loop-c
invariant-loop-c l = candidate_before l.id l.previous (drop l.c-index l.candidates) ≡ candidate_before l.id None l.candidates
