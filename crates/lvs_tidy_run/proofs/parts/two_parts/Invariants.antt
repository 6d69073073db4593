use Rattle.std.proofs.Common.{◌≤◌, length}
use Rattle.lvs_tidy_run.proofs.PartLemmas.{IsAt}
use Rattle.lvs_tidy_run.proofs.parts.two_parts.Given as goal

abbrev pub invariant-loop-line : goal.invariant-loop-line
invariant-loop-line l = record {
  passed : IsAt l.word l.input l.rest;
  within : length l.rest ≤ length l.input;
}

abbrev pub decreases-loop-line : goal.decreases-loop-line
decreases-loop-line l = length l.rest
