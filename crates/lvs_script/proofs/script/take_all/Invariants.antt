use Rattle.std.proofs.Common.{◌≡◌, ◌≤◌, ◌+◌, length}
use Rattle.lvs_model.specs.Lines.{lines_of}
use Rattle.lvs_model.specs.Scripts.{take_lines}
use Rattle.lvs_script.proofs.script.take_all.Given as goal

abbrev pub invariant-loop-line : goal.invariant-loop-line
invariant-loop-line l = record {
  so_far : take_lines l.number (lines_of l.rest) l.reader ≡ take_lines 1 (lines_of l.text) l.fn.reader;
  counted : l.number + length l.rest ≤ length l.text + 1;
}

abbrev pub decreases-loop-line : goal.decreases-loop-line
decreases-loop-line l = length l.rest
