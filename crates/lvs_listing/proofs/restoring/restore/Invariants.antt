use Rattle.std.proofs.Common.{◌≡◌, ◌≤◌, ◌+◌, length}
use Rattle.lvs_model.specs.Lines.{lines_of}
use Rattle.lvs_model.specs.Restoring.{saved_commands}
use Rattle.lvs_listing.proofs.Commands.{onto}
use Rattle.lvs_listing.proofs.restoring.restore.Given as goal

abbrev pub invariant-loop-line : goal.invariant-loop-line
invariant-loop-line l = record {
  so_far : onto l.commands.items (saved_commands l.number (lines_of l.rest)) ≡ saved_commands 1 (lines_of l.text);
  counted : l.number + length l.rest ≤ length l.text + 1;
}

abbrev pub decreases-loop-line : goal.decreases-loop-line
decreases-loop-line l = length l.rest
