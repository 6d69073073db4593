use Rattle.std.proofs.Common.{◌≡◌}
use Rattle.lvs_model.specs.Generated.{client_lines}
use Rattle.lvs_script.proofs.generator.client_lines.Given as goal

abbrev pub invariant-loop-number : goal.invariant-loop-number
invariant-loop-number l = l.lines.items ≡ client_lines l.flags l.number
