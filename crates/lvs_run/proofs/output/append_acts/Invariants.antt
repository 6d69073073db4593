use Rattle.std.proofs.Common.{◌≡◌, ◌++◌, drop}
use Rattle.lvs_run.specs.Written.{records_of}
use Rattle.lvs_run.proofs.output.append_acts.Given as goal

abbrev pub invariant-loop-act : goal.invariant-loop-act
invariant-loop-act l = l.out.items ++ records_of l.seconds (drop l.act-index l.acts) ≡ l.initial.out.items ++ records_of l.seconds l.acts
