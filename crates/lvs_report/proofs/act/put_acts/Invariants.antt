use Rattle.std.proofs.Common.{◌≡◌, ◌++◌, drop}
use Rattle.lvs_model.specs.Report.{acts_text}
use Rattle.lvs_report.proofs.act.put_acts.Given as goal

abbrev pub invariant-loop-act : goal.invariant-loop-act
invariant-loop-act l = record {
  so_far : l.out.items ++ acts_text l.place (drop l.act-index l.acts) ≡ l.initial.out.items ++ acts_text 0 l.acts;
  place : l.place ≡ l.act-index;
}
