use Rattle.std.proofs.Common.{arith, ◌∙◌, ap}
use Rattle.lvs_sched_more.specs.declared.filling.Filling.{Filling}
use Rattle.lvs_sched_more.proofs.Rounds.{table_filled, table_empty}
use Rattle.lvs_sched_more.proofs.Sharing.{table_number, table_full, table_even}
use Rattle.lvs_sched_more.proofs.maglev.MhTable.of.Goals as goal
use Rattle.lvs_sched_more.proofs.maglev.MhTable.of.Goals.{then-total-gt0, else-total-gt0}

filled_table : goal.returns-clause-value
filled_table c =
    elim c.if-total-gt0.branch [
      | then-total-gt0 w ↦ ap (λ (f : Filling). f.slots) w.filling-is ∙ table_filled c.args.servers.now c.args.addrs.now c.total_weight-total.result w.fill.new.self.slots c.total_weight-total.ensures w.fill.ensures
      | else-total-gt0 w ↦ ap (λ (f : Filling). f.slots) w.filling-is ∙ table_empty c.args.servers.now c.args.addrs.now (omega (arith, c.total_weight-total.ensures, w.if-total-gt0.false))
    ]

pub returns-clause-value : goal.returns-clause-value
returns-clause-value c = filled_table c

pub returns-clause-full : goal.returns-clause-full
returns-clause-full c = rw (filled_table c) (table_full c.args.servers.now c.args.addrs.now)

pub returns-clause-even : goal.returns-clause-even
returns-clause-even c = rw (filled_table c) (table_even c.args.servers.now c.args.addrs.now)

pub returns-clause-number : goal.returns-clause-number
returns-clause-number c = rw (filled_table c) (table_number c.args.servers.now c.args.addrs.now)
