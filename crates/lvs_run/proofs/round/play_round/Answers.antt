use Rattle.std.proofs.Common.{List, length, sym, ap, subst, arith}
use Rattle.lvs_types.specs.declared.book.Placed.{Placed}
use Rattle.lvs_model.specs.Step.{AreInRange}
use Rattle.lvs_script.specs.Placing.{items_placed}
use Rattle.lvs_run.proofs.Items.{serial_count, serial_range}
use Rattle.lvs_run.proofs.round.play_round.Goals as goal

pub play_items-requires-clause-in_range : goal.play_items-requires-clause-in_range
play_items-requires-clause-in_range c = subst (λ (l : List Placed). AreInRange (items_placed l)) (sym c.in_ok-items.ensures) (serial_range c.args.round.now)

pub play_items-requires-clause-young : goal.play_items-requires-clause-young
play_items-requires-clause-young c = omega (arith, c.in_ok-step.ensures.steps, ap length c.in_ok-items.ensures, serial_count c.args.round.now, c.requires.young)

pub returns-clause-steps : goal.returns-clause-steps
returns-clause-steps c = omega (arith, c.in_ok-step.ensures.steps, c.in_ok-acts.ensures.steps, ap length c.in_ok-items.ensures, serial_count c.args.round.now)
