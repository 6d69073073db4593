use Rattle.std.proofs.Common.{◌++◌, ◌∷◌, [], ◌∙◌, ap, refl}
use Rattle.lvs_pair.proofs.Answers.{on_err}
use Rattle.lvs_pair.proofs.Learns.{has_learnt_more, learns_none, stepped}
use Rattle.lvs_pair.proofs.backup.Backup.learn_item.Goals as goal

pub returns-in-Ok-clause-learnt : goal.returns-in-Ok-clause-learnt
returns-in-Ok-clause-learnt c = λ s before learnt. has_learnt_more s before c.args.item c.args.self.now (record { core = c.step_owned.new.self; learnt = c.push_reserved.new.self }) c.in-Ok.answered learnt
    (c.push_reserved.ensures.items ∙ ap (λ l. l ++ c.in-Ok.answered ∷ []) c.reserve.ensures.items) c.in-Ok.ensures.item c.in-Ok.ensures.ok
    (stepped c.args.self.now.core.state c.step_owned.new.self.state c.args.item c.in-Ok.answered.1 c.in-Ok.ensures.ok c.in-Ok.ensures.takeover c.in-Ok.ensures.well_formed)

pub returns-in_err-reserve-clause-err : goal.returns-in_err-reserve-clause-err
returns-in_err-reserve-clause-err c = on_err _ _ (learns_none c.args.self.now (record { core = c.args.self.now.core; learnt = c.reserve.new.self }) _ c.reserve.ensures.items refl)

pub returns-then-steps-ge-MOST_STEPS-clause-err : goal.returns-then-steps-ge-MOST_STEPS-clause-err
returns-then-steps-ge-MOST_STEPS-clause-err c = learns_none c.args.self.now (record { core = c.args.self.now.core; learnt = c.reserve.new.self }) _ c.reserve.ensures.items refl

pub returns-clause-err : goal.returns-clause-err
returns-clause-err c = learns_none c.args.self.now (record { core = c.step_owned.new.self; learnt = c.reserve.new.self }) _ c.reserve.ensures.items (ap (λ x. x.state) c.in-Err.ensures.err)
