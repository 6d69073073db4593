use Rattle.lvs_pair.proofs.Answers.{on_err}
use Rattle.lvs_pair.proofs.Follows.{learns_some_first}
use Rattle.lvs_pair.proofs.backup.Backup.catch_up.Goals as goal

pub returns-in_err-learn_left-clause-err : goal.returns-in_err-learn_left-clause-err
returns-in_err-learn_left-clause-err g c = on_err _ _ (learns_some_first c.args.self.now c.learn_left.new.self c.args.rest.now.left c.args.waiting.now.items c.in_err-learn_left.ensures.err)
