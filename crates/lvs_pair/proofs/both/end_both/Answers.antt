use Rattle.std.proofs.Common.{◌++◌}
use Rattle.lvs_pair.proofs.Follows.{some_then}
use Rattle.lvs_pair.proofs.both.end_both.Goals as goal

pub returns-in_default-clause-learnt : goal.returns-in_default-clause-learnt
returns-in_default-clause-learnt g c = λ s taken learnt. some_then s c.args.followed taken (c.args.rest.now.left ++ c.args.waiting.now.items) c.args.backup.now learnt

pub returns-in_default-2-clause-learnt : goal.returns-in_default-2-clause-learnt
returns-in_default-2-clause-learnt g c = λ s taken learnt. some_then s c.args.followed taken (c.args.rest.now.left ++ c.args.waiting.now.items) c.args.backup.now learnt
