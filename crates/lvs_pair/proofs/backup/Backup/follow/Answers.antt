use Rattle.lvs_pair.proofs.backup.Backup.follow.Goals as goal

pub returns-in-Err-clause-learnt : goal.returns-in-Err-clause-learnt
returns-in-Err-clause-learnt g c = c.in-Err.ensures.err c.args.self.core.state c.loop.invariant.learnt
