use Rattle.std.proofs.Common.{ap, subst}
use Rattle.lvs_pair.specs.Pairing.{items_in, items_of}
use Rattle.lvs_pair.proofs.Answers.{on_err}
use Rattle.lvs_pair.proofs.Follows.{StillLearns, still_stops}
use Rattle.lvs_pair.proofs.backup.Backup.learn_left.Goals as goal

pub returns-in_err-learn-clause-err : goal.returns-in_err-learn-clause-err
returns-in_err-learn-clause-err g c = on_err _ _ (still_stops c.args.self.now c.loop-message.self c.learn.new.self (items_of c.args.rest.now.left) (items_in c.in-Some.message) (items_of c.next.new.self.left)
    (subst (λ l. StillLearns c.args.self.now (items_of c.args.rest.now.left) c.loop-message.self l) (ap items_of c.in-Some.ensures.left) c.loop-message.invariant.learns) c.in_err-learn.ensures.err)
