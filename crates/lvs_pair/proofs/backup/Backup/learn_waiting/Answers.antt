use Rattle.std.proofs.Common.{ap, subst}
use Rattle.lvs_pair.specs.Pairing.{items_in, items_of}
use Rattle.lvs_pair.proofs.Answers.{on_err}
use Rattle.lvs_pair.proofs.Follows.{StillLearns, still_stops}
use Rattle.lvs_pair.proofs.backup.Backup.learn_waiting.Goals as goal

pub returns-in_err-learn-clause-err : goal.returns-in_err-learn-clause-err
returns-in_err-learn-clause-err c = on_err _ _ (still_stops c.args.self.now c.loop-message.self c.learn.new.self (items_of c.args.waiting.now.items) (items_in c.in-Some.message) (items_of c.pop_front.new.self.items)
    (subst (λ l. StillLearns c.args.self.now (items_of c.args.waiting.now.items) c.loop-message.self l) (ap items_of c.in-Some.ensures.items) c.loop-message.invariant) c.in_err-learn.ensures.err)
