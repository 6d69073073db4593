use Rattle.std.proofs.Common.{rules, ◌≡◌, true}
use Rattle.lvs_flat.specs.Lists.{state_of}
use Rattle.lvs_flat.proofs.Nothing.{none_due}
use Rattle.lvs_flat.proofs.clock.end_due.Goals as goal

pub returns-then-is_empty-clause-ok : goal.returns-then-is_empty-clause-ok
returns-then-is_empty-clause-ok c =
    let ended : c.is_empty.result ≡ true = search rules in
    none_due (state_of c.args.lists.now) c.args.bucket c.args.due.now c.is_empty.result c.is_empty.ensures ended c.requires.due
