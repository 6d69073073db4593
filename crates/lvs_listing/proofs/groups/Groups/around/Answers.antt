use Rattle.std.proofs.Common.{arith, ◌≡◌, Some, slice_get}
use Rattle.std.proofs.lemmas.Grind.{common_steps}
use Rattle.std.proofs.lemmas.Option.{gets}
use Rattle.lvs_listing.proofs.Grouping.{rows_around}
use Rattle.lvs_listing.proofs.groups.Groups.around.Goals as goal

pub returns : goal.returns
returns c = λ rows grouped.
    let there : slice_get c.args.self.now c.group_of.result ≡ Some c.as_slice.result.now = grind (arith, common_steps, gets) in
    rows_around c.args.self.now rows c.args.key c.group_of.result c.as_slice.result.now grouped there (grind (arith, common_steps))
