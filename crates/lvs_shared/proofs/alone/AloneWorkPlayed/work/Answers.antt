use Rattle.std.proofs.Common.{rules}
use Rattle.lvs_shared.proofs.Working.{alone_may}
use Rattle.lvs_shared.proofs.alone.AloneWorkPlayed.work.Goals as goal

pub play-requires : goal.play-requires
play-requires c = alone_may c.args.value.now c.self.inside.own.value c.in-Some.placed (search rules) (search rules) (search rules)
