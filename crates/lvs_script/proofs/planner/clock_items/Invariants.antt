use Rattle.std.proofs.Common.{◌≡◌, map}
use Rattle.lvs_types.specs.declared.item.Item.TheVariants as item
use Rattle.lvs_model.specs.Plans.{numbers_from}
use Rattle.lvs_script.proofs.planner.clock_items.Given as goal

abbrev pub invariant-loop-bucket : goal.invariant-loop-bucket
invariant-loop-bucket l = l.items.items ≡ map item.Sweep (numbers_from 0 l.bucket)
