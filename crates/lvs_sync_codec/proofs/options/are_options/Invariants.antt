use Rattle.std.proofs.Common.{◌≡◌, length}
use Rattle.lvs_model.specs.MessageReading.{are_options}
use Rattle.lvs_sync_codec.proofs.options.are_options.Given as goal

abbrev pub invariant-loop-rest : goal.invariant-loop-rest
invariant-loop-rest l = are_options 0 l.rest ≡ are_options 0 l.bytes

abbrev pub decreases-loop-rest : goal.decreases-loop-rest
decreases-loop-rest l = length l.rest
