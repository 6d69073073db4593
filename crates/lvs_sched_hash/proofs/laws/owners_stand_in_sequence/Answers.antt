use Rattle.lvs_sched_hash.proofs.Written.{length-written_out, written_owner}
use Rattle.lvs_sched_hash.proofs.laws.owners_stand_in_sequence.Goals as goal

pub returns : goal.returns
returns c = record { length = length-written_out 0; element = written_owner }
