use Rattle.std.proofs.Common.{refl}
use Rattle.lvs_model.specs.MorePicks.{mh_table}
use Rattle.lvs_model.proofs.worked_examples.hashes.maglev_hashing.Goals as goal

pub returns-clause-first : goal.returns-clause-first
unfolding mh_table
returns-clause-first c = refl

pub returns-clause-second : goal.returns-clause-second
unfolding mh_table
returns-clause-second c = refl

pub returns-clause-none : goal.returns-clause-none
unfolding mh_table
returns-clause-none c = refl
