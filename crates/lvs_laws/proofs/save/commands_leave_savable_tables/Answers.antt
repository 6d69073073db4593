use Rattle.lvs_laws.proofs.SaveShown.{snapshot_savable, ever_savable}
use Rattle.lvs_laws.proofs.save.commands_leave_savable_tables.Goals as goal

pub returns-clause-shown : goal.returns-clause-shown
returns-clause-shown c = snapshot_savable

pub returns-clause-ever : goal.returns-clause-ever
returns-clause-ever c = ever_savable
