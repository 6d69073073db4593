use Rattle.lvs_run.proofs.Within.{within_limits}
use Rattle.lvs_run.proofs.given.given_script.Goals as goal

pub returns-in-Ok-clause-within : goal.returns-in-Ok-clause-within
returns-in-Ok-clause-within c = within_limits c.args.bytes.now c.in-Ok.script c.in-Ok.ensures.accepted
