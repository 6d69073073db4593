use Rattle.lvs_run.proofs.DemoLimits.{demo_within}
use Rattle.lvs_run.proofs.threaded_commands.demonstrate.Goals as goal

pub play_summary-requires-clause-within : goal.play_summary-requires-clause-within
play_summary-requires-clause-within g c κs within = demo_within c.args.clients c.in-Ok.script c.requires.few c.in-Ok.ensures
