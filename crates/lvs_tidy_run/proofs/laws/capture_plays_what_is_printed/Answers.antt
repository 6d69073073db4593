use Rattle.lvs_tidy_run.proofs.Makings.{capture_plays}
use Rattle.lvs_tidy_run.proofs.laws.capture_plays_what_is_printed.Goals as goal

pub returns : goal.returns
returns c = capture_plays
