use Rattle.std.proofs.Common.{arith}
use Rattle.lvs_run.specs.Ways.{threaded_way}
use Rattle.lvs_run.proofs.CrewLemmas.{crew_at_first, core_left}
use Rattle.lvs_run.proofs.Items.{few_steps}
use Rattle.lvs_run.proofs.LegalLemmas.{books_of_run}
use Rattle.lvs_run.proofs.threaded_rounds.play_threaded.Goals as goal

pub play_rounds-requires-clause-crew : goal.play_rounds-requires-clause-crew
play_rounds-requires-clause-crew g c κs within = crew_at_first c.args.crew.now.workers c.args.crew.now.buckets c.args.script.now.local c.in-Ok.core.state c.requires.crew c.in-Ok.ensures.state

pub play_rounds-requires-clause-young : goal.play_rounds-requires-clause-young
play_rounds-requires-clause-young g c = rw c.as_slice-rounds.ensures (omega (arith, c.in-Ok.ensures.steps, few_steps c.args.script.now.rounds c.requires.within))

pub returns-in-Ok-clause-books : goal.returns-in-Ok-clause-books
returns-in-Ok-clause-books g c =
    books_of_run (threaded_way c.args.crew.now.workers c.args.crew.now.buckets) c.args.script.now c.in-Ok.core.state c.as_slice-rounds.result.now c.play_rounds.result.0.rounds.items c.play_rounds.ensures.played.0 c.in-Ok.ensures.state c.as_slice-rounds.ensures c.play_rounds.ensures.played.1

pub returns-in-Ok-clause-left : goal.returns-in-Ok-clause-left
returns-in-Ok-clause-left g c =
    core_left (threaded_way c.args.crew.now.workers c.args.crew.now.buckets) c.args.script.now c.in-Ok.core.state c.as_slice-rounds.result.now c.play_rounds.result.0.rounds.items c.play_rounds.result.0.wrote c.play_rounds.result.1 c.in-Ok.ensures.state c.as_slice-rounds.ensures c.play_rounds.ensures.left
