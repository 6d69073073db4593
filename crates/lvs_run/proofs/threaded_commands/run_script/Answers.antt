use Rattle.lvs_run.proofs.TaskLemmas.{run_answer}
use Rattle.lvs_run.proofs.threaded_commands.run_script.Goals as goal

pub returns-in-Ok-clause-answer : goal.returns-in-Ok-clause-answer
returns-in-Ok-clause-answer g c =
    run_answer c.args.crew.now.workers c.args.crew.now.buckets c.args.input.now c.in-Ok.script (g.K.Sink.written c.args.sink.now) (g.K.Sink.written c.play_threaded.new.sink) c.with_rounds.result.status c.play_threaded.result.0.rounds.items c.with_rounds.result.rounds.items c.play_threaded.result.0.wrote c.in-Ok.ensures.accepted c.with_rounds.ensures.status c.with_rounds.ensures.rounds c.play_threaded.ensures.books c.play_threaded.ensures.all c.play_threaded.ensures.written
