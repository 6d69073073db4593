use Rattle.std.proofs.Common.{refl}
use Rattle.lvs_run.proofs.TaskLemmas.{report_answer, serial_refused}
use Rattle.lvs_run.proofs.commands.report_script.Goals as goal

pub returns-in-Ok-clause-answer : goal.returns-in-Ok-clause-answer
returns-in-Ok-clause-answer g c =
    report_answer c.args.input.now c.in-Ok.script (g.K.Sink.written c.args.sink.now) (g.K.Sink.written c.play_script.new.sink) c.with_rounds.result.status c.play_script.result.rounds.items c.with_rounds.result.rounds.items c.play_script.result.wrote c.in-Ok.ensures.accepted c.with_rounds.ensures.status c.with_rounds.ensures.rounds c.play_script.ensures.books c.play_script.ensures.all c.play_script.ensures.written

pub returns-in-Err-clause-answer : goal.returns-in-Err-clause-answer
returns-in-Err-clause-answer g c =
    serial_refused c.args.input.now (g.K.Sink.written c.args.sink.now) (g.K.Sink.written c.args.sink.now) c.in-Err.status c.without_rounds.result.status c.without_rounds.result.rounds.items c.in-Err.ensures.refused c.without_rounds.ensures.status refl c.without_rounds.ensures.rounds
