use Rattle.std.proofs.Common.{refl, ◌∙◌}
use Rattle.lvs_run.proofs.TaskLemmas.{check_answer, check_refused}
use Rattle.lvs_run.proofs.commands.check_report.Goals as goal

pub returns-in-Ok-clause-answer : goal.returns-in-Ok-clause-answer
returns-in-Ok-clause-answer g c =
    check_answer c.args.input.now c.in-Ok.verdict (g.K.Sink.written c.args.sink.now) (g.K.Sink.written c.write_verdict-wrote.new.sink) c.without_rounds.result.status c.verdict_end.result c.without_rounds.result.rounds.items c.write_verdict-wrote.result c.in-Ok.ensures.judged (c.without_rounds.ensures.status ∙ c.ended.ensures) c.verdict_end.ensures c.without_rounds.ensures.rounds c.write_verdict-wrote.ensures.text

pub returns-in-Err-clause-answer : goal.returns-in-Err-clause-answer
returns-in-Err-clause-answer g c =
    check_refused c.args.input.now (g.K.Sink.written c.args.sink.now) (g.K.Sink.written c.args.sink.now) c.in-Err.status c.without_rounds-in-Err.result.status c.without_rounds-in-Err.result.rounds.items c.in-Err.ensures.refused c.without_rounds-in-Err.ensures.status refl c.without_rounds-in-Err.ensures.rounds
