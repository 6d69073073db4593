use Rattle.lvs_run.proofs.Books.{sent_behind}
use Rattle.lvs_run.proofs.commands.play_captured.Goals as goal

pub returns-in-All-clause-written : goal.returns-in-All-clause-written
returns-in-All-clause-written g c =
    sent_behind (g.K.Sink.written c.args.sink.now) (g.K.Sink.written c.write_header.new.sink) (g.K.Sink.written c.play_script.new.sink) c.play_script.result.rounds.items c.play_script.result.wrote c.in-All.ensures.text c.play_script.ensures.written
