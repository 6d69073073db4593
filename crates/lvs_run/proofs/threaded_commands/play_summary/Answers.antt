use Rattle.std.proofs.Common.{◌≡◌, ◌≢◌, List, subst, rules}
use Rattle.lvs_types.specs.declared.book.RoundBook.{RoundBook}
use Rattle.lvs_model.specs.State.{State, initial}
use Rattle.lvs_model.specs.Snapshots.{snapshot_of}
use Rattle.lvs_model.specs.Summaries.{summary_text}
use Rattle.lvs_model.specs.Tasks.{threaded_run, summary_of, state_behind}
use Rattle.lvs_run.specs.declared.writing.Wrote.TheVariants as wrote
use Rattle.lvs_run.specs.Written.{IsWrote}
use Rattle.lvs_run.proofs.SummaryLemmas.{not_all, behind_all}
use Rattle.lvs_run.proofs.threaded_commands.play_summary.Goals as goal

pub returns-in_default-clause-written : goal.returns-in_default-clause-written
returns-in_default-clause-written g c =
    let some : c.play_threaded-played.result.0.wrote ≢ wrote.All = search rules in
    not_all (g.K.Sink.written c.args.sink.now) (g.K.Sink.written c.play_threaded-played.new.sink) c.play_threaded-played.result.0.rounds.items (summary_of (threaded_run c.args.script.now c.args.crew.now.workers c.args.crew.now.buckets) c.play_threaded-played.result.0.rounds.items) c.play_threaded-played.result.0.wrote some c.play_threaded-played.ensures.written

pub returns-clause-written : goal.returns-clause-written
returns-clause-written g c =
    let left : (c.play_threaded-played.result.0.wrote ≡ wrote.All) × (c.in-Some.core.state ≡ state_behind (initial c.args.script.now.local c.args.crew.now.buckets) c.play_threaded-played.result.0.rounds.items) = search rules in
    let text = subst (λ (l : List RoundBook). IsWrote (g.K.Sink.written c.play_threaded-played.new.sink) (g.K.Sink.written c.write_summary-wrote.new.sink) (summary_text l (snapshot_of c.in-Some.core.state)) c.write_summary-wrote.result) c.deref.ensures.value c.write_summary-wrote.ensures.text in
    let told = subst (λ (s : State). IsWrote (g.K.Sink.written c.play_threaded-played.new.sink) (g.K.Sink.written c.write_summary-wrote.new.sink) (summary_text c.play_threaded-played.result.0.rounds.items (snapshot_of s)) c.write_summary-wrote.result) left.1 text in
    behind_all (g.K.Sink.written c.args.sink.now) (g.K.Sink.written c.play_threaded-played.new.sink) (g.K.Sink.written c.write_summary-wrote.new.sink) c.play_threaded-played.result.0.rounds.items (summary_of (threaded_run c.args.script.now c.args.crew.now.workers c.args.crew.now.buckets) c.play_threaded-played.result.0.rounds.items) c.play_threaded-played.result.0.wrote c.write_summary-wrote.result left.0 c.play_threaded-played.ensures.written told
