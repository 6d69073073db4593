use Rattle.std.proofs.Common.{◌≡◌, ◌+◌, ◌≤◌, ◌^◌, length, drop}
use Rattle.std.specs.Io.KnownBytes.{Appends}
use Rattle.lvs_model.specs.ScriptLimits.{AreMoments}
use Rattle.lvs_run.specs.Crews.{IsCrewOf}
use Rattle.lvs_run.specs.Limits.{steps_in}
use Rattle.lvs_run.specs.Ways.{threaded_way, ArePlayed}
use Rattle.lvs_run.specs.Written.{all_written_of}
use Rattle.lvs_run.proofs.threaded_rounds.play_rounds.Given as goal

abbrev pub invariant-loop-round : goal.invariant-loop-round
invariant-loop-round g l = record {
  written : Appends (g.K.Sink.written l.initial.sink) (g.K.Sink.written l.sink) (all_written_of l.output l.books.items);
  kept : g.K.Sink.faults l.sink ≡ g.K.Sink.faults l.initial.sink;
  crew : IsCrewOf l.crew.workers l.crew.buckets l.core.state;
  played : ArePlayed (threaded_way l.crew.workers l.crew.buckets) 0 l.fn.core.state l.rounds l.books.items l.core.state;
  count : length l.books.items ≡ l.round-index;
  moments : AreMoments (drop l.round-index l.rounds);
  young : l.core.steps + steps_in (drop l.round-index l.rounds) ≤ 2 ^ 62;
}
