use Rattle.std.proofs.Common.{◌≡◌, ◌+◌, ◌≤◌, ◌^◌, length, drop}
use Rattle.std.specs.Io.KnownBytes.{Appends}
use Rattle.lvs_model.specs.ScriptLimits.{AreMoments}
use Rattle.lvs_run.specs.Limits.{steps_in}
use Rattle.lvs_run.specs.Ways.{serial_way, ArePlayed}
use Rattle.lvs_run.specs.Written.{all_written_of}
use Rattle.lvs_run.proofs.rounds.play_rounds.Given as goal

abbrev pub invariant-loop-round : goal.invariant-loop-round
invariant-loop-round g l = record {
  written : Appends (g.K.Sink.written l.initial.sink) (g.K.Sink.written l.sink) (all_written_of l.output l.books.items);
  kept : g.K.Sink.faults l.sink ≡ g.K.Sink.faults l.initial.sink;
  played : ArePlayed serial_way 0 l.initial.director.state l.rounds l.books.items l.director.state;
  count : length l.books.items ≡ l.round-index;
  moments : AreMoments (drop l.round-index l.rounds);
  young : l.director.steps + steps_in (drop l.round-index l.rounds) ≤ 2 ^ 62;
}
