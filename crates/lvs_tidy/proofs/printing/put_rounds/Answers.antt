use Rattle.std.proofs.Common.{◌+◌, ◌++◌, drop, arith}
use Rattle.lvs_tidy.specs.ScriptTexts.{rounds_lines, with_feeds}
use Rattle.lvs_tidy.proofs.Spaces.{next_round, rounds_step}
use Rattle.lvs_tidy.proofs.printing.put_rounds.Goals as goal

pub loop-round-preserved : goal.loop-round-preserved
loop-round-preserved c = record {
  written = rounds_step c.loop-round.out.items c.put_round.new.out.items (c.args.out.now.items ++ with_feeds (rounds_lines 0 c.args.rounds.now)) c.loop-round.number c.round-item.result (drop (c.loop-round.round-index + 1) c.args.rounds.now) (drop c.loop-round.round-index c.args.rounds.now) (next_round c.args.rounds.now c.loop-round.round-index c.round-item.result c.loop-round-test.true c.round-item.is) c.in_ok-put_round.ensures c.loop-round.invariant.written;
  counted = omega (arith, c.loop-round.invariant.counted);
}
