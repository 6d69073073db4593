use Rattle.std.proofs.Common.{arith, ◌∙◌, sym, ap, fold}
use Rattle.lvs_model.specs.MorePicks.{take_slot, round_from}
use Rattle.lvs_sched_more.proofs.Rounds.{next_round, some_turns}
use Rattle.lvs_sched_more.proofs.filling.Filling.fill.Goals as goal

pub loop-self-smaller : goal.loop-self-smaller
loop-self-smaller c = let turns = some_turns c.args.total c.args.servers.now (omega (arith, c.requires.total, c.requires.some)) in omega (arith, c.round.ensures.free)

pub loop-self-preserved : goal.loop-self-preserved
loop-self-preserved c =
    let round = round_from c.args.total 0 c.args.servers.now in
    record {
      filling = c.round.ensures.filling;
      slots = c.round.ensures.slots round ∙ (sym (ap (fold (take_slot c.args.addrs.now) c.loop-self.self.slots) (next_round c.loop-self.self.free round)) ∙ c.loop-self.invariant.slots);
    }
