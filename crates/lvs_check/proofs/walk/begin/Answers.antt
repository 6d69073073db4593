use Rattle.std.proofs.Common.{◌≡◌, sym, ap, subst, arith}
use Rattle.lvs_check.specs.Walks.{items_left, steps_in, AreAllInRange}
use Rattle.lvs_model.specs.ScriptLimits.{AreMoments}
use Rattle.lvs_check.proofs.StepLemmas.{few_steps}
use Rattle.lvs_check.proofs.walk.begin.Goals as goal

pub returns-clause-fit : goal.returns-clause-fit
returns-clause-fit c =
    let rounds : c.as_slice.result.now ≡ c.args.script.now.rounds = c.as_slice.ensures in
    record {
      moments = subst AreMoments (sym rounds) c.requires.within.moments;
      in_range = subst AreAllInRange (sym c.new-2.ensures.items) tt;
      number = omega arith;
      place = omega arith;
      young = omega (arith, c.in_ok-new.ensures.steps, ap items_left c.new-2.ensures.items, ap steps_in rounds, few_steps c.args.script.now.rounds c.requires.within);
    }
