use Rattle.std.proofs.Common.{◌∙◌, ap, sym, List}
use Rattle.lvs_types.specs.declared.entry.Entry.{Entry}
use Rattle.lvs_model.specs.Lists.{without, insert_by}
use Rattle.lvs_timer.specs.declared.timer.Timer.{Timer}
use Rattle.lvs_timer.specs.Timers.{has_id}
use Rattle.lvs_bucket.specs.Pairs.{timer_of, timers_of}
use Rattle.lvs_bucket.proofs.Rising.{strict}
use Rattle.lvs_bucket.proofs.Timed.{timer_found, disarmed_new, timers_renewed}
use Rattle.lvs_bucket.proofs.changes.update.Goals as goal

pub disarm-requires : goal.disarm-requires
disarm-requires c = record { armed = timer_found c.args.entry.id c.in-Some.field-0.now c.args.entries.now.entries c.args.timers.now.timers c.requires.pair.timers (sym c.in-Some.ensures.found) }

pub arm-requires-clause-new_id : goal.arm-requires-clause-new_id
arm-requires-clause-new_id c = disarmed_new c.args.entry.id c.args.timers.now.timers c.disarm.new.self.timers c.disarm.ensures.timers

pub returns-clause-pair : goal.returns-clause-pair
returns-clause-pair c =
    let v = c.args.entry in
    let es = c.args.entries.now.entries in
    record {
      timers = c.arm.ensures.timers
          ∙ ap (λ (ts : List Timer). insert_by (λ (t : Timer). t.id) (timer_of v) ts) (c.disarm.ensures.timers ∙ ap (λ (ts : List Timer). without (has_id v.id) ts) c.requires.pair.timers)
          ∙ timers_renewed v c.in-Some.field-0.now es (strict es c.requires.pair.listed) (sym c.in-Some.ensures.found) ∙ ap (λ (ds : List Entry). timers_of ds) (sym c.update.ensures.entries);
      listed = c.update.ensures.listed;
    }
