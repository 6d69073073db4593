use Rattle.std.proofs.Common.{◌∙◌, ap, sym, List}
use Rattle.lvs_types.specs.declared.entry.Entry.{Entry}
use Rattle.lvs_model.specs.Lists.{without}
use Rattle.lvs_model.specs.Lookups.{has_entry_id}
use Rattle.lvs_model.proofs.OrderLemmas.{keep_all, none_found}
use Rattle.lvs_timer.specs.declared.timer.Timer.{Timer}
use Rattle.lvs_timer.specs.Timers.{has_id}
use Rattle.lvs_bucket.specs.Pairs.{timers_of}
use Rattle.lvs_bucket.proofs.Timed.{timer_found, timers_without}
use Rattle.lvs_bucket.proofs.changes.end.Goals as goal

pub disarm-requires : goal.disarm-requires
disarm-requires c = record { armed = timer_found c.args.id c.in-Some.old c.args.entries.now.entries c.args.timers.now.timers c.requires.pair.timers (sym c.remove.ensures.removed ∙ c.in-Some.is) }

pub returns-in-Some-clause-pair : goal.returns-in-Some-clause-pair
returns-in-Some-clause-pair c = record {
  timers = c.disarm.ensures.timers ∙ ap (λ (ts : List Timer). without (has_id c.args.id) ts) c.requires.pair.timers ∙ timers_without c.args.id c.args.entries.now.entries
      ∙ ap (λ (es : List Entry). timers_of es) (sym c.remove.ensures.entries);
  listed = c.remove.ensures.listed;
}

pub returns-in_default-clause-pair : goal.returns-in_default-clause-pair
returns-in_default-clause-pair c =
    let none = none_found (has_entry_id c.args.id) c.args.entries.now.entries (sym c.remove.ensures.removed ∙ c.in_default.is) in
    record {
      timers = c.requires.pair.timers ∙ ap (λ (es : List Entry). timers_of es) (sym (c.remove.ensures.entries ∙ keep_all (has_entry_id c.args.id) c.args.entries.now.entries none));
      listed = c.remove.ensures.listed;
    }
