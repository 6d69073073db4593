use Rattle.std.proofs.Common.{◌∙◌, ap, sym, List}
use Rattle.lvs_types.specs.declared.entry.Entry.{Entry}
use Rattle.lvs_model.specs.Lists.{insert_by}
use Rattle.lvs_model.specs.Lookups.{has_entry_id}
use Rattle.lvs_model.proofs.OrderLemmas.{find_none}
use Rattle.lvs_timer.specs.declared.timer.Timer.{Timer}
use Rattle.lvs_bucket.specs.Pairs.{timer_of, timers_of}
use Rattle.lvs_bucket.proofs.Rising.{none_older}
use Rattle.lvs_bucket.proofs.Timed.{entries_put, timers_put, timer_new}
use Rattle.lvs_bucket.proofs.changes.put.Goals as goal

pub insert-requires-clause-new_id : goal.insert-requires-clause-new_id
insert-requires-clause-new_id c = find_none (has_entry_id c.args.entry.id) c.args.entries.now.entries (none_older c.args.entry.id c.args.entries.now.entries c.requires.older)

pub arm-requires-clause-new_id : goal.arm-requires-clause-new_id
arm-requires-clause-new_id c =
    timer_new c.args.entry.id c.args.entries.now.entries c.args.timers.now.timers c.requires.pair.timers
    (find_none (has_entry_id c.args.entry.id) c.args.entries.now.entries (none_older c.args.entry.id c.args.entries.now.entries c.requires.older))

pub returns-clause-entries : goal.returns-clause-entries
returns-clause-entries c = c.insert.ensures.entries ∙ entries_put c.args.entry c.args.entries.now.entries c.requires.older

pub returns-clause-pair : goal.returns-clause-pair
returns-clause-pair c =
    let entries = c.insert.ensures.entries ∙ entries_put c.args.entry c.args.entries.now.entries c.requires.older in
    record {
      timers = c.arm.ensures.timers ∙ ap (λ (ts : List Timer). insert_by (λ (t : Timer). t.id) (timer_of c.args.entry) ts) c.requires.pair.timers
          ∙ timers_put c.args.entry c.args.entries.now.entries c.requires.older ∙ ap (λ (es : List Entry). timers_of es) (sym entries);
      listed = c.insert.ensures.listed;
    }
