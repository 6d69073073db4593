use Rattle.std.proofs.Common.{rules, not}
use Rattle.std.proofs.lemmas.Fn.{filter_same}
use Rattle.std.proofs.lemmas.Bool.Decides.{nat_tests}
use Rattle.lvs_types.specs.declared.entry.Entry.{Entry}
use Rattle.lvs_model.specs.Lookups.{has_entry_id}
use Rattle.lvs_flat.proofs.entries.remove.Goals as goal

pub returns-clause-items : goal.returns-clause-items
returns-clause-items c =
    filter_same _ (λ (e : Entry). not (has_entry_id c.args.id e)) _ (λ x b q says. search (rules, nat_tests)) _ _ c.retain.ensures.filtered
