use Rattle.std.proofs.Common.{sym, ◌∙◌}
use Rattle.lvs_model.specs.Lookups.{has_entry_id}
use Rattle.lvs_model.specs.Counts.{counts_inactive}
use Rattle.lvs_flat.proofs.Leaving.{count_without}
use Rattle.lvs_flat.proofs.view.count_inactive_in.Goals as goal

pub returns-in-Some-clause-value : goal.returns-in-Some-clause-value
returns-in-Some-clause-value c =
    rw c.in-Some.is (c.count_inactive_without.ensures.value ∙ sym (count_without (has_entry_id c.in-Some.e.id) (counts_inactive c.args.id) c.args.entries.now))
