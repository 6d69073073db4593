use Rattle.std.proofs.Common.{rules, ◌≡◌, Some, None}
use Rattle.std.specs.List.{position}
use Rattle.lvs_model.specs.Lookups.{has_entry_id}
use Rattle.lvs_model.proofs.ListLemmas.{update_missed}
use Rattle.lvs_flat.proofs.Updates.{update_put}
use Rattle.lvs_flat.proofs.entries.put.Goals as goal

pub returns-in-Some : goal.returns-in-Some
returns-in-Some c =
    let found : position (has_entry_id c.args.entry.id) c.args.entries.now ≡ Some c.in-Some.place = search rules in
    update_put (has_entry_id c.args.entry.id) c.args.entry c.args.entries.now c.in-Some.place found

pub returns-in_default : goal.returns-in_default
returns-in_default c =
    let none : position (has_entry_id c.args.entry.id) c.args.entries.now ≡ None = search rules in
    update_missed (has_entry_id c.args.entry.id) (λ _. c.args.entry) c.args.entries.now none
