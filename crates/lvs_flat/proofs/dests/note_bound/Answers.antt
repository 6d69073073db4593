use Rattle.std.proofs.Common.{rules, ◌≡◌, Some, None}
use Rattle.std.specs.List.{position}
use Rattle.lvs_types.specs.declared.dest.Dest.{Dest}
use Rattle.lvs_model.specs.Lookups.{has_dest_id}
use Rattle.lvs_model.specs.Overload.{overload_bound}
use Rattle.lvs_model.specs.Counts.{total}
use Rattle.lvs_model.proofs.ListLemmas.{update_missed}
use Rattle.lvs_flat.proofs.Updates.{update_by}
use Rattle.lvs_flat.proofs.dests.note_bound.Goals as goal

pub returns-in-Some : goal.returns-in-Some
returns-in-Some c =
    let found : position (has_dest_id c.args.id) c.args.dests.now ≡ Some c.in-Some.place = search rules in
    update_by (has_dest_id c.args.id)
    (λ (d : Dest). record d { overloaded = overload_bound d.spec (total c.args.id c.args.entries.now) d.overloaded })
    c.args.dests.now c.in-Some.place _ _ found c.with_bound.ensures

pub returns-in_default : goal.returns-in_default
returns-in_default c =
    let none : position (has_dest_id c.args.id) c.args.dests.now ≡ None = search rules in
    update_missed (has_dest_id c.args.id)
    (λ (d : Dest). record d { overloaded = overload_bound d.spec (total c.args.id c.args.entries.now) d.overloaded })
    c.args.dests.now none
