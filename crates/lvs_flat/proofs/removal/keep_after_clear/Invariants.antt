use Rattle.std.proofs.Common.{◌≡◌, ◌++◌, drop}
use Rattle.lvs_types.specs.declared.dest.Dest.{Dest}
use Rattle.lvs_model.specs.Edits.{remove_dests}
use Rattle.lvs_flat.proofs.removal.keep_after_clear.Given as goal

abbrev pub invariant-loop-d : goal.invariant-loop-d
invariant-loop-d l =
    l.kept.items ++ remove_dests (λ (d : Dest). d.live) l.lists.entries.items l.lists.templates.items (drop l.d-index l.lists.dests.items) ≡ remove_dests (λ (d : Dest). d.live) l.lists.entries.items l.lists.templates.items l.lists.dests.items
