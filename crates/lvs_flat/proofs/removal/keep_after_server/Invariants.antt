use Rattle.std.proofs.Common.{◌≡◌, ◌++◌, drop}
use Rattle.lvs_model.specs.Lookups.{has_dest_id}
use Rattle.lvs_model.specs.Edits.{remove_dests}
use Rattle.lvs_flat.proofs.removal.keep_after_server.Given as goal

abbrev pub invariant-loop-d : goal.invariant-loop-d
invariant-loop-d l =
    l.kept.items ++ remove_dests (has_dest_id l.id) l.lists.entries.items l.lists.templates.items (drop l.d-index l.lists.dests.items) ≡ remove_dests (has_dest_id l.id) l.lists.entries.items l.lists.templates.items l.lists.dests.items
