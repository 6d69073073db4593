use Rattle.std.proofs.Common.{◌≡◌, ◌++◌, drop}
use Rattle.lvs_model.specs.Lookups.{is_server_of}
use Rattle.lvs_model.specs.Edits.{remove_dests}
use Rattle.lvs_flat.proofs.removal.keep_after_service.Given as goal

abbrev pub invariant-loop-d : goal.invariant-loop-d
invariant-loop-d l =
    l.kept.items ++ remove_dests (is_server_of l.key) l.lists.entries.items l.lists.templates.items (drop l.d-index l.lists.dests.items) ≡ remove_dests (is_server_of l.key) l.lists.entries.items l.lists.templates.items l.lists.dests.items
