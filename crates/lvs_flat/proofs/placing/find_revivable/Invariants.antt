use Rattle.std.proofs.Common.{◌≡◌, drop}
use Rattle.std.specs.List.{find}
use Rattle.lvs_model.specs.Edits.{is_revivable}
use Rattle.lvs_flat.proofs.placing.find_revivable.Given as goal

abbrev pub invariant-loop-d : goal.invariant-loop-d
invariant-loop-d l = find (is_revivable l.key l.spec) (drop l.d-index l.dests) ≡ find (is_revivable l.key l.spec) l.dests
