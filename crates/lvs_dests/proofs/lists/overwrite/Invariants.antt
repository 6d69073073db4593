use Rattle.std.proofs.Common.{◌≡◌, ◌++◌, map, take, drop, cond}
use Rattle.lvs_types.specs.declared.dest.Candidate.{Candidate}
use Rattle.lvs_dests.specs.Lists.{has_candidate_id}
use Rattle.lvs_dests.proofs.lists.overwrite.Given as goal

abbrev pub invariant-loop-place : goal.invariant-loop-place
invariant-loop-place l =
    l.list ≡ map (λ (x : Candidate). cond (has_candidate_id l.candidate.id x) l.candidate x) (take l.place-index l.fn.list) ++ drop l.place-index l.fn.list
