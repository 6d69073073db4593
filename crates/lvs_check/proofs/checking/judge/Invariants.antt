use Rattle.std.proofs.Common.{◌≡◌, ◌+◌, ◌≤◌, length}
use Rattle.std.specs.List.{slice_split}
use Rattle.lvs_model.specs.Lines.{is_feed}
use Rattle.lvs_model.specs.Checking.{judged_from}
use Rattle.lvs_check.specs.Kinds.{sizes_in}
use Rattle.lvs_check.specs.Walks.{progress_of, IsFit}
use Rattle.lvs_check.proofs.checking.judge.Given as goal

abbrev pub invariant-loop-text : goal.invariant-loop-text
invariant-loop-text l = record {
  fit : IsFit l.walk;
  judged : judged_from (sizes_in l.sizes) l.number (progress_of l.walk) (slice_split is_feed l.rest) ≡ judged_from (sizes_in l.sizes) 1 (progress_of l.initial.walk) (slice_split is_feed l.report);
  counted : l.number + length l.rest ≤ length l.report + 1;
}

abbrev pub decreases-loop-text : goal.decreases-loop-text
decreases-loop-text l = length l.rest
