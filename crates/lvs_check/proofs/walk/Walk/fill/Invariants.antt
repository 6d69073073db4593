use Rattle.std.proofs.Common.{◌≡◌, ◌≤◌, length}
use Rattle.lvs_model.specs.Progress.{clock_of, filled}
use Rattle.lvs_check.specs.Judging.{text_at}
use Rattle.lvs_check.specs.Walks.{progress_of, IsFit}
use Rattle.lvs_check.proofs.walk.Walk.fill.Given as goal

abbrev pub invariant-loop-left : goal.invariant-loop-left
invariant-loop-left l = record {
  fit : IsFit l.self;
  few : l.left ≤ length (clock_of l.self.queues.items).items;
  judged : filled (text_at l.at) l.left (progress_of l.self) ≡ filled (text_at l.at) l.count (progress_of l.initial.self);
}

abbrev pub decreases-loop-left : goal.decreases-loop-left
decreases-loop-left l = l.left
