use Rattle.std.proofs.Common.{◌≡◌, ◌+◌, drop}
use Rattle.lvs_model.specs.Summaries.{forwarded_of}
use Rattle.lvs_summary.proofs.counting.count_forwarded.Given as goal

abbrev pub invariant-loop-book : goal.invariant-loop-book
invariant-loop-book l = l.count + forwarded_of (drop l.book-index l.books) ≡ forwarded_of l.books
