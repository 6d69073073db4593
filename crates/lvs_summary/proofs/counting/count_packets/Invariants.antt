use Rattle.std.proofs.Common.{◌≡◌, ◌+◌, drop}
use Rattle.lvs_model.specs.Summaries.{packets_of}
use Rattle.lvs_summary.proofs.counting.count_packets.Given as goal

abbrev pub invariant-loop-book : goal.invariant-loop-book
invariant-loop-book l = l.count + packets_of (drop l.book-index l.books) ≡ packets_of l.books
