use Rattle.std.proofs.Common.{rules}
use Rattle.lvs_model.specs.Summaries.{forwarded_of}
use Rattle.lvs_summary.specs.Kinds.{sends_on}
use Rattle.lvs_summary.proofs.Steps.{one_more}
use Rattle.lvs_summary.proofs.counting.count_forwarded.Goals as goal

pub loop-book-preserved : goal.loop-book-preserved
loop-book-preserved c = one_more sends_on c.args.books.now c.loop-book.book-index c.book-item.result c.loop-book.count c.in_ok-count.count (forwarded_of c.args.books.now) c.loop-book-test.true c.book-item.is c.loop-book.invariant (search rules)
