use Rattle.std.proofs.Common.{rules}
use Rattle.lvs_model.specs.Summaries.{packets_of}
use Rattle.lvs_summary.specs.Kinds.{takes_packet}
use Rattle.lvs_summary.proofs.Steps.{one_more}
use Rattle.lvs_summary.proofs.counting.count_packets.Goals as goal

pub loop-book-preserved : goal.loop-book-preserved
loop-book-preserved c = one_more takes_packet c.args.books.now c.loop-book.book-index c.book-item.result c.loop-book.count c.in_ok-count.count (packets_of c.args.books.now) c.loop-book-test.true c.book-item.is c.loop-book.invariant (search rules)
