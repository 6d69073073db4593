use Rattle.std.proofs.Common.{length, sym, ap, subst, arith}
use Rattle.lvs_book.specs.Passes.{Tells}
use Rattle.lvs_book.proofs.Closing.{count_of, told, length_lanes}
use Rattle.lvs_book.proofs.turnstile.Turnstile.close.Goals as goal

pub end-requires-clause-all : goal.end-requires-clause-all
end-requires-clause-all g c = let id = c.args.self.table.shared.table_id in let n = count_of id 0 _ c.args.passes.items c.requires.all in let m = ap length c.collect-seat.ensures.lanes in let k = length_lanes id c.collect-seat.result.me.0.lanes in omega arith

pub returns-clause-ok : goal.returns-clause-ok
returns-clause-ok g c = let o = g.T.Journal.origin c.end.result in let log = g.T.Journal.acts c.end.result in
    (c.end.ensures.origin, subst (Tells g.T.Journal.names o log) (sym c.collect-seat.ensures.lanes) (told g.T.Journal.names _ o log _ c.end.ensures.lanes.0 c.end.ensures.lanes.1), c.end.ensures.within)
