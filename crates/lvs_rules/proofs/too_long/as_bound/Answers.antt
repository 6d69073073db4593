use Rattle.std.proofs.Common.{Option, sym, subst}
use Rattle.lvs_types.specs.declared.dest.Dest.{Dest}
use Rattle.lvs_rules.specs.TooLong.{IfThere}
use Rattle.lvs_rules.proofs.Named.{there_by_id, there_for_entry}
use Rattle.lvs_rules.proofs.too_long.as_bound.Goals as goal

pub returns-in-Some-clause-there : goal.returns-in-Some-clause-there
returns-in-Some-clause-there g c =
    let ds = (g.T.Tables.state c.args.tables.now).dests in
    subst (λ (o : Option Dest). IfThere ds o) (sym c.server.ensures.server) (there_by_id c.in-Some.id ds)

pub bound_by-requires-clause-there : goal.bound_by-requires-clause-there
bound_by-requires-clause-there g c =
    let s = g.T.Tables.state c.args.tables.now in
    subst (λ (o : Option Dest). IfThere s.dests o) (sym c.find_for_entry-server.ensures.server) (there_for_entry s.services s.dests c.args.e)
