use Rattle.std.proofs.Common.{List, ap, ◌∙◌}
use Rattle.lvs_types.specs.declared.dest.Dest.{Dest}
use Rattle.lvs_rules.specs.declared.too_long.Bound.{Bound}
use Rattle.lvs_rules.specs.Packets.{packet_of}
use Rattle.lvs_rules.specs.TooLong.{exceeds_connection, exceeds_bound}
use Rattle.lvs_rules.proofs.Leaving.{as_they_are}
use Rattle.lvs_rules.proofs.too_long.is_too_long.Goals as goal

pub returns-in-None : goal.returns-in-None
returns-in-None g c =
    let s = g.T.Tables.state c.args.tables.now in
    rw c.in-None.is (c.exceeds_connected.ensures ∙ ap (λ (ds : List Dest). exceeds_connection (record s { dests = ds }) (packet_of c.args.p.now)) (as_they_are s.dests))

pub returns-in-Some : goal.returns-in-Some
returns-in-Some g c =
    let s = g.T.Tables.state c.args.tables.now in
    rw c.in-Some.is (c.exceeds_known.ensures ∙ ap (λ (b : Bound). exceeds_bound s (packet_of c.args.p.now) b) c.as_bound.ensures.bound)
