use Rattle.std.proofs.Common.{ℕ, subst, sym}
use Rattle.lvs_rules.specs.Packets.{ServesFor}
use Rattle.lvs_rules.proofs.Lengths.{bound_length}
use Rattle.lvs_rules.proofs.known_connection.continue_bound.Goals as goal

pub continue_at-requires-clause-rooms : goal.continue_at-requires-clause-rooms
continue_at-requires-clause-rooms g c =
    let same = bound_length (g.T.Tables.state c.args.tables.now) c.args.e c.try_to_bind-e.result (g.T.Tables.state c.try_to_bind-e.new.tables) c.try_to_bind-e.ensures.bound in
    subst (λ (n : ℕ). ServesFor c.args.rooms n c.args.p.now) (sym same) c.requires.rooms
