use Rattle.std.proofs.Common.{rules, ◌≡◌}
use Rattle.lvs_types.specs.declared.dest.Dest.{Dest}
use Rattle.lvs_flat.proofs.Ordered.{sorted_by_clauses}
use Rattle.lvs_flat.proofs.snapshot.sort_dests.Goals as goal

pub returns : goal.returns
returns c =
    sorted_by_clauses (λ (d : Dest). d.id.0) c.args.dests.items c.sort_by_key.new.self.items c.in_ok-sort_by_key.ensures.sorted c.in_ok-sort_by_key.ensures.stable (λ a r q k. search rules)
