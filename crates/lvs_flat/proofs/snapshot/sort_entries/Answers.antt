use Rattle.std.proofs.Common.{rules, ◌≡◌}
use Rattle.lvs_types.specs.declared.entry.Entry.{Entry}
use Rattle.lvs_flat.proofs.Ordered.{sorted_by_clauses}
use Rattle.lvs_flat.proofs.snapshot.sort_entries.Goals as goal

pub returns : goal.returns
returns c =
    sorted_by_clauses (λ (e : Entry). e.id) c.args.entries.items c.sort_by_key.new.self.items c.in_ok-sort_by_key.ensures.sorted c.in_ok-sort_by_key.ensures.stable (λ a r q k. search rules)
