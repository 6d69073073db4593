use Rattle.std.proofs.Common.{Option, ap, sym, ◌∙◌}
use Rattle.lvs_types.specs.declared.entry.Entry.{Entry}
use Rattle.lvs_model.specs.Lookups.{entry_at}
use Rattle.lvs_model.specs.Packets.{key_of}
use Rattle.lvs_model.specs.Incoming.{arrive}
use Rattle.lvs_rules.specs.Packets.{packet_of}
use Rattle.lvs_rules.proofs.Short.{taken_back_short}
use Rattle.lvs_rules.proofs.incoming.arrive_short.Goals as goal

pub returns-clause-next : goal.returns-clause-next
returns-clause-next g c =
    let s = g.T.Tables.state c.args.tables.now in
    let p = c.args.p.now in
    c.arrive.ensures.next
    ∙ ap (λ (o : Option Entry). arrive s (packet_of p) o) c.requires.found
    ∙ sym (taken_back_short s (packet_of p) (entry_at (key_of p.proto p.head) s.entries) c.requires.short)
