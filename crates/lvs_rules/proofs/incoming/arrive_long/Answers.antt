use Rattle.std.proofs.Common.{Option, ap, sym, ◌∙◌}
use Rattle.lvs_types.specs.declared.entry.Entry.{Entry}
use Rattle.lvs_types.specs.declared.reply.Reply.{Reply}
use Rattle.lvs_model.specs.State.{State}
use Rattle.lvs_model.specs.Lookups.{entry_at}
use Rattle.lvs_model.specs.Packets.{key_of}
use Rattle.lvs_model.specs.Incoming.{arrive}
use Rattle.lvs_rules.specs.Packets.{packet_of}
use Rattle.lvs_rules.specs.TooLong.{exceeds_arrived}
use Rattle.lvs_rules.proofs.TooLong.{arrived_told}
use Rattle.lvs_rules.proofs.Short.{taken_back_long, taken_back_not}
use Rattle.lvs_rules.proofs.incoming.arrive_long.Goals as goal

pub returns-then-is_too_long-clause-next : goal.returns-then-is_too_long-clause-next
returns-then-is_too_long-clause-next g c =
    let s = g.T.Tables.state c.args.tables.now in
    let p = c.args.p.now in
    let key = key_of p.proto p.head in
    let answer : Reply × State = arrive s (packet_of p) (entry_at key s.entries) in
    sym (taken_back_long s answer.0 answer.1 (arrived_told s (packet_of p) key c.requires.apart ∙ ap (exceeds_arrived s (packet_of p)) (sym c.requires.found) ∙ sym c.is_too_long.ensures ∙ c.if-is_too_long.true))

pub returns-clause-next : goal.returns-clause-next
returns-clause-next g c =
    let s = g.T.Tables.state c.args.tables.now in
    let p = c.args.p.now in
    let key = key_of p.proto p.head in
    let answer : Reply × State = arrive s (packet_of p) (entry_at key s.entries) in
    c.arrive.ensures.next
    ∙ ap (λ (o : Option Entry). arrive s (packet_of p) o) c.requires.found
    ∙ sym (taken_back_not s answer.0 answer.1 (arrived_told s (packet_of p) key c.requires.apart ∙ ap (exceeds_arrived s (packet_of p)) (sym c.requires.found) ∙ sym c.is_too_long.ensures ∙ c.if-is_too_long.false))
