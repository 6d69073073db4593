use Rattle.std.proofs.Common.{◌∙◌, refl, sym}
use Rattle.lvs_dests.specs.Rows.{held}
use Rattle.lvs_dests.proofs.Tied.{change_missed, counted_there, counted_change, held_keeps}
use Rattle.lvs_dests.proofs.dests.Dests.hold.Goals as goal

pub revise-requires : goal.revise-requires
revise-requires c = counted_there held held_keeps (λ z. refl) c.args.id c.args.self.now c.in-Some.row c.hold.result c.in-Some.ensures.row c.hold.ensures

pub returns-in-Some : goal.returns-in-Some
returns-in-Some c =
    counted_change held held_keeps (λ z. refl) c.args.id c.args.self.now c.in-Some.row c.hold.result c.in-Some.ensures.row c.hold.ensures c.revise.new.self c.revise.ensures.changed

pub returns-in_default : goal.returns-in_default
returns-in_default c = change_missed c.args.id (held) c.args.self.now (sym c.row.ensures.row ∙ c.in_default.is)
