use Rattle.std.proofs.Common.{◌∙◌, refl, sym}
use Rattle.lvs_dests.specs.Rows.{unheld}
use Rattle.lvs_dests.proofs.Tied.{change_missed, counted_there, counted_change, unheld_keeps}
use Rattle.lvs_dests.proofs.dests.Dests.unhold.Goals as goal

pub revise-requires : goal.revise-requires
revise-requires c = counted_there unheld unheld_keeps (λ z. refl) c.args.id c.args.self.now c.in-Some.row c.unhold.result c.in-Some.ensures.row c.unhold.ensures

pub returns-in-Some : goal.returns-in-Some
returns-in-Some c =
    counted_change unheld unheld_keeps (λ z. refl) c.args.id c.args.self.now c.in-Some.row c.unhold.result c.in-Some.ensures.row c.unhold.ensures c.revise.new.self c.revise.ensures.changed

pub returns-in_default : goal.returns-in_default
returns-in_default c = change_missed c.args.id (unheld) c.args.self.now (sym c.row.ensures.row ∙ c.in_default.is)
