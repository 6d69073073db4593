use Rattle.std.proofs.Common.{◌∙◌, ap, sym}
use Rattle.lvs_dests.specs.Rows.{shifted, raised}
use Rattle.lvs_dests.proofs.Tied.{change_missed, counted_there, counted_change, shifted_keeps, shifted_id}
use Rattle.lvs_dests.proofs.dests.Dests.shift.Goals as goal

pub revise-requires : goal.revise-requires
revise-requires c = counted_there (shifted c.args.active) (shifted_keeps c.args.active) (shifted_id c.args.active) c.args.id c.args.self.now c.in-Some.row c.raise.result c.in-Some.ensures.row (c.raise.ensures ∙ ap (raised c.args.active) c.lower-row.ensures)

pub returns-in-Some : goal.returns-in-Some
returns-in-Some c =
    counted_change (shifted c.args.active) (shifted_keeps c.args.active) (shifted_id c.args.active) c.args.id c.args.self.now c.in-Some.row c.raise.result c.in-Some.ensures.row (c.raise.ensures ∙ ap (raised c.args.active) c.lower-row.ensures) c.revise.new.self c.revise.ensures.changed

pub returns-in_default : goal.returns-in_default
returns-in_default c = change_missed c.args.id (shifted c.args.active) c.args.self.now (sym c.row.ensures.row ∙ c.in_default.is)
