use Rattle.std.proofs.Common.{◌∙◌, ap, sym}
use Rattle.lvs_dests.specs.Rows.{bound, look_bound}
use Rattle.lvs_dests.proofs.Tied.{change_missed, counted_there, counted_change, bound_keeps, bound_id}
use Rattle.lvs_dests.proofs.dests.Dests.bind.Goals as goal

pub revise-requires : goal.revise-requires
revise-requires c = counted_there (bound c.args.active) (bound_keeps c.args.active) (bound_id c.args.active) c.args.id c.args.self.now c.in-Some.row c.after_binding.result c.in-Some.ensures.row (c.after_binding.ensures ∙ ap look_bound c.raise-row.ensures)

pub returns-in-Some : goal.returns-in-Some
returns-in-Some c =
    counted_change (bound c.args.active) (bound_keeps c.args.active) (bound_id c.args.active) c.args.id c.args.self.now c.in-Some.row c.after_binding.result c.in-Some.ensures.row (c.after_binding.ensures ∙ ap look_bound c.raise-row.ensures) c.revise.new.self c.revise.ensures.changed

pub returns-in_default : goal.returns-in_default
returns-in_default c = change_missed c.args.id (bound c.args.active) c.args.self.now (sym c.row.ensures.row ∙ c.in_default.is)
