use Rattle.std.proofs.Common.{◌∙◌, ap, sym}
use Rattle.lvs_dests.specs.Rows.{ended, look_ended}
use Rattle.lvs_dests.proofs.Tied.{change_missed, counted_there, counted_change, ended_keeps, ended_id}
use Rattle.lvs_dests.proofs.dests.Dests.unbind.Goals as goal

pub revise-requires : goal.revise-requires
revise-requires c = counted_there (ended c.args.active) (ended_keeps c.args.active) (ended_id c.args.active) c.args.id c.args.self.now c.in-Some.row c.after_ending.result c.in-Some.ensures.row (c.after_ending.ensures ∙ ap look_ended c.lower-row.ensures)

pub returns-in-Some : goal.returns-in-Some
returns-in-Some c =
    counted_change (ended c.args.active) (ended_keeps c.args.active) (ended_id c.args.active) c.args.id c.args.self.now c.in-Some.row c.after_ending.result c.in-Some.ensures.row (c.after_ending.ensures ∙ ap look_ended c.lower-row.ensures) c.revise.new.self c.revise.ensures.changed

pub returns-in_default : goal.returns-in_default
returns-in_default c = change_missed c.args.id (ended c.args.active) c.args.self.now (sym c.row.ensures.row ∙ c.in_default.is)
