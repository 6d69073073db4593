use Rattle.std.proofs.Common.{refl}
use Rattle.lvs_types.specs.declared.bucket.Change.TheVariants.{EndDue}
use Rattle.lvs_board.proofs.Due.{due_can_leave, due_can_lessen, swept_state, swept_sound}
use Rattle.lvs_board.proofs.desk.Desk.end_due.Goals as goal

pub leave_servers-requires : goal.leave_servers-requires
leave_servers-requires g c = due_can_leave g.W.Whole.whole c.args.self.now c.args.bucket c.args.due.now c.requires.sound c.requires.due

pub leave_templates-requires : goal.leave_templates-requires
leave_templates-requires g c = due_can_lessen g.W.Whole.whole c.args.self.now c.args.bucket c.args.due.now c.requires.sound c.requires.due

pub returns-clause-state : goal.returns-clause-state
returns-clause-state g c =
    swept_state g.W.Whole.whole c.args.self.now c.args.bucket c.args.due.now c.leave_servers.new.dests c.leave_templates.new.templates (EndDue c.args.self.now.moment) c.requires.sound c.requires.still c.requires.moment c.requires.due
    (c.leave_servers.ensures, c.leave_templates.ensures.rows, refl)

pub returns-clause-sound : goal.returns-clause-sound
returns-clause-sound g c =
    swept_sound g.W.Whole.whole c.args.self.now c.args.bucket c.args.due.now c.leave_servers.new.dests c.leave_templates.new.templates (EndDue c.args.self.now.moment) c.requires.sound c.requires.still c.requires.moment c.requires.due
    (c.leave_servers.ensures, c.leave_templates.ensures.rows, refl)
