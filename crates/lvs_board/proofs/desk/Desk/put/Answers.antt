use Rattle.lvs_model.specs.State.{State}
use Rattle.lvs_board.specs.Desks.{state_of}
use Rattle.lvs_board.proofs.Desks.{put_state, put_sound, put_holds, can_move, found_as}
use Rattle.lvs_board.proofs.desk.Desk.put.Goals as goal

pub move_at_server-requires-clause-can : goal.move_at_server-requires-clause-can
move_at_server-requires-clause-can g c = can_move g.W.Whole.whole c.args.self.now c.args.before.now c.args.after.now c.requires.sound c.requires.holds c.requires.names

pub returns-clause-state : goal.returns-clause-state
returns-clause-state g c =
    let s : State = state_of g.W.Whole.whole c.args.self.now in
    put_state g.W.Whole.whole c.args.self.now c.move_at_server.new.dests c.updating-self.result c.args.before.now c.args.after.now c.requires.sound c.requires.holds c.requires.names
    (c.move_at_server.ensures s.entries s.templates s.dests c.requires.sound.totals.servers (found_as s.entries c.args.before.now c.args.after.now c.requires.holds.found c.requires.names.id)) c.updating-self.ensures

pub returns-clause-sound : goal.returns-clause-sound
returns-clause-sound g c =
    let s : State = state_of g.W.Whole.whole c.args.self.now in
    put_sound g.W.Whole.whole c.args.self.now c.move_at_server.new.dests c.updating-self.result c.args.before.now c.args.after.now c.requires.sound c.requires.holds c.requires.names
    (c.move_at_server.ensures s.entries s.templates s.dests c.requires.sound.totals.servers (found_as s.entries c.args.before.now c.args.after.now c.requires.holds.found c.requires.names.id)) c.updating-self.ensures

pub returns-clause-holds : goal.returns-clause-holds
returns-clause-holds g c = put_holds g.W.Whole.whole c.args.self.now c.move_at_server.new.dests c.updating-self.result c.args.before.now c.args.after.now c.requires.sound c.requires.holds c.requires.names c.updating-self.ensures
