use Rattle.lvs_board.proofs.Gone.{removed_state, removed_sound}
use Rattle.lvs_board.proofs.desk.Desk.remove_server.Goals as goal

pub returns-clause-state : goal.returns-clause-state
returns-clause-state g c =
    removed_state g.W.Whole.whole c.args.self.now c.args.key c.args.addr c.args.port c.args.d.now c.candidates-candidates.result.now c.step_back.new.services c.take_out.new.dests c.requires.sound c.requires.there
    (record { listed = c.candidates-candidates.ensures.candidates; services_are = c.step_back.ensures; dests_are = c.take_out.ensures.removed; apart = c.take_out.ensures.apart })

pub returns-clause-sound : goal.returns-clause-sound
returns-clause-sound g c =
    removed_sound g.W.Whole.whole c.args.self.now c.args.key c.args.addr c.args.port c.args.d.now c.candidates-candidates.result.now c.step_back.new.services c.take_out.new.dests c.requires.sound c.requires.there
    (record { listed = c.candidates-candidates.ensures.candidates; services_are = c.step_back.ensures; dests_are = c.take_out.ensures.removed; apart = c.take_out.ensures.apart })
