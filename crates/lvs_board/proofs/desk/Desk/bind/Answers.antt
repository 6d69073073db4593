use Rattle.lvs_board.proofs.Desks.{bound_pair, bound_sound, bound_holds, can_come}
use Rattle.lvs_board.proofs.desk.Desk.bind.Goals as goal

pub come_to_server-requires : goal.come_to_server-requires
come_to_server-requires g c = can_come g.W.Whole.whole c.args.self.now c.bound-after.result c.requires.sound

pub returns-clause-bound : goal.returns-clause-bound
returns-clause-bound g c = bound_pair g.W.Whole.whole c.args.self.now c.come_to_server.new.dests c.updating-self.result c.args.e.now c.bound-after.result c.args.d.now c.bound-after.ensures c.requires.sound c.requires.holds c.requires.unbound (c.come_to_server.ensures, c.updating-self.ensures)

pub returns-clause-sound : goal.returns-clause-sound
returns-clause-sound g c = bound_sound g.W.Whole.whole c.args.self.now c.come_to_server.new.dests c.updating-self.result c.args.e.now c.bound-after.result c.args.d.now c.bound-after.ensures c.requires.sound c.requires.holds c.requires.unbound (c.come_to_server.ensures, c.updating-self.ensures)

pub returns-clause-holds : goal.returns-clause-holds
returns-clause-holds g c = bound_holds g.W.Whole.whole c.args.self.now c.come_to_server.new.dests c.updating-self.result c.args.e.now c.bound-after.result c.args.d.now c.bound-after.ensures c.requires.sound c.requires.holds (c.come_to_server.ensures, c.updating-self.ensures)
