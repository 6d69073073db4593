use Rattle.std.proofs.Common.{◌∙◌}
use Rattle.lvs_model.specs.Lookups.{is_server_at}
use Rattle.lvs_board.proofs.Placed.{any_server}
use Rattle.lvs_board.proofs.Respecified.{edit_state, edit_sound}
use Rattle.lvs_board.proofs.desk.Desk.respecify_server.Goals as goal

pub respecify-requires-clause-there : goal.respecify-requires-clause-there
respecify-requires-clause-there g c = any_server (is_server_at c.args.key c.args.spec.now.addr c.args.spec.now.port) c.args.self.now.dests.rows ∙ c.requires.there

pub returns-clause-state : goal.returns-clause-state
returns-clause-state g c = edit_state g.W.Whole.whole c.args.self.now c.args.key c.args.spec.now c.respecify.new.dests c.requires.sound c.respecify.ensures.places c.respecify.ensures.edited

pub returns-clause-sound : goal.returns-clause-sound
returns-clause-sound g c = edit_sound g.W.Whole.whole c.args.self.now c.args.key c.args.spec.now c.respecify.new.dests c.requires.sound c.respecify.ensures.places c.respecify.ensures.edited
