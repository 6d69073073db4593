use Rattle.std.proofs.Common.{◌≡◌, ◌∙◌}
use Rattle.lvs_model.specs.State.{State}
use Rattle.lvs_model.specs.Edits.{is_revivable, place_server}
use Rattle.lvs_model.specs.Lookups.{is_server_at}
use Rattle.lvs_dests.specs.Rows.{placed}
use Rattle.std.specs.List.{find}
use Rattle.lvs_board.specs.Desks.{state_of}
use Rattle.lvs_board.proofs.Placed.{any_server, with_dests, ok_then, sound_either, place_state, place_sound}
use Rattle.lvs_board.proofs.desk.Desk.place_server.Goals as goal

pub place-requires-clause-fresh : goal.place-requires-clause-fresh
place-requires-clause-fresh g c = any_server (is_server_at c.args.key c.args.spec.now.addr c.args.spec.now.port) c.args.self.now.dests.rows ∙ c.requires.fresh

pub returns-clause-ok : goal.returns-clause-ok
returns-clause-ok g c =
    let s : State = state_of g.W.Whole.whole c.args.self.now in
    ok_then c.place.result (c.place.new.dests ≡ (placed c.args.key c.args.spec.now c.args.self.now.dests).1)
    (state_of g.W.Whole.whole (with_dests c.place.new.dests c.args.self.now) ≡ place_server s c.args.key c.args.spec.now (find (is_revivable c.args.key c.args.spec.now) s.dests))
    c.place.ensures.ok (λ is. place_state g.W.Whole.whole c.args.self.now c.args.key c.args.spec.now c.place.new.dests c.requires.sound c.requires.unnamed is)

pub returns-clause-sound : goal.returns-clause-sound
returns-clause-sound g c =
    sound_either c.place.result g.W.Whole.whole c.args.self.now c.place.new.dests (c.place.new.dests ≡ (placed c.args.key c.args.spec.now c.args.self.now.dests).1) c.requires.sound c.place.ensures.ok c.place.ensures.err
    (λ is. place_sound g.W.Whole.whole c.args.self.now c.args.key c.args.spec.now c.place.new.dests c.requires.sound c.requires.unnamed is c.place.ensures.apart)
