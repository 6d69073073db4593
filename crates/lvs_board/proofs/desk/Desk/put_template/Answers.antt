use Rattle.std.proofs.Common.{◌≡◌, ◌∙◌, ap, map}
use Rattle.lvs_templates.specs.Rows.{put}
use Rattle.lvs_board.specs.Held.{hold_one}
use Rattle.lvs_board.proofs.Templating.{own_place, can_hold, known_id, ok_holds, with_rows, put_template_state, put_template_sound, put_template_gives}
use Rattle.lvs_board.proofs.desk.Desk.put_template.Goals as goal

pub put-requires : goal.put-requires
put-requires g c = record { free = own_place g.W.Whole.whole c.args.self.now c.args.before.now c.args.after.now c.requires.sound c.requires.gives c.requires.names }

pub hold_server-requires : goal.hold_server-requires
hold_server-requires g c = can_hold g.W.Whole.whole c.args.self.now c.newly_held.result c.requires.sound

pub returns-clause-spare : goal.returns-clause-spare
returns-clause-spare g c = c.put.ensures.spare (known_id g.W.Whole.whole c.args.self.now c.args.before.now c.args.after.now c.requires.sound c.requires.gives c.requires.names)

pub returns-clause-state : goal.returns-clause-state
returns-clause-state g c =
    let known = known_id g.W.Whole.whole c.args.self.now c.args.before.now c.args.after.now c.requires.sound c.requires.gives c.requires.names in
    put_template_state g.W.Whole.whole c.args.self.now c.hold_server.new.dests c.put.new.self c.args.before.now c.args.after.now c.requires.sound c.requires.gives c.requires.names (record {
      dests_are = c.hold_server.ensures ∙ ap (λ o. with_rows c.args.self.now.dests (map (hold_one o) c.args.self.now.dests.rows)) c.newly_held.ensures;
      templates_are = ok_holds c.put.result (c.put.new.self.rows ≡ put c.args.after.now c.args.self.now.templates.rows) (c.put.ensures.known known) c.put.ensures.rows;
    })

pub returns-clause-sound : goal.returns-clause-sound
returns-clause-sound g c =
    let known = known_id g.W.Whole.whole c.args.self.now c.args.before.now c.args.after.now c.requires.sound c.requires.gives c.requires.names in
    put_template_sound g.W.Whole.whole c.args.self.now c.hold_server.new.dests c.put.new.self c.args.before.now c.args.after.now c.requires.sound c.requires.gives c.requires.names (record {
      dests_are = c.hold_server.ensures ∙ ap (λ o. with_rows c.args.self.now.dests (map (hold_one o) c.args.self.now.dests.rows)) c.newly_held.ensures;
      templates_are = ok_holds c.put.result (c.put.new.self.rows ≡ put c.args.after.now c.args.self.now.templates.rows) (c.put.ensures.known known) c.put.ensures.rows;
    })

pub returns-clause-gives : goal.returns-clause-gives
returns-clause-gives g c =
    let known = known_id g.W.Whole.whole c.args.self.now c.args.before.now c.args.after.now c.requires.sound c.requires.gives c.requires.names in
    put_template_gives g.W.Whole.whole c.args.self.now c.hold_server.new.dests c.put.new.self c.args.before.now c.args.after.now c.requires.sound c.requires.gives c.requires.names (record {
      dests_are = c.hold_server.ensures ∙ ap (λ o. with_rows c.args.self.now.dests (map (hold_one o) c.args.self.now.dests.rows)) c.newly_held.ensures;
      templates_are = ok_holds c.put.result (c.put.new.self.rows ≡ put c.args.after.now c.args.self.now.templates.rows) (c.put.ensures.known known) c.put.ensures.rows;
    })
