use Rattle.std.proofs.Common.{◌∙◌, ◌++◌, ◌∷◌, [], ap, subst, sym, map}
use Rattle.lvs_model.specs.Lists.{without}
use Rattle.lvs_templates.specs.Rows.{has_key}
use Rattle.lvs_board.specs.Held.{IsHeldAt, unhold_one}
use Rattle.lvs_board.specs.Made.{made_row}
use Rattle.lvs_board.proofs.Templating.{with_rows}
use Rattle.lvs_board.proofs.Adds.{rows_below, can_let_go, can_hold_new, add_state, add_sound}
use Rattle.lvs_board.proofs.desk.Desk.add_template.Goals as goal

pub enter_template-requires-clause-below : goal.enter_template-requires-clause-below
enter_template-requires-clause-below g c = rows_below g.W.Whole.whole c.args.self.now c.args.t.now c.requires.sound c.requires.id

pub unhold_server-requires : goal.unhold_server-requires
unhold_server-requires g c =
    subst (λ o. IsHeldAt o c.args.self.now.dests.rows) (sym c.server_held.ensures)
    (can_let_go g.W.Whole.whole c.args.self.now c.args.t.now c.template-before.result c.requires.sound (record { was = c.template-before.ensures.template; apart = c.template-before.ensures.apart }))

pub hold_server-requires : goal.hold_server-requires
hold_server-requires g c =
    can_hold_new g.W.Whole.whole c.args.self.now c.unhold_server.new.dests c.args.t.now c.template-before.result c.requires.sound (record { was = c.template-before.ensures.template; apart = c.template-before.ensures.apart })
    (c.unhold_server.ensures ∙ ap (λ o. with_rows c.args.self.now.dests (map (unhold_one o) c.args.self.now.dests.rows)) c.server_held.ensures)

pub returns-clause-state : goal.returns-clause-state
returns-clause-state g c =
    add_state g.W.Whole.whole c.args.self.now c.unhold_server.new.dests c.hold_server.new.dests c.enter_template.new.templates c.args.t.now c.template-before.result c.requires.sound c.requires.id (record { was = c.template-before.ensures.template; apart = c.template-before.ensures.apart }) (record {
      templates_are = c.enter_template.ensures ∙ ap (λ made. without (has_key c.args.t.now.key) c.args.self.now.templates.rows ++ made_row c.args.t.now made ∷ []) c.is_made.ensures;
      held_are = c.unhold_server.ensures ∙ ap (λ o. with_rows c.args.self.now.dests (map (unhold_one o) c.args.self.now.dests.rows)) c.server_held.ensures;
      dests_are = c.hold_server.ensures;
    })

pub returns-clause-sound : goal.returns-clause-sound
returns-clause-sound g c =
    add_sound g.W.Whole.whole c.args.self.now c.unhold_server.new.dests c.hold_server.new.dests c.enter_template.new.templates c.args.t.now c.template-before.result c.requires.sound c.requires.id (record { was = c.template-before.ensures.template; apart = c.template-before.ensures.apart }) (record {
      templates_are = c.enter_template.ensures ∙ ap (λ made. without (has_key c.args.t.now.key) c.args.self.now.templates.rows ++ made_row c.args.t.now made ∷ []) c.is_made.ensures;
      held_are = c.unhold_server.ensures ∙ ap (λ o. with_rows c.args.self.now.dests (map (unhold_one o) c.args.self.now.dests.rows)) c.server_held.ensures;
      dests_are = c.hold_server.ensures;
    }) c.requires.room.next_template
