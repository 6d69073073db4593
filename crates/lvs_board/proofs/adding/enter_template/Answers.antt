use Rattle.std.proofs.Common.{◌∙◌, ◌++◌, ◌∷◌, [], ap, sym}
use Rattle.lvs_model.specs.Lists.{without}
use Rattle.lvs_templates.specs.Rows.{has_key}
use Rattle.lvs_board.specs.Made.{made_row}
use Rattle.lvs_board.proofs.Adds.{free_id, can_raise, raised_last}
use Rattle.lvs_board.proofs.adding.enter_template.Goals as goal

pub put_reserved-requires-clause-free : goal.put_reserved-requires-clause-free
put_reserved-requires-clause-free c = free_id c.args.t.now.id c.args.t.now.key c.args.templates.now.rows c.requires.below

pub control-requires : goal.control-requires
control-requires c = record { room = can_raise c.args.t.now c.args.templates.now.rows c.put_reserved.new.self.rows c.requires.below (c.put_reserved.ensures.last c.requires.below) }

pub returns-then-made : goal.returns-then-made
returns-then-made c =
    c.control.ensures.rows
    ∙ raised_last c.args.t.now c.args.templates.now.rows c.put_reserved.new.self.rows c.requires.below (c.put_reserved.ensures.last c.requires.below)
    ∙ ap (λ made. without (has_key c.args.t.now.key) c.args.templates.now.rows ++ made_row c.args.t.now made ∷ []) (sym c.if-made.true)
