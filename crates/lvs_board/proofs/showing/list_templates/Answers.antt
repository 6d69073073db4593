use Rattle.std.proofs.Common.{◌∙◌, subst}
use Rattle.lvs_templates.specs.Rows.{templates_of, IsRising}
use Rattle.lvs_board.proofs.Shown.{ok_both, templates_sorted}
use Rattle.lvs_board.proofs.showing.list_templates.Goals as goal

pub returns : goal.returns
returns c =
    ok_both _ _ _ (λ all is rising. is ∙ templates_sorted (templates_of c.args.templates.now.rows) (subst IsRising is rising)) c.all.result c.all.ensures.templates c.all.ensures.rising
