use Rattle.std.proofs.Common.{◌≡◌, ◌∙◌, ap, refl}
use Rattle.lvs_templates.specs.Rows.{put}
use Rattle.lvs_templates.specs.Seen.{TemplatesSeen}
use Rattle.lvs_templates.specs.Maps.{rows_of}
use Rattle.lvs_templates.proofs.Put.{put_above}
use Rattle.lvs_templates.proofs.templates.Templates.put.Goals as goal
use Rattle.lvs_templates.proofs.templates.Templates.put.Goals.{then-is_none+in_ok-reserve, else-is_none}

pub returns-clause-last : goal.returns-clause-last
returns-clause-last c = λ below.
    let same : rows_of c.if-is_none.self-inside.maps ≡ rows_of c.self.inside.maps = elim c.if-is_none.branch [
      | then-is_none+in_ok-reserve w ↦ rw w.self-inside-is w.reserve.ensures.rows
      | else-is_none w ↦ rw w.self-inside-is refl
    ] in
    c.put.ensures.rows ∙ ap (put c.args.template) same ∙ ap (λ (seen : TemplatesSeen). put c.args.template seen.rows) c.self.view_is ∙ put_above c.args.template c.args.self.now.rows below
