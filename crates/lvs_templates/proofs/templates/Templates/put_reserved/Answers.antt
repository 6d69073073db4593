use Rattle.std.proofs.Common.{◌∙◌, ap}
use Rattle.lvs_templates.specs.Rows.{put}
use Rattle.lvs_templates.specs.Seen.{TemplatesSeen}
use Rattle.lvs_templates.proofs.Put.{put_above}
use Rattle.lvs_templates.proofs.templates.Templates.put_reserved.Goals as goal

pub returns-clause-last : goal.returns-clause-last
returns-clause-last c = λ below. c.put.ensures.rows ∙ ap (λ (seen : TemplatesSeen). put c.args.template seen.rows) c.self.view_is ∙ put_above c.args.template c.args.self.now.rows below
