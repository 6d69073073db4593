use Rattle.std.proofs.Common.{◌∙◌}
use Rattle.lvs_templates.specs.Rows.{is_renewed}
use Rattle.lvs_templates.proofs.Gathered.{count_rows}
use Rattle.lvs_templates.proofs.maps.Maps.count_renewed.Goals as goal

pub returns : goal.returns
returns c = c.count_renewed.ensures ∙ count_rows c.args.self.now.rows.entries c.args.self.now.ids.entries c.requires.unique c.requires.store (is_renewed c.args.now)
