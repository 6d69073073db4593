use Rattle.std.proofs.Common.{◌≡◌}
use Rattle.std.proofs.lemmas.Result.{IfOk-weaker}
use Rattle.lvs_templates.specs.Rows.{templates_of}
use Rattle.lvs_templates.specs.Maps.{in_order, rows_of}
use Rattle.lvs_templates.proofs.Leaving.{all_rise}
use Rattle.lvs_templates.proofs.templates.Templates.all.Goals as goal

pub returns-clause-rising : goal.returns-clause-rising
returns-clause-rising c =
    IfOk-weaker c.all.result (λ v. v.items ≡ templates_of (rows_of c.self.inside.maps)) _
    (λ v is. all_rise (in_order c.self.inside.maps.rows.entries) c.self.inside.maps.ids.entries v.items c.self.invariant.store is) c.all.ensures.templates
