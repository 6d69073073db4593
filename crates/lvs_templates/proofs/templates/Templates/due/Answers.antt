use Rattle.std.proofs.Common.{◌∙◌, ap, map}
use Rattle.lvs_templates.specs.Rows.{renew, without_all, leaves, after_due}
use Rattle.lvs_templates.specs.Seen.{TemplatesSeen}
use Rattle.lvs_templates.specs.Maps.{in_order, rows_of}
use Rattle.lvs_templates.proofs.Leaving.{are_apart, taken_out, some_rise}
use Rattle.lvs_templates.proofs.templates.Templates.due.Goals as goal

pub returns-clause-rows : goal.returns-clause-rows
returns-clause-rows c =
    let rows = rows_of c.self.inside.maps in
    c.renew.ensures.rows
    ∙ ap (map (renew c.args.now))
    (c.leave_all.ensures.rows ∙ ap (λ gone. without_all gone rows) (c.deref.ensures.value ∙ c.in_ok-gone.ensures)
    ∙ taken_out (leaves c.args.now) rows (are_apart (in_order c.self.inside.maps.rows.entries) c.self.inside.maps.ids.entries c.self.invariant.store))
    ∙ ap (λ (seen : TemplatesSeen). after_due c.args.now seen.rows) c.self.view_is

pub returns-clause-rising : goal.returns-clause-rising
returns-clause-rising c = some_rise (leaves c.args.now) (in_order c.self.inside.maps.rows.entries) c.self.inside.maps.ids.entries c.in_ok-gone.gone.items c.self.invariant.store c.in_ok-gone.ensures
