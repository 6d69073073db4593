use Rattle.std.proofs.Common.{◌∙◌, ap, sym, List}
use Rattle.std.specs.List.{filter}
use Rattle.lvs_timer.specs.declared.timer.Timer.{Timer}
use Rattle.lvs_timer.specs.Timers.{is_due}
use Rattle.lvs_timer.proofs.Next.{none_after}
use Rattle.lvs_timer.proofs.due_list.DueList.first_due.Goals as goal

pub returns-else-is_due : goal.returns-else-is_due
returns-else-is_due c =
    ap (λ (ts : List Timer). filter (is_due c.args.now) ts) (sym c.self.view_is)
    ∙ none_after c.args.now c.in_ok-first.first.now c.self.inside.timers.keys c.in_ok-first.ensures.all_from (sym c.is_due.ensures ∙ c.if-is_due.false)
