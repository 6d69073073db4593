use Rattle.std.proofs.Common.{◌∙◌, ap, sym, subst, List}
use Rattle.lvs_model.proofs.OrderLemmas.{none_found}
use Rattle.std.specs.List.{find}
use Rattle.lvs_timer.specs.declared.timer.Timer.{Timer}
use Rattle.lvs_timer.specs.Timers.{has_id}
use Rattle.lvs_timer.specs.DueLists.{IsEntered}
use Rattle.lvs_timer.proofs.ByDeadline.{entered}
use Rattle.lvs_timer.proofs.due_list.DueList.put.Goals as goal

pub returns-clause-ok : goal.returns-clause-ok
returns-clause-ok c =
    let none = none_found (has_id c.args.timer.id) c.self.inside.timers.keys (ap (λ (ts : List Timer). find (has_id c.args.timer.id) ts) c.self.view_is ∙ c.requires.new) in
    subst (λ (ts : List Timer). IsEntered c.args.timer ts c.insert.new.self.keys) c.self.view_is
    (subst (λ (ts : List Timer). IsEntered c.args.timer c.self.inside.timers.keys ts) (sym c.in_ok-insert.ensures.keys) (entered c.args.timer c.self.inside.timers.keys none))
