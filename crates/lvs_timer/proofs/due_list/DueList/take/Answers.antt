use Rattle.std.proofs.Common.{◌≡◌, ◌∙◌, ◌≤◌, ap, sym, subst, List, true, count_by}
use Rattle.std.specs.List.{AllByRecursion}
use Rattle.lvs_model.specs.Lists.{without}
use Rattle.lvs_timer.specs.declared.timer.Timer.{Timer}
use Rattle.lvs_timer.specs.Timers.{has_id}
use Rattle.lvs_timer.proofs.ByDeadline.{taken}
use Rattle.lvs_timer.proofs.due_list.DueList.take.Goals as goal

pub returns : goal.returns
returns c =
    let x = c.args.timer.now in
    c.remove.ensures.keys
    ∙ taken x c.self.inside.timers.keys (subst (λ (ts : List Timer). AllByRecursion (λ (t : Timer). has_id x.id t ≡ true → t ≡ x) ts) (sym c.self.view_is) c.requires.same)
    (subst (λ (ts : List Timer). count_by (has_id x.id) ts ≤ 1) (sym c.self.view_is) c.requires.once)
    ∙ ap (λ (ts : List Timer). without (has_id x.id) ts) c.self.view_is
