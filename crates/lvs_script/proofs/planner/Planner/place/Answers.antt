use Rattle.std.proofs.Common.{◌≡◌, ◌∙◌, ap, subst, ℕ, OnOk}
use Rattle.lvs_script.specs.declared.actors.Actor.{Actor}
use Rattle.lvs_script.specs.Planning.{Lists, actor_among, with_item}
use Rattle.lvs_script.proofs.Planned.{one_more}
use Rattle.lvs_script.proofs.planner.Planner.place.Goals as goal

pub returns : goal.returns
returns c =
    let whole =
    ap (λ (a : Actor). with_item a c.args.item c.args.self.now) (c.actor_of-actor.ensures.value ∙ ap (λ (n : ℕ). actor_among n c.args.item) c.count_workers.ensures.value)
    ∙ one_more c.args.self.now c.args.item in
    let P : Lists → Type 0 = λ lists. OnOk c.put.result (c.put.new.self ≡ lists) in
    subst P whole c.put.ensures
