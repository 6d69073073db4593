use Rattle.std.proofs.Common.{◌≡◌, ◌∙◌, sym, arith}
use Rattle.lvs_script.proofs.Numbered.{placed_clock, placed_control, placed_sync, placed_worker}
use Rattle.lvs_script.proofs.serial.Placer.place.Goals as goal

pub invariant_of-self-in-0 : goal.invariant_of-self-in-0
invariant_of-self-in-0 c =
    let actor : c.actor_of.result ≡ 0 = c.in-0.is in
    placed_clock c.self.inside.placed.items c.push.new.placed.items c.args.item c.self.inside.clock c.self.inside.control c.self.inside.sync c.self.inside.worker c.in_ok-push-in-0.ensures.ok (sym c.actor_of.ensures.value ∙ actor) c.self.invariant

pub invariant_of-self-in-1 : goal.invariant_of-self-in-1
invariant_of-self-in-1 c =
    let actor : c.actor_of.result ≡ 1 = c.in-1.is in
    placed_control c.self.inside.placed.items c.push-in-1.new.placed.items c.args.item c.self.inside.clock c.self.inside.control c.self.inside.sync c.self.inside.worker c.in_ok-push-in-1.ensures.ok (sym c.actor_of.ensures.value ∙ actor) c.self.invariant

pub invariant_of-self-in-2 : goal.invariant_of-self-in-2
invariant_of-self-in-2 c =
    let actor : c.actor_of.result ≡ 2 = c.in-2.is in
    placed_sync c.self.inside.placed.items c.push-in-2.new.placed.items c.args.item c.self.inside.clock c.self.inside.control c.self.inside.sync c.self.inside.worker c.in_ok-push-in-2.ensures.ok (sym c.actor_of.ensures.value ∙ actor) c.self.invariant

pub invariant_of-self-in_default : goal.invariant_of-self-in_default
invariant_of-self-in_default c =
    let actor : c.actor_of.result ≡ 3 = omega arith in
    placed_worker c.self.inside.placed.items c.push-in_default.new.placed.items c.args.item c.self.inside.clock c.self.inside.control c.self.inside.sync c.self.inside.worker c.in_ok-push-in_default.ensures.ok (sym c.actor_of.ensures.value ∙ actor) c.self.invariant
