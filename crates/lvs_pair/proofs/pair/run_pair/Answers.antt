use Rattle.std.proofs.Common.{ℕ, ◌++◌, ◌<◌, ◌^◌, length, ap, refl, sym, subst, ◌∙◌}
use Rattle.std.specs.Prelude.{All}
use Rattle.lvs_pair.specs.Acting.{coming, HasEnded}
use Rattle.lvs_pair.specs.Ends.{SenderIs}
use Rattle.lvs_pair.specs.Following.{HasTakenOver}
use Rattle.lvs_pair.specs.Pairing.{IsStepInRange}
use Rattle.lvs_pair.specs.declared.pair.Pair.{Pair}
use Rattle.lvs_pair.proofs.Playing.{coming_all, played, ready}
use Rattle.lvs_pair.proofs.TakenOver.{taken_over}
use Rattle.lvs_pair.proofs.pair.run_pair.Goals as goal

pub run_both-followed-requires-clause-ready : goal.run_both-followed-requires-clause-ready
run_both-followed-requires-clause-ready g c κs within = ready c.args.relay c.as_slice.result.now (record { core = c.args.pair.master; acts = c.into_vec.result; outbox = c.new.result })
    (ap (λ (s : SenderIs). s.relay) c.new.ensures.sender ∙ c.requires.sender) (ap (λ (s : SenderIs). s.posted) c.new.ensures.sender ∙ c.requires.posted) c.new.ensures.waiting c.new.ensures.at
    (subst (λ counts. 0 < length counts) (sym c.new.ensures.counts) c.requires.counts) (c.into_vec.ensures ∙ c.requires.acts)
    (subst (All IsStepInRange) (sym c.as_slice.ensures) c.requires.in_range) (subst (λ steps. length steps < 2 ^ 40) (sym c.as_slice.ensures) c.requires.few) c.requires.young

pub returns-clause-played : goal.returns-clause-played
returns-clause-played g c =
    let ran = c.run_both-followed.result in
    let taken = ran.0.1.taken in
    let left = c.finish-rest.result.left in
    let after : Pair = record { master = ran.1.0.core; steps = c.args.pair.steps; acts = c.from_vec.result; backup = c.end_both-end.new.backup.core; learnt = c.from_vec-2.result; counts = ran.1.0.outbox.counts } in
    played c.end_both-end.result ran.1.1 ran.0.2 c.args.pair after c.args.relay c.end_both-end.new.rest ran.1.0 c.end_both-end.new.backup taken left
    (record { acts = c.from_vec.ensures; master = refl; learnt = c.from_vec-2.ensures; backup = refl })
    (record { cut = c.finish-rest.ensures.left; posted = c.end_both-end.ensures.posted ∙ c.finish-rest.ensures.posted })
    (subst (λ steps. HasEnded c.args.pair.master.state c.args.pair.counts steps c.args.relay ran.1.0 ran.1.1) c.as_slice.ensures
    (subst (λ counts. HasEnded c.args.pair.master.state counts c.as_slice.result.now c.args.relay ran.1.0 ran.1.1) (coming_all c.new.result c.args.pair.counts c.new.ensures.at c.new.ensures.counts) c.run_both-followed.ensures.led.ended))
    c.end_both-end.ensures.ended (c.end_both-end.ensures.learnt c.args.pair.backup.state taken c.run_both-followed.ensures.learnt)

pub returns-clause-takeover : goal.returns-clause-takeover
returns-clause-takeover g c =
    let ran = c.run_both-followed.result in
    let taken = ran.0.1.taken in
    let b = c.end_both-end.new.backup in
    subst (λ l. HasTakenOver l b.core.state) (sym c.from_vec-2.ensures)
    (taken_over c.end_both-end.result c.args.pair.backup.state (taken ++ (c.finish-rest.result.left ++ ran.1.0.outbox.waiting.items)) b (c.end_both-end.ensures.learnt c.args.pair.backup.state taken c.run_both-followed.ensures.learnt))
