use Rattle.std.proofs.Common.{◌++◌, ◌∷◌, [], ◌∙◌, ap, refl}
use Rattle.lvs_pair.proofs.Acts.{takes_on, stops_on, stops_before}
use Rattle.lvs_pair.proofs.Answers.{on_err}
use Rattle.lvs_pair.proofs.master.Master.take_step.Goals as goal

pub returns-in_err-reserve-clause-stopped : goal.returns-in_err-reserve-clause-stopped
returns-in_err-reserve-clause-stopped g c = on_err _ _ (stops_before c.args.self.now (record c.args.self.now { acts = c.reserve.new.self }) c.args.step.now c.reserve.ensures.items refl refl)

pub returns-in_err-act-clause-stopped : goal.returns-in_err-act-clause-stopped
returns-in_err-act-clause-stopped g c = on_err _ _ (stops_before c.args.self.now (record c.args.self.now { core = c.act.new.core; acts = c.reserve.new.self }) c.args.step.now c.reserve.ensures.items (ap (λ x. x.state) c.in_err-act.ensures.err) refl)

pub returns-clause-acted : goal.returns-clause-acted
returns-clause-acted g c = takes_on c.send_of-sent.result c.args.self.now (record { core = c.act.new.core; acts = c.push_reserved.new.self; outbox = c.send_of-sent.new.outbox }) c.args.step.now c.in_ok-act.act
    (c.push_reserved.ensures.items ∙ ap (λ l. l ++ c.in_ok-act.act ∷ []) c.reserve.ensures.items) c.in_ok-act.ensures.ok c.send_of-sent.ensures.handed c.send_of-sent.ensures.coming

pub returns-clause-stopped : goal.returns-clause-stopped
returns-clause-stopped g c = stops_on c.send_of-sent.result c.args.self.now (record { core = c.act.new.core; acts = c.push_reserved.new.self; outbox = c.send_of-sent.new.outbox }) c.args.step.now c.in_ok-act.act
    (c.push_reserved.ensures.items ∙ ap (λ l. l ++ c.in_ok-act.act ∷ []) c.reserve.ensures.items) c.in_ok-act.ensures.ok c.send_of-sent.ensures.err
