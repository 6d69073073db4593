use Rattle.std.proofs.Common.{◌∙◌, ap, List, length, arith, subst}
use Rattle.lvs_bucket.specs.Seen.{BucketSeen}
use Rattle.lvs_model.specs.Step.{step}
use Rattle.lvs_core.specs.Seen.{CoreSeen}
use Rattle.lvs_core.specs.Agree.{state_of}
use Rattle.lvs_core.proofs.Answered.{whole_back, answered_agree, answered_ok, answered_err, seen}
use Rattle.lvs_core.specs.Laws.{Keeps, Releases, TakesOver}
use Rattle.lvs_model.specs.WellFormed.{IsWellFormed}
use Rattle.lvs_core.proofs.Taken.{on_ok}
use Rattle.lvs_core.proofs.LawSteps.{step_keeps, step_releases, step_takes_over, answer_holds}
use Rattle.lvs_core.proofs.director.Core.step_owned.Goals as goal

pub invariant_of-self : goal.invariant_of-self
invariant_of-self c =
    let back = whole_back c.self.inside.buckets.len c.self.inside.buckets.items c.answer.new.buckets (c.answer.auto.buckets ∙ ap (λ (bs : List BucketSeen). length bs) c.deref_mut.ensures.value) (omega arith) in
    rw back (answered_agree (state_of c.self.inside.board c.deref_mut.result.now) (step (state_of c.self.inside.board c.deref_mut.result.now) c.args.item).1 c.answer.new.board c.answer.new.buckets c.answer.result c.answer.ensures.agree c.answer.ensures.err)

pub returns-clause-ok : goal.returns-clause-ok
returns-clause-ok c =
    let back = whole_back c.self.inside.buckets.len c.self.inside.buckets.items c.answer.new.buckets (c.answer.auto.buckets ∙ ap (λ (bs : List BucketSeen). length bs) c.deref_mut.ensures.value) (omega arith) in
    rw back (answered_ok (state_of c.self.inside.board c.deref_mut.result.now) c.args.self.now.state c.args.item c.answer.new.board c.answer.new.buckets c.answer.result (ap (state_of c.self.inside.board) c.deref_mut.ensures.value ∙ ap (λ (f : CoreSeen). f.state) c.self.view_is) c.answer.ensures.agree c.answer.ensures.answer)

pub returns-clause-err : goal.returns-clause-err
returns-clause-err c =
    let back = whole_back c.self.inside.buckets.len c.self.inside.buckets.items c.answer.new.buckets (c.answer.auto.buckets ∙ ap (λ (bs : List BucketSeen). length bs) c.deref_mut.ensures.value) (omega arith) in
    rw back (answered_err (state_of c.self.inside.board c.deref_mut.result.now) c.self.inside.board.steps c.args.self.now c.answer.new.board c.answer.new.buckets c.answer.result (ap (λ (bs : List BucketSeen). seen (state_of c.self.inside.board bs) c.self.inside.board.steps) c.deref_mut.ensures.value ∙ c.self.view_is) c.answer.ensures.err c.answer.ensures.err_steps)

-- the state before is well formed
well : (c : goal.After-self-1) → IsWellFormed c.args.self.now.state
well c = subst (λ (f : CoreSeen). IsWellFormed f.state) c.self.view_is c.self.invariant.well_formed

pub returns-clause-well_formed : goal.returns-clause-well_formed
returns-clause-well_formed c = on_ok _ c.answer.result (invariant_of-self c).well_formed

pub returns-clause-keep : goal.returns-clause-keep
returns-clause-keep c = answer_holds (Keeps c.args.self.now.state c.args.item) c.args.self.now.state c.args.item _ c.answer.result (step_keeps c.args.self.now.state c.args.item (well c)) (returns-clause-ok c)

pub returns-clause-release : goal.returns-clause-release
returns-clause-release c = answer_holds (Releases c.args.self.now.state c.args.item) c.args.self.now.state c.args.item _ c.answer.result (step_releases c.args.self.now.state c.args.item (well c)) (returns-clause-ok c)

pub returns-clause-takeover : goal.returns-clause-takeover
returns-clause-takeover c = answer_holds (TakesOver c.args.self.now.state c.args.item) c.args.self.now.state c.args.item _ c.answer.result (step_takes_over c.args.self.now.state c.args.item (well c)) (returns-clause-ok c)
