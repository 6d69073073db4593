-- A round begins.
use Rattle.std.proofs.Common.{◌≡◌, ℕ, ◌+◌, List, [], map, ◌∙◌, ap}
use Rattle.lvs_types.specs.declared.item.Item.TheVariants as item
use Rattle.lvs_types.specs.declared.reply.Reply.{Reply}
use Rattle.lvs_types.specs.declared.book.RoundPlan.{RoundPlan}
use Rattle.lvs_types.specs.declared.book.Shown.{Shown}
use Rattle.lvs_types.specs.declared.script.Round.{Round}
use Rattle.lvs_model.specs.State.{State}
use Rattle.lvs_model.specs.Step.{step}
use Rattle.lvs_model.specs.Plans.{plan}
use Rattle.lvs_model.specs.Progress.{Sizes, Queue, Progress}
use Rattle.lvs_model.specs.Checking.{round_begun}
use Rattle.lvs_check.specs.Queues.{whole_queue}
use Rattle.lvs_check.proofs.ClockLemmas.{answer_of}

abbrev begun_as : ℕ → List Round → State → List Queue → List Shown → List (List ℕ) → Progress
begun_as number rounds now queues shown due = record { number = number; rounds = rounds; state = now; place = 0; queues = queues; shown = shown; due = due }

pub begun : (sizes : Sizes) (p : Progress) (round : Round) (rounds : List Round) (planned : RoundPlan) (reply : Reply) (now : State) (queues : List Queue) (shown : List Shown) (due : List (List ℕ)) → planned ≡ plan round sizes.workers sizes.buckets → answer_of reply now ≡ step p.state (item.Tick round.moment) → queues ≡ map whole_queue planned.lists → shown ≡ planned.shown → due ≡ [] → begun_as (p.number + 1) rounds now queues shown due ≡ round_begun sizes round rounds p
begun sizes p round rounds planned reply now queues shown due is steps lists kinds none =
    let own = step p.state (item.Tick round.moment) in
    ap (λ (s : State). begun_as (p.number + 1) rounds s queues shown due) (ap (λ (a : Reply × State). a.1) steps)
    ∙ ap (λ (qs : List Queue). begun_as (p.number + 1) rounds own.1 qs shown due) (lists ∙ ap (λ (pl : RoundPlan). map whole_queue pl.lists) is)
    ∙ ap (λ (ks : List Shown). begun_as (p.number + 1) rounds own.1 (map whole_queue (plan round sizes.workers sizes.buckets).lists) ks due) (kinds ∙ ap (λ (pl : RoundPlan). pl.shown) is)
    ∙ ap (λ (lines : List (List ℕ)). begun_as (p.number + 1) rounds own.1 (map whole_queue (plan round sizes.workers sizes.buckets).lists) (plan round sizes.workers sizes.buckets).shown lines) none
