-- A round that was played by threads.
use Rattle.std.proofs.Common.{◌≡◌, ℕ, ◌+◌, ◌≤◌, List, [], ◌∷◌, Option, Some, None, IfSome, Result, Ok, Err, OnOk, false, length, refl, sym, ◌∙◌, ap, subst, arith}
use Rattle.std.specs.Result.{is_err}
use Rattle.lvs_types.specs.declared.addr.Addr.{Addr}
use Rattle.lvs_types.specs.declared.item.Item.{Item}
use Rattle.lvs_types.specs.declared.item.Item.TheVariants as item
use Rattle.lvs_types.specs.declared.reply.Reply.{Reply}
use Rattle.lvs_types.specs.declared.book.RoundBook.{RoundBook}
use Rattle.lvs_types.specs.declared.book.RoundPlan.{RoundPlan}
use Rattle.lvs_types.specs.declared.book.ShownText.{ShownText}
use Rattle.lvs_types.specs.declared.script.Round.{Round}
use Rattle.lvs_types.specs.declared.script.Script.{Script}
use Rattle.lvs_core.specs.Seen.{CoreSeen}
use Rattle.lvs_model.specs.State.{State, initial}
use Rattle.lvs_model.specs.Step.{step, run}
use Rattle.lvs_model.specs.Plans.{plan}
use Rattle.lvs_model.specs.Books.{IsSound, IsRun, IsWhole, at_moment, items_of}
use Rattle.lvs_model.specs.Listings.{shown_of}
use Rattle.lvs_model.specs.Plans.{listings_of}
use Rattle.lvs_model.specs.WellFormed.{IsWellFormed}
use Rattle.lvs_well_formed.proofs.Parts.{parts_of}
use Rattle.lvs_well_formed.proofs.Steps.{initial_well_formed, step_well_formed, run_well_formed}
use Rattle.lvs_well_formed.proofs.BucketSteps.{step_base}
use Rattle.lvs_run.specs.Crews.{IsCrew, IsCrewOf}
use Rattle.lvs_model.specs.Tasks.{state_behind}
use Rattle.lvs_run.specs.declared.writing.Wrote.{Wrote}
use Rattle.lvs_run.specs.declared.writing.Wrote.TheVariants as wrote
use Rattle.lvs_run.specs.Ways.{Way, threaded_way, IsPlayed, ArePlayed}
use Rattle.lvs_run.proofs.LegalLemmas.{left_of_run}

-- the number of buckets stays
run_buckets : (s : State) (items : List Item) → IsWellFormed s → (run s items).1.buckets ≡ s.buckets
run_buckets s [] is = refl
run_buckets s (first ∷ items) is =
    run_buckets (step s first).1 items (step_well_formed s first is) ∙ (step_base s first (parts_of s is)).1

-- at the start
pub crew_at_first : (workers buckets : ℕ) (local : Addr) (s : State) → IsCrew workers buckets → s ≡ initial local buckets → IsCrewOf workers buckets s
crew_at_first workers buckets local s crew first =
    let start : IsCrewOf workers buckets (initial local buckets) = record { crew = crew; over = refl; well_formed = initial_well_formed local buckets } in
    subst (λ (t : State). IsCrewOf workers buckets t) (sym first) start

-- after a run
crew_after : (workers buckets : ℕ) (s : State) (items : List Item) → IsCrewOf workers buckets s → IsCrewOf workers buckets (run s items).1
crew_after workers buckets s items crew = record {
  crew = crew.crew;
  over = run_buckets s items crew.well_formed ∙ crew.over;
  well_formed = run_well_formed s items crew.well_formed;
}

crew_ticked : (workers buckets moment : ℕ) (s : State) → IsCrewOf workers buckets s → IsCrewOf workers buckets (at_moment s moment)
crew_ticked workers buckets moment s crew = crew_after workers buckets s (item.Tick moment ∷ []) crew

-- after a round
pub crew_left : (workers buckets number : ℕ) (round : Round) (before left : State) (book : RoundBook) → IsCrewOf workers buckets before → IsPlayed (threaded_way workers buckets) number round before book left → IsCrewOf workers buckets left
crew_left workers buckets number round before left book crew played =
    let end : (run (at_moment before round.moment) (items_of book.acts)).1 ≡ left = ap (λ (p : List Reply × State). p.1) played.legal.sound.replies in
    subst (λ (t : State). IsCrewOf workers buckets t) end
    (crew_after workers buckets (at_moment before round.moment) (items_of book.acts) (crew_ticked workers buckets round.moment before crew))

-- a core that is left has the state that the books leave
pub core_left : (way : Way) (script : Script) (s : State) (rounds : List Round) (books : List RoundBook) (w : Wrote) (left : Option CoreSeen) → s ≡ initial script.local way.buckets → rounds ≡ script.rounds → IfSome left (λ (k : CoreSeen). (w ≡ wrote.All) × ArePlayed way 0 s rounds books k.state) → IfSome left (λ (k : CoreSeen). (w ≡ wrote.All) × (k.state ≡ state_behind (initial script.local way.buckets) books))
core_left way script s rounds books w None first are is = tt
core_left way script s rounds books w (Some k) first are is = (is.0, left_of_run way script s rounds books k.state first are is.1)

-- a whole round between a tick and its listings
pub played_round : (workers buckets number : ℕ) (round : Round) (before ticked left : State) (p : RoundPlan) (book : RoundBook) (shown : List ShownText)
    → ticked ≡ at_moment before round.moment → p ≡ plan round workers buckets → book.number ≡ number → IsSound ticked p book left → IsWhole p book → shown ≡ shown_of left (listings_of round)
    → IsPlayed (threaded_way workers buckets) number round before (record { number = book.number; moment = book.moment; workers = book.workers; buckets = book.buckets; acts = book.acts; shown = shown }) left
played_round workers buckets number round before ticked left p book shown tick planned numbered sound whole is =
    let sound' : IsSound (at_moment before round.moment) (plan round workers buckets) book left =
    subst (λ (s : State). IsSound s (plan round workers buckets) book left) tick (subst (λ (q : RoundPlan). IsSound ticked q book left) planned sound) in
    record {
      number_is = numbered;
      legal = record {
        sound = record {
          moment = sound'.moment;
          buckets = sound'.buckets;
          workers = sound'.workers;
          actors = sound'.actors;
          none = sound'.none;
          replies = sound'.replies;
        };
        whole = subst (λ (q : RoundPlan). IsWhole q book) planned whole;
        shown = is;
      };
      order = tt;
    }

-- an answer that is no refusal has what an answer has
pub not_err : {A E P : Type 0} (r : Result A E) → is_err r ≡ false → OnOk r P → P
not_err (Ok x) is has = has
not_err (Err e) is has = absurd cc
