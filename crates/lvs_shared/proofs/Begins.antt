-- The value of a book that is opened.
use Rattle.std.proofs.Common.{◌≡◌, ℕ, ◌+◌, ◌<◌, ◌≤◌, ◌^◌, List, [], length, refl, sym, ap, ◌∙◌, subst, arith}
use Rattle.lvs_book.specs.Passes.{Held, BookIs}
use Rattle.lvs_book.specs.Passes as passes
use Rattle.lvs_types.specs.declared.item.Item.{Item}
use Rattle.lvs_types.specs.declared.book.RoundPlan.{RoundPlan}
use Rattle.lvs_types.specs.declared.book.Noted.{Noted}
use Rattle.lvs_model.specs.State.{State}
use Rattle.lvs_model.specs.Counted.{IsCounted}
use Rattle.lvs_board.specs.Seen.{BoardSeen}
use Rattle.lvs_board.specs.Stands.{StandsFor}
use Rattle.lvs_bucket.specs.Seen.{BucketSeen}
use Rattle.lvs_core.specs.Agree.{Agree, AreBuckets}
use Rattle.lvs_core.specs.Seen.{CoreSeen}
use Rattle.lvs_shared.specs.declared.origin.Act.{Act}
use Rattle.lvs_shared.specs.declared.origin.Opened.{Opened}
use Rattle.lvs_shared.specs.Openings.{begun, count_items, AreTimeless, IsOpened}
use Rattle.lvs_shared.specs.Acts.{acts_of, left, notes_of}
use Rattle.lvs_shared.specs.Played.{Kept, PlayedSeen, IsPlayed, IsLeft}
use Rattle.lvs_shared.specs.Rounds.{IsOpening}

-- no acts
pub kept_none : (o : Opened) → IsOpened o → Kept o []
kept_none o opened = record {
  replies = refl;
  buckets = refl;
  moment = refl;
  well_formed = opened.well_formed;
  counted = subst (λ (n : ℕ). IsCounted n (begun o)) (let e : o.core.steps ≡ o.core.steps + 0 = omega arith in e) opened.counted;
  rising = opened.rising;
  homes = λ b below. refl;
  planned = λ k below. tt;
  lanes = tt;
}

pub played_none : (o : Opened) (b : BoardSeen) → IsOpened o → StandsFor b (begun o) → b.book ≡ [] → b.steps ≡ o.core.steps → IsPlayed o b []
played_none o b opened stands book steps = record {
  opened = opened;
  kept = subst (λ (l : List Noted). Kept o (acts_of (begun o).buckets l [])) (sym book) (kept_none o opened);
  stands = subst (λ (l : List Noted). StandsFor b (left o (acts_of (begun o).buckets l []))) (sym book) stands;
  steps = let e = ap length book in omega (arith, steps, e);
  each = sym (ap length book);
}

-- A CORE THAT WAS TAKEN APART

core_same : (a b : CoreSeen) → a.state ≡ b.state → a.steps ≡ b.steps → a ≡ b
core_same a b state steps = ap (λ (s : State). record { state = s; steps = a.steps }) state ∙ ap (λ (n : ℕ). record { state = b.state; steps = n }) steps

module _ (core : CoreSeen) (plan : RoundPlan) (b : BoardSeen) (parts : List BucketSeen) (agree : Agree b parts core.state) (steps : b.steps ≡ core.steps) where
  abbrev pub o : Opened
  o = record { core = core; plan = plan }

  pub is_opened : core.state.now ≡ plan.moment → core.state.buckets ≡ plan.buckets → AreTimeless plan.lists → 4 ≤ length plan.lists → length plan.lists ≤ 65536 → core.steps + count_items plan.lists < 2 ^ 62 → IsOpened o
  is_opened moment buckets timeless least many young = record {
    moment = moment;
    buckets = buckets;
    timeless = timeless;
    some = least;
    many = many;
    young = young;
    few = agree.few;
    well_formed = agree.well_formed;
    counted = subst (λ (n : ℕ). IsCounted n core.state) steps agree.counted;
    rising = agree.rising;
  }

  -- a book over them, with its passes
  pub is_opening : (book : BookIs Opened) (dealt : List (Held Opened Act)) (items : List (List Item)) (n : ℕ) → IsOpened o → n ≡ length parts + length plan.lists → book.lanes ≡ n → book.origin ≡ o → dealt ≡ passes.opened book.id o 0 n → items ≡ plan.lists → IsOpening book plan.moment dealt parts items
  is_opening book dealt items n opened count lanes origin dealt_is items_are =
      let all : n ≡ (begun book.origin).buckets + length book.origin.plan.lists = let e = ap (λ (q : Opened). (begun q).buckets) origin in let f = ap (λ (q : Opened). length q.plan.lists) origin in omega (arith, count, agree.whole, e, f) in
      record {
        opened = subst IsOpened (sym origin) opened;
        moment = sym opened.moment ∙ ap (λ (q : Opened). (begun q).now) (sym origin);
        lanes = lanes ∙ all;
        passes = dealt_is ∙ ap (λ (q : Opened). passes.opened book.id q 0 n) (sym origin) ∙ ap (passes.opened book.id book.origin 0) all;
        count = agree.whole ∙ ap (λ (q : Opened). (begun q).buckets) (sym origin);
        buckets = subst (λ (q : Opened). AreBuckets (begun q) 0 parts) (sym origin) agree.each;
        lists = items_are ∙ ap (λ (q : Opened). q.plan.lists) (sym origin);
      }

  -- what comes out of a book that wasn't opened
  pub agree_again : (p : PlayedSeen) (again : BoardSeen) → p.origin ≡ o → p.acts ≡ [] → IsLeft p again → Agree again parts core.state
  agree_again p again origin none is =
      let book : again.book ≡ [] = sym is.book ∙ ap notes_of none in record {
        book = book;
        stands = subst (λ (h : List Act). StandsFor again (left o h)) none (subst (λ (q : Opened). StandsFor again (left q p.acts)) origin is.stands);
        well_formed = agree.well_formed;
        counted = subst (λ (n : ℕ). IsCounted n core.state) (let e = ap (λ (q : Opened). q.core.steps) origin in let f = ap length book in let g : b.steps ≡ again.steps = omega (arith, steps, is.steps, e, f) in g) agree.counted;
        rising = agree.rising;
        whole = agree.whole;
        few = agree.few;
        each = agree.each;
      }

  pub core_again : (again : CoreSeen) (p : PlayedSeen) (left_board : BoardSeen) → p.origin ≡ o → p.acts ≡ [] → IsLeft p left_board → again.state ≡ core.state → again.steps ≡ left_board.steps → again ≡ core
  core_again again p left_board origin none is state count =
      core_same again core state (let e = ap (λ (q : Opened). q.core.steps) origin in let f = ap length (sym is.book ∙ ap notes_of none) in omega (arith, count, is.steps, e, f))
