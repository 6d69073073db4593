-- The value in the book, when one act is added.
use Rattle.std.proofs.Common.{◌≡◌, ℕ, ◌+◌, ◌<◌, ◌^◌, List, [], ◌∷◌, ◌++◌, length, refl, sym, ap, ◌∙◌, subst, arith, Option, Some, None}
use Rattle.lvs_types.specs.declared.bucket.Change.{Change}
use Rattle.lvs_types.specs.declared.bucket.Change.TheVariants as changes
use Rattle.lvs_types.specs.declared.bucket.Found.{Found}
use Rattle.lvs_types.specs.declared.book.Noted.{Noted}
use Rattle.lvs_types.specs.declared.book.Placed.{Placed}
use Rattle.lvs_model.specs.State.{State}
use Rattle.lvs_model.specs.Step.{step, IsInRange}
use Rattle.lvs_model.specs.Buckets.{home, look_in, look_at, look_up, Carries, CarriesAt, Fits}
use Rattle.lvs_model.specs.Counted.{IsCounted}
use Rattle.lvs_board.specs.Seen.{BoardSeen, noted}
use Rattle.lvs_board.specs.Stands.{StandsFor}
use Rattle.lvs_shared.specs.declared.origin.Act.{Act}
use Rattle.lvs_shared.specs.declared.origin.Opened.{Opened}
use Rattle.lvs_shared.specs.Openings.{begun, IsTimeless}
use Rattle.lvs_shared.specs.Acts.{lane_acts, act_of, acts_of, left, made}
use Rattle.lvs_shared.specs.Played.{Kept, seen_of, IsPlayed, MayPlay, found_at, FitsAt, FitsFor, Notes}
use Rattle.lvs_shared.proofs.Timeless.{planned_timeless, timeless_range}
use Rattle.lvs_shared.proofs.Below.{home_below}
use Rattle.lvs_shared.proofs.Histories.{IsBelow, IsMore, acts_snoc, acts_length, length_snoc, lanes_snoc, left_snoc, planned_by, kept_more}
use Rattle.lvs_shared.proofs.Counts.{not_longer}

module _ (o : Opened) (b : BoardSeen) (cs : List Change) (next : Placed) (f : Found) (is : IsPlayed o b cs) (asks : MayPlay (seen_of o b cs) next f) where
  abbrev h : List Act
  h = acts_of (begun o).buckets b.book cs

  is_timeless : IsTimeless next.item
  is_timeless = planned_timeless o.plan.lists next.actor next.number next.item asks.next.rest is.opened.timeless asks.next.item

  is_below : IsBelow (home (begun o).buckets next.item) (begun o).buckets
  is_below = home_below (begun o).buckets next.item is.opened.counted.numbers.buckets

  pub in_range : IsInRange next.item
  in_range = timeless_range next.item is_timeless

  -- the board isn't too old for one more
  pub is_young : b.steps < 2 ^ 62
  is_young =
      let a = act_of (begun o).buckets (noted next.actor next.number next.item (step (left o h) next.item).0) changes.Keep in
      let l = not_longer (begun o).buckets o.plan.lists (h ++ a ∷ [])
      (lanes_snoc (begun o).buckets (length o.plan.lists) h a is.kept.lanes refl asks.next.actor is_timeless)
      (λ k below. planned_by o h a asks.next.rest k refl is_below asks.next.number asks.next.item (is.kept.planned k below)) in
      let e = length_snoc h a in let m = acts_length (begun o).buckets b.book cs is.each in
      omega (arith, l, e, m, is.steps, is.opened.young)

  pub is_counted : IsCounted b.steps (left o h)
  is_counted = let m = acts_length (begun o).buckets b.book cs is.each in
      subst (λ (n : ℕ). IsCounted n (left o h)) (let e : o.core.steps + length h ≡ b.steps = omega (arith, m, is.steps) in e) is.kept.counted

  found_is : (m : Option ℕ) → IsBelow m (begun o).buckets → found_at o next.item h m ≡ look_at (left o h) next.item m
  found_is None below = refl
  found_is (Some x) below = sym (ap (look_in (left o h).now next.item) (is.kept.homes x below) ∙ ap (λ (now : ℕ). look_in now next.item (made x o (lane_acts x h))) is.kept.moment)

  -- what was found is what the item finds in the state that is left
  pub is_found : f ≡ look_up (left o h) next.item
  is_found = asks.found ∙ found_is (home (begun o).buckets next.item) is_below ∙ ap (λ (n : ℕ). look_at (left o h) next.item (home n next.item)) (sym is.kept.buckets)

  -- the state that the board takes the item in
  module _ (w : State) (whole : w ≡ left o h) where
    pub counted_at : IsCounted b.steps w
    counted_at = subst (IsCounted b.steps) (sym whole) is_counted

    pub found_in : f ≡ look_up w next.item
    found_in = is_found ∙ ap (λ (s : State). look_up s next.item) (sym whole)

  module _ (w : State) (whole : w ≡ left o h) (b' : BoardSeen) (cs' : List Change) (c : Change) (stands_in : StandsFor b' (step w next.item).1) (book_in : b'.book ≡ b.book ++ noted next.actor next.number next.item (step w next.item).0 ∷ []) (carries_in : Carries w next.item c) (steps : b'.steps ≡ b.steps + 1) (pushed : cs' ≡ cs ++ c ∷ []) where
    stands : StandsFor b' (step (left o h) next.item).1
    stands = subst (λ (s : State). StandsFor b' (step s next.item).1) whole stands_in

    book : b'.book ≡ b.book ++ noted next.actor next.number next.item (step (left o h) next.item).0 ∷ []
    book = book_in ∙ ap (λ (s : State). b.book ++ noted next.actor next.number next.item (step s next.item).0 ∷ []) whole

    carries : Carries (left o h) next.item c
    carries = subst (λ (s : State). Carries s next.item c) whole carries_in

    abbrev new : Act
    new = act_of (begun o).buckets (noted next.actor next.number next.item (step (left o h) next.item).0) c

    added : acts_of (begun o).buckets b'.book cs' ≡ h ++ new ∷ []
    added = ap (λ (z : List Noted). acts_of (begun o).buckets z cs') book
        ∙ ap (λ (z : List Change). acts_of (begun o).buckets (b.book ++ new.noted ∷ []) z) pushed
        ∙ acts_snoc (begun o).buckets b.book cs new.noted c is.each

    is_more : IsMore o h new
    is_more = record {
      reply = refl;
      carries = carries;
      lanes = refl;
      actor = asks.next.actor;
      timeless = is_timeless;
      below = is_below;
      number = asks.next.number;
      rest = asks.next.rest;
      next = asks.next.item;
    }

    pub is_played : IsPlayed o b' cs'
    is_played = record {
      opened = is.opened;
      kept = subst (Kept o) (sym added) (kept_more o h new is.kept is_more);
      stands = subst (StandsFor b') (sym (ap (left o) added ∙ left_snoc o h new)) stands;
      steps = let e = ap length book in let l = length_snoc b.book new.noted in omega (arith, steps, is.steps, e, l);
      each = let e = ap length book in let l = length_snoc b.book new.noted in let m = length_snoc cs c in let q = ap length pushed in omega (arith, is.each, e, l, m, q);
    }

    fits_at : (m : Option ℕ) → IsBelow m (begun o).buckets → CarriesAt m (left o h) next.item c → FitsAt o c h m
    fits_at None below kept = kept
    fits_at (Some x) below kept = subst (Fits c) (is.kept.homes x below) kept.fits

    pub is_added : (a : Act) × (acts_of (begun o).buckets b'.book cs' ≡ h ++ a ∷ []) × (a.change ≡ c) × Notes o next a × FitsFor o next.item c h
    is_added = (
      new,
      added,
      refl,
      (refl, refl, refl, refl),
      fits_at (home (begun o).buckets next.item) is_below (subst (λ (n : ℕ). CarriesAt (home n next.item) (left o h) next.item c) is.kept.buckets carries),
    )
