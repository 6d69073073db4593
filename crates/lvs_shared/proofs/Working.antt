-- A work may play its item, and what is then said of it.
use Rattle.std.proofs.Common.{◌≡◌, ℕ, ◌+◌, ◌<◌, List, [], ◌∷◌, refl, sym, ap, ◌∙◌, subst, arith, cond, eqb, eq-eqb, ne_eqb, Option, Some, IfSome}
use mathlib.Core.Bool.{Bool, true}
use Rattle.lvs_book.specs.Lanes.{stands}
use Rattle.lvs_book.specs.Passes.{Held}
use Rattle.lvs_types.specs.declared.bucket.Change.{Change}
use Rattle.lvs_types.specs.declared.bucket.Found.{Found}
use Rattle.lvs_types.specs.declared.bucket.Found.TheVariants as found
use Rattle.lvs_types.specs.declared.book.Placed.{Placed}
use Rattle.lvs_model.specs.Buckets.{home, look_in, Fits}
use Rattle.lvs_shared.specs.declared.origin.Act.{Act}
use Rattle.lvs_shared.specs.declared.origin.Opened.{Opened}
use Rattle.lvs_shared.specs.Openings.{begun}
use Rattle.lvs_shared.specs.Acts.{lane_acts, lanes_at, lanes_of, made}
use Rattle.lvs_shared.specs.Played.{PlayedSeen, IsNext, MayPlay, found_at, found_for, FitsAt, FitsFor, Notes}
use Rattle.lvs_shared.specs.Works.{IsOwn, IsAlone, IsPaired, IsFound, PairedSeen, PairedFirst}

here : (k : ℕ) (ks : List ℕ) → stands k (k ∷ ks) ≡ true
here k ks = grind arith

second_here : (j k : ℕ) → stands k (j ∷ k ∷ []) ≡ true
second_here j k = grind arith

-- the next act of the pass's actor, with the value's acts in place of the pass's
next_of : (p : PlayedSeen) (own : Held Opened Act) (placed : Placed) → IsOwn own placed → p.origin ≡ own.origin → lane_acts own.lane p.acts ≡ own.acts → IsNext p.origin (lane_acts ((begun p.origin).buckets + placed.actor) p.acts) placed
next_of p own placed is origin acts =
    subst (λ (q : Opened). IsNext q (lane_acts ((begun q).buckets + placed.actor) p.acts) placed) (sym origin)
    (subst (λ (l : List Act). IsNext own.origin l placed) (sym acts ∙ ap (λ (k : ℕ). lane_acts k p.acts) is.lane) is.next)

pub alone_may : (p : PlayedSeen) (own : Held Opened Act) (placed : Placed) → IsAlone own placed → p.origin ≡ own.origin → ((k : ℕ) → stands k (own.lane ∷ []) ≡ true → lane_acts k p.acts ≡ own.acts) → MayPlay p placed found.Nothing
alone_may p own placed is origin acts = record {
  next = next_of p own placed is.own origin (acts own.lane (here own.lane []));
  found = ap (found_at p.origin placed.item p.acts) (sym (ap (λ (q : Opened). home (begun q).buckets placed.item) origin ∙ is.homeless));
}

abbrev lists : PairedSeen → ℕ → List Act
lists w k = cond (eqb w.home.lane k) w.home.acts w.own.acts

home_list : (w : PairedSeen) → lists w w.home.lane ≡ w.home.acts
home_list w = ap (λ (b : Bool). cond b w.home.acts w.own.acts) (eq-eqb w.home.lane w.home.lane refl)

own_list : (w : PairedSeen) → w.home.lane < w.own.lane → lists w w.own.lane ≡ w.own.acts
own_list w apart = ap (λ (b : Bool). cond b w.home.acts w.own.acts) (ne_eqb w.home.lane w.own.lane (λ e. omega (arith, e, apart)))

module _ (p : PlayedSeen) (w : PairedSeen) (placed : Placed) (apart : w.home.lane < w.own.lane) (is : IsPaired w.own w.home placed) (origin : p.origin ≡ w.own.origin) (acts : (k : ℕ) → stands k (w.home.lane ∷ w.own.lane ∷ []) ≡ true → lane_acts k p.acts ≡ lists w k) where
  at_home : lane_acts w.home.lane p.acts ≡ w.home.acts
  at_home = acts w.home.lane (here w.home.lane (w.own.lane ∷ [])) ∙ home_list w

  pub paired_may : (f : Found) → IsFound w.own w.home placed f → MayPlay p placed f
  paired_may f found = record {
    next = next_of p w.own placed is.own origin (acts w.own.lane (second_here w.home.lane w.own.lane) ∙ own_list w apart);
    found = found
        ∙ ap (λ (l : List Act). look_in (begun w.own.origin).now placed.item (made w.home.lane w.own.origin l)) (sym at_home)
        ∙ ap (λ (m : Option ℕ). found_at w.own.origin placed.item p.acts m) (sym is.bucket)
        ∙ ap (λ (q : Opened). found_for q placed.item p.acts) (sym origin);
  }

  -- the act names just the two lanes
  pub paired_lanes : (a : Act) → Notes p.origin placed a → (k : ℕ) → stands k a.lanes ≡ stands k (w.home.lane ∷ w.own.lane ∷ [])
  paired_lanes a notes k = ap (stands k) (notes.3
      ∙ ap (λ (q : Opened). lanes_of (begun q).buckets placed.actor placed.item) origin
      ∙ ap (λ (m : Option ℕ). lanes_at (begun w.own.origin).buckets placed.actor m) is.bucket
      ∙ ap (λ (j : ℕ). w.home.lane ∷ j ∷ []) (sym is.own.lane))

  paired_fits : (c : Change) → FitsFor p.origin placed.item c p.acts → Fits c (made w.home.lane w.own.origin w.home.acts)
  paired_fits c fits =
      let at : FitsFor w.own.origin placed.item c p.acts = subst (λ (q : Opened). FitsFor q placed.item c p.acts) origin fits in
      let homed : FitsAt w.own.origin c p.acts (Some w.home.lane) = subst (FitsAt w.own.origin c p.acts) is.bucket at in
      subst (λ (l : List Act). Fits c (made w.home.lane w.own.origin l)) at_home homed

  paired_notes : (a : Act) → Notes p.origin placed a → Notes w.own.origin placed a
  paired_notes a notes = subst (λ (q : Opened). Notes q placed a) origin notes

  pub paired_first : (a : Act) (c : Change) → w.placed ≡ Some placed → Notes p.origin placed a → a.change ≡ c → FitsFor p.origin placed.item c p.acts → PairedFirst w a c
  paired_first a c there notes answered fits = record {
    notes = subst (λ (m : Option Placed). IfSome m (λ (at : Placed). Notes w.own.origin at a)) (sym there) (paired_notes a notes);
    answered = answered;
    fits = paired_fits c fits;
  }
