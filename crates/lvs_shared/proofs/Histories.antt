-- One act more.
use Rattle.std.proofs.Common.{◌≡◌, ◌≢◌, ℕ, suc, ◌+◌, ◌<◌, List, [], ◌∷◌, ◌++◌, map, length, drop, refl, sym, ap, ◌∙◌, subst, arith, cond, eqb, ne_eqb, Option, Some, None}
use mathlib.Core.Bool.{Bool, true, false}
use mathlib.Core.Logic.{dite}
use native.Mathlib.Decide.{ℕ_discrete}
use Rattle.lvs_book.specs.Lanes.{stands}
use Rattle.lvs_types.specs.declared.entry.Entry.{Entry}
use Rattle.lvs_types.specs.declared.item.Item.{Item}
use Rattle.lvs_types.specs.declared.reply.Reply.{Reply}
use Rattle.lvs_types.specs.declared.bucket.Change.{Change}
use Rattle.lvs_types.specs.declared.book.Noted.{Noted}
use Rattle.lvs_model.specs.State.{State}
use Rattle.lvs_model.specs.Step.{step, run}
use Rattle.lvs_model.specs.Books.{AreFrom}
use Rattle.lvs_model.specs.Buckets.{home, entries_of, changed_by, Carries, CarriesAt, CarriesIn}
use Rattle.lvs_model.specs.Counted.{IsCounted}
use Rattle.std.specs.List.Sorted.{IsStrictlyIncreasing}
use Rattle.lvs_model.specs.WellFormed.{IsWellFormed, entry_ids}
use Rattle.lvs_model.proofs.CountedLemmas.{counted_step}
use Rattle.lvs_well_formed.proofs.Parts.{parts_of}
use Rattle.lvs_well_formed.proofs.Steps.{step_well_formed}
use Rattle.lvs_well_formed.proofs.BucketSteps.{step_base, others_stay, rising_step}
use Rattle.lvs_shared.specs.declared.origin.Act.{Act}
use Rattle.lvs_shared.specs.declared.origin.Opened.{Opened}
use Rattle.lvs_shared.specs.Openings.{begun, list_of, IsTimeless}
use Rattle.lvs_shared.specs.Acts.{notes_of, items_of, replies_of, changes_of, lane_acts, lanes_at, lanes_of, act_of, acts_of, left, changed, made}
use Rattle.lvs_shared.specs.Played.{HaveLanes, Kept}
use Rattle.lvs_shared.proofs.Timeless.{timeless_moment, timeless_range}

module _ {A B : Type 0} where
  pub map_snoc : (f : A → B) (l : List A) (a : A) → map f (l ++ a ∷ []) ≡ map f l ++ f a ∷ []
  map_snoc f [] a = refl
  map_snoc f (x ∷ xs) a = ap (λ (z : List B). f x ∷ z) (map_snoc f xs a)

module _ {A : Type 0} where
  pub length_snoc : (l : List A) (a : A) → length (l ++ a ∷ []) ≡ length l + 1
  length_snoc [] a = refl
  length_snoc (x ∷ xs) a = omega (arith, length_snoc xs a)

-- THE ACTS OF THE BOOK

pub acts_snoc : (n : ℕ) (xs : List Noted) (cs : List Change) (x : Noted) (c : Change) → length cs ≡ length xs → acts_of n (xs ++ x ∷ []) (cs ++ c ∷ []) ≡ acts_of n xs cs ++ act_of n x c ∷ []
acts_snoc n [] [] x c e = refl
acts_snoc n [] (d ∷ ds) x c e = absurd (omega (arith, e))
acts_snoc n (y ∷ ys) [] x c e = absurd (omega (arith, e))
acts_snoc n (y ∷ ys) (d ∷ ds) x c e = ap (λ (z : List Act). act_of n y d ∷ z) (acts_snoc n ys ds x c (omega (arith, e)))

pub acts_length : (n : ℕ) (xs : List Noted) (cs : List Change) → length cs ≡ length xs → length (acts_of n xs cs) ≡ length xs
acts_length n [] cs e = refl
acts_length n (y ∷ ys) [] e = absurd (omega (arith, e))
acts_length n (y ∷ ys) (d ∷ ds) e = ap suc (acts_length n ys ds (omega (arith, e)))

pub acts_noted : (n : ℕ) (xs : List Noted) (cs : List Change) → length cs ≡ length xs → notes_of (acts_of n xs cs) ≡ xs
acts_noted n [] cs e = refl
acts_noted n (y ∷ ys) [] e = absurd (omega (arith, e))
acts_noted n (y ∷ ys) (d ∷ ds) e = ap (λ (z : List Noted). y ∷ z) (acts_noted n ys ds (omega (arith, e)))

-- THE RUN

run_state : (s : State) (is : List Item) (i : Item) → (run s (is ++ i ∷ [])).1 ≡ (step (run s is).1 i).1
run_state s [] i = refl
run_state s (j ∷ js) i = run_state (step s j).1 js i

run_replies : (s : State) (is : List Item) (i : Item) → (run s (is ++ i ∷ [])).0 ≡ (run s is).0 ++ (step (run s is).1 i).0 ∷ []
run_replies s [] i = refl
run_replies s (j ∷ js) i = ap (λ (z : List Reply). (step s j).0 ∷ z) (run_replies (step s j).1 js i)

pub left_snoc : (o : Opened) (h : List Act) (a : Act) → left o (h ++ a ∷ []) ≡ (step (left o h) a.noted.item).1
left_snoc o h a = ap (λ (z : List Item). (run (begun o) z).1) (map_snoc (λ (x : Act). x.noted.item) h a) ∙ run_state (begun o) (items_of h) a.noted.item

replies_snoc : (o : Opened) (h : List Act) (a : Act) → (run (begun o) (items_of h)).0 ≡ replies_of h → a.noted.reply ≡ (step (left o h) a.noted.item).0 → (run (begun o) (items_of (h ++ a ∷ []))).0 ≡ replies_of (h ++ a ∷ [])
replies_snoc o h a was reply =
    ap (λ (z : List Item). (run (begun o) z).0) (map_snoc (λ (x : Act). x.noted.item) h a)
    ∙ run_replies (begun o) (items_of h) a.noted.item
    ∙ ap (λ (z : List Reply). z ++ (step (left o h) a.noted.item).0 ∷ []) was
    ∙ ap (λ (z : Reply). replies_of h ++ z ∷ []) (sym reply)
    ∙ sym (map_snoc (λ (x : Act). x.noted.reply) h a)

-- LANES

pub lane_more : (k : ℕ) (h : List Act) (a : Act) → stands k a.lanes ≡ true → lane_acts k (h ++ a ∷ []) ≡ lane_acts k h ++ a ∷ []
lane_more k [] a e = ap (λ (c : Bool). cond c (a ∷ []) []) e
lane_more k (x ∷ xs) a e = keep (lane_more k xs a e) (stands k x.lanes)
  where
    keep : lane_acts k (xs ++ a ∷ []) ≡ lane_acts k xs ++ a ∷ [] → (c : Bool) → cond c (x ∷ lane_acts k (xs ++ a ∷ [])) (lane_acts k (xs ++ a ∷ [])) ≡ cond c (x ∷ lane_acts k xs) (lane_acts k xs) ++ a ∷ []
    keep more true = ap (λ (z : List Act). x ∷ z) more
    keep more false = more

pub lane_same : (k : ℕ) (h : List Act) (a : Act) → stands k a.lanes ≡ false → lane_acts k (h ++ a ∷ []) ≡ lane_acts k h
lane_same k [] a e = ap (λ (c : Bool). cond c (a ∷ []) []) e
lane_same k (x ∷ xs) a e = ap (λ (z : List Act). cond (stands k x.lanes) (x ∷ z) z) (lane_same k xs a e)

-- the bucket of an item is one of these
abbrev pub IsBelow : Option ℕ → ℕ → Type 0
IsBelow None n = Unit {0}
IsBelow (Some b) n = b < n

-- it isn't this bucket
abbrev pub IsOther : Option ℕ → ℕ → Type 0
IsOther None b = Unit {0}
IsOther (Some x) b = eqb x b ≡ false

-- the lane of the same actor, of another one, of the same bucket, and of another one
pub own_stands : (n k j : ℕ) (m : Option ℕ) → k ≡ j → stands (n + j) (lanes_at n k m) ≡ true
own_stands n k j None e = grind arith
own_stands n k j (Some b) e = grind arith

pub own_other : (n k j : ℕ) (m : Option ℕ) → IsBelow m n → eqb k j ≡ false → stands (n + j) (lanes_at n k m) ≡ false
own_other n k j None at e = grind arith
own_other n k j (Some b) at e = grind arith

pub home_stands : (n k b : ℕ) → stands b (lanes_at n k (Some b)) ≡ true
home_stands n k b = grind arith

pub home_other : (n k b : ℕ) (m : Option ℕ) → b < n → IsOther m b → stands b (lanes_at n k m) ≡ false
home_other n k b None below o = grind arith
home_other n k b (Some x) below o = grind arith

-- WHAT CHANGES MAKE

changed_snoc : (cs : List Change) (c : Change) (es : List Entry) → changed (cs ++ c ∷ []) es ≡ changed_by c (changed cs es)
changed_snoc [] c es = refl
changed_snoc (d ∷ ds) c es = changed_snoc ds c (changed_by d es)

pub made_snoc : (b : ℕ) (o : Opened) (h : List Act) (a : Act) → made b o (h ++ a ∷ []) ≡ changed_by a.change (made b o h)
made_snoc b o h a = ap (λ (z : List Change). changed z (entries_of b (begun o))) (map_snoc (λ (x : Act). x.change) h a) ∙ changed_snoc (changes_of h) a.change (entries_of b (begun o))

-- THE ITEMS OF AN ACTOR

from_snoc : (n : ℕ) (l : List Item) (h : List Noted) (a : Noted) (rest : List Item) → AreFrom n l h → a.number ≡ n + length h → drop (length h) l ≡ a.item ∷ rest → AreFrom n l (h ++ a ∷ [])
from_snoc n [] [] a rest all nr d = absurd (cc)
from_snoc n (i ∷ is) [] a rest all nr d = (omega (arith, nr), grind (arith, d), tt)
from_snoc n [] (x ∷ xs) a rest all nr d = absurd all
from_snoc n (i ∷ is) (x ∷ xs) a rest all nr d = (all.0, all.1, from_snoc (n + 1) is xs a rest all.2 (omega (arith, nr)) (grind (arith, d)))

pub notes_length : (h : List Act) → length (notes_of h) ≡ length h
notes_length [] = refl
notes_length (a ∷ h) = ap suc (notes_length h)

pub lanes_snoc : (n m : ℕ) (h : List Act) (a : Act) → HaveLanes n m h → a.lanes ≡ lanes_of n a.noted.actor a.noted.item → a.noted.actor < m → IsTimeless a.noted.item → HaveLanes n m (h ++ a ∷ [])
lanes_snoc n m [] a all lanes who timeless = (lanes, who, timeless, tt)
lanes_snoc n m (x ∷ xs) a all lanes who timeless = (all.0, all.1, all.2, lanes_snoc n m xs a all.3 lanes who timeless)

-- ONE ACT MORE OF A ROUND

abbrev IsRising : State → Type 0
IsRising s = IsStrictlyIncreasing (entry_ids s.entries)

-- the act is the next one of its actor's list, and its answer and its change are the definition's
pub record IsMore (o : Opened) (h : List Act) (a : Act) : Type 0 where
  pub reply : a.noted.reply ≡ (step (left o h) a.noted.item).0
  pub carries : Carries (left o h) a.noted.item a.change
  pub lanes : a.lanes ≡ lanes_of (begun o).buckets a.noted.actor a.noted.item
  pub actor : a.noted.actor < length o.plan.lists
  pub timeless : IsTimeless a.noted.item
  pub below : IsBelow (home (begun o).buckets a.noted.item) (begun o).buckets
  pub number : a.noted.number ≡ length (lane_acts ((begun o).buckets + a.noted.actor) h)
  pub rest : List Item
  pub next : drop a.noted.number (list_of o a.noted.actor) ≡ a.noted.item ∷ rest

abbrev number_or_0 : Option ℕ → ℕ
number_or_0 None = 0
number_or_0 (Some n) = n

other_is : (m : Option ℕ) (b : ℕ) → IsOther m b → m ≢ Some b
other_is None b other is = absurd (cc)
other_is (Some x) b other is = absurd (grind (arith, other, ap number_or_0 is))

module _ (o : Opened) (h : List Act) (a : Act) (kept : Kept o h) (more : IsMore o h a) where
  -- the entries of a bucket that the act isn't of, and of its own
  homes_stay : (b : ℕ) → IsOther (home (begun o).buckets a.noted.item) b → b < (begun o).buckets → entries_of b (left o (h ++ a ∷ [])) ≡ made b o (lane_acts b (h ++ a ∷ []))
  homes_stay b other below =
      ap (entries_of b) (left_snoc o h a)
      ∙ others_stay (left o h) a.noted.item b kept.well_formed kept.counted.numbers.buckets (subst (λ (n : ℕ). home n a.noted.item ≢ Some b) (sym kept.buckets) (other_is (home (begun o).buckets a.noted.item) b other))
      ∙ kept.homes b below
      ∙ sym (ap (made b o) (lane_same b h a (ap (stands b) more.lanes ∙ home_other (begun o).buckets a.noted.actor b (home (begun o).buckets a.noted.item) below other)))

  homes_grow : (b : ℕ) → home (begun o).buckets a.noted.item ≡ Some b → b < (begun o).buckets → entries_of b (left o (h ++ a ∷ [])) ≡ made b o (lane_acts b (h ++ a ∷ []))
  homes_grow b is below =
      let carried : CarriesIn b (left o h) a.noted.item a.change = subst (λ (m : Option ℕ). CarriesAt m (left o h) a.noted.item a.change) (ap (λ (n : ℕ). home n a.noted.item) kept.buckets ∙ is) more.carries in
      ap (entries_of b) (left_snoc o h a)
      ∙ carried.carried
      ∙ ap (changed_by a.change) (kept.homes b below)
      ∙ sym (made_snoc b o (lane_acts b h) a)
      ∙ sym (ap (made b o) (lane_more b h a (ap (stands b) more.lanes ∙ ap (λ (m : Option ℕ). stands b (lanes_at (begun o).buckets a.noted.actor m)) is ∙ home_stands (begun o).buckets a.noted.actor b)))

  homes_by : (b : ℕ) (m : Option ℕ) → home (begun o).buckets a.noted.item ≡ m → b < (begun o).buckets → entries_of b (left o (h ++ a ∷ [])) ≡ made b o (lane_acts b (h ++ a ∷ []))
  homes_by b None is below = homes_stay b (subst (λ (m : Option ℕ). IsOther m b) (sym is) tt) below
  homes_by b (Some x) is below = dite (ℕ_discrete x b)
      (λ same. homes_grow b (is ∙ ap Some same) below)
      (λ other. homes_stay b (subst (λ (m : Option ℕ). IsOther m b) (sym is) (ne_eqb x b other)) below)

pub planned_by : (o : Opened) (h : List Act) (a : Act) (rest : List Item) (k : ℕ) → a.lanes ≡ lanes_of (begun o).buckets a.noted.actor a.noted.item → IsBelow (home (begun o).buckets a.noted.item) (begun o).buckets → a.noted.number ≡ length (lane_acts ((begun o).buckets + a.noted.actor) h) → drop a.noted.number (list_of o a.noted.actor) ≡ a.noted.item ∷ rest → AreFrom 0 (list_of o k) (notes_of (lane_acts ((begun o).buckets + k) h)) → AreFrom 0 (list_of o k) (notes_of (lane_acts ((begun o).buckets + k) (h ++ a ∷ [])))
planned_by o h a rest k lanes below nr next was = dite (ℕ_discrete a.noted.actor k)
    (λ same.
    let n = nr ∙ ap (λ (j : ℕ). length (lane_acts ((begun o).buckets + j) h)) same in
    let l = notes_length (lane_acts ((begun o).buckets + k) h) in
    let grown = lane_more ((begun o).buckets + k) h a (ap (stands ((begun o).buckets + k)) lanes ∙ own_stands (begun o).buckets a.noted.actor k (home (begun o).buckets a.noted.item) same) in
    subst (λ (z : List Noted). AreFrom 0 (list_of o k) z) (sym (ap notes_of grown ∙ map_snoc (λ (x : Act). x.noted) (lane_acts ((begun o).buckets + k) h) a))
    (from_snoc 0 (list_of o k) (notes_of (lane_acts ((begun o).buckets + k) h)) a.noted rest was (omega (arith, n, l)) (ap (λ (j : ℕ). drop j (list_of o k)) (l ∙ sym n) ∙ ap (λ (j : ℕ). drop a.noted.number (list_of o j)) (sym same) ∙ next)))
    (λ other. subst (λ (z : List Act). AreFrom 0 (list_of o k) (notes_of z)) (sym (lane_same ((begun o).buckets + k) h a (ap (stands ((begun o).buckets + k)) lanes ∙ own_other (begun o).buckets a.noted.actor k (home (begun o).buckets a.noted.item) below (ne_eqb a.noted.actor k other)))) was)

pub kept_more : (o : Opened) (h : List Act) (a : Act) → Kept o h → IsMore o h a → Kept o (h ++ a ∷ [])
kept_more o h a kept more =
    let base = step_base (left o h) a.noted.item (parts_of (left o h) kept.well_formed) in
    let longer : o.core.steps + length h + 1 ≡ o.core.steps + length (h ++ a ∷ []) = let e = length_snoc h a in omega (arith, e) in
    record {
      replies = replies_snoc o h a kept.replies more.reply;
      buckets = ap (λ (z : State). z.buckets) (left_snoc o h a) ∙ base.1 ∙ kept.buckets;
      moment = ap (λ (z : State). z.now) (left_snoc o h a) ∙ base.0 ∙ timeless_moment (left o h).now a.noted.item more.timeless ∙ kept.moment;
      well_formed = subst IsWellFormed (sym (left_snoc o h a)) (step_well_formed (left o h) a.noted.item kept.well_formed);
      counted = subst (λ (n : ℕ). IsCounted n (left o (h ++ a ∷ []))) longer (subst (IsCounted (o.core.steps + length h + 1)) (sym (left_snoc o h a)) (counted_step (o.core.steps + length h) (left o h) a.noted.item (timeless_range a.noted.item more.timeless) kept.counted));
      rising = subst IsRising (sym (left_snoc o h a)) (rising_step (left o h) a.noted.item kept.well_formed kept.rising);
      homes = λ b below. homes_by o h a kept more b (home (begun o).buckets a.noted.item) refl below;
      planned = λ k below. planned_by o h a more.rest k more.lanes more.below more.number more.next (kept.planned k below);
      lanes = lanes_snoc (begun o).buckets (length o.plan.lists) h a kept.lanes more.lanes more.actor more.timeless;
    }
