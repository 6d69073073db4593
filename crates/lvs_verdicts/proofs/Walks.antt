-- Acts that use up the lists of the actors, one after the other.
use Rattle.std.proofs.Common.{◌≡◌, ℕ, zero, suc, ◌+◌, Bool, true, false, cond, ◌==◌, List, [], ◌∷◌, Option, Some, None, length, set, slice_get, refl, sym, ◌∙◌, ap, subst, arith}
use Rattle.std.specs.List.{list_all}
use Rattle.std.proofs.lemmas.Bool.{eqb-true, eq-eqb}
use Rattle.std.proofs.lemmas.Bool.Decides.{nat_tests}
use Rattle.lvs_types.specs.declared.item.Item.{Item}
use Rattle.lvs_types.specs.declared.reply.Reply.{Reply}
use Rattle.lvs_types.specs.declared.book.Noted.{Noted}
use Rattle.lvs_model.specs.State.{State}
use Rattle.lvs_model.specs.Step.{step, run}
use Rattle.lvs_model.specs.Books.{AreFrom, IsRun, acts_of, items_of, replies_of}
use Rattle.lvs_model.specs.Progress.{Queue}
use Rattle.lvs_model.specs.Checking.{is_used_up}
use Rattle.lvs_report.proofs.Avoids.{and_true, first_of_and, rest_of_and}

abbrev pub queue_at : ℕ → List Item → Queue
queue_at next items = record { next = next; items = items }

-- the acts take the items of all lists, each the next one of its actor, and leave none; the replies are the director's
abbrev pub UsesUp : List Queue → State → List Noted → State → Type 0
UsesUp queues s [] left = (list_all is_used_up queues ≡ true) × (s ≡ left)
UsesUp queues s (act ∷ acts) left =
    (items : List Item) × (slice_get queues act.actor ≡ Some (queue_at act.number (act.item ∷ items))) × ((step s act.item).0 ≡ act.reply) × UsesUp (set queues act.actor (queue_at (act.number + 1) items)) (step s act.item).1 acts left

-- a list at a place

pub get_set : (queues : List Queue) (i : ℕ) (q new : Queue) → slice_get queues i ≡ Some q → slice_get (set queues i new) i ≡ Some new
get_set [] i q new is = cc
get_set (x ∷ queues) zero q new is = refl
get_set (x ∷ queues) (suc i) q new is = get_set queues i q new is

get_apart : (queues : List Queue) (i j : ℕ) (new : Queue) → (i ≡ j → ⊥) → slice_get (set queues i new) j ≡ slice_get queues j
get_apart [] i j new other = refl
get_apart (x ∷ queues) zero zero new other = absurd (other refl)
get_apart (x ∷ queues) zero (suc j) new other = refl
get_apart (x ∷ queues) (suc i) zero new other = refl
get_apart (x ∷ queues) (suc i) (suc j) new other = get_apart queues i j new (λ same. other (ap suc same))

pub get_other : (queues : List Queue) (i j : ℕ) (new : Queue) → (i == j) ≡ false → slice_get (set queues i new) j ≡ slice_get queues j
get_other queues i j new other = get_apart queues i j new (λ same. let is = eq-eqb i j same in absurd cc)

-- FROM THE ACTS IN ONE ORDER TO THE ACTS OF EACH ACTOR

-- these are all items of a list, in order, numbered from the next one on
abbrev pub AreAllOf : Queue → List Noted → Type 0
AreAllOf q acts = AreFrom q.next q.items acts × (length acts ≡ length q.items)

pub empty_by : (queues : List Queue) (i : ℕ) (q : Queue) → list_all is_used_up queues ≡ true → slice_get queues i ≡ Some q → 0 ≡ length q.items
empty_by [] i q all is = cc
empty_by (x ∷ queues) zero q all is =
    let used : is_used_up x ≡ true = first_of_and _ _ all in
    let none : 0 ≡ length x.items = grind (arith, nat_tests) in
    let same : x ≡ q = cc in
    subst (λ (y : Queue). 0 ≡ length y.items) same none
empty_by (x ∷ queues) (suc i) q all is = empty_by queues i q (rest_of_and _ _ all) is

all_by : (b : Bool) (queues : List Queue) (act : Noted) (items : List Item) (acts : List Noted) (actor : ℕ) (q : Queue) → (act.actor == actor) ≡ b → slice_get queues act.actor ≡ Some (queue_at act.number (act.item ∷ items)) → slice_get queues actor ≡ Some q
    → ((r : Queue) → slice_get (set queues act.actor (queue_at (act.number + 1) items)) actor ≡ Some r → AreAllOf r (acts_of actor acts)) → AreAllOf q (cond b (act ∷ acts_of actor acts) (acts_of actor acts))
all_by true queues act items acts actor q same at is rest =
    let new = queue_at (act.number + 1) items in
    let one : act.actor ≡ actor = eqb-true act.actor actor same in
    let here : slice_get queues actor ≡ Some (queue_at act.number (act.item ∷ items)) = subst (λ (a : ℕ). slice_get queues a ≡ Some (queue_at act.number (act.item ∷ items))) one at in
    let own : queue_at act.number (act.item ∷ items) ≡ q = cc in
    let set_there : slice_get (set queues act.actor new) actor ≡ Some new = subst (λ (a : ℕ). slice_get (set queues act.actor new) a ≡ Some new) one (get_set queues act.actor _ new at) in
    let later = rest new set_there in
    subst (λ (r : Queue). AreAllOf r (act ∷ acts_of actor acts)) own ((refl, refl, later.0), omega (arith, later.1))
all_by false queues act items acts actor q other at is rest = rest q (get_other queues act.actor actor (queue_at (act.number + 1) items) other ∙ is)

pub all_taken : (queues : List Queue) (s : State) (acts : List Noted) (left : State) → UsesUp queues s acts left → (actor : ℕ) (q : Queue) → slice_get queues actor ≡ Some q → AreAllOf q (acts_of actor acts)
all_taken queues s [] left walk actor q is = (tt, empty_by queues actor q walk.0 is)
all_taken queues s (act ∷ acts) left walk actor q is =
    all_by (act.actor == actor) queues act walk.0 acts actor q refl walk.1 is (all_taken (set queues act.actor (queue_at (act.number + 1) walk.0)) (step s act.item).1 acts left walk.3 actor)

none_by : (b : Bool) (queues : List Queue) (act : Noted) (q new : Queue) (acts : List Noted) (actor : ℕ) → (act.actor == actor) ≡ b → slice_get queues act.actor ≡ Some q → slice_get queues actor ≡ None → (slice_get (set queues act.actor new) actor ≡ None → acts_of actor acts ≡ []) → cond b (act ∷ acts_of actor acts) (acts_of actor acts) ≡ []
none_by true queues act q new acts actor same at is rest =
    let one : act.actor ≡ actor = eqb-true act.actor actor same in
    let here : slice_get queues actor ≡ Some q = subst (λ (a : ℕ). slice_get queues a ≡ Some q) one at in
    absurd cc
none_by false queues act q new acts actor other at is rest = rest (get_other queues act.actor actor new other ∙ is)

pub none_taken : (queues : List Queue) (s : State) (acts : List Noted) (left : State) → UsesUp queues s acts left → (actor : ℕ) → slice_get queues actor ≡ None → acts_of actor acts ≡ []
none_taken queues s [] left walk actor is = refl
none_taken queues s (act ∷ acts) left walk actor is =
    none_by (act.actor == actor) queues act _ (queue_at (act.number + 1) walk.0) acts actor refl walk.1 is (none_taken (set queues act.actor (queue_at (act.number + 1) walk.0)) (step s act.item).1 acts left walk.3 actor)

abbrev ran : List Reply → State → List Reply × State
ran replies s = (replies, s)

pub run_of : (queues : List Queue) (s : State) (acts : List Noted) (left : State) → UsesUp queues s acts left → IsRun s acts left
run_of queues s [] left walk = ap (ran []) walk.1
run_of queues s (act ∷ acts) left walk =
    ap (λ (r : List Reply × State). ran ((step s act.item).0 ∷ r.0) r.1) (run_of (set queues act.actor (queue_at (act.number + 1) walk.0)) (step s act.item).1 acts left walk.3)
    ∙ ap (λ (x : Reply). ran (x ∷ replies_of acts) left) walk.2

-- AND BACK

pub record AreAllTaken (queues : List Queue) (acts : List Noted) : Type 0 where
  pub each : (actor : ℕ) (q : Queue) → slice_get queues actor ≡ Some q → AreAllOf q (acts_of actor acts)
  pub none : (actor : ℕ) → slice_get queues actor ≡ None → acts_of actor acts ≡ []

used_by : (queues : List Queue) → ((actor : ℕ) (q : Queue) → slice_get queues actor ≡ Some q → 0 ≡ length q.items) → list_all is_used_up queues ≡ true
used_by [] none = refl
used_by (x ∷ queues) none =
    let empty : 0 ≡ length x.items = none 0 x refl in
    let used : is_used_up x ≡ true = grind (arith, nat_tests) in
    and_true _ _ used (used_by queues (λ actor q is. none (suc actor) q is))

own_number : (n : ℕ) → (n == n) ≡ true
own_number n = eq-eqb n n refl

-- what the act's list has left
later_each : (b : Bool) (queues : List Queue) (act : Noted) (items : List Item) (acts : List Noted) (actor : ℕ) (q : Queue) → (act.actor == actor) ≡ b → slice_get queues act.actor ≡ Some (queue_at act.number (act.item ∷ items)) → AreAllOf (queue_at (act.number + 1) items) (acts_of act.actor acts)
    → ((r : Queue) → slice_get queues actor ≡ Some r → AreAllOf r (cond b (act ∷ acts_of actor acts) (acts_of actor acts))) → slice_get (set queues act.actor (queue_at (act.number + 1) items)) actor ≡ Some q → AreAllOf q (acts_of actor acts)
later_each true queues act items acts actor q same at own each is =
    let new = queue_at (act.number + 1) items in
    let one : act.actor ≡ actor = eqb-true act.actor actor same in
    let here : slice_get (set queues act.actor new) actor ≡ Some new = subst (λ (a : ℕ). slice_get (set queues act.actor new) a ≡ Some new) one (get_set queues act.actor _ new at) in
    let is_new : new ≡ q = cc in
    subst (λ (a : ℕ). AreAllOf q (acts_of a acts)) one (subst (λ (r : Queue). AreAllOf r (acts_of act.actor acts)) is_new own)
later_each false queues act items acts actor q other at own each is = each q (sym (get_other queues act.actor actor (queue_at (act.number + 1) items) other) ∙ is)

later_none : (b : Bool) (queues : List Queue) (act : Noted) (items : List Item) (acts : List Noted) (actor : ℕ) → (act.actor == actor) ≡ b → slice_get queues act.actor ≡ Some (queue_at act.number (act.item ∷ items)) → (slice_get queues actor ≡ None → cond b (act ∷ acts_of actor acts) (acts_of actor acts) ≡ [])
    → slice_get (set queues act.actor (queue_at (act.number + 1) items)) actor ≡ None → acts_of actor acts ≡ []
later_none true queues act items acts actor same at none is =
    let new = queue_at (act.number + 1) items in
    let one : act.actor ≡ actor = eqb-true act.actor actor same in
    let here : slice_get (set queues act.actor new) actor ≡ Some new = subst (λ (a : ℕ). slice_get (set queues act.actor new) a ≡ Some new) one (get_set queues act.actor _ new at) in
    absurd cc
later_none false queues act items acts actor other at none is = none (sym (get_other queues act.actor actor (queue_at (act.number + 1) items) other) ∙ is)

abbrev with_own : Noted → List Noted → List Noted
with_own act acts = acts_of act.actor (act ∷ acts)

own_first : (act : Noted) (acts : List Noted) → with_own act acts ≡ act ∷ acts_of act.actor acts
own_first act acts = ap (λ (b : Bool). cond b (act ∷ acts_of act.actor acts) (acts_of act.actor acts)) (own_number act.actor)

-- the first act's item is the next one of its list
record IsTaken (queues : List Queue) (act : Noted) (acts : List Noted) : Type 0 where
  items : List Item
  at : slice_get queues act.actor ≡ Some (queue_at act.number (act.item ∷ items))
  own : AreAllOf (queue_at (act.number + 1) items) (acts_of act.actor acts)

taken_in : (queues : List Queue) (act : Noted) (acts : List Noted) (next : ℕ) (items : List Item) → slice_get queues act.actor ≡ Some (queue_at next items) → AreAllOf (queue_at next items) (act ∷ acts_of act.actor acts) → IsTaken queues act acts
taken_in queues act acts next [] is all = absurd all.0
taken_in queues act acts next (first ∷ items) is all = record {
  items = items;
  at =
      is
      ∙ ap (λ (n : ℕ). Some (queue_at n (first ∷ items))) (sym all.0.0)
      ∙ ap (λ (i : Item). Some (queue_at act.number (i ∷ items))) (sym all.0.1);
  own = (subst (λ (n : ℕ). AreFrom (n + 1) items (acts_of act.actor acts)) (sym all.0.0) all.0.2, omega (arith, all.1));
}

taken_at : (queues : List Queue) (act : Noted) (acts : List Noted) (o : Option Queue) → slice_get queues act.actor ≡ o → AreAllTaken queues (act ∷ acts) → IsTaken queues act acts
taken_at queues act acts None is all = let empty = sym (own_first act acts) ∙ all.none act.actor is in absurd cc
taken_at queues act acts (Some q) is all =
    taken_in queues act acts q.next q.items is (subst (λ (own : List Noted). AreAllOf q own) (own_first act acts) (all.each act.actor q is))

later_taken : (queues : List Queue) (act : Noted) (acts : List Noted) (t : IsTaken queues act acts) → AreAllTaken queues (act ∷ acts) → AreAllTaken (set queues act.actor (queue_at (act.number + 1) t.items)) acts
later_taken queues act acts t all = record {
  each = λ actor q is. later_each (act.actor == actor) queues act t.items acts actor q refl t.at t.own (all.each actor) is;
  none = λ actor is. later_none (act.actor == actor) queues act t.items acts actor refl t.at (all.none actor) is;
}

first_reply : (x y : Reply) (xs ys : List Reply) (s t : State) → ran (x ∷ xs) s ≡ ran (y ∷ ys) t → (x ≡ y) × (ran xs s ≡ ran ys t)
first_reply x y xs ys s t is =
    let replies : x ∷ xs ≡ y ∷ ys = ap (λ (r : List Reply × State). r.0) is in
    let rest : xs ≡ ys = cc in
    let state : s ≡ t = ap (λ (r : List Reply × State). r.1) is in
    (cc, ap (λ (l : List Reply). ran l s) rest ∙ ap (ran ys) state)

pub walk_of : (queues : List Queue) (acts : List Noted) (s left : State) → AreAllTaken queues acts → IsRun s acts left → UsesUp queues s acts left
walk_of queues [] s left all replies = (used_by queues (λ actor q is. (all.each actor q is).1), ap (λ (r : List Reply × State). r.1) replies)
walk_of queues (act ∷ acts) s left all replies =
    let t = taken_at queues act acts (slice_get queues act.actor) refl all in
    let later = run (step s act.item).1 (items_of acts) in
    let both = first_reply (step s act.item).0 act.reply later.0 (replies_of acts) later.1 left replies in
    (t.items, t.at, both.0, walk_of (set queues act.actor (queue_at (act.number + 1) t.items)) acts (step s act.item).1 left (later_taken queues act acts t all) both.1)

-- without a list there is no act
pub nothing_taken : (s : State) (acts : List Noted) (left : State) → UsesUp [] s acts left → (acts ≡ []) × (s ≡ left)
nothing_taken s [] left walk = (refl, walk.1)
nothing_taken s (act ∷ acts) left walk = let at = walk.1 in absurd cc
