-- The places and numbers of a round are within the range of a report's fields, and only the clock is silent.
use Rattle.std.proofs.Common.{◌≡◌, ℕ, zero, suc, ◌+◌, ◌*◌, ◌<◌, ◌≤◌, ◌^◌, ◌==◌, Bool, true, false, not, cond, List, [], ◌∷◌, Some, length, map, set, slice_get, refl, sym, ap, subst, arith, length-append}
use Rattle.std.specs.List.{list_all, filter, AllByRecursion}
use Rattle.std.proofs.lemmas.Bool.{eqb-true}
use Rattle.std.proofs.lemmas.List.{length-map}
use Rattle.lvs_types.specs.declared.item.Item.{Item}
use Rattle.lvs_types.specs.declared.item.Item.TheVariants as item
use Rattle.lvs_types.specs.declared.script.Round.{Round}
use Rattle.lvs_model.specs.Plans.{items_of_lines, items_of_actor, items_of_worker, actor_of, worker_of_item, numbers_from, clock_items, plan}
use Rattle.lvs_model.specs.Progress.{Queue}
use Rattle.lvs_report.proofs.Avoids.{and_true, first_of_and, rest_of_and}
use Rattle.lvs_verdicts.proofs.Walks.{queue_at}
use Rattle.lvs_verdicts.proofs.Heads.{whole_queue, count_lists}

-- how many items are left to all actors
abbrev pub items_left : List Queue → ℕ
items_left [] = 0
items_left (q ∷ queues) = length q.items + items_left queues

-- an item of another actor than the clock
abbrev pub is_told : Item → Bool
is_told i = not (actor_of i == 0)

abbrev pub IsTold : Queue → Type 0
IsTold q = list_all is_told q.items ≡ true

-- the lists behind the first, which is the clock's
abbrev pub AreTold : List Queue → Type 0
AreTold [] = Unit {0}
AreTold (clock ∷ queues) = AllByRecursion IsTold queues

abbrev pub IsCounted : Queue → Type 0
IsCounted q = q.next + length q.items < 2 ^ 64

-- what is left of a round from a place on
pub record IsSmall (queues : List Queue) (place : ℕ) : Type 0 where
  pub places : place + items_left queues < 2 ^ 64
  pub actors : length queues < 2 ^ 32
  pub numbers : AllByRecursion IsCounted queues
  pub told : AreTold queues

-- ONE ITEM LESS

count_set : (queues : List Queue) (i : ℕ) (new : Queue) → length (set queues i new) ≡ length queues
count_set [] i new = refl
count_set (q ∷ queues) zero new = refl
count_set (q ∷ queues) (suc i) new = omega (arith, count_set queues i new)

all_set : (P : Queue → Type 0) (queues : List Queue) (i : ℕ) (old new : Queue) → slice_get queues i ≡ Some old → (P old → P new) → AllByRecursion P queues → AllByRecursion P (set queues i new)
all_set P [] i old new is step all = all
all_set P (q ∷ queues) zero old new is step all = let same : q ≡ old = cc in (step (subst P same all.0), all.1)
all_set P (q ∷ queues) (suc i) old new is step all = (all.0, all_set P queues i old new is step all.1)

pub all_get : (P : Queue → Type 0) (queues : List Queue) (i : ℕ) (q : Queue) → slice_get queues i ≡ Some q → AllByRecursion P queues → P q
all_get P [] i q is all = absurd cc
all_get P (own ∷ queues) zero q is all = let same : own ≡ q = cc in subst P same all.0
all_get P (own ∷ queues) (suc i) q is all = all_get P queues i q is all.1

left_set : (queues : List Queue) (i next : ℕ) (first : Item) (items : List Item) → slice_get queues i ≡ Some (queue_at next (first ∷ items)) → items_left (set queues i (queue_at (next + 1) items)) + 1 ≡ items_left queues
left_set [] i next first items is = absurd cc
left_set (q ∷ queues) zero next first items is =
    let same : q ≡ queue_at next (first ∷ items) = cc in
    let count : length q.items ≡ length (first ∷ items) = ap (λ (own : Queue). length own.items) same in
    omega (arith, count)
left_set (q ∷ queues) (suc i) next first items is = omega (arith, left_set queues i next first items is)

told_set : (queues : List Queue) (i next : ℕ) (first : Item) (items : List Item) → slice_get queues i ≡ Some (queue_at next (first ∷ items)) → AreTold queues → AreTold (set queues i (queue_at (next + 1) items))
told_set [] i next first items is told = told
told_set (q ∷ queues) zero next first items is told = told
told_set (q ∷ queues) (suc i) next first items is told = all_set IsTold queues i (queue_at next (first ∷ items)) (queue_at (next + 1) items) is (λ all. rest_of_and _ _ all) told

pub small_next : (queues : List Queue) (place i next : ℕ) (first : Item) (items : List Item) → slice_get queues i ≡ Some (queue_at next (first ∷ items)) → IsSmall queues place → IsSmall (set queues i (queue_at (next + 1) items)) (place + 1)
small_next queues place i next first items is small = record {
  places = omega (arith, small.places, left_set queues i next first items is);
  actors = omega (arith, small.actors, count_set queues i (queue_at (next + 1) items));
  numbers = all_set IsCounted queues i (queue_at next (first ∷ items)) (queue_at (next + 1) items) is (λ few. omega (arith, few)) small.numbers;
  told = told_set queues i next first items is small.told;
}

-- a list that has an item left
some_left : (queues : List Queue) (i next : ℕ) (first : Item) (items : List Item) → slice_get queues i ≡ Some (queue_at next (first ∷ items)) → (0 < items_left queues) × (i < length queues)
some_left [] i next first items is = absurd cc
some_left (q ∷ queues) zero next first items is =
    let same : q ≡ queue_at next (first ∷ items) = cc in
    let count : length q.items ≡ length (first ∷ items) = ap (λ (own : Queue). length own.items) same in
    (omega (arith, count), omega arith)
some_left (q ∷ queues) (suc i) next first items is = let later = some_left queues i next first items is in (omega (arith, later.0), omega (arith, later.1))

pub record IsInRange (place actor number : ℕ) : Type 0 where
  pub small_place : place < 2 ^ 64
  pub small_actor : actor < 2 ^ 32
  pub small_number : number < 2 ^ 64

pub in_range : (queues : List Queue) (place i next : ℕ) (first : Item) (items : List Item) → slice_get queues i ≡ Some (queue_at next (first ∷ items)) → IsSmall queues place → IsInRange place i next
in_range queues place i next first items is small =
    let some = some_left queues i next first items is in
    let counted = all_get IsCounted queues i (queue_at next (first ∷ items)) is small.numbers in
    record {
      small_place = omega (arith, small.places);
      small_actor = omega (arith, small.actors, some.1);
      small_number = omega (arith, counted);
    }

-- only the clock has items without a line
pub told_by : (queues : List Queue) (i next : ℕ) (first : Item) (items : List Item) → slice_get queues (suc i) ≡ Some (queue_at next (first ∷ items)) → AreTold queues → is_told first ≡ true
told_by [] i next first items is told = absurd cc
told_by (q ∷ queues) i next first items is told = first_of_and _ _ (all_get IsTold queues i (queue_at next (first ∷ items)) is told)

-- THE LISTS OF A PLAN

fewer_kept : (b : Bool) (x : Item) (xs ys : List Item) → length ys ≤ length xs → length (cond b (x ∷ ys) ys) ≤ length (x ∷ xs)
fewer_kept true x xs ys few = omega arith
fewer_kept false x xs ys few = omega arith

fewer : (p : Item → Bool) (xs : List Item) → length (filter p xs) ≤ length xs
fewer p [] = omega arith
fewer p (x ∷ xs) = fewer_kept (p x) x xs (filter p xs) (fewer p xs)

count_sweeps : (first count : ℕ) → length (map item.Sweep (numbers_from first count)) ≡ count
count_sweeps first zero = refl
count_sweeps first (suc count) = omega (arith, count_sweeps (first + 1) count)

times : ℕ → ℕ → ℕ
times zero n = 0
times (suc m) n = n + times m n

few_packets : (m count first workers : ℕ) (packets : List Item) → count ≤ m → items_left (map whole_queue (map (λ (worker : ℕ). items_of_worker workers worker packets) (numbers_from first count))) ≤ times m (length packets)
unfolding times
few_packets m zero first workers packets few = omega arith
few_packets zero (suc count) first workers packets few = absurd (omega arith)
few_packets (suc m) (suc count) first workers packets few =
    omega (arith, few_packets m count (first + 1) workers packets (omega arith), fewer (λ (i : Item). worker_of_item workers i == first) packets)

few_sixteen : (n : ℕ) → times 16 n ≡ 16 * n
unfolding times
few_sixteen n = omega arith

few_left : (round : Round) (workers buckets : ℕ) → workers ≤ 16 → buckets ≤ 256 → items_left (map whole_queue (plan round workers buckets).lists) ≤ 18 * length (items_of_lines round) + 258
few_left round workers buckets few_workers few_buckets =
    let items = items_of_lines round in
    let of_actor : (actor : ℕ) → length (items_of_actor actor items) ≤ length items = λ actor. fewer (λ (i : Item). actor_of i == actor) items in
    let clock : length (clock_items buckets) ≡ buckets + 2 = omega (arith, length-append (map item.Sweep (numbers_from 0 buckets)) (item.Reap ∷ item.SendSync ∷ []), count_sweeps 0 buckets) in
    omega (arith, clock, of_actor 1, of_actor 2, of_actor 3, few_packets 16 workers 0 workers (items_of_actor 3 items) few_workers, few_sixteen (length (items_of_actor 3 items)))

all_counted : (lists : List (List Item)) → items_left (map whole_queue lists) < 2 ^ 64 → AllByRecursion IsCounted (map whole_queue lists)
all_counted [] few = tt
all_counted (items ∷ lists) few = (omega arith, all_counted lists (omega arith))

told_kept : (b : Bool) (x : Item) (ys : List Item) → (b ≡ true → is_told x ≡ true) → list_all is_told ys ≡ true → list_all is_told (cond b (x ∷ ys) ys) ≡ true
told_kept true x ys own later = and_true _ _ (own refl) later
told_kept false x ys own later = later

told_of_actor : (actor : ℕ) (items : List Item) → not (actor == 0) ≡ true → list_all is_told (items_of_actor actor items) ≡ true
told_of_actor actor [] other = refl
told_of_actor actor (x ∷ items) other =
    told_kept (actor_of x == actor) x (items_of_actor actor items) (λ is. subst (λ (n : ℕ). not (n == 0) ≡ true) (sym (eqb-true (actor_of x) actor is)) other) (told_of_actor actor items other)

told_filter : (p : Item → Bool) (items : List Item) → list_all is_told items ≡ true → list_all is_told (filter p items) ≡ true
told_filter p [] all = refl
told_filter p (x ∷ items) all = told_kept (p x) x (filter p items) (λ is. first_of_and _ _ all) (told_filter p items (rest_of_and _ _ all))

told_workers : (workers : ℕ) (packets : List Item) (numbers : List ℕ) → list_all is_told packets ≡ true → AllByRecursion IsTold (map whole_queue (map (λ (worker : ℕ). items_of_worker workers worker packets) numbers))
told_workers workers packets [] all = tt
told_workers workers packets (n ∷ numbers) all = (told_filter (λ (i : Item). worker_of_item workers i == n) packets all, told_workers workers packets numbers all)

pub planned_small : (round : Round) (workers buckets : ℕ) → workers ≤ 16 → buckets ≤ 256 → length (items_of_lines round) ≤ 1048576 → IsSmall (map whole_queue (plan round workers buckets).lists) 0
planned_small round workers buckets few_workers few_buckets few =
    let lists = (plan round workers buckets).lists in
    let items = items_of_lines round in
    let left = few_left round workers buckets few_workers few_buckets in
    record {
      places = omega (arith, left);
      actors = omega (arith, length-map lists whole_queue, count_lists round workers buckets);
      numbers = all_counted lists (omega (arith, left));
      told = (told_of_actor 1 items refl, (told_of_actor 2 items refl, told_workers workers (items_of_actor 3 items) (numbers_from 0 workers) (told_of_actor 3 items refl)));
    }
