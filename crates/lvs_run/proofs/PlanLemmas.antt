-- A plan has no tick, few lists and few items.
use Rattle.std.proofs.Common.{◌≡◌, ℕ, zero, suc, ◌+◌, ◌*◌, ◌≤◌, Bool, true, false, cond, List, [], ◌∷◌, ◌==◌, ◌-◌, Result, Ok, Err, length, map, refl, subst, length-append, arith}
use Rattle.std.specs.List.{filter, flat_map, AllByRecursion}
use Rattle.std.proofs.lemmas.List.{length-map}
use Rattle.lvs_types.specs.declared.item.Item.{Item}
use Rattle.lvs_types.specs.declared.item.Item.TheVariants as item
use Rattle.lvs_types.specs.declared.sync.Message.{Message}
use Rattle.lvs_types.specs.declared.sync.BadSync.{BadSync}
use Rattle.lvs_types.specs.declared.sync.SyncItem.{SyncItem}
use Rattle.lvs_types.specs.declared.script.Round.{Round}
use Rattle.lvs_types.specs.declared.script.ScriptLine.{ScriptLine}
use Rattle.lvs_types.specs.declared.script.ScriptLine.TheVariants as line
use Rattle.lvs_model.specs.MessageReading.{read_sync}
use Rattle.lvs_model.specs.Plans.{items_of_message, items_of_line, items_of_lines, actor_of, items_of_actor, worker_of_item, items_of_worker, numbers_from, clock_items, plan}
use Rattle.lvs_model.proofs.OrderLemmas.{all_join, all_filter}
use Rattle.lvs_shared.specs.Openings.{IsTimeless, AreTimeless, count_items}
use Rattle.lvs_run.specs.Limits.{most_steps}

-- NO TICK

timeless_learn : (sync_id : ℕ) (items : List SyncItem) → AllByRecursion IsTimeless (map (λ (r : SyncItem). item.Learn sync_id r) items)
timeless_learn sync_id [] = tt
timeless_learn sync_id (i ∷ items) = (tt, timeless_learn sync_id items)

timeless_message : (read : Result Message BadSync) → AllByRecursion IsTimeless (items_of_message read)
timeless_message (Err why) = (tt, tt)
timeless_message (Ok message) = timeless_learn message.sync_id message.items

timeless_line : (l : ScriptLine) → AllByRecursion IsTimeless (items_of_line l)
timeless_line (line.Incoming mark bytes) = (tt, tt)
timeless_line (line.Outgoing bytes) = (tt, tt)
timeless_line (line.Edit command) = (tt, tt)
timeless_line (line.Set setting) = (tt, tt)
timeless_line (line.Sync bytes) = timeless_message (read_sync bytes)
timeless_line (line.Show shown) = tt

timeless_lines : (ls : List ScriptLine) → AllByRecursion IsTimeless (flat_map items_of_line ls)
timeless_lines [] = tt
timeless_lines (l ∷ ls) = all_join IsTimeless (items_of_line l) (flat_map items_of_line ls) (timeless_line l) (timeless_lines ls)

timeless_sweeps : (numbers : List ℕ) → AllByRecursion IsTimeless (map item.Sweep numbers)
timeless_sweeps [] = tt
timeless_sweeps (number ∷ numbers) = (tt, timeless_sweeps numbers)

timeless_clock : (buckets : ℕ) → AllByRecursion IsTimeless (clock_items buckets)
timeless_clock buckets = all_join IsTimeless (map item.Sweep (numbers_from 0 buckets)) (item.Reap ∷ item.SendSync ∷ []) (timeless_sweeps (numbers_from 0 buckets)) (tt, (tt, tt))

abbrev lists_of : ℕ → List Item → List ℕ → List (List Item)
lists_of workers packets numbers = map (λ (worker : ℕ). items_of_worker workers worker packets) numbers

timeless_workers : (workers : ℕ) (packets : List Item) (numbers : List ℕ) → AllByRecursion IsTimeless packets → AreTimeless (lists_of workers packets numbers)
timeless_workers workers packets [] all = tt
timeless_workers workers packets (worker ∷ numbers) all =
    (all_filter IsTimeless (λ (i : Item). worker_of_item workers i == worker) packets all, timeless_workers workers packets numbers all)

timeless_actor : (actor : ℕ) (round : Round) → AllByRecursion IsTimeless (items_of_actor actor (items_of_lines round))
timeless_actor actor round = all_filter IsTimeless (λ (i : Item). actor_of i == actor) (items_of_lines round) (timeless_lines round.lines)

pub timeless_plan : (round : Round) (workers buckets : ℕ) → AreTimeless (plan round workers buckets).lists
timeless_plan round workers buckets =
    (timeless_clock buckets, (timeless_actor 1 round, (timeless_actor 2 round, timeless_workers workers (items_of_actor 3 (items_of_lines round)) (numbers_from 0 workers) (timeless_actor 3 round))))

-- FEW LISTS

pub numbers_count : (first count : ℕ) → length (numbers_from first count) ≡ count
numbers_count first zero = refl
numbers_count first (suc count) = omega (arith, numbers_count (first + 1) count)

pub plan_lists : (round : Round) (workers buckets : ℕ) → length (plan round workers buckets).lists ≡ workers + 3
plan_lists round workers buckets =
    omega (arith, length-map (numbers_from 0 workers) (λ (worker : ℕ). items_of_worker workers worker (items_of_actor 3 (items_of_lines round))), numbers_count 0 workers)

-- FEW ITEMS

longer_by : (b : Bool) (x : Item) (some all : List Item) → length some ≤ length all → length (cond b (x ∷ some) some) ≤ length (x ∷ all)
longer_by true x some all short = omega (arith, short)
longer_by false x some all short = omega (arith, short)

shorter : (p : Item → Bool) (items : List Item) → length (filter p items) ≤ length items
shorter p [] = omega arith
shorter p (i ∷ items) = longer_by (p i) i (filter p items) items (shorter p items)

clock_count : (buckets : ℕ) → length (clock_items buckets) ≡ buckets + 2
clock_count buckets =
    omega (arith, length-append (map item.Sweep (numbers_from 0 buckets)) (item.Reap ∷ item.SendSync ∷ []), length-map (numbers_from 0 buckets) item.Sweep, numbers_count 0 buckets)

-- so many lists of at most so many items
abbrev at_most : ℕ → ℕ → ℕ
at_most zero n = 0
at_most (suc lists) n = n + at_most lists n

few_of_workers : (workers : ℕ) (packets : List Item) (first count : ℕ) → count_items (lists_of workers packets (numbers_from first count)) ≤ at_most count (length packets)
few_of_workers workers packets first zero = omega arith
few_of_workers workers packets first (suc count) =
    omega (arith, shorter (λ (i : Item). worker_of_item workers i == first) packets, few_of_workers workers packets (first + 1) count)

sixteen : (lists more n : ℕ) → at_most lists n ≤ at_most (lists + more) n
sixteen zero more n = omega arith
sixteen (suc lists) more n =
    let one : suc lists + more ≡ suc (lists + more) = omega arith in rw one (omega (arith, sixteen lists more n))

all_short : (lists n m : ℕ) → n ≤ m → at_most lists n ≤ at_most lists m
all_short zero n m less = omega arith
all_short (suc lists) n m less = omega (arith, less, all_short lists n m less)

at_most_16 : (lists n : ℕ) → lists ≤ 16 → at_most lists n ≤ 16 * n
at_most_16 lists n few =
    let all : lists + (16 - lists) ≡ 16 = omega arith in
    let most : at_most lists n ≤ at_most (lists + (16 - lists)) n = sixteen lists (16 - lists) n in
    omega (arith, subst (λ (k : ℕ). at_most lists n ≤ at_most k n) all most)

pub plan_items : (round : Round) (workers buckets : ℕ) → workers ≤ 16 → buckets ≤ 256 → count_items (plan round workers buckets).lists + 42 ≤ most_steps round
plan_items round workers buckets few_workers few_buckets =
    let items : List Item = items_of_lines round in
    let packets : List Item = items_of_actor 3 items in
    omega (
      arith,
      clock_count buckets,
      shorter (λ (i : Item). actor_of i == 1) items,
      shorter (λ (i : Item). actor_of i == 2) items,
      shorter (λ (i : Item). actor_of i == 3) items,
      few_of_workers workers packets 0 workers,
      at_most_16 workers (length packets) few_workers,
    )
