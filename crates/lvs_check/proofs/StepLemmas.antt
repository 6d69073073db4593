-- How many steps a script has left, and the range of its items.
use Rattle.std.proofs.Common.{◌≡◌, ℕ, zero, suc, ◌+◌, ◌*◌, ◌^◌, ◌≤◌, Bool, true, false, cond, ◌==◌, List, [], ◌∷◌, ◌++◌, Result, Ok, Err, length, map, refl, length-append, arith}
use Rattle.std.specs.List.{filter, flat_map}
use Rattle.lvs_types.specs.declared.item.Item.{Item}
use Rattle.lvs_types.specs.declared.item.Item.TheVariants as item
use Rattle.lvs_types.specs.declared.sync.Message.{Message}
use Rattle.lvs_types.specs.declared.sync.BadSync.{BadSync}
use Rattle.lvs_types.specs.declared.sync.SyncItem.{SyncItem}
use Rattle.lvs_types.specs.declared.script.Round.{Round}
use Rattle.lvs_types.specs.declared.script.ScriptLine.{ScriptLine}
use Rattle.lvs_types.specs.declared.script.ScriptLine.TheVariants as line
use Rattle.lvs_model.specs.MessageReading.{read_sync}
use Rattle.lvs_model.specs.Step.{AreInRange}
use Rattle.lvs_model.specs.Plans.{items_of_message, items_of_line, items_of_lines, items_of_actor, items_of_worker, actor_of, worker_of_item, numbers_from, clock_items, plan}
use Rattle.lvs_model.specs.ScriptLimits.{items_in, IsWithinLimits}
use Rattle.lvs_check.specs.Queues.{whole_queue}
use Rattle.lvs_check.specs.Walks.{steps_in, items_left, AreAllInRange}

all_steps : (rounds : List Round) → steps_in rounds ≡ 18 * items_in rounds + 259 * length rounds
all_steps [] = refl
all_steps (round ∷ rounds) = omega (arith, all_steps rounds)

pub few_steps : (rounds : List Round) → IsWithinLimits rounds → steps_in rounds ≤ 2 ^ 62
few_steps rounds within = omega (arith, all_steps rounds, within.items, within.few)

-- no line names a moment

range_append : (xs ys : List Item) → AreInRange xs → AreInRange ys → AreInRange (xs ++ ys)
range_append [] ys a b = b
range_append (x ∷ xs) ys a b = (a.0, range_append xs ys a.1 b)

range_learn : (sync_id : ℕ) (items : List SyncItem) → AreInRange (map (λ (r : SyncItem). item.Learn sync_id r) items)
range_learn sync_id [] = tt
range_learn sync_id (i ∷ items) = (tt, range_learn sync_id items)

range_message : (read : Result Message BadSync) → AreInRange (items_of_message read)
range_message (Err why) = (tt, tt)
range_message (Ok message) = range_learn message.sync_id message.items

range_line : (l : ScriptLine) → AreInRange (items_of_line l)
range_line (line.Incoming mark bytes) = (tt, tt)
range_line (line.Outgoing bytes) = (tt, tt)
range_line (line.Edit command) = (tt, tt)
range_line (line.Set setting) = (tt, tt)
range_line (line.Sync bytes) = range_message (read_sync bytes)
range_line (line.Show shown) = tt

range_lines : (ls : List ScriptLine) → AreInRange (flat_map items_of_line ls)
range_lines [] = tt
range_lines (l ∷ ls) = range_append (items_of_line l) (flat_map items_of_line ls) (range_line l) (range_lines ls)

range_kept : (b : Bool) (x : Item) (xs ys : List Item) → AreInRange (x ∷ xs) → AreInRange ys → AreInRange (cond b (x ∷ ys) ys)
range_kept true x xs ys both later = (both.0, later)
range_kept false x xs ys both later = later

range_filter : (p : Item → Bool) (xs : List Item) → AreInRange xs → AreInRange (filter p xs)
range_filter p [] are = tt
range_filter p (x ∷ xs) are = range_kept (p x) x xs (filter p xs) are (range_filter p xs are.1)

range_sweeps : (numbers : List ℕ) → AreInRange (map item.Sweep numbers)
range_sweeps [] = tt
range_sweeps (n ∷ numbers) = (tt, range_sweeps numbers)

range_workers : (workers : ℕ) (packets : List Item) (numbers : List ℕ) → AreInRange packets → AreAllInRange (map whole_queue (map (λ (worker : ℕ). items_of_worker workers worker packets) numbers))
range_workers workers packets [] are = tt
range_workers workers packets (n ∷ numbers) are = (range_filter (λ (i : Item). worker_of_item workers i == n) packets are, range_workers workers packets numbers are)

pub planned_range : (round : Round) (workers buckets : ℕ) → AreAllInRange (map whole_queue (plan round workers buckets).lists)
planned_range round workers buckets =
    let all = range_lines round.lines in
    let of_actor : (actor : ℕ) → AreInRange (items_of_actor actor (items_of_lines round)) = λ actor. range_filter (λ (i : Item). actor_of i == actor) (items_of_lines round) all in
    (range_append (map item.Sweep (numbers_from 0 buckets)) (item.Reap ∷ item.SendSync ∷ []) (range_sweeps (numbers_from 0 buckets)) (tt, (tt, tt)), (of_actor 1, (of_actor 2, range_workers workers (items_of_actor 3 (items_of_lines round)) (numbers_from 0 workers) (of_actor 3))))

-- how many items a plan has

times : ℕ → ℕ → ℕ
times zero n = 0
times (suc m) n = n + times m n

fewer_kept : (b : Bool) (x : Item) (xs ys : List Item) → length ys ≤ length xs → length (cond b (x ∷ ys) ys) ≤ length (x ∷ xs)
fewer_kept true x xs ys few = omega arith
fewer_kept false x xs ys few = omega arith

fewer : (p : Item → Bool) (xs : List Item) → length (filter p xs) ≤ length xs
fewer p [] = omega arith
fewer p (x ∷ xs) = fewer_kept (p x) x xs (filter p xs) (fewer p xs)

few_sweeps : (first count : ℕ) → length (map item.Sweep (numbers_from first count)) ≡ count
few_sweeps first zero = refl
few_sweeps first (suc count) = omega (arith, few_sweeps (first + 1) count)

few_packets : (m count first workers : ℕ) (packets : List Item) → count ≤ m → items_left (map whole_queue (map (λ (worker : ℕ). items_of_worker workers worker packets) (numbers_from first count))) ≤ times m (length packets)
unfolding times
few_packets m zero first workers packets few = omega arith
few_packets zero (suc count) first workers packets few = absurd (omega arith)
few_packets (suc m) (suc count) first workers packets few =
    omega (arith, few_packets m count (first + 1) workers packets (omega arith), fewer (λ (i : Item). worker_of_item workers i == first) packets)

few_sixteen : (n : ℕ) → times 16 n ≡ 16 * n
unfolding times
few_sixteen n = omega arith

pub planned_few : (round : Round) (workers buckets : ℕ) → workers ≤ 16 → buckets ≤ 256 → items_left (map whole_queue (plan round workers buckets).lists) ≤ 18 * length (items_of_lines round) + 258
planned_few round workers buckets few_workers few_buckets =
    let items = items_of_lines round in
    let of_actor : (actor : ℕ) → length (items_of_actor actor items) ≤ length items = λ actor. fewer (λ (i : Item). actor_of i == actor) items in
    let clock : length (clock_items buckets) ≡ buckets + 2 = omega (arith, length-append (map item.Sweep (numbers_from 0 buckets)) (item.Reap ∷ item.SendSync ∷ []), few_sweeps 0 buckets) in
    omega (arith, clock, of_actor 1, of_actor 2, of_actor 3, few_packets 16 workers 0 workers (items_of_actor 3 items) few_workers, few_sixteen (length (items_of_actor 3 items)))
