-- The items of each actor in the order of `serial`.
use Rattle.std.proofs.Common.{◌≡◌, ℕ, ◌<◌, ◌≤◌, ◌/◌, ◌%◌, ◌^◌, ◌==◌, Bool, false, cond, List, [], ◌∷◌, ◌++◌, Option, Some, None, Result, Ok, Err, map, refl, ◌∙◌, ap, append-nil, arith}
use Rattle.std.specs.List.{flat_map}
use Rattle.std.proofs.lemmas.List.Elements.{filter-append}
use Rattle.std.proofs.lemmas.Bool.{ne_eqb}
use Rattle.lvs_types.specs.declared.head.Head.{Head}
use Rattle.lvs_types.specs.declared.head.Malformed.{Malformed}
use Rattle.lvs_types.specs.declared.service.Proto.{Proto}
use Rattle.lvs_types.specs.declared.item.Item.{Item}
use Rattle.lvs_types.specs.declared.item.Item.TheVariants as item
use Rattle.lvs_types.specs.declared.sync.Message.{Message}
use Rattle.lvs_types.specs.declared.sync.BadSync.{BadSync}
use Rattle.lvs_types.specs.declared.sync.SyncItem.{SyncItem}
use Rattle.lvs_types.specs.declared.script.Round.{Round}
use Rattle.lvs_types.specs.declared.script.ScriptLine.{ScriptLine}
use Rattle.lvs_types.specs.declared.script.ScriptLine.TheVariants as line
use Rattle.lvs_types.specs.Protocols.{proto_code}
use Rattle.lvs_types.specs.Transport.{transport_of}
use Rattle.lvs_model.specs.Reading.{read}
use Rattle.lvs_model.specs.MessageReading.{read_sync}
use Rattle.lvs_model.specs.Numbers.{mix}
use Rattle.lvs_model.specs.Plans.{items_of_message, items_of_line, items_of_lines, actor_of, items_of_actor, serial_order, worker_by, worker_at, worker_in, worker_out, worker_of_item, items_of_worker, clock_items}

-- NO LINE HAS AN ITEM OF THE CLOCK

no_clock_learn : (sync_id : ℕ) (items : List SyncItem) → items_of_actor 0 (map (λ (r : SyncItem). item.Learn sync_id r) items) ≡ []
no_clock_learn sync_id [] = refl
no_clock_learn sync_id (i ∷ items) = no_clock_learn sync_id items

no_clock_message : (read : Result Message BadSync) → items_of_actor 0 (items_of_message read) ≡ []
no_clock_message (Err why) = refl
no_clock_message (Ok message) = no_clock_learn message.sync_id message.items

no_clock_line : (l : ScriptLine) → items_of_actor 0 (items_of_line l) ≡ []
no_clock_line (line.Incoming mark bytes) = refl
no_clock_line (line.Outgoing bytes) = refl
no_clock_line (line.Edit command) = refl
no_clock_line (line.Set setting) = refl
no_clock_line (line.Sync bytes) = no_clock_message (read_sync bytes)
no_clock_line (line.Show shown) = refl

no_clock_lines : (ls : List ScriptLine) → items_of_actor 0 (flat_map items_of_line ls) ≡ []
no_clock_lines [] = refl
no_clock_lines (l ∷ ls) =
    filter-append (λ (i : Item). actor_of i == 0) (items_of_line l) (flat_map items_of_line ls)
    ∙ ap (λ (front : List Item). front ++ items_of_actor 0 (flat_map items_of_line ls)) (no_clock_line l)
    ∙ no_clock_lines ls

-- WHAT EACH ACTOR HAS

pub order_of_clock : (round : Round) → items_of_actor 0 (serial_order round) ≡ clock_items 1
order_of_clock round =
    ap (λ (rest : List Item). item.Sweep 0 ∷ item.Reap ∷ rest)
    (filter-append (λ (i : Item). actor_of i == 0) (items_of_lines round) (item.SendSync ∷ [])
    ∙ ap (λ (front : List Item). front ++ item.SendSync ∷ []) (no_clock_lines round.lines))

without_last : (actor : ℕ) (items : List Item) → items_of_actor actor (item.SendSync ∷ []) ≡ [] → items_of_actor actor (items ++ item.SendSync ∷ []) ≡ items_of_actor actor items
without_last actor items none =
    filter-append (λ (i : Item). actor_of i == actor) items (item.SendSync ∷ [])
    ∙ ap (λ (back : List Item). items_of_actor actor items ++ back) none
    ∙ append-nil (items_of_actor actor items)

pub order_of_control : (round : Round) → items_of_actor 1 (serial_order round) ≡ items_of_actor 1 (items_of_lines round)
order_of_control round = without_last 1 (items_of_lines round) refl

pub order_of_sync : (round : Round) → items_of_actor 2 (serial_order round) ≡ items_of_actor 2 (items_of_lines round)
order_of_sync round = without_last 2 (items_of_lines round) refl

pub order_of_worker : (round : Round) → items_of_actor 3 (serial_order round) ≡ items_of_actor 3 (items_of_lines round)
order_of_worker round = without_last 3 (items_of_lines round) refl

-- there is no other actor
actor_is_small : (i : Item) → actor_of i ≤ 3
actor_is_small (item.Incoming mark bytes) = omega arith
actor_is_small (item.Outgoing bytes) = omega arith
actor_is_small (item.Edit command) = omega arith
actor_is_small (item.Set setting) = omega arith
actor_is_small (item.Learn sync_id record_item) = omega arith
actor_is_small (item.BadSync why) = omega arith
actor_is_small (item.Tick moment) = omega arith
actor_is_small (item.Sweep bucket) = omega arith
actor_is_small item.Reap = omega arith
actor_is_small item.SendSync = omega arith

pub order_of_none : (actor : ℕ) (items : List Item) → 3 < actor → items_of_actor actor items ≡ []
order_of_none actor [] past = refl
order_of_none actor (i ∷ items) past =
    let other : (actor_of i == actor) ≡ false = ne_eqb (actor_of i) actor (λ same. let small = actor_is_small i in omega arith) in
    ap (λ (b : Bool). cond b (i ∷ items_of_actor actor items) (items_of_actor actor items)) other ∙ order_of_none actor items past

-- ONE WORKER HAS ALL PACKETS

mod_one : (n : ℕ) → n % 1 ≡ 0
mod_one n = omega arith

only_by : (number : Head → Proto → ℕ) (head : Head) (proto : Option Proto) → ((h : Head) (p : Proto) → number h p ≡ 0) → worker_by number head proto ≡ 0
only_by number head None zero_is = refl
only_by number head (Some proto) zero_is = zero_is head proto

only_at : (number : Head → Proto → ℕ) (head : Result Head Malformed) → ((h : Head) (p : Proto) → number h p ≡ 0) → worker_at number head ≡ 0
only_at number (Err why) zero_is = refl
only_at number (Ok head) zero_is = only_by number head (transport_of head) zero_is

only_worker : (i : Item) → worker_of_item 1 i ≡ 0
only_worker (item.Incoming mark bytes) = only_at (worker_in 1) (read bytes) (λ h p. mod_one (mix (proto_code p) h.src h.sport / 2 ^ 16 % 256))
only_worker (item.Outgoing bytes) = only_at (worker_out 1) (read bytes) (λ h p. mod_one (mix (proto_code p) h.dst h.dport / 2 ^ 16 % 256))
only_worker (item.Edit command) = refl
only_worker (item.Set setting) = refl
only_worker (item.Learn sync_id record_item) = refl
only_worker (item.BadSync why) = refl
only_worker (item.Tick moment) = refl
only_worker (item.Sweep bucket) = refl
only_worker item.Reap = refl
only_worker item.SendSync = refl

pub items_of_only_worker : (items : List Item) → items_of_worker 1 0 items ≡ items
items_of_only_worker [] = refl
items_of_only_worker (i ∷ items) =
    ap (λ (n : ℕ). cond (n == 0) (i ∷ items_of_worker 1 0 items) (items_of_worker 1 0 items)) (only_worker i)
    ∙ ap (λ (rest : List Item). i ∷ rest) (items_of_only_worker items)
