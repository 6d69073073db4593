-- What a round of a script is to do: the items of each actor (this project's profile).
use Rattle.std.specs.Prelude.{ℕ, zero, suc, ◌+◌, ◌==◌, List, [], ◌∷◌, ◌++◌, Option, Some, None, Result, Ok, Err, map, length}
use Rattle.std.specs.List.{filter, flat_map, filter_map}
use Rattle.lvs_types.specs.declared.head.Head.{Head}
use Rattle.lvs_types.specs.declared.head.Malformed.{Malformed}
use Rattle.lvs_types.specs.declared.service.Proto.{Proto}
use Rattle.lvs_types.specs.declared.item.Item.{Item}
use Rattle.lvs_types.specs.declared.item.Item.TheVariants as item
use Rattle.lvs_types.specs.declared.sync.Message.{Message}
use Rattle.lvs_types.specs.declared.sync.BadSync.{BadSync}
use Rattle.lvs_types.specs.declared.sync.SyncItem.{SyncItem}
use Rattle.lvs_types.specs.declared.script.Round.{Round}
use Rattle.lvs_types.specs.declared.script.ScriptLine.{ScriptLine}
use Rattle.lvs_types.specs.declared.script.ScriptLine.TheVariants as line
use Rattle.lvs_types.specs.declared.book.Placed.{Placed}
use Rattle.lvs_types.specs.declared.book.RoundPlan.{RoundPlan}
use Rattle.lvs_types.specs.declared.book.Shown.{Shown}
use Rattle.lvs_types.specs.Protocols.{proto_code}
use Rattle.lvs_types.specs.Transport.{transport_of}
use Rattle.lvs_model.specs.Reading.{read}
use Rattle.lvs_model.specs.MessageReading.{read_sync}
use Rattle.lvs_model.specs.Numbers.{worker_of}

-- one Learn for each record, or one BadSync
abbrev pub items_of_message : Result Message BadSync → List Item
items_of_message (Err why) = item.BadSync why ∷ []
items_of_message (Ok message) = map (λ (record_item : SyncItem). item.Learn message.sync_id record_item) message.items

-- the items of a line, in order; a listing gives none
abbrev pub items_of_line : ScriptLine → List Item
items_of_line (line.Incoming mark bytes) = item.Incoming mark bytes ∷ []
items_of_line (line.Outgoing bytes) = item.Outgoing bytes ∷ []
items_of_line (line.Edit command) = item.Edit command ∷ []
items_of_line (line.Set setting) = item.Set setting ∷ []
items_of_line (line.Sync bytes) = items_of_message (read_sync bytes)
items_of_line (line.Show shown) = []

-- the actor of an item, where there is one worker: 0 the clock, 1 control, 2 sync, 3 the worker
abbrev pub actor_of : Item → ℕ
actor_of (item.Incoming mark bytes) = 3
actor_of (item.Outgoing bytes) = 3
actor_of (item.Edit command) = 1
actor_of (item.Set setting) = 1
actor_of (item.Learn sync_id record_item) = 2
actor_of (item.BadSync why) = 2
actor_of (item.Tick moment) = 0
actor_of (item.Sweep bucket) = 0
actor_of item.Reap = 0
actor_of item.SendSync = 0

-- the items of one actor, in order
abbrev pub items_of_actor : ℕ → List Item → List Item
items_of_actor actor items = filter (λ (i : Item). actor_of i == actor) items

abbrev pub items_of_lines : Round → List Item
items_of_lines round = flat_map items_of_line round.lines

-- the one order of a round of `serial`: the sweep of its bucket, the reaping, the lines in their order, and the sending
abbrev pub serial_order : Round → List Item
serial_order round = item.Sweep 0 ∷ item.Reap ∷ items_of_lines round ++ item.SendSync ∷ []

-- each item with its actor and its number in the actor's list, where these stood before
abbrev pub placed_after : List Item → List Item → List Placed
placed_after before [] = []
placed_after before (first ∷ items) =
    record { actor = actor_of first; number = length (items_of_actor (actor_of first) before); item = first } ∷ placed_after (before ++ first ∷ []) items

abbrev pub serial_items : Round → List Placed
serial_items round = placed_after [] (serial_order round)

-- the worker of a packet's client side: worker 0 for a packet that isn't unfragmented TCP or UDP
abbrev pub worker_by : (Head → Proto → ℕ) → Head → Option Proto → ℕ
worker_by number head None = 0
worker_by number head (Some proto) = number head proto

abbrev pub worker_at : (Head → Proto → ℕ) → Result Head Malformed → ℕ
worker_at number (Err why) = 0
worker_at number (Ok head) = worker_by number head (transport_of head)

-- of an incoming packet the source is the client, of an outgoing one the destination
abbrev pub worker_in : ℕ → Head → Proto → ℕ
worker_in workers head proto = worker_of (proto_code proto) head.src head.sport workers

abbrev pub worker_out : ℕ → Head → Proto → ℕ
worker_out workers head proto = worker_of (proto_code proto) head.dst head.dport workers

abbrev pub worker_of_item : ℕ → Item → ℕ
worker_of_item workers (item.Incoming mark bytes) = worker_at (worker_in workers) (read bytes)
worker_of_item workers (item.Outgoing bytes) = worker_at (worker_out workers) (read bytes)
worker_of_item workers other = 0

abbrev pub items_of_worker : ℕ → ℕ → List Item → List Item
items_of_worker workers worker packets = filter (λ (i : Item). worker_of_item workers i == worker) packets

-- so many numbers from this one on
abbrev pub numbers_from : ℕ → ℕ → List ℕ
numbers_from first zero = []
numbers_from first (suc count) = first ∷ numbers_from (first + 1) count

-- the sweeps of all buckets, the reaping, and the sending
abbrev pub clock_items : ℕ → List Item
clock_items buckets = map item.Sweep (numbers_from 0 buckets) ++ item.Reap ∷ item.SendSync ∷ []

abbrev pub shown_by : ScriptLine → Option Shown
shown_by (line.Show shown) = Some shown
shown_by other = None

abbrev pub listings_of : Round → List Shown
listings_of round = filter_map shown_by round.lines

-- the lists of the clock, of control, of sync, and of each worker
abbrev pub plan : Round → ℕ → ℕ → RoundPlan
plan round workers buckets = record {
  moment = round.moment;
  buckets = buckets;
  lists =
      clock_items buckets
      ∷ items_of_actor 1 (items_of_lines round)
      ∷ items_of_actor 2 (items_of_lines round)
      ∷ map (λ (worker : ℕ). items_of_worker workers worker (items_of_actor 3 (items_of_lines round))) (numbers_from 0 workers);
  shown = listings_of round;
}
