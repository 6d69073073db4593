-- The lists of a round's actors while items are placed.
use Rattle.std.specs.Prelude.{ℕ, zero, suc, ◌+◌, ◌<◌, ◌≤◌, List, [], ◌∷◌, ◌++◌, map, length, Vec}
use Rattle.std.specs.declared.alloc.Global.{Global}
use Rattle.lvs_types.specs.declared.item.Item.{Item}
use Rattle.lvs_types.specs.declared.item.Item.TheVariants as item
use Rattle.lvs_model.specs.Plans.{items_of_actor, items_of_worker, worker_of_item, numbers_from}
use Rattle.lvs_script.specs.declared.actors.Actor.{Actor}
use Rattle.lvs_script.specs.declared.actors.Actor.TheVariants as actor

-- whose list an item goes to, where there are so many workers
abbrev pub actor_among : ℕ → Item → Actor
actor_among workers (item.Incoming mark bytes) = actor.Worker (worker_of_item workers (item.Incoming mark bytes))
actor_among workers (item.Outgoing bytes) = actor.Worker (worker_of_item workers (item.Outgoing bytes))
actor_among workers (item.Edit command) = actor.Control
actor_among workers (item.Set setting) = actor.Control
actor_among workers (item.Learn sync_id record_item) = actor.Sync
actor_among workers (item.BadSync why) = actor.Sync
actor_among workers (item.Tick moment) = actor.Clock
actor_among workers (item.Sweep bucket) = actor.Clock
actor_among workers item.Reap = actor.Clock
actor_among workers item.SendSync = actor.Clock

pub record Lists : Type 0 where
  pub control : List Item
  pub sync : List Item
  -- of each worker
  pub workers : List (List Item)

-- the lists of vectors
abbrev pub lists_in : Vec (Vec Item Global) Global → List (List Item)
lists_in lists = map (λ (list : Vec Item Global). list.items) lists.items

-- how many workers there may be
pub record HasWorkers (workers : List (List Item)) : Type 0 where
  pub some : 0 < length workers
  pub few : length workers ≤ 16

-- nothing was placed
abbrev pub empty_lists : ℕ → Lists
empty_lists workers = record { control = []; sync = []; workers = map (λ (worker : ℕ). []) (numbers_from 0 workers) }

-- the list at a place with an item more
abbrev pub with_item_at : ℕ → Item → List (List Item) → List (List Item)
with_item_at place item [] = []
with_item_at zero item (list ∷ lists) = (list ++ item ∷ []) ∷ lists
with_item_at (suc place) item (list ∷ lists) = list ∷ with_item_at place item lists

-- an item more in the list of its actor; the clock's isn't among these
abbrev pub with_item : Actor → Item → Lists → Lists
with_item actor.Clock item lists = lists
with_item actor.Control item lists = record lists { control = lists.control ++ item ∷ [] }
with_item actor.Sync item lists = record lists { sync = lists.sync ++ item ∷ [] }
with_item (actor.Worker worker) item lists = record lists { workers = with_item_at worker item lists.workers }

-- each list with what is added at its number, where the first one has this number
abbrev pub with_each : (ℕ → List Item) → ℕ → List (List Item) → List (List Item)
with_each more number [] = []
with_each more number (list ∷ lists) = (list ++ more number) ∷ with_each more (number + 1) lists

-- those of the items that go to a worker
abbrev pub for_worker : ℕ → List Item → ℕ → List Item
for_worker workers items worker = items_of_worker workers worker (items_of_actor 3 items)

-- items more, each at the end of its actor's list
abbrev pub with_items : Lists → List Item → Lists
with_items lists items = record {
  control = lists.control ++ items_of_actor 1 items;
  sync = lists.sync ++ items_of_actor 2 items;
  workers = with_each (for_worker (length lists.workers) items) 0 lists.workers;
}
