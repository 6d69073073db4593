-- Where the book of a round begins, and what is known of it.
use Rattle.std.specs.Prelude.{◌≡◌, ℕ, ◌+◌, ◌<◌, ◌≤◌, ◌^◌, List, [], ◌∷◌, length, get_or}
use Rattle.std.specs.List.{AllByRecursion}
use Rattle.std.specs.List.Sorted.{IsStrictlyIncreasing}
use Rattle.lvs_types.specs.declared.item.Item.{Item}
use Rattle.lvs_types.specs.declared.item.Item.TheVariants as item
use Rattle.lvs_model.specs.State.{State, initial}
use Rattle.lvs_model.specs.Counted.{IsCounted}
use Rattle.lvs_model.specs.WellFormed.{IsWellFormed, entry_ids}
use Rattle.lvs_shared.specs.declared.origin.Opened.{Opened}

-- the state of the core, before the first act
abbrev pub begun : Opened → State
begun o = o.core.state

-- an item that leaves the moment as it is
abbrev pub IsTimeless : Item → Type 0
IsTimeless (item.Tick moment) = ⊥
IsTimeless (item.Incoming mark bytes) = Unit {0}
IsTimeless (item.Outgoing bytes) = Unit {0}
IsTimeless (item.Edit command) = Unit {0}
IsTimeless (item.Set setting) = Unit {0}
IsTimeless (item.Learn sync_id record_item) = Unit {0}
IsTimeless (item.BadSync why) = Unit {0}
IsTimeless (item.Sweep bucket) = Unit {0}
IsTimeless item.Reap = Unit {0}
IsTimeless item.SendSync = Unit {0}

-- no list has a tick
abbrev pub AreTimeless : List (List Item) → Type 0
AreTimeless lists = AllByRecursion (λ (items : List Item). AllByRecursion IsTimeless items) lists

-- how many items the lists have together
abbrev pub count_items : List (List Item) → ℕ
count_items [] = 0
count_items (items ∷ lists) = length items + count_items lists

-- the list of an actor, empty where there is none
abbrev pub list_of : Opened → ℕ → List Item
list_of o actor = get_or o.plan.lists actor []

-- a core and a plan that belong together: the plan's moment and buckets are the core's, no list has a tick, and the core can take all items
pub record IsOpened (o : Opened) : Type 0 where
  pub moment : o.core.state.now ≡ o.plan.moment
  pub buckets : o.core.state.buckets ≡ o.plan.buckets
  pub timeless : AreTimeless o.plan.lists
  pub some : 4 ≤ length o.plan.lists
  pub many : length o.plan.lists ≤ 65536
  pub young : o.core.steps + count_items o.plan.lists < 2 ^ 62
  pub few : o.core.state.buckets ≤ 256
  pub well_formed : IsWellFormed o.core.state
  pub counted : IsCounted o.core.steps o.core.state
  pub rising : IsStrictlyIncreasing (entry_ids o.core.state.entries)

-- some origin, which stands where there is none
abbrev pub nowhere : Opened
nowhere = record {
  core = record { state = initial (record { number = 0 }) 1; steps = 0 };
  plan = record { moment = 0; buckets = 1; lists = []; shown = [] };
}
