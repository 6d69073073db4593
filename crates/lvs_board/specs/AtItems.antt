-- The desk while an item is decided.
use Rattle.std.specs.Prelude.{◌≡◌, ◌<◌, ◌^◌, ℕ, Option, Some, None, IfSome}
use Rattle.std.specs.List.{AllByRecursion}
use Rattle.lvs_model.specs.State.{State}
use Rattle.lvs_board.specs.declared.desk.Desk.{Desk}
use Rattle.lvs_board.specs.declared.desk.Sweep.{Sweep}
use Rattle.lvs_types.specs.declared.bucket.Change.TheVariants.{Keep}
use Rattle.lvs_types.specs.declared.bucket.Found.{Found}
use Rattle.lvs_types.specs.declared.item.Item.{Item}
use Rattle.lvs_model.specs.Buckets.{look_up}
use Rattle.lvs_model.specs.Messages.{HasOldFlags}
use Rattle.lvs_rules.specs.Bounds.{HasHeadroom, IsNextUnnamed}
use Rattle.lvs_rules.specs.Finds.{entry_in, IsGiven}
use Rattle.lvs_rules.specs.TooLong.{HaveDistinctIds}
use Rattle.lvs_board.specs.Desks.{state_of, Holds, IsFree, IsSound}
use Rattle.lvs_board.specs.Homes.{id_of, sweep_of, IsSweptAt}

-- the sweep is of that bucket, at the moment of the state before it
abbrev pub IsSweepOf : State → Option ℕ → Sweep → Type 0
IsSweepOf whole sweep s = (sweep ≡ Some s.bucket) × (s.moment ≡ whole.now)

-- it is sound, and its change is of the entry that was found or of the bucket that is swept
pub record IsAtItem (whole : State) (home sweep : Option ℕ) (d : Desk) : Type 0 where
  pub sound : IsSound whole d
  pub found : d.home ≡ home
  pub ready : IfSome d.sweep (IsSweepOf whole sweep)
  pub swept : IsSweptAt sweep whole.buckets d.bucket d.change

-- one more entry fits, since its id is far from the end
abbrev pub HasEntryRoom : Desk → Type 0
HasEntryRoom d = d.next_entry < 2 ^ 62

-- the next ids are far from the end
pub record HasIds (d : Desk) : Type 0 where
  pub next_entry : d.next_entry < 2 ^ 62
  pub next_template : d.next_template < 2 ^ 62

abbrev pub IsReady : Option Sweep → ℕ → ℕ → Type 0
IsReady None bucket moment = ⊥
IsReady (Some s) bucket moment = (s.bucket ≡ bucket) × (s.moment ≡ moment)

-- the item is the sweep of the bucket, and has changed nothing yet
pub record MaySweep (d : Desk) (bucket : ℕ) : Type 0 where
  pub ready : IsReady d.sweep bucket d.moment
  pub still : d.change ≡ Keep

-- the sweep of a bucket at the moment
abbrev pub sweep_at : ℕ → Option ℕ → Option Sweep
sweep_at moment None = None
sweep_at moment (Some bucket) = Some (record { bucket = bucket; moment = moment })

-- the desk where an item begins: of its bucket nothing has changed
abbrev pub for_item : Item → Found → Desk → Desk
for_item item found d = record d { home = id_of (entry_in found); sweep = sweep_at d.moment (sweep_of item); change = Keep }

-- the desk stands for the whole state, of which the item found what it looks up, and whose numbers are far from their types' ends
pub record IsBegun (whole : State) (item : Item) (found : Found) (home sweep : Option ℕ) (d : Desk) : Type 0 where
  pub at : IsAtItem whole home sweep d
  pub stands : state_of whole d ≡ whole
  pub looked : found ≡ look_up whole item
  pub given : IsGiven (Holds whole d) (IsFree d.change) found
  pub room : HasHeadroom whole
  pub buckets : 0 < whole.buckets
  pub apart : HaveDistinctIds whole
  pub unnamed : IsNextUnnamed whole
  pub pending : AllByRecursion HasOldFlags whole.pending
