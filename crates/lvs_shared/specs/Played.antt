-- The value in the book of a round: what it says of its acts.
use Rattle.std.specs.Prelude.{◌≡◌, ℕ, ◌+◌, ◌<◌, List, [], ◌∷◌, Option, Some, None, length, drop}
use Rattle.std.specs.List.Sorted.{IsStrictlyIncreasing}
use Rattle.lvs_types.specs.declared.item.Item.{Item}
use Rattle.lvs_types.specs.declared.bucket.Change.{Change}
use Rattle.lvs_types.specs.declared.bucket.Change.TheVariants as changes
use Rattle.lvs_types.specs.declared.bucket.Found.{Found}
use Rattle.lvs_types.specs.declared.bucket.Found.TheVariants as found
use Rattle.lvs_types.specs.declared.book.Placed.{Placed}
use Rattle.lvs_model.specs.Step.{run}
use Rattle.lvs_model.specs.Books.{AreFrom}
use Rattle.lvs_model.specs.Buckets.{home, entries_of, look_in, Fits}
use Rattle.lvs_model.specs.Counted.{IsCounted}
use Rattle.lvs_model.specs.WellFormed.{IsWellFormed, entry_ids}
use Rattle.lvs_board.specs.Seen.{BoardSeen}
use Rattle.lvs_board.specs.Stands.{StandsFor}
use Rattle.lvs_shared.specs.declared.origin.Act.{Act}
use Rattle.lvs_shared.specs.declared.origin.Opened.{Opened}
use Rattle.lvs_shared.specs.Openings.{begun, list_of, IsOpened, IsTimeless}
use Rattle.lvs_shared.specs.Acts.{notes_of, items_of, replies_of, lane_acts, lanes_of, acts_of, left, made}

-- each act has the lanes of its item, of so many buckets and actors, and leaves the moment as it is
abbrev pub HaveLanes : ℕ → ℕ → List Act → Type 0
HaveLanes buckets actors [] = Unit {0}
HaveLanes buckets actors (act ∷ acts) = (act.lanes ≡ lanes_of buckets act.noted.actor act.noted.item) × (act.noted.actor < actors) × IsTimeless act.noted.item × HaveLanes buckets actors acts

-- acts of a round that began there, each in the state that those before it left
pub record Kept (o : Opened) (acts : List Act) : Type 0 where
  pub replies : (run (begun o) (items_of acts)).0 ≡ replies_of acts
  pub buckets : (left o acts).buckets ≡ (begun o).buckets
  pub moment : (left o acts).now ≡ (begun o).now
  pub well_formed : IsWellFormed (left o acts)
  pub counted : IsCounted (o.core.steps + length acts) (left o acts)
  pub rising : IsStrictlyIncreasing (entry_ids (left o acts).entries)
  -- the entries of a bucket are what the changes of its lane's acts make of the opening ones
  pub homes : (bucket : ℕ) → bucket < (begun o).buckets → entries_of bucket (left o acts) ≡ made bucket o (lane_acts bucket acts)
  -- the acts of an actor's lane are the items of its list from its front, numbered from 0
  pub planned : (actor : ℕ) → actor < length o.plan.lists → AreFrom 0 (list_of o actor) (notes_of (lane_acts ((begun o).buckets + actor) acts))
  pub lanes : HaveLanes (begun o).buckets (length o.plan.lists) acts

pub record PlayedSeen : Type 0 where
  -- where it began
  pub origin : Opened
  -- in order of place
  pub acts : List Act

abbrev pub seen_of : Opened → BoardSeen → List Change → PlayedSeen
seen_of o board changes = record { origin = o; acts = acts_of (begun o).buckets board.book changes }

-- the board stands for the state that the acts leave: its tables are that state's, and its totals count entries that it doesn't hold
pub record IsPlayed (o : Opened) (board : BoardSeen) (changes : List Change) : Type 0 where
  pub opened : IsOpened o
  pub kept : Kept o (acts_of (begun o).buckets board.book changes)
  pub stands : StandsFor board (left o (acts_of (begun o).buckets board.book changes))
  pub steps : board.steps ≡ o.core.steps + length board.book
  -- a change for each act
  pub each : length changes ≡ length board.book

-- THE NEXT ACT

-- the placed item is the next one of its actor's list, of whose lane these are the acts
pub record IsNext (o : Opened) (own : List Act) (placed : Placed) : Type 0 where
  pub actor : placed.actor < length o.plan.lists
  pub number : placed.number ≡ length own
  pub rest : List Item
  pub item : drop placed.number (list_of o placed.actor) ≡ placed.item ∷ rest

-- what the item finds in its bucket, as the lane's acts made it
abbrev pub found_at : Opened → Item → List Act → Option ℕ → Found
found_at o next acts None = found.Nothing
found_at o next acts (Some bucket) = look_in (begun o).now next (made bucket o (lane_acts bucket acts))

abbrev pub found_for : Opened → Item → List Act → Found
found_for o next acts = found_at o next acts (home (begun o).buckets next)

-- an act that may be played
pub record MayPlay (p : PlayedSeen) (placed : Placed) (f : Found) : Type 0 where
  pub next : IsNext p.origin (lane_acts ((begun p.origin).buckets + placed.actor) p.acts) placed
  pub found : f ≡ found_for p.origin placed.item p.acts

-- the change can be made of the item's bucket, as the lane's acts made it
abbrev pub FitsAt : Opened → Change → List Act → Option ℕ → Type 0
FitsAt o change acts None = change ≡ changes.Keep
FitsAt o change acts (Some bucket) = Fits change (made bucket o (lane_acts bucket acts))

abbrev pub FitsFor : Opened → Item → Change → List Act → Type 0
FitsFor o next change acts = FitsAt o change acts (home (begun o).buckets next)

-- the act is that of the placed item
abbrev pub Notes : Opened → Placed → Act → Type 0
Notes o placed act = (act.noted.actor ≡ placed.actor) × (act.noted.number ≡ placed.number) × (act.noted.item ≡ placed.item) × (act.lanes ≡ lanes_of (begun o).buckets placed.actor placed.item)

-- WHAT COMES OUT OF THE BOOK

-- a board that stands for the state that the acts leave
pub record IsLeft (p : PlayedSeen) (board : BoardSeen) : Type 0 where
  pub opened : IsOpened p.origin
  pub kept : Kept p.origin p.acts
  pub stands : StandsFor board (left p.origin p.acts)
  pub steps : board.steps ≡ p.origin.core.steps + length board.book
  pub book : notes_of p.acts ≡ board.book
