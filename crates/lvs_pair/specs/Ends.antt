-- What contracts see of a relay, of its two ends, and of what is left when both have ended.
use Rattle.std.specs.Prelude.{◌≡◌, ℕ, List, []}
use Rattle.atomic_table.specs.Seated.{TableId}
use Rattle.crossbeam_queue.specs.Passes.{Pass, view, IsPassOf, ruled_capacity}
use Rattle.crossbeam_queue.specs.declared.array_queue.Doing.{Doing}
use Rattle.crossbeam_queue.specs.declared.array_queue.Slotted.{Slotted}
use Rattle.std.specs.Prelude.{Option}
use Rattle.lvs_pair.specs.declared.rule.Side.{Side}
use Rattle.lvs_pair.specs.Sides.{posted_of, taken_of, left_of, IsBoth, IsPoster, IsTaker, Holds}

-- a relay: its identity, and how many messages its queue has room for
pub record RelayIs : Type 0 where
  pub id : TableId
  pub capacity : ℕ

-- a sender: the identity of its relay, and what was posted
pub record SenderIs : Type 0 where
  pub relay : TableId
  pub posted : List (List ℕ)

-- a receiver: the identity of its relay, and what was taken
pub record ReceiverIs : Type 0 where
  pub relay : TableId
  pub taken : List (List ℕ)

-- a relay whose ends have ended: its identity and capacity, what was posted, and what is left of it
pub record DrainedIs : Type 0 where
  pub relay : TableId
  pub capacity : ℕ
  pub posted : List (List ℕ)
  pub left : List (List ℕ)

abbrev Place : Type 0
Place = Pass (List ℕ) Side

abbrev pub sender_of : Place → SenderIs
sender_of place = record { relay = place.table_id; posted = posted_of (view place) }

abbrev pub receiver_of : Place → ReceiverIs
receiver_of place = record { relay = place.table_id; taken = taken_of (view place) }

abbrev pub IsSenderAt : Place → Type 0
IsSenderAt place = (place.me.1 ≡ []) × IsPoster (view place)

abbrev pub IsReceiverAt : Place → Type 0
IsReceiverAt place = (place.me.1 ≡ []) × IsTaker (view place)

module _ {Q A : Type 0} where
  abbrev pub relay_of : Slotted (Option (List ℕ)) (Doing (List ℕ) Side) Q A → RelayIs
  relay_of queue = record { id = queue.table.shared.table_id; capacity = ruled_capacity queue }

  abbrev pub drained_of : Slotted (Option (List ℕ)) (Doing (List ℕ) Side) Q A → Place → DrainedIs
  drained_of queue place = record { relay = queue.table.shared.table_id; capacity = ruled_capacity queue; posted = posted_of (view place); left = left_of (view place) }

  abbrev pub IsDrainedAt : Slotted (Option (List ℕ)) (Doing (List ℕ) Side) Q A → Place → Type 0
  IsDrainedAt queue place = IsPassOf queue place × IsBoth (view place) × Holds (view place) (left_of (view place))
