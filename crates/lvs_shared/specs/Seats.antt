-- Seats of a round, and what a step makes of one.
use Rattle.std.specs.Prelude.{◌≡◌, ℕ, suc, ◌+◌, ◌<◌, ◌^◌, List, [], ◌∷◌, length, map, drop}
use Rattle.atomic_table.specs.Seated.{TableId}
use Rattle.lvs_book.specs.Passes.{Held, with_act}
use Rattle.lvs_types.specs.declared.item.Item.{Item}
use Rattle.lvs_shared.specs.declared.origin.Act.{Act}
use Rattle.lvs_shared.specs.declared.origin.Opened.{Opened}
use Rattle.lvs_shared.specs.declared.seat.Stepped.{Stepped}
use Rattle.lvs_shared.specs.declared.seat.Stepped.TheVariants.{Done, Finished}
use Rattle.lvs_shared.specs.Openings.{begun, list_of, IsOpened}

pub record SeatSeen : Type 0 where
  pub actor : ℕ
  -- how many items of its actor's list were done, which is the next one's number
  pub number : ℕ
  -- the items that are left, the next one first
  pub left : List Item
  pub pass : Held Opened Act

-- a seat of the book: its acts are as many as the items of its actor's list that are done, and the others are left
pub record IsSeat (named : TableId) (o : Opened) (s : SeatSeen) : Type 0 where
  pub opened : IsOpened o
  pub book : s.pass.book ≡ named
  pub origin : s.pass.origin ≡ o
  pub lane : s.pass.lane ≡ (begun o).buckets + s.actor
  pub actor : s.actor < length o.plan.lists
  pub number : s.number ≡ length s.pass.acts
  pub left : drop s.number (list_of o s.actor) ≡ s.left
  pub young : s.number + length s.left < 2 ^ 62

-- THE ANSWER OF A STEP

-- the seat's item of that number is its pass's last act now, and the number is one more
pub record IsDone (n : ℕ) (before after : SeatSeen) : Type 0 where
  pub number : n ≡ before.number
  pub next : after.number ≡ n + 1
  pub actor : after.actor ≡ before.actor
  pub act : Act
  pub pass : after.pass ≡ with_act act before.pass
  pub left : before.left ≡ act.noted.item ∷ after.left
  pub noted : (act.noted.actor ≡ before.actor) × (act.noted.number ≡ n)

-- an item was done, or the list is at its end
abbrev pub Went : Stepped → SeatSeen → SeatSeen → Type 0
Went (Done n) before after = IsDone n before after
Went Finished before after = (before.left ≡ []) × (after ≡ before)

-- ALL SEATS OF A ROUND

-- seats in order of their actors, from this one on, of so many actors
abbrev pub AreSeats : ℕ → ℕ → List SeatSeen → Type 0
AreSeats actor actors [] = actor ≡ actors
AreSeats actor actors (s ∷ seats) = (s.actor ≡ actor) × AreSeats (suc actor) actors seats

-- each seat's list is used up
abbrev pub AreAtEnd : List SeatSeen → Type 0
AreAtEnd [] = Unit {0}
AreAtEnd (s ∷ seats) = (s.left ≡ []) × AreAtEnd seats

abbrev pub new_pass : TableId → Opened → ℕ → Held Opened Act
new_pass book o lane = record { book = book; lane = lane; origin = o; acts = [] }

abbrev pub new_seat : TableId → Opened → ℕ → List Item → SeatSeen
new_seat book o actor items = record { actor = actor; number = 0; left = items; pass = new_pass book o ((begun o).buckets + actor) }

-- the seats of a round that begins, of the actors from this one on
abbrev pub new_seats : TableId → Opened → ℕ → List (List Item) → List SeatSeen
new_seats book o actor [] = []
new_seats book o actor (items ∷ lists) = new_seat book o actor items ∷ new_seats book o (suc actor) lists

abbrev pub passes_in : List SeatSeen → List (Held Opened Act)
passes_in seats = map (λ (s : SeatSeen). s.pass) seats

-- seats of the book, of the actors from this one on
abbrev pub AreSeated : TableId → Opened → ℕ → List SeatSeen → Type 0
AreSeated book o actor [] = Unit {0}
AreSeated book o actor (s ∷ seats) = IsSeat book o s × (s.actor ≡ actor) × AreSeated book o (suc actor) seats
