-- A round that is opened, and one that is closed.
use Rattle.std.specs.Prelude.{◌≡◌, ℕ, suc, ◌+◌, List, [], ◌∷◌, length}
use Rattle.atomic_table.specs.Seated.{TableId}
use Rattle.lvs_book.specs.Passes.{Held, BookIs}
use Rattle.lvs_book.specs.Passes as passes
use Rattle.lvs_types.specs.declared.item.Item.{Item}
use Rattle.lvs_types.specs.declared.book.Noted.{Noted}
use Rattle.lvs_model.specs.Books.{acts_of}
use Rattle.lvs_bucket.specs.Seen.{BucketSeen}
use Rattle.lvs_core.specs.Agree.{AreBuckets}
use Rattle.lvs_shared.specs.declared.origin.Act.{Act}
use Rattle.lvs_shared.specs.declared.origin.Opened.{Opened}
use Rattle.lvs_shared.specs.Openings.{begun, IsOpened}
use Rattle.lvs_shared.specs.Locked.{ChamberSeen, IsHome}
use Rattle.lvs_shared.specs.Seats.{SeatSeen}

pub record DirectorSeen : Type 0 where
  -- the identity of its book
  pub book : TableId
  -- the core and the plan that it began with
  pub origin : Opened
  -- of the round
  pub number : ℕ

-- a book that was opened and not used: a pass for each bucket and each actor, with the core's buckets and the plan's lists
pub record IsOpening (book : BookIs Opened) (now : ℕ) (dealt : List (Held Opened Act)) (parts : List BucketSeen) (items : List (List Item)) : Type 0 where
  pub opened : IsOpened book.origin
  pub moment : now ≡ (begun book.origin).now
  pub lanes : book.lanes ≡ (begun book.origin).buckets + length book.origin.plan.lists
  pub passes : dealt ≡ passes.opened book.id book.origin 0 ((begun book.origin).buckets + length book.origin.plan.lists)
  pub count : length parts ≡ (begun book.origin).buckets
  pub buckets : AreBuckets (begun book.origin) 0 parts
  pub lists : items ≡ book.origin.plan.lists

-- what a director has, of the book that the round names
pub record IsDirector (named book : BookIs Opened) (now count : ℕ) : Type 0 where
  pub opened : IsOpened named.origin
  pub id : book.id ≡ named.id
  pub origin : book.origin ≡ named.origin
  pub lanes : book.lanes ≡ (begun named.origin).buckets + length named.origin.plan.lists
  pub moment : now ≡ (begun named.origin).now
  -- a lock for each bucket
  pub locks : count ≡ (begun named.origin).buckets

-- THE END

-- chambers with the buckets from this number on
abbrev pub AreFrom : ℕ → List ChamberSeen → Type 0
AreFrom number [] = Unit {0}
AreFrom number (c ∷ chambers) = (c.bucket.number ≡ number) × AreFrom (suc number) chambers

-- buckets with the numbers from this one on, each with its pass
abbrev pub AreHomes : TableId → Opened → ℕ → List BucketSeen → List (Held Opened Act) → Type 0
AreHomes book o number [] [] = Unit {0}
AreHomes book o number [] (pass ∷ passes) = ⊥
AreHomes book o number (bucket ∷ buckets) [] = ⊥
AreHomes book o number (bucket ∷ buckets) (pass ∷ passes) = (pass.book ≡ book) × (bucket.number ≡ number) × IsHome o bucket pass × AreHomes book o (suc number) buckets passes

-- as many acts of each actor as its seat's number says
abbrev pub HaveNumbers : List Noted → List SeatSeen → Type 0
HaveNumbers acts [] = Unit {0}
HaveNumbers acts (s ∷ seats) = (length (acts_of s.actor acts) ≡ s.number) × HaveNumbers acts seats
