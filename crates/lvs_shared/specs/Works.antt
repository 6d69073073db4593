-- The two works of a round: an item of no bucket, and an item of one.
use Rattle.std.specs.Prelude.{◌≡◌, ◌+◌, ◌<◌, Option, Some, None, IfSome}
use Rattle.lvs_book.specs.Passes.{Held}
use Rattle.lvs_types.specs.declared.book.Placed.{Placed}
use Rattle.lvs_types.specs.declared.bucket.Change.{Change}
use Rattle.lvs_types.specs.declared.bucket.Found.{Found}
use Rattle.lvs_model.specs.Buckets.{home, look_in, Fits}
use Rattle.lvs_shared.specs.declared.origin.Act.{Act}
use Rattle.lvs_shared.specs.declared.origin.Opened.{Opened}
use Rattle.lvs_shared.specs.Openings.{begun}
use Rattle.lvs_shared.specs.Acts.{made}
use Rattle.lvs_shared.specs.Played.{IsNext, Notes}

-- the placed item is the next one of the pass's actor
pub record IsOwn (own : Held Opened Act) (placed : Placed) : Type 0 where
  pub lane : own.lane ≡ (begun own.origin).buckets + placed.actor
  pub next : IsNext own.origin own.acts placed

-- AN ITEM OF NO BUCKET

pub record AloneSeen : Type 0 where
  pub placed : Option Placed
  pub own : Held Opened Act

pub record IsAlone (pass : Held Opened Act) (placed : Placed) : Type 0 where
  pub own : IsOwn pass placed
  pub homeless : home (begun pass.origin).buckets placed.item ≡ None

-- the act is that of the work's item
abbrev pub AloneFirst : AloneSeen → Act → Type 0
AloneFirst w act = IfSome w.placed (λ (placed : Placed). Notes w.own.origin placed act)

-- AN ITEM OF A BUCKET

pub record PairedSeen : Type 0 where
  pub placed : Option Placed
  pub found : Option Found
  pub own : Held Opened Act
  pub home : Held Opened Act

-- the placed item is of the other pass's bucket
pub record IsPaired (pass other : Held Opened Act) (placed : Placed) : Type 0 where
  pub own : IsOwn pass placed
  pub bucket : home (begun pass.origin).buckets placed.item ≡ Some other.lane

-- what was found is what the item finds in the bucket
abbrev pub IsFound : Held Opened Act → Held Opened Act → Placed → Found → Type 0
IsFound own other placed found = found ≡ look_in (begun own.origin).now placed.item (made other.lane own.origin other.acts)

-- the passes are a bucket's and an actor's of one book, and the item is that actor's and of that bucket
pub record IsPair (w : PairedSeen) : Type 0 where
  pub origin : w.home.origin ≡ w.own.origin
  pub apart : w.home.lane < w.own.lane
  pub placed : IfSome w.placed (IsPaired w.own w.home)
  pub found : IfSome w.placed (λ (placed : Placed). IfSome w.found (IsFound w.own w.home placed))

-- the act is that of the work's item, with the change that was answered, and the bucket can make it
pub record PairedFirst (w : PairedSeen) (act : Act) (change : Change) : Type 0 where
  pub notes : IfSome w.placed (λ (placed : Placed). Notes w.own.origin placed act)
  pub answered : act.change ≡ change
  pub fits : Fits change (made w.home.lane w.own.origin w.home.acts)
