-- What lies behind a bucket's lock.
use Rattle.std.specs.Prelude.{◌≡◌, ◌<◌, []}
use Rattle.lvs_book.specs.Passes.{Held, BookIs}
use Rattle.lvs_bucket.specs.Seen.{BucketSeen}
use Rattle.lvs_shared.specs.declared.origin.Act.{Act}
use Rattle.lvs_shared.specs.declared.origin.Opened.{Opened}
use Rattle.lvs_shared.specs.Openings.{begun, nowhere, IsOpened}
use Rattle.lvs_shared.specs.Acts.{made}

pub record ChamberSeen : Type 0 where
  pub bucket : BucketSeen
  pub pass : Held Opened Act

-- the bucket of the pass's lane: its entries are what the changes of the pass's acts make of the opening ones
pub record IsHome (o : Opened) (bucket : BucketSeen) (pass : Held Opened Act) : Type 0 where
  pub opened : IsOpened o
  pub origin : pass.origin ≡ o
  pub lane : pass.lane ≡ bucket.number
  pub below : bucket.number < (begun o).buckets
  pub buckets : bucket.buckets ≡ (begun o).buckets
  pub entries : bucket.entries ≡ made bucket.number o pass.acts

-- some book, which stands where none is named
abbrev pub no_book : BookIs Opened
no_book = record { id = record { words = 0; slots = 0; views_name = 0; atom = 0; block = 0; offset = 0; slot_names = [] }; lanes = 0; origin = nowhere }
