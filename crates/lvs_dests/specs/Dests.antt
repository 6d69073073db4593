-- What ties the pool, the lists of the services and the next id.
use Rattle.std.specs.Prelude.{◌≡◌, ℕ, ◌<◌, true, List, Some}
use Rattle.std.specs.List.{AllByRecursion}
use Rattle.lvs_types.specs.declared.addr.Addr.{Addr}
use Rattle.lvs_types.specs.declared.service.ServiceKey.{ServiceKey}
use Rattle.lvs_types.specs.declared.dest.DestSpec.{DestSpec}
use Rattle.lvs_types.specs.declared.dest.DestRow.{DestRow}
use Rattle.lvs_dests.specs.declared.lists.Lists.{Lists}
use Rattle.lvs_dests.specs.declared.pool.Pool.{Pool}
use Rattle.lvs_dests.specs.Rows.{row_at, is_row_at, candidates_of}
use Rattle.lvs_dests.specs.Places.{name_of, place_of}
use Rattle.lvs_dests.specs.Lists.{list_at}
use Rattle.lvs_dests.specs.Pool.{IsWhole, rows_of}

pub record IsTied (pool : Pool) (lists : Lists) (next : ℕ) : Type 0 where
  pub whole : IsWhole pool
  -- each service's list is that of its live servers
  pub served : (key : ServiceKey) → list_at lists (name_of key) ≡ candidates_of key (rows_of pool)
  -- ids were drawn in order
  pub below : AllByRecursion (λ (row : DestRow). row.dest.id.0 < next) (rows_of pool)

-- a server with another content, at the same place and live as before
pub record IsRevision (old new : DestRow) : Type 0 where
  pub place : place_of old ≡ place_of new
  pub service : old.dest.service ≡ new.dest.service
  pub live : old.dest.live ≡ new.dest.live

-- the server of an id, at this address and port
pub record IsStanding (spec : DestSpec) (rows : List DestRow) (row : DestRow) : Type 0 where
  pub found : row_at row.dest.id rows ≡ Some row
  pub addr : row.dest.spec.addr ≡ spec.addr
  pub port : row.dest.spec.port ≡ spec.port

-- the live server of an id, the only one of this service at this address and port
pub record IsLiveAt (key : ServiceKey) (addr : Addr) (port : ℕ) (rows : List DestRow) (row : DestRow) : Type 0 where
  pub found : row_at row.dest.id rows ≡ Some row
  pub same_addr : row.dest.spec.addr ≡ addr
  pub same_port : row.dest.spec.port ≡ port
  pub live : row.dest.live ≡ true
  pub passes : is_row_at key addr port row ≡ true
  pub only : AllByRecursion (λ (other : DestRow). is_row_at key addr port other ≡ true → other ≡ row) rows
