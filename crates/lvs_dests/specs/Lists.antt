-- The lists of the live servers of each service.
use Rattle.std.specs.Prelude.{◌<◌, Bool, cond, List, [], Option, Some, None, IsSomeAnd, vec_len, vec_capacity}
use Rattle.std.specs.Global.{Vec}
use Rattle.std.specs.Map.{lookup}
use Rattle.lvs_types.specs.declared.addr.DestId.{DestId}
use Rattle.lvs_types.specs.declared.dest.Candidate.{Candidate}
use Rattle.lvs_model.specs.Same.{dest_id_eq}
use Rattle.lvs_dests.specs.declared.place.ServiceName.{ServiceName}
use Rattle.lvs_dests.specs.contracts.place.ServiceNamePartialEq.TheImpl as name_impl
use Rattle.lvs_dests.specs.declared.lists.Lists.{Lists}

abbrev pub has_candidate_id : DestId → Candidate → Bool
has_candidate_id id candidate = dest_id_eq candidate.id id

-- whether two names are the same, as the map asks
abbrev pub name_same : ServiceName → ServiceName → Bool
name_same = (name_impl.ghosts).eq

abbrev pub items_of : Option (Vec Candidate) → List Candidate
items_of None = []
items_of (Some list) = list.items

-- the list of a service, empty where it has none
abbrev pub list_at : Lists → ServiceName → List Candidate
list_at lists name = items_of (lookup (name_same name) lists.by_service.entries)

-- the lists after one of them is set
abbrev pub list_put : (ServiceName → List Candidate) → ServiceName → List Candidate → ServiceName → List Candidate
list_put lists name list q = cond (name_same name q) list (lists q)

-- one more server fits into the list of a service
abbrev pub HasRoom : Lists → ServiceName → Type 0
HasRoom lists name = IsSomeAnd (lookup (name_same name) lists.by_service.entries) (λ list. vec_len list < vec_capacity list)
