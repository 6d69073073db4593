-- What the pool of servers holds, and what its calls answer and leave: the flat director's rules with each server's three numbers in place of the counts over entries and templates.
use Rattle.std.specs.Prelude.{◌≡◌, ℕ, ◌+◌, ◌-◌, ◌<◌, ◌^◌, Bool, true, false, ◌&&◌, ◌==◌, not, List, [], ◌∷◌, ◌++◌, Option, Some, None, Result, Ok, Err, map, filter_map, nat_eq, if◌then◌else◌}
use Rattle.std.specs.List.{AllByRecursion, IsDistinct, find, filter, list_any}
use Rattle.std.specs.List.Sorted.{IsStrictlyIncreasing}
use Rattle.std.specs.Option.{option_map}
use Rattle.lvs_types.specs.declared.addr.Addr.{Addr}
use Rattle.lvs_types.specs.declared.addr.DestId.{DestId}
use Rattle.lvs_types.specs.declared.service.ServiceKey.{ServiceKey}
use Rattle.lvs_types.specs.declared.dest.DestSpec.{DestSpec}
use Rattle.lvs_types.specs.declared.dest.Dest.{Dest}
use Rattle.lvs_types.specs.declared.dest.DestRow.{DestRow}
use Rattle.lvs_types.specs.declared.dest.Candidate.{Candidate}
use Rattle.lvs_model.specs.Lists.{without}
use Rattle.lvs_model.specs.Same.{dest_id_eq}
use Rattle.lvs_model.specs.Overload.{overload_bound, overload_ended, overload_given}
use Rattle.lvs_model.specs.Lookups.{has_dest_id, is_server_of, is_server_at}
use Rattle.lvs_model.specs.Counts.{is_eligible}
use Rattle.lvs_model.specs.Binding.{serves_at}
use Rattle.lvs_model.specs.Edits.{is_revivable, new_dest}
use Rattle.lvs_model.specs.WellFormed.{dest_ids, place_eq, places}
use Rattle.lvs_dests.specs.declared.refused.DestRefused.{DestRefused}
use Rattle.lvs_dests.specs.declared.refused.DestRefused.TheVariants as refused
use Rattle.lvs_dests.specs.declared.refused.Removed.{Removed}
use Rattle.lvs_dests.specs.declared.refused.Removed.TheVariants as removed
use Rattle.lvs_dests.specs.declared.totals.Totals.{Totals}

pub record DestsSeen : Type 0 where
  -- live and trashed servers, in order of addition or revival, each with its three numbers
  pub rows : List DestRow
  -- the id of the next new server
  pub next : ℕ

-- ---- one server

abbrev pub has_row_id : DestId → DestRow → Bool
has_row_id id row = has_dest_id id row.dest

-- the entries that name the server
abbrev pub row_total : DestRow → ℕ
row_total row = row.active + row.inactive

-- no entry and no template names the server
abbrev pub is_unnamed : DestRow → Bool
is_unnamed row = (row.active == 0) && (row.inactive == 0) && (row.templates == 0)

abbrev pub totals_of : DestRow → Totals
totals_of row = record { active = row.active; inactive = row.inactive; templates = row.templates }

abbrev pub with_overload : Bool → DestRow → DestRow
with_overload overloaded row = record row { dest = record row.dest { overloaded = overloaded } }

-- the number that the flag names: the active one, or the inactive one
abbrev pub named : Bool → DestRow → ℕ
named true row = row.active
named false row = row.inactive

-- each of the three numbers is below 2 ^ 62
pub record IsFarBelow (row : DestRow) : Type 0 where
  pub active : row.active < 2 ^ 62
  pub inactive : row.inactive < 2 ^ 62
  pub templates : row.templates < 2 ^ 62

abbrev pub raised : Bool → DestRow → DestRow
raised true row = record row { active = row.active + 1 }
raised false row = record row { inactive = row.inactive + 1 }

abbrev pub lowered : Bool → DestRow → DestRow
lowered true row = record row { active = row.active - 1 }
lowered false row = record row { inactive = row.inactive - 1 }

abbrev pub look_bound : DestRow → DestRow
look_bound row = with_overload (overload_bound row.dest.spec (row_total row) row.dest.overloaded) row

abbrev pub look_ended : DestRow → DestRow
look_ended row = with_overload (overload_ended row.dest.spec (row_total row) row.dest.overloaded) row

-- an entry was bound to the server: the number rises, and then overload is looked at
abbrev pub bound : Bool → DestRow → DestRow
bound active row = look_bound (raised active row)

-- an entry that named the server was ended
abbrev pub ended : Bool → DestRow → DestRow
ended active row = look_ended (lowered active row)

-- an entry that names the server became active, or inactive
abbrev pub shifted : Bool → DestRow → DestRow
shifted active row = raised active (lowered (not active) row)

-- a template names the server, or no longer does; overload stays
abbrev pub held : DestRow → DestRow
held row = record row { templates = row.templates + 1 }

abbrev pub unheld : DestRow → DestRow
unheld row = record row { templates = row.templates - 1 }

-- as a scheduler sees it
abbrev pub candidate_of_row : DestRow → Candidate
candidate_of_row row = record {
  id = row.dest.id;
  weight = row.dest.spec.weight;
  active = row.active;
  inactive = row.inactive;
  eligible = is_eligible row.dest;
}

-- a new server, which nothing names
abbrev pub new_row : DestId → ServiceKey → DestSpec → DestRow
new_row id key spec = record { dest = new_dest id key spec; active = 0; inactive = 0; templates = 0 }

-- with its id and numbers, and the specification given
abbrev pub respecified_row : DestSpec → DestRow → DestRow
respecified_row spec row = record row { dest = record row.dest { spec = spec; overloaded = overload_given spec (row_total row) } }

-- the same, and live again
abbrev pub revived_row : DestSpec → DestRow → DestRow
revived_row spec row = record row { dest = record row.dest { spec = spec; overloaded = overload_given spec (row_total row); live = true } }

abbrev pub out_of_service : DestRow → DestRow
out_of_service row = record row { dest = record row.dest { live = false } }

-- what is left of a server that leaves its service: nothing where nothing names it, and else the server in the trash
abbrev pub left_row : DestRow → Option DestRow
left_row row = if is_unnamed row then None else Some (out_of_service row)

-- ---- the list

-- the elements that pass are changed
abbrev pub changed : {X : Type 0} → (X → Bool) → (X → X) → List X → List X
changed p f xs = map (λ x. if p x then f x else x) xs

-- the elements that pass are replaced by one, or by none
abbrev pub replaced : {X : Type 0} → (X → Bool) → Option X → List X → List X
replaced p w xs = filter_map (λ x. if p x then w else Some x) xs

abbrev pub dests_of : List DestRow → List Dest
dests_of rows = map (λ row. row.dest) rows

-- ids are apart, and below the next one, and no two servers, live or in the trash, stand at one place
pub record AreWellFormed (seen : DestsSeen) : Type 0 where
  pub ids : IsDistinct nat_eq (dest_ids (dests_of seen.rows))
  pub below : AllByRecursion (λ (row : DestRow). row.dest.id.0 < seen.next) seen.rows
  pub places : IsDistinct place_eq (places (dests_of seen.rows))

-- the server of an id, live or in the trash
abbrev pub row_at : DestId → List DestRow → Option DestRow
row_at id rows = find (has_row_id id) rows

-- the server of an id, changed
abbrev pub change : DestId → (DestRow → DestRow) → DestsSeen → DestsSeen
change id f seen = record seen { rows = changed (has_row_id id) f seen.rows }

-- a live server of the service
abbrev pub is_row_of : ServiceKey → DestRow → Bool
is_row_of key row = is_server_of key row.dest

-- a live server of the service at this address and port
abbrev pub is_row_at : ServiceKey → Addr → ℕ → DestRow → Bool
is_row_at key addr port row = is_server_at key addr port row.dest

abbrev pub is_known : ServiceKey → Addr → ℕ → List DestRow → Bool
is_known key addr port rows = list_any (is_row_at key addr port) rows

-- the live servers of a service, in order of addition
abbrev pub candidates_of : ServiceKey → List DestRow → List Candidate
candidates_of key rows = map candidate_of_row (filter (is_row_of key) rows)

-- a live server of the service that serves at the address and port
abbrev pub is_row_serving : ServiceKey → Addr → ℕ → ℕ → DestRow → Bool
is_row_serving key daddr dport vport row = is_row_of key row && serves_at daddr dport vport row.dest

-- the first one, by the binding rule
abbrev pub serving : ServiceKey → Addr → ℕ → ℕ → List DestRow → Option Dest
serving key daddr dport vport rows = option_map (λ (row : DestRow). row.dest) (find (is_row_serving key daddr dport vport) rows)

-- ---- edits

-- a server is there, and live
abbrev pub is_live_row : Option DestRow → Bool
is_live_row None = false
is_live_row (Some row) = row.dest.live

-- in the trash, of this service, address and port
abbrev pub is_row_revivable : ServiceKey → DestSpec → DestRow → Bool
is_row_revivable key spec row = is_revivable key spec row.dest

-- a server is taken back from the trash, or a new one is made; it stands last
abbrev pub placed_by : ServiceKey → DestSpec → DestsSeen → Option DestRow → DestId × DestsSeen
placed_by key spec seen None =
    (record { 0 = seen.next }, record { rows = seen.rows ++ new_row (record { 0 = seen.next }) key spec ∷ []; next = seen.next + 1 })
placed_by key spec seen (Some row) =
    (row.dest.id, record seen { rows = without (has_row_id row.dest.id) seen.rows ++ revived_row spec row ∷ [] })

-- the id of the server, and the servers then
abbrev pub placed : ServiceKey → DestSpec → DestsSeen → DestId × DestsSeen
placed key spec seen = placed_by key spec seen (find (is_row_revivable key spec) seen.rows)

-- by whether the server is there, and whether the thresholds are crossed
abbrev pub edit_answer : Bool → Bool → Result (Unit {0}) DestRefused
edit_answer false crossed = Err refused.NoDest
edit_answer true true = Err refused.Thresholds
edit_answer true false = Ok tt

abbrev pub edited : ServiceKey → DestSpec → DestsSeen → DestsSeen
edited key spec seen = record seen { rows = changed (is_row_at key spec.addr spec.port) (respecified_row spec) seen.rows }

-- by the server that is there
abbrev pub remove_answer : Option DestRow → Result Removed DestRefused
remove_answer None = Err refused.NoDest
remove_answer (Some row) = if is_unnamed row then Ok removed.Released else Ok removed.Trashed

abbrev pub removed_by : DestsSeen → Option DestRow → DestsSeen
removed_by seen None = seen
removed_by seen (Some row) = record seen { rows = replaced (has_row_id row.dest.id) (left_row row) seen.rows }

-- what is left of a server once all live ones have left their services
abbrev pub left_live : DestRow → Option DestRow
left_live row = if row.dest.live then left_row row else Some row

abbrev pub all_left : List DestRow → List DestRow
all_left rows = filter_map left_live rows

-- ---- the trash

abbrev pub is_row_trashed : DestRow → Bool
is_row_trashed row = not row.dest.live

-- in the trash, and nothing names it
abbrev pub is_row_released : DestRow → Bool
is_row_released row = not row.dest.live && is_unnamed row

-- the server of the id is in the trash
abbrev pub is_trashed : DestId → DestRow → Bool
is_trashed id row = not row.dest.live && has_row_id id row

-- the ids of the servers in the trash, exactly those, rising
pub record IsTrashOf (rows : List DestRow) (ids : List DestId) : Type 0 where
  pub rising : IsStrictlyIncreasing (map (λ (id : DestId). id.0) ids)
  pub members : (id : DestId) → list_any (λ (other : DestId). dest_id_eq other id) ids ≡ list_any (is_trashed id) rows
