-- Look-ups of rows are look-ups of servers.
use Rattle.std.proofs.Common.{◌≡◌, Bool, true, false, cond, List, [], ◌∷◌, Option, Some, None, refl, sym, subst, nat_eq}
use Rattle.std.specs.Option.{IfSome, option_map}
use Rattle.std.specs.List.{find, IsDistinct}
use Rattle.lvs_types.specs.declared.addr.DestId.{DestId}
use Rattle.lvs_types.specs.declared.dest.Dest.{Dest}
use Rattle.lvs_types.specs.declared.dest.DestRow.{DestRow}
use Rattle.lvs_model.specs.Lookups.{has_dest_id, dest_at}
use Rattle.lvs_model.specs.WellFormed.{dest_ids}
use Rattle.lvs_well_formed.proofs.Keys.{nat_same, dest_id_true}
use Rattle.lvs_well_formed.proofs.Lists.{find_passes, all_find}
use Rattle.lvs_well_formed.proofs.Distinct.{each_found}
use Rattle.lvs_dests.specs.Rows.{dests_of}

dest_step : (b : Bool) (row : DestRow) (r : Option DestRow) (o : Option Dest) → option_map (λ (x : DestRow). x.dest) r ≡ o → option_map (λ (x : DestRow). x.dest) (cond b (Some row) r) ≡ cond b (Some row.dest) o
dest_step true row r o rest = refl
dest_step false row r o rest = rest

pub dest_found : (p : Dest → Bool) (rows : List DestRow) → option_map (λ (row : DestRow). row.dest) (find (λ (row : DestRow). p row.dest) rows) ≡ find p (dests_of rows)
dest_found p [] = refl
dest_found p (row ∷ rows) = dest_step (p row.dest) row (find (λ (x : DestRow). p x.dest) rows) (find p (dests_of rows)) (dest_found p rows)

serves_step : (id : DestId) (ds : List Dest) (o : Option Dest) → dest_at id ds ≡ o → IfSome o (λ d. dest_at d.id ds ≡ Some d)
serves_step id ds None is = tt
serves_step id ds (Some d) is = subst (λ (named : DestId). dest_at named ds ≡ Some d) (sym (dest_id_true d.id id (find_passes (has_dest_id id) ds d is))) is

-- the server of an id is the one of its own id
pub id_serves : (id : DestId) (ds : List Dest) → IfSome (dest_at id ds) (λ d. dest_at d.id ds ≡ Some d)
id_serves id ds = serves_step id ds (dest_at id ds) refl

served_step : (p : Dest → Bool) (ds : List Dest) (o : Option Dest) → IsDistinct nat_eq (dest_ids ds) → find p ds ≡ o → IfSome o (λ d. dest_at d.id ds ≡ Some d)
served_step p ds None apart is = tt
served_step p ds (Some d) apart is = all_find (λ (x : Dest). dest_at x.id ds ≡ Some x) p ds d (each_found nat_eq (λ (x : Dest). x.id.0) ds nat_same apart) is

-- what was found by a test is the server of its id
pub found_serves : (p : Dest → Bool) (ds : List Dest) → IsDistinct nat_eq (dest_ids ds) → IfSome (find p ds) (λ d. dest_at d.id ds ≡ Some d)
found_serves p ds apart = served_step p ds (find p ds) apart refl
