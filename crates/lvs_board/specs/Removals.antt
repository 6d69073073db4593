-- A cursor that names a server that leaves.
use Rattle.std.specs.Prelude.{List, [], ◌∷◌, filter_map, Option, Some, None, if◌then◌else◌}
use Rattle.lvs_types.specs.declared.addr.DestId.{DestId}
use Rattle.lvs_types.specs.declared.service.Service.{Service}
use Rattle.lvs_types.specs.declared.service.ServiceKey.{ServiceKey}
use Rattle.lvs_types.specs.declared.dest.DestRow.{DestRow}
use Rattle.lvs_types.specs.declared.dest.Candidate.{Candidate}
use Rattle.lvs_model.specs.Same.{dest_id_eq, dest_eq}
use Rattle.lvs_dests.specs.Rows.{is_row_of, left_row}

-- the candidate that stands before the one of this id, the first one's being this one
abbrev pub candidate_before : DestId → Option DestId → List Candidate → Option DestId
candidate_before id previous [] = None
candidate_before id previous (c ∷ cs) = if dest_id_eq c.id id then previous else candidate_before id (Some c.id) cs

-- a cursor that names the server goes back to the one before it
abbrev pub stepped_back : DestId → List Candidate → Service → Service
stepped_back id cs service =
    if dest_eq service.cursor.last id then record service { cursor = record { last = candidate_before id None cs; cw = service.cursor.cw } }
    else service

-- what is left of each server once those of the service have left it
abbrev pub left_of : ServiceKey → DestRow → Option DestRow
left_of key row = if is_row_of key row then left_row row else Some row

abbrev pub left_in : ServiceKey → List DestRow → List DestRow
left_in key rows = filter_map (left_of key) rows
