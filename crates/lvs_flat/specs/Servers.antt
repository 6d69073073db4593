-- A cursor that goes back to a given server.
use Rattle.std.specs.Prelude.{Option, if◌then◌else◌}
use Rattle.lvs_types.specs.declared.addr.DestId.{DestId}
use Rattle.lvs_types.specs.declared.service.Service.{Service}
use Rattle.lvs_model.specs.Same.{dest_eq}

-- a cursor that names the server goes back to this one
abbrev pub step_back_to : DestId → Option DestId → Service → Service
step_back_to id before service =
    if dest_eq service.cursor.last id then record service { cursor = record { last = before; cw = service.cursor.cw } } else service
