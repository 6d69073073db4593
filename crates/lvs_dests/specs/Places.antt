-- Where a server stands, as the tables are keyed.
use Rattle.std.specs.Prelude.{ℕ, Bool, ◌&&◌, ◌==◌}
use Rattle.lvs_types.specs.declared.addr.Addr.{Addr}
use Rattle.lvs_types.specs.declared.service.ServiceKey.{ServiceKey}
use Rattle.lvs_types.specs.declared.service.ServiceKey.TheVariants.{Net, Mark}
use Rattle.lvs_types.specs.declared.dest.DestRow.{DestRow}
use Rattle.lvs_types.specs.Protocols.{proto_code}
use Rattle.lvs_model.specs.Same.{addr_eq}
use Rattle.lvs_dests.specs.declared.place.ServiceName.{ServiceName}
use Rattle.lvs_dests.specs.declared.place.Place.{Place}

abbrev pub name_of : ServiceKey → ServiceName
name_of (Net proto addr port) = record { code = proto_code proto; number = addr.number; port = port }
name_of (Mark mark) = record { code = 0; number = mark; port = 0 }

abbrev pub place_at : ServiceKey → Addr → ℕ → Place
place_at key addr port = record { service = name_of key; addr = addr; port = port }

abbrev pub place_of : DestRow → Place
place_of row = place_at row.dest.service row.dest.spec.addr row.dest.spec.port

abbrev pub name_eq : ServiceName → ServiceName → Bool
name_eq a b = (a.code == b.code) && (a.number == b.number) && (a.port == b.port)

abbrev pub place_eq : Place → Place → Bool
place_eq a b = name_eq a.service b.service && addr_eq a.addr b.addr && (a.port == b.port)

abbrev pub has_place : Place → DestRow → Bool
has_place place row = place_eq (place_of row) place
