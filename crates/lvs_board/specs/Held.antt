-- What a template that comes or leaves makes of the numbers beside the servers.
use Rattle.std.specs.Prelude.{◌≡◌, ◌<◌, cond, List, [], ◌∷◌, Option, Some, None, map, IfSome}
use Rattle.lvs_types.specs.declared.addr.DestId.{DestId}
use Rattle.lvs_types.specs.declared.dest.DestRow.{DestRow}
use Rattle.lvs_types.specs.declared.template.Template.{Template}
use Rattle.lvs_model.specs.Same.{dest_eq}
use Rattle.lvs_dests.specs.Rows.{held, unheld, row_at, IsFarBelow}

-- the server that it names
abbrev pub held_by : Option Template → Option DestId
held_by None = None
held_by (Some t) = t.server

-- the server that a template names now, where it named none before
abbrev pub newly_named : Option DestId → Option DestId → Option DestId
newly_named None after = after
newly_named (Some id) after = None

abbrev pub hold_one : Option DestId → DestRow → DestRow
hold_one server row = cond (dest_eq server row.dest.id) (held row) row

abbrev pub unhold_one : Option DestId → DestRow → DestRow
unhold_one server row = cond (dest_eq server row.dest.id) (unheld row) row

-- one more template can be counted at the server
abbrev pub CanHold : Option DestId → List DestRow → Type 0
CanHold server rows = (id : DestId) → server ≡ Some id → IfSome (row_at id rows) IsFarBelow

-- a template counts at the server
abbrev pub IsHeldAt : Option DestId → List DestRow → Type 0
IsHeldAt server rows = (id : DestId) → server ≡ Some id → IfSome (row_at id rows) (λ row. 0 < row.templates)

-- each of the templates leaves, in order
abbrev pub unholds_row : List Template → DestRow → DestRow
unholds_row [] row = row
unholds_row (t ∷ gone) row = unholds_row gone (unhold_one t.server row)

-- each counts when its turn has come
abbrev pub CanUnhold : List Template → List DestRow → Type 0
CanUnhold [] rows = Unit {0}
CanUnhold (t ∷ gone) rows = IsHeldAt t.server rows × CanUnhold gone (map (unhold_one t.server) rows)
