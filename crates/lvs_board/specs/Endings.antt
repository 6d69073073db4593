-- What an entry that comes, changes or leaves makes of the numbers beside the servers and the templates.
use Rattle.std.specs.Prelude.{◌≡◌, ◌+◌, ◌-◌, ◌<◌, ◌^◌, cond, not, List, [], ◌∷◌, Some, map, IfSome}
use Rattle.std.specs.List.{find}
use Rattle.lvs_types.specs.declared.addr.DestId.{DestId}
use Rattle.lvs_types.specs.declared.addr.TemplateId.{TemplateId}
use Rattle.lvs_types.specs.declared.dest.DestRow.{DestRow}
use Rattle.lvs_types.specs.declared.entry.Entry.{Entry}
use Rattle.lvs_model.specs.Counts.{is_made_by}
use Rattle.lvs_model.specs.Same.{dest_eq}
use Rattle.lvs_model.specs.Timeouts.{is_active}
use Rattle.lvs_dests.specs.Rows.{bound, ended, named, row_at, IsFarBelow}
use Rattle.lvs_templates.specs.declared.row.TemplateRow.{TemplateRow}
use Rattle.lvs_templates.specs.Rows.{has_id}

-- SERVERS

abbrev pub end_one : Entry → DestRow → DestRow
end_one e row = cond (dest_eq e.server row.dest.id) (ended (is_active e.state) row) row

abbrev pub come_one : Entry → DestRow → DestRow
come_one e row = cond (dest_eq e.server row.dest.id) (bound (is_active e.state) row) row

-- each of the entries leaves, in order
abbrev pub ends_row : List Entry → DestRow → DestRow
ends_row [] row = row
ends_row (e ∷ due) row = ends_row due (end_one e row)

-- the entry counts at its server, where that is there
abbrev pub IsCountedAt : Entry → List DestRow → Type 0
IsCountedAt e rows = (id : DestId) → e.server ≡ Some id → IfSome (row_at id rows) (λ row. 0 < named (is_active e.state) row)

-- so does each when its turn has come
abbrev pub CanLeave : List Entry → List DestRow → Type 0
CanLeave [] rows = Unit {0}
CanLeave (e ∷ due) rows = IsCountedAt e rows × CanLeave due (map (end_one e) rows)

-- one more entry can be counted at its server
abbrev pub CanCome : Entry → List DestRow → Type 0
CanCome e rows = (id : DestId) → e.server ≡ Some id → IfSome (row_at id rows) IsFarBelow

-- TEMPLATES

abbrev pub less_one : Entry → TemplateRow → TemplateRow
less_one e row = cond (is_made_by row.template.id e.template) (record row { controls = row.controls - 1 }) row

abbrev pub more_one : Entry → TemplateRow → TemplateRow
more_one e row = cond (is_made_by row.template.id e.template) (record row { controls = row.controls + 1 }) row

abbrev pub lessens_row : List Entry → TemplateRow → TemplateRow
lessens_row [] row = row
lessens_row (e ∷ due) row = lessens_row due (less_one e row)

abbrev pub IsControlledAt : Entry → List TemplateRow → Type 0
IsControlledAt e rows = (id : TemplateId) → e.template ≡ Some id → IfSome (find (has_id id) rows) (λ row. 0 < row.controls)

abbrev pub CanLessen : List Entry → List TemplateRow → Type 0
CanLessen [] rows = Unit {0}
CanLessen (e ∷ due) rows = IsControlledAt e rows × CanLessen due (map (less_one e) rows)

abbrev pub CanControl : Entry → List TemplateRow → Type 0
CanControl e rows = (id : TemplateId) → e.template ≡ Some id → IfSome (find (has_id id) rows) (λ row. row.controls < 2 ^ 63)

-- ONE THAT STAYS

-- the entry counts at its server in the number of its state, where it becomes active or inactive, and one more fits
abbrev pub CanMove : Entry → Entry → List DestRow → Type 0
CanMove x v rows = (id : DestId) → v.server ≡ Some id → is_active x.state ≡ not (is_active v.state) → IfSome (row_at id rows) IsFarBelow × IfSome (row_at id rows) (λ row. 0 < named (not (is_active v.state)) row)
