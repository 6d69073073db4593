-- What the tables show of themselves, in the order in which listings show it.
use Rattle.std.specs.Prelude.{List, [], ◌++◌}
use Rattle.std.specs.List.{filter, flat_map}
use Rattle.lvs_types.specs.declared.service.Service.{Service}
use Rattle.lvs_types.specs.declared.dest.DestRow.{DestRow}
use Rattle.lvs_types.specs.declared.template.Template.{Template}
use Rattle.lvs_types.specs.declared.snapshot.Snapshot.{Snapshot}
use Rattle.lvs_model.specs.Lists.{sorted_by}
use Rattle.lvs_dests.specs.Rows.{is_row_of, is_row_trashed}
use Rattle.lvs_templates.specs.Rows.{templates_of}
use Rattle.lvs_board.specs.Seen.{TablesSeen}

-- the live servers, service by service
abbrev pub live_rows : List Service → List DestRow → List DestRow
live_rows services rows = flat_map (λ (service : Service). filter (is_row_of service.key) rows) services

-- and then the trashed ones by id
abbrev pub shown_rows : List Service → List DestRow → List DestRow
shown_rows services rows = live_rows services rows ++ sorted_by (λ (row : DestRow). row.dest.id.0) (filter is_row_trashed rows)

-- the snapshot without entries
abbrev pub shown_of : TablesSeen → Snapshot
shown_of t = record {
  now = t.now;
  local = t.local;
  settings = t.settings;
  daemons = t.daemons;
  services = t.services;
  dests = shown_rows t.services t.dests.rows;
  templates = sorted_by (λ (template : Template). template.id.0) (templates_of t.templates);
  entries = [];
  pending = t.pending;
}
