-- What a director shows of itself.
use Rattle.std.specs.Prelude.{List, ◌++◌, map, not}
use Rattle.std.specs.List.{filter, flat_map}
use Rattle.lvs_types.specs.declared.service.Service.{Service}
use Rattle.lvs_types.specs.declared.dest.Dest.{Dest}
use Rattle.lvs_types.specs.declared.entry.Entry.{Entry}
use Rattle.lvs_types.specs.declared.template.Template.{Template}
use Rattle.lvs_types.specs.declared.snapshot.Snapshot.{Snapshot}
use Rattle.lvs_model.specs.State.{State}
use Rattle.lvs_model.specs.Lists.{sorted_by}
use Rattle.lvs_model.specs.Lookups.{servers_of}
use Rattle.lvs_model.specs.Counts.{row_of}

-- the servers as a snapshot shows them: the live ones service by service, in order, and then the trashed ones by id
abbrev pub shown_dests : List Service → List Dest → List Dest
shown_dests services dests =
    flat_map (λ (service : Service). servers_of service.key dests) services ++ sorted_by (λ (d : Dest). d.id.0) (filter (λ (d : Dest). not d.live) dests)

abbrev pub snapshot_of : State → Snapshot
snapshot_of s = record {
  now = s.now;
  local = s.local;
  settings = s.settings;
  daemons = s.daemons;
  services = s.services;
  dests = map (row_of s.entries s.templates) (shown_dests s.services s.dests);
  templates = sorted_by (λ (t : Template). t.id.0) s.templates;
  entries = sorted_by (λ (e : Entry). e.id) s.entries;
  pending = s.pending;
}
