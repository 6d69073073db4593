-- The tables as they are, or as they would be once an entry had ended.
use Rattle.std.specs.Prelude.{List, Option, Some, None, if◌then◌else◌, map}
use Rattle.lvs_types.specs.declared.dest.Dest.{Dest}
use Rattle.lvs_types.specs.declared.entry.Entry.{Entry}
use Rattle.lvs_model.specs.State.{State}
use Rattle.lvs_model.specs.Same.{dest_id_eq}
use Rattle.lvs_model.specs.Lists.{without}
use Rattle.lvs_model.specs.Lookups.{has_entry_id}
use Rattle.lvs_rules.specs.declared.view.Overload.{Overload}
use Rattle.lvs_rules.specs.declared.view.View.{View}

-- the server as it would be
abbrev pub dest_in : Option Overload → Dest → Dest
dest_in None d = d
dest_in (Some o) d = if dest_id_eq d.id o.server then record d { overloaded = o.overloaded } else d

abbrev pub dests_in : Option Overload → List Dest → List Dest
dests_in overload dests = map (dest_in overload) dests

-- the entries that would be there
abbrev pub entries_in : Option Entry → List Entry → List Entry
entries_in None entries = entries
entries_in (Some e) entries = without (has_entry_id e.id) entries

abbrev pub seen_in : View → State → State
seen_in view s = record s { entries = entries_in view.ended s.entries; dests = dests_in view.overload s.dests }
