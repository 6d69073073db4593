-- The state that a board stands for, together with the entries beside it.
use Rattle.std.specs.Prelude.{◌≡◌, ℕ, List, [], map}
use Rattle.lvs_types.specs.declared.entry.Entry.{Entry}
use Rattle.lvs_types.specs.declared.snapshot.Snapshot.{Snapshot}
use Rattle.lvs_model.specs.State.{State}
use Rattle.lvs_model.specs.Counts.{row_of}
use Rattle.lvs_model.specs.Snapshots.{snapshot_of}
use Rattle.lvs_dests.specs.Rows.{dests_of}
use Rattle.lvs_templates.specs.Rows.{template_row, templates_of}
use Rattle.lvs_board.specs.Seen.{TablesSeen, BoardSeen}

-- the tables and entries beside them, in so many buckets, as one state
abbrev pub state_in : TablesSeen → List Entry → ℕ → State
state_in t entries buckets = record {
  now = t.now;
  local = t.local;
  buckets = buckets;
  settings = t.settings;
  daemons = t.daemons;
  services = t.services;
  dests = dests_of t.dests.rows;
  templates = templates_of t.templates;
  entries = entries;
  pending = t.pending;
  next_entry = t.next_entry;
  next_dest = t.dests.next;
  next_template = t.next_template;
}

-- each number that stands beside a server or a template is the state's count
pub record AreTotalled (t : TablesSeen) (s : State) : Type 0 where
  pub servers : t.dests.rows ≡ map (row_of s.entries s.templates) s.dests
  pub controls : t.templates ≡ map (template_row s.entries) s.templates

-- the tables are the state's, and the running totals its counts
pub record StandsFor (board : BoardSeen) (s : State) : Type 0 where
  pub tables : state_in board.tables s.entries s.buckets ≡ s
  pub totals : AreTotalled board.tables s

-- a board and entries beside it, in so many buckets, as one state
abbrev pub joined : BoardSeen → List Entry → ℕ → State
joined board entries buckets = state_in board.tables entries buckets

-- the snapshot without its entries
abbrev pub shown_tables : State → Snapshot
shown_tables s = record (snapshot_of s) { entries = [] }
