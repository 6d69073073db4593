-- What a director keeps: flat lists, and nothing computed from them.
use Rattle.std.specs.Prelude.{ℕ, List, [], None}
use Rattle.lvs_types.specs.declared.addr.Addr.{Addr}
use Rattle.lvs_types.specs.declared.service.Service.{Service}
use Rattle.lvs_types.specs.declared.dest.Dest.{Dest}
use Rattle.lvs_types.specs.declared.entry.Entry.{Entry}
use Rattle.lvs_types.specs.declared.template.Template.{Template}
use Rattle.lvs_types.specs.declared.settings.Settings.{Settings}
use Rattle.lvs_types.specs.declared.settings.Daemons.{Daemons}
use Rattle.lvs_types.specs.declared.sync.SyncRecord.{SyncRecord}
use Rattle.lvs_types.specs.Settings.{default_settings}

pub record State : Type 0 where
  -- the moment in seconds
  pub now : ℕ
  -- the source of tunnel packets
  pub local : Addr
  pub buckets : ℕ
  pub settings : Settings
  pub daemons : Daemons
  -- in order of addition
  pub services : List Service
  -- live and trashed servers, in order of addition or revival
  pub dests : List Dest
  pub templates : List Template
  pub entries : List Entry
  -- the sync records that wait to be sent, in order
  pub pending : List SyncRecord
  pub next_entry : ℕ
  pub next_dest : ℕ
  pub next_template : ℕ

-- what a director begins with
abbrev pub initial : Addr → ℕ → State
initial local buckets = record {
  now = 0;
  local = local;
  buckets = buckets;
  settings = default_settings;
  daemons = record { master = None; backup = None };
  services = [];
  dests = [];
  templates = [];
  entries = [];
  pending = [];
  next_entry = 1;
  next_dest = 1;
  next_template = 1;
}
