-- What a contract sees of a board.
use Rattle.std.specs.Prelude.{ℕ, List, [], None}
use Rattle.lvs_types.specs.declared.addr.Addr.{Addr}
use Rattle.lvs_types.specs.declared.service.Service.{Service}
use Rattle.lvs_types.specs.declared.settings.Settings.{Settings}
use Rattle.lvs_types.specs.declared.settings.Daemons.{Daemons}
use Rattle.lvs_types.specs.declared.sync.SyncRecord.{SyncRecord}
use Rattle.lvs_types.specs.declared.item.Item.{Item}
use Rattle.lvs_types.specs.declared.reply.Reply.{Reply}
use Rattle.lvs_types.specs.declared.book.Noted.{Noted}
use Rattle.lvs_types.specs.Settings.{default_settings}
use Rattle.lvs_dests.specs.Rows.{DestsSeen}
use Rattle.lvs_templates.specs.declared.row.TemplateRow.{TemplateRow}

-- all that a director keeps but the entries, and beside each server and template how many entries and templates name it
pub record TablesSeen : Type 0 where
  -- the moment in seconds
  pub now : ℕ
  pub local : Addr
  pub settings : Settings
  pub daemons : Daemons
  pub services : List Service
  pub dests : DestsSeen
  pub templates : List TemplateRow
  pub pending : List SyncRecord
  pub next_entry : ℕ
  pub next_template : ℕ

pub record BoardSeen : Type 0 where
  pub tables : TablesSeen
  -- the acts that weren't taken out, in order
  pub book : List Noted
  -- how many items it has taken
  pub steps : ℕ

-- an act of the book
abbrev pub noted : ℕ → ℕ → Item → Reply → Noted
noted actor number item reply = record { actor = actor; number = number; item = item; reply = reply }

-- tables with nothing in them
abbrev pub begun : Addr → TablesSeen
begun local = record {
  now = 0;
  local = local;
  settings = default_settings;
  daemons = record { master = None; backup = None };
  services = [];
  dests = record { rows = []; next = 1 };
  templates = [];
  pending = [];
  next_entry = 1;
  next_template = 1;
}
