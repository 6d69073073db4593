-- The defaults of the settings, and a setting that changes (the Linux ipvs-sysctl document; the values are this project's profile).
use Rattle.lvs_types.specs.declared.settings.Settings.{Settings}
use Rattle.lvs_types.specs.declared.settings.Setting.{Setting}
use Rattle.lvs_types.specs.declared.settings.Setting.TheVariants.{ExpireNodest, ExpireQuiescent, SloppyTcp, ReuseMode, SyncThreshold, SyncVersion}

-- what a director begins with
abbrev pub default_settings : Settings
default_settings = record {
  expire_nodest = 0;
  expire_quiescent = 0;
  sloppy_tcp = 0;
  reuse_mode = 1;
  threshold = 3;
  period = 50;
  established = 900;
  fin_wait = 120;
  udp = 300;
  sync_version = 1;
}

-- the settings with the named one changed, and no other
abbrev pub with_setting : Settings → Setting → Settings
with_setting s (ExpireNodest value) = record s { expire_nodest = value }
with_setting s (ExpireQuiescent value) = record s { expire_quiescent = value }
with_setting s (SloppyTcp value) = record s { sloppy_tcp = value }
with_setting s (ReuseMode value) = record s { reuse_mode = value }
with_setting s (SyncThreshold threshold period) = record s { threshold = threshold; period = period }
with_setting s (SyncVersion value) = record s { sync_version = value }
