-- Edits keep the state well formed.
use Rattle.std.proofs.Common.{ℕ, Option, Some, None, refl}
use Rattle.lvs_types.specs.declared.command.Command.{Command}
use Rattle.lvs_types.specs.declared.command.Command.TheVariants as command
use Rattle.lvs_types.specs.declared.settings.Setting.{Setting}
use Rattle.lvs_types.specs.Settings.{with_setting}
use Rattle.lvs_types.specs.Thresholds.{has_bad_thresholds}
use Rattle.lvs_model.specs.State.{State}
use Rattle.lvs_model.specs.Edits.{edit, set, is_service, is_server, with_timeouts, start_master, start_backup, stop_master, stop_backup}
use Rattle.lvs_well_formed.proofs.Parts.{Parts, After, ids_stay, stays}
use Rattle.lvs_well_formed.proofs.Clocks.{with_clock}
use Rattle.lvs_well_formed.proofs.Services.{add_service_after, edit_service_after, remove_service_after, clear_after}
use Rattle.lvs_well_formed.proofs.ServerRemovals.{remove_server_after}
use Rattle.lvs_well_formed.proofs.Servers.{add_server_after, edit_server_after}

start_master_after : (s : State) (id : ℕ) (o : Option ℕ) → Parts s → After s (start_master s id o).1
start_master_after s id (Some runs) p = stays s p
start_master_after s id None p = with_clock s s.now s.settings (record s.daemons { master = Some id }) (λ none. absurd cc) p

start_backup_after : (s : State) (id : ℕ) (o : Option ℕ) → Parts s → After s (start_backup s id o).1
start_backup_after s id (Some runs) p = stays s p
start_backup_after s id None p = with_clock s s.now s.settings (record s.daemons { backup = Some id }) (λ none. none) p

stop_master_after : (s : State) (o : Option ℕ) → Parts s → After s (stop_master s o).1
stop_master_after s None p = stays s p
stop_master_after s (Some runs) p = record {
  parts = record { services = p.services; dests = p.dests; entries = p.entries; templates = p.templates; pending = λ none. refl };
  ids = record { entries = (ids_stay s).entries; dests = (ids_stay s).dests; templates = (ids_stay s).templates };
}

stop_backup_after : (s : State) (o : Option ℕ) → Parts s → After s (stop_backup s o).1
stop_backup_after s None p = stays s p
stop_backup_after s (Some runs) p = with_clock s s.now s.settings (record s.daemons { backup = None }) (λ none. none) p

pub edit_after : (s : State) (c : Command) → Parts s → After s (edit s c).1
edit_after s (command.AddService service) p = add_service_after s service (is_service s service.key) refl p
edit_after s (command.EditService service) p = edit_service_after s service (is_service s service.key) p
edit_after s (command.RemoveService key) p = remove_service_after s key (is_service s key) p
edit_after s command.Clear p = clear_after s p
edit_after s (command.AddServer key spec) p = add_server_after s key spec (is_service s key) (is_server s key spec.addr spec.port) (has_bad_thresholds spec) refl refl refl p
edit_after s (command.EditServer key spec) p = edit_server_after s key spec (is_service s key) (is_server s key spec.addr spec.port) (has_bad_thresholds spec) refl p
edit_after s (command.RemoveServer key addr port) p = remove_server_after s key addr port (is_service s key) p
edit_after s (command.Timeouts established fin_wait udp) p = with_clock s s.now (with_timeouts established fin_wait udp s.settings) s.daemons (λ none. none) p
edit_after s (command.StartMaster id) p = start_master_after s id s.daemons.master p
edit_after s (command.StartBackup id) p = start_backup_after s id s.daemons.backup p
edit_after s command.StopMaster p = stop_master_after s s.daemons.master p
edit_after s command.StopBackup p = stop_backup_after s s.daemons.backup p

pub set_after : (s : State) (setting : Setting) → Parts s → After s (set s setting).1
set_after s setting p = with_clock s s.now (with_setting s.settings setting) s.daemons (λ none. none) p
