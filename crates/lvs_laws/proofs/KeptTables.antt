-- A connection through a sweep, a record and an edit.
use Rattle.std.proofs.Common.{◌≡◌, ◌==◌, ◌+◌, ℕ, Bool, true, false, cond, not, [], ◌∷◌, ◌++◌, Option, Some, None, refl, sym, ap, subst, ◌∙◌, nat_le}
use Rattle.std.proofs.lemmas.Bool.{and_parts, eqb-true, leb-true}
use Rattle.std.specs.List.{find}
use Rattle.lvs_types.specs.declared.addr.Addr.{Addr}
use Rattle.lvs_types.specs.declared.service.Service.{Service}
use Rattle.lvs_types.specs.declared.service.ServiceKey.{ServiceKey}
use Rattle.lvs_types.specs.declared.dest.Dest.{Dest}
use Rattle.lvs_types.specs.declared.dest.DestSpec.{DestSpec}
use Rattle.lvs_types.specs.declared.entry.Entry.{Entry}
use Rattle.lvs_types.specs.declared.template.Template.{Template}
use Rattle.lvs_types.specs.declared.command.Command.{Command}
use Rattle.lvs_types.specs.declared.command.Command.TheVariants as command
use Rattle.lvs_types.specs.declared.item.Item.TheVariants as item
use Rattle.lvs_types.specs.declared.sync.SyncItem.{SyncItem}
use Rattle.lvs_types.specs.declared.sync.SyncItem.TheVariants.{V4, V6}
use Rattle.lvs_types.specs.declared.sync.SyncRecord.{SyncRecord}
use Rattle.lvs_types.specs.declared.sync.Learnt.{Learnt}
use Rattle.lvs_types.specs.declared.sync.Learnt.TheVariants as learnt
use Rattle.lvs_types.specs.Thresholds.{has_bad_thresholds}
use Rattle.lvs_model.specs.State.{State}
use Rattle.lvs_model.specs.Lookups.{entry_at, has_entry_id, template_at, is_server_at}
use Rattle.lvs_model.specs.Binding.{put_entry}
use Rattle.lvs_model.specs.Incoming.{end_entry}
use Rattle.lvs_model.specs.Clock.{is_swept, entry_bucket, sweep}
use Rattle.lvs_model.specs.Edits.{edit, add_service_by, edit_service_by, remove_service_by, add_server_by, edit_server_by, remove_server_by, remove_server_at, place_server, start_master, start_backup, stop_master, stop_backup, is_service, is_server, is_revivable}
use Rattle.lvs_model.specs.SyncRules.{accept, is_template_record}
use Rattle.lvs_model.specs.Learning.{recorded_key, recorded_entry, add_entry, relearnt, goes_to_recorded, relearn, learn_connection, recorded_template_key, template_goes_to_recorded, relearn_template, learn_template, learn_record, learn_by}
use Rattle.lvs_well_formed.proofs.Parts.{Parts}
use Rattle.lvs_well_formed.proofs.Entries.{IsEntryOf, entries_found}
use Rattle.lvs_well_formed.proofs.Free.{found_by_key, found_of_key}
use Rattle.lvs_well_formed.proofs.Finds.{find_put}
use Rattle.lvs_well_formed.proofs.Keys.{nat_same}
use Rattle.lvs_laws.specs.Keeping.{IsSameConnection, IsKeptUnless, entry_of_id, IsSweptBy, IsReplacedBy, LeavesBy}
use Rattle.lvs_laws.proofs.Kept.{same_self, kept_found, kept_weaker, then_kept, put_kept, push_else, filter_kept, ended_kept, drawn_below, below_differs, not_false}
use Rattle.lvs_laws.proofs.KeptConnects.{FindsSame, try_kept, try_else}

-- A SWEEP

pub sweep_kept : (s : State) (bucket : ℕ) (e : Entry) → Parts s → IsEntryOf s e → IsKeptUnless (IsSweptBy s e bucket) e (entry_of_id e.id (sweep s bucket).1.entries)
sweep_kept s bucket e parts found =
    kept_weaker (not (is_swept s bucket e) ≡ false) (IsSweptBy s e bucket) e (entry_of_id e.id (sweep s bucket).1.entries)
    (λ is.
    let both = and_parts (entry_bucket s.buckets e == bucket) (nat_le e.deadline s.now) (not_false (is_swept s bucket e) is) in
    record { same_bucket = eqb-true (entry_bucket s.buckets e) bucket both.0; due = leb-true e.deadline s.now both.1 })
    (filter_kept (λ (f : Entry). not (is_swept s bucket f)) s.entries e (entries_found s parts) found)

-- A RECORD

add_entry_same : (s : State) (x : Entry) (id : ℕ) → (x.id == id) ≡ false → FindsSame id s (add_entry s x)
add_entry_same s x id differs =
    let added : State = record s { entries = s.entries ++ x ∷ []; next_entry = s.next_entry + 1 } in
    try_else added x None id differs ∙ push_else x s.entries id differs

-- another address or port of its key
abbrev Elsewhere : SyncRecord → Entry → Type 0
Elsewhere r e = (recorded_key r ≡ e.key) × (goes_to_recorded r e ≡ false)

relearn_kept : (s : State) (r : SyncRecord) (x e : Entry) (b : Bool) → goes_to_recorded r x ≡ b → x.key ≡ recorded_key r → Parts s → IsEntryOf s x → IsEntryOf s e → IsKeptUnless (Elsewhere r e) e (entry_of_id e.id (relearn s r x b).entries)
relearn_kept s r x e true is key parts there found =
    let after : Entry = relearnt s r x in
    let put : State = record s { entries = put_entry after s.entries } in
    let same : IsSameConnection x after = record { id = refl; key = refl; daddr = refl; dport = refl; server = λ bound. refl; method = λ bound. refl } in
    let k = put_kept s.entries x after e there same found in
    then_kept (Elsewhere r e) e put.entries (relearn s r x true).entries k
    (λ now.
    let l = try_kept put after k.later after.server (find_put (has_entry_id after.id) after s.entries x there (nat_same after.id)) refl now in
    kept_found (Elsewhere r e) k.later l.later (entry_of_id k.later.id (relearn s r x true).entries) l.found l.same)
relearn_kept s r x e false is key parts there found =
    let left : State = end_entry x s in
    subst (IsKeptUnless (Elsewhere r e) e) (sym (add_entry_same left (recorded_entry left r) e.id (below_differs e.id s.next_entry (drawn_below s e parts found))))
    (kept_weaker (x ≡ e) (Elsewhere r e) e (entry_of_id e.id left.entries)
    (λ one. (sym key ∙ ap (λ (f : Entry). f.key) one, subst (λ f. goes_to_recorded r f ≡ false) one is))
    (ended_kept s.entries x e (entries_found s parts) there found))

learn_connection_kept : (s : State) (r : SyncRecord) (o : Option Entry) (e : Entry) → entry_at (recorded_key r) s.entries ≡ o → Parts s → IsEntryOf s e → IsKeptUnless (Elsewhere r e) e (entry_of_id e.id (learn_connection s r o).entries)
learn_connection_kept s r None e is parts found =
    kept_found (Elsewhere r e) e e (entry_of_id e.id (add_entry s (recorded_entry s r)).entries)
    (add_entry_same s (recorded_entry s r) e.id (below_differs e.id s.next_entry (drawn_below s e parts found)) ∙ found) (same_self e)
learn_connection_kept s r (Some x) e is parts found =
    relearn_kept s r x e (goes_to_recorded r x) refl (found_of_key s (recorded_key r) x is) parts (found_by_key s (recorded_key r) x parts is) found

relearn_template_same : (s : State) (r : SyncRecord) (t : Template) (b : Bool) → (relearn_template s r t b).entries ≡ s.entries
relearn_template_same s r t true = refl
relearn_template_same s r t false = refl

learn_template_same : (s : State) (r : SyncRecord) (o : Option Template) → (learn_template s r o).entries ≡ s.entries
learn_template_same s r None = refl
learn_template_same s r (Some t) = relearn_template_same s r t (template_goes_to_recorded r t)

record_by : (Way : Type 0) (e : Entry) (b : Bool) (t u : State) → (b ≡ true → IsKeptUnless Way e (entry_of_id e.id t.entries)) → (b ≡ false → IsKeptUnless Way e (entry_of_id e.id u.entries)) → IsKeptUnless Way e (entry_of_id e.id (cond b t u).entries)
record_by Way e true t u first second = first refl
record_by Way e false t u first second = second refl

learn_record_kept : (s : State) (r : SyncRecord) (e : Entry) → Parts s → IsEntryOf s e → IsKeptUnless ((is_template_record r ≡ false) × Elsewhere r e) e (entry_of_id e.id (learn_record s r).entries)
learn_record_kept s r e parts found =
    let o : Option Template = template_at (recorded_template_key r) s.templates in
    let own : Option Entry = entry_at (recorded_key r) s.entries in
    record_by ((is_template_record r ≡ false) × Elsewhere r e) e (is_template_record r) (learn_template s r o) (learn_connection s r own)
    (λ is. kept_found ((is_template_record r ≡ false) × Elsewhere r e) e e (entry_of_id e.id (learn_template s r o).entries) (ap (λ es. entry_of_id e.id es) (learn_template_same s r o) ∙ found) (same_self e))
    (λ is. kept_weaker (Elsewhere r e) ((is_template_record r ≡ false) × Elsewhere r e) e (entry_of_id e.id (learn_connection s r own).entries) (λ elsewhere. (is, elsewhere)) (learn_connection_kept s r own e refl parts found))

pub learn_by_kept : (s : State) (sync_id : ℕ) (i : SyncItem) (a : Learnt) (e : Entry) → accept s.daemons.backup sync_id i ≡ a → Parts s → IsEntryOf s e → IsKeptUnless (LeavesBy s e (item.Learn sync_id i)) e (entry_of_id e.id (learn_by s i a).1.entries)
learn_by_kept s sync_id V6 learnt.Accepted e is parts found = kept_found ⊥ e e (entry_of_id e.id s.entries) found (same_self e)
learn_by_kept s sync_id (V4 r) learnt.Accepted e is parts found =
    kept_weaker ((is_template_record r ≡ false) × Elsewhere r e) (IsReplacedBy s e sync_id r) e (entry_of_id e.id (learn_record s r).entries)
    (λ way. record { accepted = is; connection = way.0; key = way.1.0; elsewhere = way.1.1 }) (learn_record_kept s r e parts found)
learn_by_kept s sync_id i learnt.Off e is parts found = kept_found (LeavesBy s e (item.Learn sync_id i)) e e (entry_of_id e.id s.entries) found (same_self e)
learn_by_kept s sync_id i learnt.OtherId e is parts found = kept_found (LeavesBy s e (item.Learn sync_id i)) e e (entry_of_id e.id s.entries) found (same_self e)
learn_by_kept s sync_id i learnt.V6 e is parts found = kept_found (LeavesBy s e (item.Learn sync_id i)) e e (entry_of_id e.id s.entries) found (same_self e)
learn_by_kept s sync_id i learnt.BadProto e is parts found = kept_found (LeavesBy s e (item.Learn sync_id i)) e e (entry_of_id e.id s.entries) found (same_self e)
learn_by_kept s sync_id i learnt.BadState e is parts found = kept_found (LeavesBy s e (item.Learn sync_id i)) e e (entry_of_id e.id s.entries) found (same_self e)
learn_by_kept s sync_id i learnt.BadMethod e is parts found = kept_found (LeavesBy s e (item.Learn sync_id i)) e e (entry_of_id e.id s.entries) found (same_self e)

-- AN EDIT: it leaves the entries as they are

add_service_same : (s : State) (service : Service) (b : Bool) → (add_service_by s service b).1.entries ≡ s.entries
add_service_same s service true = refl
add_service_same s service false = refl

edit_service_same : (s : State) (service : Service) (b : Bool) → (edit_service_by s service b).1.entries ≡ s.entries
edit_service_same s service true = refl
edit_service_same s service false = refl

remove_service_same : (s : State) (key : ServiceKey) (b : Bool) → (remove_service_by s key b).1.entries ≡ s.entries
remove_service_same s key true = refl
remove_service_same s key false = refl

place_server_same : (s : State) (key : ServiceKey) (spec : DestSpec) (o : Option Dest) → (place_server s key spec o).entries ≡ s.entries
place_server_same s key spec None = refl
place_server_same s key spec (Some d) = refl

add_server_same : (s : State) (key : ServiceKey) (spec : DestSpec) (a b c : Bool) → (add_server_by s key spec a b c).1.entries ≡ s.entries
add_server_same s key spec false b c = refl
add_server_same s key spec true true c = refl
add_server_same s key spec true false true = refl
add_server_same s key spec true false false = place_server_same s key spec (find (is_revivable key spec) s.dests)

edit_server_same : (s : State) (key : ServiceKey) (spec : DestSpec) (a b c : Bool) → (edit_server_by s key spec a b c).1.entries ≡ s.entries
edit_server_same s key spec false b c = refl
edit_server_same s key spec true false c = refl
edit_server_same s key spec true true true = refl
edit_server_same s key spec true true false = refl

remove_at_same : (s : State) (key : ServiceKey) (o : Option Dest) → (remove_server_at s key o).1.entries ≡ s.entries
remove_at_same s key None = refl
remove_at_same s key (Some d) = refl

remove_server_same : (s : State) (key : ServiceKey) (addr : Addr) (port : ℕ) (b : Bool) → (remove_server_by s key addr port b).1.entries ≡ s.entries
remove_server_same s key addr port false = refl
remove_server_same s key addr port true = remove_at_same s key (find (is_server_at key addr port) s.dests)

start_master_same : (s : State) (id : ℕ) (o : Option ℕ) → (start_master s id o).1.entries ≡ s.entries
start_master_same s id (Some runs) = refl
start_master_same s id None = refl

start_backup_same : (s : State) (id : ℕ) (o : Option ℕ) → (start_backup s id o).1.entries ≡ s.entries
start_backup_same s id (Some runs) = refl
start_backup_same s id None = refl

stop_master_same : (s : State) (o : Option ℕ) → (stop_master s o).1.entries ≡ s.entries
stop_master_same s (Some runs) = refl
stop_master_same s None = refl

stop_backup_same : (s : State) (o : Option ℕ) → (stop_backup s o).1.entries ≡ s.entries
stop_backup_same s (Some runs) = refl
stop_backup_same s None = refl

pub edit_same : (s : State) (c : Command) → (edit s c).1.entries ≡ s.entries
edit_same s (command.AddService service) = add_service_same s service (is_service s service.key)
edit_same s (command.EditService service) = edit_service_same s service (is_service s service.key)
edit_same s (command.RemoveService key) = remove_service_same s key (is_service s key)
edit_same s command.Clear = refl
edit_same s (command.AddServer key spec) = add_server_same s key spec (is_service s key) (is_server s key spec.addr spec.port) (has_bad_thresholds spec)
edit_same s (command.EditServer key spec) = edit_server_same s key spec (is_service s key) (is_server s key spec.addr spec.port) (has_bad_thresholds spec)
edit_same s (command.RemoveServer key addr port) = remove_server_same s key addr port (is_service s key)
edit_same s (command.Timeouts established fin_wait udp) = refl
edit_same s (command.StartMaster id) = start_master_same s id s.daemons.master
edit_same s (command.StartBackup id) = start_backup_same s id s.daemons.backup
edit_same s command.StopMaster = stop_master_same s s.daemons.master
edit_same s command.StopBackup = stop_backup_same s s.daemons.backup
