-- The state that the desk stands for once a server has left its service.
use Rattle.std.proofs.Common.{◌≡◌, ◌+◌, ◌&&◌, ◌==◌, ℕ, Bool, true, false, cond, List, [], ◌∷◌, Option, Some, None, refl, sym, ap, ◌∙◌, map, filter_map, arith, nat_eq, if◌then◌else◌}
use Rattle.std.proofs.lemmas.Bool.Decides.{nat_tests}
use Rattle.std.specs.Option.{option_map}
use Rattle.std.specs.List.{AllByRecursion, IsDistinct, find, cons_option}
use Rattle.lvs_types.specs.declared.addr.Addr.{Addr}
use Rattle.lvs_types.specs.declared.addr.DestId.{DestId}
use Rattle.lvs_types.specs.declared.service.Service.{Service}
use Rattle.lvs_types.specs.declared.service.ServiceKey.{ServiceKey}
use Rattle.lvs_types.specs.declared.dest.Dest.{Dest}
use Rattle.lvs_types.specs.declared.dest.DestRow.{DestRow}
use Rattle.lvs_types.specs.declared.dest.Candidate.{Candidate}
use Rattle.lvs_types.specs.declared.entry.Entry.{Entry}
use Rattle.lvs_types.specs.declared.template.Template.{Template}
use Rattle.lvs_model.specs.State.{State}
use Rattle.lvs_model.specs.Same.{dest_id_eq, dest_eq}
use Rattle.lvs_model.specs.Lists.{update_first}
use Rattle.lvs_model.specs.Counts.{row_of, refs, active, inactive, template_count, candidate_of, candidates}
use Rattle.lvs_model.specs.Lookups.{has_service_key, has_dest_id, dest_at, servers_of, is_server_at}
use Rattle.lvs_model.specs.Edits.{trashed, leaving, remove_dests, remove_dest, server_before, step_back}
use Rattle.lvs_model.specs.WellFormed.{dest_ids}
use Rattle.lvs_well_formed.proofs.Keys.{nat_same, dest_id_true}
use Rattle.lvs_well_formed.proofs.Lists.{all_find, all_weaker}
use Rattle.lvs_well_formed.proofs.Distinct.{each_found}
use Rattle.lvs_dests.specs.Rows.{DestsSeen, dests_of, candidates_of, has_row_id, is_row_at, left_row, replaced, removed_by}
use Rattle.lvs_board.specs.declared.desk.Desk.{Desk}
use Rattle.lvs_board.specs.Desks.{state_of, IsSound}
use Rattle.lvs_board.specs.Removals.{candidate_before, stepped_back}
use Rattle.lvs_board.proofs.Controls.{candidates_same}
use Rattle.lvs_board.proofs.Placed.{with_dests, rows_at, replaced_state, replaced_sound}

-- THE CURSOR

before_same : (es : List Entry) (id : DestId) (previous : Option DestId) (ds : List Dest) → candidate_before id previous (map (candidate_of es) ds) ≡ server_before id previous ds
before_same es id previous [] = refl
before_same es id previous (d ∷ ds) = ap (λ (rest : Option DestId). if dest_id_eq d.id id then previous else rest) (before_same es id (Some d.id) ds)

abbrev stepped : DestId → Option DestId → Service → Service
stepped id before service = if dest_eq service.cursor.last id then record service { cursor = record { last = before; cw = service.cursor.cw } } else service

pub steps_same : (whole : State) (d : Desk) (key : ServiceKey) (id : DestId) (cs : List Candidate) (services : List Service) → IsSound whole d → cs ≡ candidates_of key d.dests.rows
    → update_first (has_service_key key) (stepped_back id cs) services ≡ update_first (has_service_key key) (step_back id (servers_of key (state_of whole d).dests)) services
steps_same whole d key id cs services sound is =
    let s = state_of whole d in
    let listed : cs ≡ candidates key s.dests s.entries = is ∙ ap (candidates_of key) sound.totals.servers ∙ candidates_same s.entries s.templates key s.dests in
    ap (λ (before : Option DestId). update_first (has_service_key key) (stepped id before) services) (ap (candidate_before id None) listed ∙ before_same s.entries id None (servers_of key s.dests))

back_by : (service : Service) (before other : Option DestId) (b : Bool) → b ≡ true → before ≡ other
    → record service { cursor = record { last = before; cw = service.cursor.cw } } ≡ (if b then record service { cursor = record { last = other; cw = service.cursor.cw } } else service)
back_by service before other true is same = ap (λ (last : Option DestId). let back : Service = record service { cursor = record { last = last; cw = service.cursor.cw } } in back) same
back_by service before other false is same = absurd cc

pub back_here : (id : DestId) (cs : List Candidate) (service : Service) (before : Option DestId) → dest_eq service.cursor.last id ≡ true → before ≡ candidate_before id None cs
    → record service { cursor = record { last = before; cw = service.cursor.cw } } ≡ stepped_back id cs service
back_here id cs service before is same = back_by service before (candidate_before id None cs) (dest_eq service.cursor.last id) is same

stay_by : (service other : Service) (b : Bool) → b ≡ false → service ≡ (if b then other else service)
stay_by service other true is = absurd cc
stay_by service other false is = refl

pub stays_here : (id : DestId) (cs : List Candidate) (service : Service) → dest_eq service.cursor.last id ≡ false → service ≡ stepped_back id cs service
stays_here id cs service is = stay_by service (record service { cursor = record { last = candidate_before id None cs; cw = service.cursor.cw } }) (dest_eq service.cursor.last id) is

-- THE ROWS

no_sum : (a i t : ℕ) → ((a == 0) && (i == 0) && (t == 0)) ≡ (a + i + t == 0)
no_sum a i t = grind (arith, nat_tests)

gone_by : (es : List Entry) (ts : List Template) (d : Dest) (b c : Bool) → b ≡ c → (if b then None else Some (row_of es ts (record d { live = false }))) ≡ option_map (row_of es ts) (if c then None else Some (record d { live = false }))
gone_by es ts d true true same = refl
gone_by es ts d false false same = refl
gone_by es ts d true false same = absurd cc
gone_by es ts d false true same = absurd cc

pub left_same : (es : List Entry) (ts : List Template) (d : Dest) → left_row (row_of es ts d) ≡ option_map (row_of es ts) (trashed d (refs d.id es ts))
left_same es ts d = gone_by es ts d ((active d.id es == 0) && (inactive d.id es == 0) && (template_count d.id ts == 0)) (refs d.id es ts == 0) (no_sum (active d.id es) (inactive d.id es) (template_count d.id ts))

leave_by : (es : List Entry) (ts : List Template) (d e : Dest) (b : Bool) → (b ≡ true → e ≡ d)
    → (if b then left_row (row_of es ts d) else Some (row_of es ts e)) ≡ option_map (row_of es ts) (if b then trashed e (refs e.id es ts) else Some e)
leave_by es ts d e true same = left_same es ts d ∙ ap (λ (x : Dest). option_map (row_of es ts) (trashed x (refs x.id es ts))) (sym (same refl))
leave_by es ts d e false same = refl

map_cons : (g : Dest → DestRow) (o : Option Dest) (r : Option DestRow) (rows : List DestRow) (ds : List Dest) → r ≡ option_map g o → rows ≡ map g ds → cons_option r rows ≡ map g (cons_option o ds)
map_cons g None r rows ds is rest = ap (λ (x : Option DestRow). cons_option x rows) is ∙ rest
map_cons g (Some d) r rows ds is rest = ap (λ (x : Option DestRow). cons_option x rows) is ∙ ap (λ (others : List DestRow). g d ∷ others) rest

-- what is left of each row is the row of what is left of its server
pub kept_rows : (g : Dest → DestRow) (h : DestRow → Option DestRow) (k : Dest → Option Dest) (ds : List Dest) → AllByRecursion (λ (d : Dest). h (g d) ≡ option_map g (k d)) ds → filter_map h (map g ds) ≡ map g (filter_map k ds)
kept_rows g h k [] each = refl
kept_rows g h k (d ∷ ds) each = map_cons g (k d) (h (g d)) (filter_map h (map g ds)) (filter_map k ds) each.0 (kept_rows g h k ds each.1)

one_of_id : (ds : List Dest) (d e : Dest) → dest_at d.id ds ≡ Some d → dest_at e.id ds ≡ Some e → has_dest_id d.id e ≡ true → e ≡ d
one_of_id ds d e found own same =
    let here : Some e ≡ Some d = sym own ∙ ap (λ (id : DestId). dest_at id ds) (dest_id_true e.id d.id same) ∙ found in
    cc

removed_rows : (es : List Entry) (ts : List Template) (d : Dest) (ds : List Dest) → IsDistinct nat_eq (dest_ids ds) → dest_at d.id ds ≡ Some d
    → replaced (has_row_id d.id) (left_row (row_of es ts d)) (map (row_of es ts) ds) ≡ map (row_of es ts) (remove_dests (has_dest_id d.id) es ts ds)
removed_rows es ts d ds apart found =
    kept_rows (row_of es ts) (λ (row : DestRow). if has_row_id d.id row then left_row (row_of es ts d) else Some row) (leaving (has_dest_id d.id) es ts) ds
    (all_weaker (λ (e : Dest). dest_at e.id ds ≡ Some e) (λ (e : Dest). (if has_dest_id d.id e then left_row (row_of es ts d) else Some (row_of es ts e)) ≡ option_map (row_of es ts) (leaving (has_dest_id d.id) es ts e)) ds
    (λ e own. leave_by es ts d e (has_dest_id d.id e) (λ same. one_of_id ds d e found own same))
    (each_found nat_eq (λ (e : Dest). e.id.0) ds nat_same apart))

found_step : (es : List Entry) (ts : List Template) (b : Bool) (d : Dest) (r : Option DestRow) (o : Option Dest) → r ≡ option_map (row_of es ts) o → cond b (Some (row_of es ts d)) r ≡ option_map (row_of es ts) (cond b (Some d) o)
found_step es ts true d r o rest = refl
found_step es ts false d r o rest = rest

at_found : (es : List Entry) (ts : List Template) (key : ServiceKey) (addr : Addr) (port : ℕ) (ds : List Dest) → find (is_row_at key addr port) (map (row_of es ts) ds) ≡ option_map (row_of es ts) (find (is_server_at key addr port) ds)
at_found es ts key addr port [] = refl
at_found es ts key addr port (d ∷ ds) = found_step es ts (is_server_at key addr port d) d (find (is_row_at key addr port) (map (row_of es ts) ds)) (find (is_server_at key addr port) ds) (at_found es ts key addr port ds)

-- THE DESK

abbrev with_services : List Service → Desk → Desk
with_services services d = record d { services = services }

services_sound : (whole : State) (d : Desk) (services : List Service) → IsSound whole d → IsSound whole (with_services services d)
services_sound whole d services sound = record {
  totals = record { servers = sound.totals.servers; controls = sound.totals.controls };
  few = record {
    entries_apart = sound.few.entries_apart;
    dests_apart = sound.few.dests_apart;
    templates_apart = sound.few.templates_apart;
    below = sound.few.below;
    templates_below = sound.few.templates_below;
    few = sound.few.few;
    few_templates = sound.few.few_templates;
    young = sound.few.young;
    young_templates = sound.few.young_templates;
  };
  of_item = sound.of_item;
  later = sound.later;
}

abbrev left_dests : State → Dest → List Dest
left_dests s server = remove_dests (has_dest_id server.id) s.entries s.templates s.dests

removed_seen : (whole : State) (d : Desk) (key : ServiceKey) (addr : Addr) (port : ℕ) (server : Dest) (seen : DestsSeen) → IsSound whole d → find (is_server_at key addr port) (state_of whole d).dests ≡ Some server
    → seen ≡ removed_by d.dests (find (is_row_at key addr port) d.dests.rows) → seen ≡ rows_at (map (row_of (state_of whole d).entries (state_of whole d).templates) (left_dests (state_of whole d) server)) d.dests.next
removed_seen whole d key addr port server seen sound found is =
    let s = state_of whole d in
    let g : Dest → DestRow = row_of s.entries s.templates in
    let own : dest_at server.id s.dests ≡ Some server = all_find (λ (x : Dest). dest_at x.id s.dests ≡ Some x) (is_server_at key addr port) s.dests server (each_found nat_eq (λ (x : Dest). x.id.0) s.dests nat_same sound.few.dests_apart) found in
    is
    ∙ ap (λ (rows : List DestRow). removed_by (rows_at rows d.dests.next) (find (is_row_at key addr port) rows)) sound.totals.servers
    ∙ ap (removed_by (rows_at (map g s.dests) d.dests.next)) (at_found s.entries s.templates key addr port s.dests ∙ ap (option_map g) found)
    ∙ ap (λ (rows : List DestRow). rows_at rows d.dests.next) (removed_rows s.entries s.templates server s.dests sound.few.dests_apart own)

pub record RemovedDesk (d : Desk) (key : ServiceKey) (addr : Addr) (port : ℕ) (server : Dest) (cs : List Candidate) (services : List Service) (seen : DestsSeen) : Type 0 where
  pub listed : cs ≡ candidates_of key d.dests.rows
  pub services_are : services ≡ update_first (has_service_key key) (stepped_back server.id cs) d.services
  pub dests_are : seen ≡ removed_by d.dests (find (is_row_at key addr port) d.dests.rows)
  pub apart : IsDistinct nat_eq (dest_ids (dests_of seen.rows))

pub removed_state : (whole : State) (d : Desk) (key : ServiceKey) (addr : Addr) (port : ℕ) (server : Dest) (cs : List Candidate) (services : List Service) (seen : DestsSeen) → IsSound whole d
    → find (is_server_at key addr port) (state_of whole d).dests ≡ Some server → RemovedDesk d key addr port server cs services seen → state_of whole (with_dests seen (with_services services d)) ≡ remove_dest (state_of whole d) key server
removed_state whole d key addr port server cs services seen sound found made =
    let s = state_of whole d in
    replaced_state whole (with_services services d) seen (left_dests s server) d.dests.next (removed_seen whole d key addr port server seen sound found made.dests_are)
    ∙ ap (λ (others : List Service). record s { services = others; dests = left_dests s server }) (made.services_are ∙ steps_same whole d key server.id cs d.services sound made.listed)

pub removed_sound : (whole : State) (d : Desk) (key : ServiceKey) (addr : Addr) (port : ℕ) (server : Dest) (cs : List Candidate) (services : List Service) (seen : DestsSeen) → IsSound whole d
    → find (is_server_at key addr port) (state_of whole d).dests ≡ Some server → RemovedDesk d key addr port server cs services seen → IsSound whole (with_dests seen (with_services services d))
removed_sound whole d key addr port server cs services seen sound found made =
    replaced_sound whole (with_services services d) seen (left_dests (state_of whole d) server) d.dests.next (services_sound whole d services sound) (removed_seen whole d key addr port server seen sound found made.dests_are) made.apart
