-- The state that the desk stands for once its servers are others.
use Rattle.std.proofs.Common.{◌≡◌, ◌+◌, ℕ, Bool, true, false, cond, not, ◌||◌, List, [], ◌∷◌, ◌++◌, Option, Some, None, refl, sym, ap, subst, ◌∙◌, map, arith, nat_eq}
use Rattle.std.specs.Option.{option_map}
use Rattle.std.specs.Prelude.{Result, Ok, Err, OnOk, OnErr}
use Rattle.std.specs.List.{IsDistinct, find, list_any}
use Rattle.lvs_types.specs.declared.addr.DestId.{DestId}
use Rattle.lvs_types.specs.declared.service.ServiceKey.{ServiceKey}
use Rattle.lvs_types.specs.declared.dest.Dest.{Dest}
use Rattle.lvs_types.specs.declared.dest.DestSpec.{DestSpec}
use Rattle.lvs_types.specs.declared.dest.DestRow.{DestRow}
use Rattle.lvs_types.specs.declared.entry.Entry.{Entry}
use Rattle.lvs_types.specs.declared.template.Template.{Template}
use Rattle.lvs_model.specs.State.{State}
use Rattle.lvs_model.specs.Lists.{without}
use Rattle.lvs_model.specs.Counts.{row_of, active, inactive, template_count, refs}
use Rattle.lvs_model.specs.Lookups.{has_dest_id}
use Rattle.lvs_model.specs.Edits.{place_server, is_revivable, new_dest, revived}
use Rattle.lvs_model.specs.WellFormed.{dest_ids}
use Rattle.lvs_dests.specs.Rows.{DestsSeen, dests_of, has_row_id, new_row, revived_row, placed, placed_by, is_row_revivable}
use Rattle.lvs_board.specs.declared.desk.Desk.{Desk}
use Rattle.lvs_board.specs.Stands.{AreTotalled}
use Rattle.lvs_board.specs.Desks.{seen_of, state_of, AreFew, IsSound}
use Rattle.lvs_board.proofs.Ends.{dests_of_rows}

-- OTHER SERVERS

abbrev pub with_dests : DestsSeen → Desk → Desk
with_dests seen d = record d { dests = seen }

abbrev pub rows_at : List DestRow → ℕ → DestsSeen
rows_at rows next = record { rows = rows; next = next }

abbrev pub with_servers : List Dest → ℕ → State → State
with_servers ds next s = record s { dests = ds; next_dest = next }

pub replaced_state : (whole : State) (d : Desk) (seen : DestsSeen) (ds : List Dest) (next : ℕ) → seen ≡ rows_at (map (row_of (state_of whole d).entries (state_of whole d).templates) ds) next
    → state_of whole (with_dests seen d) ≡ with_servers ds next (state_of whole d)
replaced_state whole d seen ds next is =
    let s = state_of whole d in
    ap (λ (others : DestsSeen). state_of whole (with_dests others d)) is ∙ ap (λ (others : List Dest). with_servers others next s) (dests_of_rows s.entries s.templates ds)

servers_few : (s : State) (ds : List Dest) (next : ℕ) → IsDistinct nat_eq (dest_ids ds) → AreFew s → AreFew (with_servers ds next s)
servers_few s ds next apart few = record {
  entries_apart = few.entries_apart;
  dests_apart = apart;
  templates_apart = few.templates_apart;
  below = few.below;
  templates_below = few.templates_below;
  few = few.few;
  few_templates = few.few_templates;
  young = few.young;
  young_templates = few.young_templates;
}

pub replaced_apart : (whole : State) (d : Desk) (seen : DestsSeen) (ds : List Dest) (next : ℕ) → IsSound whole d → seen ≡ rows_at (map (row_of (state_of whole d).entries (state_of whole d).templates) ds) next
    → IsDistinct nat_eq (dest_ids ds) → IsSound whole (with_dests seen d)
replaced_apart whole d seen ds next sound is apart =
    let to = sym (replaced_state whole d seen ds next is) in
    record {
      totals = subst (AreTotalled (seen_of (with_dests seen d))) to (record { servers = ap (λ (others : DestsSeen). others.rows) is; controls = sound.totals.controls });
      few = subst AreFew to (servers_few (state_of whole d) ds next apart sound.few);
      of_item = sound.of_item;
      later = sound.later;
    }

pub replaced_sound : (whole : State) (d : Desk) (seen : DestsSeen) (ds : List Dest) (next : ℕ) → IsSound whole d → seen ≡ rows_at (map (row_of (state_of whole d).entries (state_of whole d).templates) ds) next
    → IsDistinct nat_eq (dest_ids (dests_of seen.rows)) → IsSound whole (with_dests seen d)
replaced_sound whole d seen ds next sound is apart =
    let s = state_of whole d in
    replaced_apart whole d seen ds next sound is
    (subst (λ (others : List Dest). IsDistinct nat_eq (dest_ids others)) (ap (λ (others : DestsSeen). dests_of others.rows) is ∙ dests_of_rows s.entries s.templates ds) apart)

-- A SERVER COMES

abbrev made : Dest → ℕ → ℕ → ℕ → DestRow
made d a i t = record { dest = d; active = a; inactive = i; templates = t }

made_same : (d : Dest) (a b i j t u : ℕ) → a ≡ b → i ≡ j → t ≡ u → made d a i t ≡ made d b j u
made_same d a b i j t u same_active same_inactive same = ap (λ n. made d n i t) same_active ∙ ap (λ n. made d b n t) same_inactive ∙ ap (made d b j) same

new_same : (es : List Entry) (ts : List Template) (id : DestId) (key : ServiceKey) (spec : DestSpec) → refs id es ts ≡ 0 → new_row id key spec ≡ row_of es ts (new_dest id key spec)
new_same es ts id key spec none = made_same (new_dest id key spec) 0 (active id es) 0 (inactive id es) 0 (template_count id ts) (omega (arith, none)) (omega (arith, none)) (omega (arith, none))

map_push : (g : Dest → DestRow) (ds : List Dest) (d : Dest) (row : DestRow) → row ≡ g d → map g ds ++ row ∷ [] ≡ map g (ds ++ d ∷ [])
map_push g [] d row is = ap (λ (x : DestRow). x ∷ []) is
map_push g (x ∷ ds) d row is = ap (λ (rest : List DestRow). g x ∷ rest) (map_push g ds d row is)

without_step : (g : Dest → DestRow) (b : Bool) (d : Dest) (rows : List DestRow) (ds : List Dest) → rows ≡ map g ds → cond b (g d ∷ rows) rows ≡ map g (cond b (d ∷ ds) ds)
without_step g true d rows ds rest = ap (λ (others : List DestRow). g d ∷ others) rest
without_step g false d rows ds rest = rest

without_rows : (es : List Entry) (ts : List Template) (id : DestId) (ds : List Dest) → without (has_row_id id) (map (row_of es ts) ds) ≡ map (row_of es ts) (without (has_dest_id id) ds)
without_rows es ts id [] = refl
without_rows es ts id (d ∷ ds) = without_step (row_of es ts) (not (has_dest_id id d)) d (without (has_row_id id) (map (row_of es ts) ds)) (without (has_dest_id id) ds) (without_rows es ts id ds)

found_step : (es : List Entry) (ts : List Template) (b : Bool) (d : Dest) (r : Option DestRow) (o : Option Dest) → r ≡ option_map (row_of es ts) o → cond b (Some (row_of es ts d)) r ≡ option_map (row_of es ts) (cond b (Some d) o)
found_step es ts true d r o rest = refl
found_step es ts false d r o rest = rest

revivable_found : (es : List Entry) (ts : List Template) (key : ServiceKey) (spec : DestSpec) (ds : List Dest) → find (is_row_revivable key spec) (map (row_of es ts) ds) ≡ option_map (row_of es ts) (find (is_revivable key spec) ds)
revivable_found es ts key spec [] = refl
revivable_found es ts key spec (d ∷ ds) = found_step es ts (is_revivable key spec d) d (find (is_row_revivable key spec) (map (row_of es ts) ds)) (find (is_revivable key spec) ds) (revivable_found es ts key spec ds)

placed_rows : (s : State) (key : ServiceKey) (spec : DestSpec) (o : Option Dest) → refs (record { 0 = s.next_dest }) s.entries s.templates ≡ 0
    → (placed_by key spec (rows_at (map (row_of s.entries s.templates) s.dests) s.next_dest) (option_map (row_of s.entries s.templates) o)).1
    ≡ rows_at (map (row_of s.entries s.templates) (place_server s key spec o).dests) (place_server s key spec o).next_dest
placed_rows s key spec None none =
    ap (λ (rows : List DestRow). rows_at rows (s.next_dest + 1)) (map_push (row_of s.entries s.templates) s.dests (new_dest (record { 0 = s.next_dest }) key spec) (new_row (record { 0 = s.next_dest }) key spec) (new_same s.entries s.templates (record { 0 = s.next_dest }) key spec none))
placed_rows s key spec (Some d) none =
    ap (λ (rows : List DestRow). rows_at rows s.next_dest)
    (ap (λ (rows : List DestRow). rows ++ revived_row spec (row_of s.entries s.templates d) ∷ []) (without_rows s.entries s.templates d.id s.dests)
    ∙ map_push (row_of s.entries s.templates) (without (has_dest_id d.id) s.dests) (revived s.entries spec d) (revived_row spec (row_of s.entries s.templates d)) refl)

place_by : (s : State) (key : ServiceKey) (spec : DestSpec) (o : Option Dest) → with_servers (place_server s key spec o).dests (place_server s key spec o).next_dest s ≡ place_server s key spec o
place_by s key spec None = refl
place_by s key spec (Some d) = refl

-- the servers as the table then has them
place_seen : (whole : State) (d : Desk) (key : ServiceKey) (spec : DestSpec) (seen : DestsSeen) → IsSound whole d → refs (record { 0 = d.dests.next }) (state_of whole d).entries (state_of whole d).templates ≡ 0 → seen ≡ (placed key spec d.dests).1
    → seen ≡ rows_at (map (row_of (state_of whole d).entries (state_of whole d).templates) (place_server (state_of whole d) key spec (find (is_revivable key spec) (state_of whole d).dests)).dests) (place_server (state_of whole d) key spec (find (is_revivable key spec) (state_of whole d).dests)).next_dest
place_seen whole d key spec seen sound none is =
    let s = state_of whole d in
    is ∙ ap (λ (rows : List DestRow). (placed key spec (rows_at rows d.dests.next)).1) sound.totals.servers
    ∙ ap (λ (o : Option DestRow). (placed_by key spec (rows_at (map (row_of s.entries s.templates) s.dests) s.next_dest) o).1) (revivable_found s.entries s.templates key spec s.dests)
    ∙ placed_rows s key spec (find (is_revivable key spec) s.dests) none

pub place_state : (whole : State) (d : Desk) (key : ServiceKey) (spec : DestSpec) (seen : DestsSeen) → IsSound whole d → refs (record { 0 = d.dests.next }) (state_of whole d).entries (state_of whole d).templates ≡ 0 → seen ≡ (placed key spec d.dests).1
    → state_of whole (with_dests seen d) ≡ place_server (state_of whole d) key spec (find (is_revivable key spec) (state_of whole d).dests)
place_state whole d key spec seen sound none is =
    let s = state_of whole d in
    let o = find (is_revivable key spec) s.dests in
    replaced_state whole d seen (place_server s key spec o).dests (place_server s key spec o).next_dest (place_seen whole d key spec seen sound none is) ∙ place_by s key spec o

pub place_sound : (whole : State) (d : Desk) (key : ServiceKey) (spec : DestSpec) (seen : DestsSeen) → IsSound whole d → refs (record { 0 = d.dests.next }) (state_of whole d).entries (state_of whole d).templates ≡ 0 → seen ≡ (placed key spec d.dests).1
    → IsDistinct nat_eq (dest_ids (dests_of seen.rows)) → IsSound whole (with_dests seen d)
place_sound whole d key spec seen sound none is apart =
    let s = state_of whole d in
    let o = find (is_revivable key spec) s.dests in
    replaced_sound whole d seen (place_server s key spec o).dests (place_server s key spec o).next_dest sound (place_seen whole d key spec seen sound none is) apart

pub ok_then : {E : Type 0} (r : Result (Unit {0}) E) (A B : Type 0) → OnOk r A → (A → B) → OnOk r B
ok_then (Ok done) A B is step = step is
ok_then (Err e) A B is step = tt

pub sound_either : {E : Type 0} (r : Result (Unit {0}) E) (whole : State) (d : Desk) (seen : DestsSeen) (A : Type 0) → IsSound whole d → OnOk r A → OnErr r (seen ≡ d.dests) → (A → IsSound whole (with_dests seen d)) → IsSound whole (with_dests seen d)
sound_either (Ok done) whole d seen A sound is stays step = step is
sound_either (Err e) whole d seen A sound is stays step = subst (λ (others : DestsSeen). IsSound whole (with_dests others d)) (sym stays) sound

-- a test of the servers is one of their rows
pub any_server : (p : Dest → Bool) (rows : List DestRow) → list_any (λ (row : DestRow). p row.dest) rows ≡ list_any p (dests_of rows)
any_server p [] = refl
any_server p (row ∷ rows) = ap (λ (b : Bool). p row.dest || b) (any_server p rows)
