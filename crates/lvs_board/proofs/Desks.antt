-- The state that the desk stands for after each change of the item's entry.
use Rattle.std.proofs.Common.{◌≡◌, ◌+◌, ◌<◌, ◌≤◌, ◌^◌, ℕ, List, [], ◌∷◌, ◌++◌, Option, Some, None, refl, sym, ap, subst, ◌∙◌, map, arith, nat_eq, not, false}
use Rattle.std.specs.Prelude.{IfSome}
use Rattle.std.specs.List.{IsDistinct, find}
use Rattle.lvs_types.specs.declared.addr.DestId.{DestId}
use Rattle.lvs_types.specs.declared.addr.TemplateId.{TemplateId}
use Rattle.lvs_types.specs.declared.entry.Key.{Key}
use Rattle.lvs_types.specs.declared.dest.Dest.{Dest}
use Rattle.lvs_types.specs.declared.dest.DestRow.{DestRow}
use Rattle.lvs_types.specs.declared.entry.Entry.{Entry}
use Rattle.lvs_types.specs.declared.template.Template.{Template}
use Rattle.lvs_types.specs.declared.bucket.Change.{Change}
use Rattle.lvs_model.specs.State.{State}
use Rattle.lvs_model.specs.Counts.{row_of}
use Rattle.lvs_model.specs.Timeouts.{is_active}
use Rattle.lvs_model.specs.Binding.{put_entry, count_ended, count_bound, bound_to, bind_entry}
use Rattle.lvs_model.specs.Clock.{is_swept}
use Rattle.lvs_model.specs.Incoming.{end_entry}
use Rattle.lvs_model.specs.Lookups.{has_entry_id}
use Rattle.lvs_model.specs.WellFormed.{entry_ids, dest_ids}
use Rattle.lvs_dests.specs.Rows.{DestsSeen, row_at, named, IsFarBelow}
use Rattle.lvs_templates.specs.Seen.{TemplatesSeen}
use Rattle.lvs_templates.specs.Rows.{template_row, templates_of}
use Rattle.lvs_rules.specs.Changes.{HaveSameNames, entered, appended}
use Rattle.lvs_well_formed.proofs.Keys.{nat_same}
use Rattle.std.proofs.lemmas.Bool.Decides.{nat_tests}
use Rattle.lvs_well_formed.proofs.Finds.{find_put, find_last}
use Rattle.lvs_well_formed.proofs.Lists.{all_weaker}
use Rattle.lvs_board.specs.declared.desk.Desk.{Desk}
use Rattle.lvs_board.specs.Stands.{AreTotalled}
use Rattle.lvs_board.specs.Desks.{after, seen_of, state_of, AreFew, IsSound, IsLater, IsOfItem, IsAbout, Holds, IsFree, CountsMore, with_entry, with_update, with_end, origin}
use Rattle.lvs_board.specs.Endings.{end_one, come_one, less_one, more_one, IsCountedAt, IsControlledAt, CanCome, CanControl, CanMove}
use Rattle.lvs_board.proofs.Rows.{room_at, some_at}
use Rattle.lvs_board.proofs.Ends.{dests_of_rows, left_by, ended_rows, free_rows, leaving_at}
use Rattle.lvs_board.proofs.Binds.{bound_rows, pushed_counts, put_counts, appended_rows}
use Rattle.lvs_board.proofs.Sweeps.{one_left, none_left}
use Rattle.lvs_board.proofs.Ones.{one_come}
use Rattle.lvs_board.proofs.Makers.{more_rows, less_rows, kept_controls, can_control, is_controlled}
use Rattle.lvs_board.proofs.Changes.{put_after, leave_after, enter_after, about_after, about_entered, free_after, updated_of_item, ended_of_item, entered_of_item}
use Rattle.lvs_board.proofs.Kept.{put_few, bind_few, end_few, enter_few, append_few}

-- THE STATE OF A DESK THAT CHANGED

abbrev pub remade : DestsSeen → TemplatesSeen → Change → ℕ → Desk → Desk
remade dests templates change next d = record d { dests = dests; templates = templates; change = change; next_entry = next }

abbrev stated : State → List Dest → List Entry → ℕ → State
stated s ds es next = record s { dests = ds; entries = es; next_entry = next }

abbrev with_rows : DestsSeen → List DestRow → DestsSeen
with_rows seen rows = record seen { rows = rows }

pub templates_of_rows : (es : List Entry) (ts : List Template) → templates_of (map (template_row es) ts) ≡ ts
templates_of_rows es [] = refl
templates_of_rows es (t ∷ ts) = ap (λ (rest : List Template). t ∷ rest) (templates_of_rows es ts)

pub remade_state : (whole : State) (d : Desk) (dests : DestsSeen) (templates : TemplatesSeen) (change : Change) (next : ℕ) (ds : List Dest) (es : List Entry)
    → dests ≡ with_rows d.dests (map (row_of es (templates_of d.templates.rows)) ds) → templates.rows ≡ map (template_row es) (templates_of d.templates.rows) → after (is_swept whole d.bucket) change whole.entries ≡ es
    → state_of whole (remade dests templates change next d) ≡ stated (state_of whole d) ds es next
remade_state whole d dests templates change next ds es rows controls entries =
    ap (λ (seen : DestsSeen). state_of whole (remade seen templates change next d)) rows
    ∙ ap (λ (others : List Dest). record (state_of whole (remade d.dests templates change next d)) { dests = others }) (dests_of_rows es (templates_of d.templates.rows) ds)
    ∙ ap (λ (ts : List Template). record (stated (state_of whole d) ds (after (is_swept whole d.bucket) change whole.entries) next) { templates = ts }) (ap templates_of controls ∙ templates_of_rows es (templates_of d.templates.rows))
    ∙ ap (λ (others : List Entry). stated (state_of whole d) ds others next) entries

pub remade_sound : (whole : State) (d : Desk) (dests : DestsSeen) (templates : TemplatesSeen) (change : Change) (next : ℕ) (ds : List Dest) (es : List Entry)
    → dests ≡ with_rows d.dests (map (row_of es (templates_of d.templates.rows)) ds) → templates.rows ≡ map (template_row es) (templates_of d.templates.rows) → after (is_swept whole d.bucket) change whole.entries ≡ es
    → AreFew (stated (state_of whole d) ds es next) → IsOfItem whole d.home change → IsLater whole next d.next_template → IsSound whole (remade dests templates change next d)
remade_sound whole d dests templates change next ds es rows controls entries few of_item later =
    let is = sym (remade_state whole d dests templates change next ds es rows controls entries) in
    record {
      totals = subst (AreTotalled (seen_of (remade dests templates change next d))) is (record { servers = ap (λ (seen : DestsSeen). seen.rows) rows; controls = controls });
      few = subst AreFew is few;
      of_item = of_item;
      later = later;
    }

pub found_as : (es : List Entry) (x v : Entry) → find (has_entry_id x.id) es ≡ Some x → v.id ≡ x.id → find (has_entry_id v.id) es ≡ Some x
found_as es x v found same = subst (λ id. find (has_entry_id id) es ≡ Some x) (sym same) found

about_as : (d : Desk) (x v : Entry) → IsAbout d.home x.id d.change → v.id ≡ x.id → IsAbout d.home v.id d.change
about_as d x v about same = subst (λ id. IsAbout d.home id d.change) (sym same) about

-- AN ENTRY LEAVES

abbrev AreFewOf : List Entry → List Dest → Type 0
AreFewOf es ds = IsDistinct nat_eq (entry_ids es) × IsDistinct nat_eq (dest_ids ds)

end_rows_by : (es : List Entry) (ts : List Template) (e : Entry) (ds : List Dest) (o : Option DestId) → AreFewOf es ds → find (has_entry_id e.id) es ≡ Some e → e.server ≡ o
    → map (end_one e) (map (row_of es ts) ds) ≡ map (row_of (left_by e es) ts) (count_ended o (left_by e es) ds)
end_rows_by es ts e ds None few found is = none_left e (map (row_of es ts) ds) is ∙ free_rows es ts e ds few.0 found is
end_rows_by es ts e ds (Some id) few found is = sym (one_left id e (map (row_of es ts) ds) is) ∙ ended_rows es ts e id ds few.0 few.1 found is

pub can_leave : (whole : State) (d : Desk) (e : Entry) → IsSound whole d → Holds whole d e → IsCountedAt e d.dests.rows
can_leave whole d e sound holds = λ id names.
    subst (λ (rows : List DestRow). IfSome (row_at id rows) (λ row. 0 < named (is_active e.state) row)) (sym sound.totals.servers)
    (leaving_at (state_of whole d).entries (state_of whole d).templates e id (state_of whole d).dests sound.few.entries_apart holds.found names)

pub can_lessen : (whole : State) (d : Desk) (e : Entry) → IsSound whole d → Holds whole d e → IsControlledAt e d.templates.rows
can_lessen whole d e sound holds =
    subst (IsControlledAt e) (sym sound.totals.controls) (is_controlled (state_of whole d).entries e (state_of whole d).templates sound.few.entries_apart holds.found)

abbrev EndedDesk : State → Desk → DestsSeen → TemplatesSeen → Change → Entry → Type 0
EndedDesk whole d dests templates change e = (dests ≡ with_rows d.dests (map (end_one e) d.dests.rows)) × (templates.rows ≡ map (less_one e) d.templates.rows) × (change ≡ with_end e.id d.change)

end_entries : (whole : State) (d : Desk) (change : Change) (e : Entry) → IsSound whole d → Holds whole d e → change ≡ with_end e.id d.change → after (is_swept whole d.bucket) change whole.entries ≡ left_by e (state_of whole d).entries
end_entries whole d change e sound holds is =
    ap (λ (c : Change). after (is_swept whole d.bucket) c whole.entries) is ∙ sym (leave_after (is_swept whole d.bucket) d.home d.change e.id whole.entries sound.few.entries_apart holds.about)

end_dests : (whole : State) (d : Desk) (dests : DestsSeen) (e : Entry) → IsSound whole d → Holds whole d e → dests ≡ with_rows d.dests (map (end_one e) d.dests.rows)
    → dests ≡ with_rows d.dests (map (row_of (left_by e (state_of whole d).entries) (templates_of d.templates.rows)) (end_entry e (state_of whole d)).dests)
end_dests whole d dests e sound holds is =
    let s = state_of whole d in
    is ∙ ap (with_rows d.dests) (ap (map (end_one e)) sound.totals.servers ∙ end_rows_by s.entries s.templates e s.dests e.server (sound.few.entries_apart, sound.few.dests_apart) holds.found refl)

end_controls : (whole : State) (d : Desk) (templates : TemplatesSeen) (e : Entry) → IsSound whole d → Holds whole d e → templates.rows ≡ map (less_one e) d.templates.rows
    → templates.rows ≡ map (template_row (left_by e (state_of whole d).entries)) (templates_of d.templates.rows)
end_controls whole d templates e sound holds is =
    let s = state_of whole d in
    is ∙ ap (map (less_one e)) sound.totals.controls ∙ less_rows s.entries e s.templates sound.few.entries_apart holds.found

pub end_state : (whole : State) (d : Desk) (dests : DestsSeen) (templates : TemplatesSeen) (change : Change) (e : Entry) → IsSound whole d → Holds whole d e → EndedDesk whole d dests templates change e
    → state_of whole (remade dests templates change d.next_entry d) ≡ end_entry e (state_of whole d)
end_state whole d dests templates change e sound holds made =
    let s = state_of whole d in
    remade_state whole d dests templates change d.next_entry (end_entry e s).dests (left_by e s.entries) (end_dests whole d dests e sound holds made.0) (end_controls whole d templates e sound holds made.1) (end_entries whole d change e sound holds made.2)

pub end_sound : (whole : State) (d : Desk) (dests : DestsSeen) (templates : TemplatesSeen) (change : Change) (e : Entry) → IsSound whole d → Holds whole d e → EndedDesk whole d dests templates change e
    → IsSound whole (remade dests templates change d.next_entry d)
end_sound whole d dests templates change e sound holds made =
    let s = state_of whole d in
    remade_sound whole d dests templates change d.next_entry (end_entry e s).dests (left_by e s.entries) (end_dests whole d dests e sound holds made.0) (end_controls whole d templates e sound holds made.1) (end_entries whole d change e sound holds made.2)
    (end_few s e sound.few) (subst (IsOfItem whole d.home) (sym made.2) (ended_of_item whole d.home d.change e.id sound.of_item holds.about)) sound.later

pub end_free : (whole : State) (d : Desk) (change : Change) (e : Entry) → Holds whole d e → change ≡ with_end e.id d.change → IsFree change
end_free whole d change e holds is = subst IsFree (sym is) (free_after d.home d.change e.id holds.about)

-- AN ENTRY BECOMES ANOTHER

pub can_move : (whole : State) (d : Desk) (x v : Entry) → IsSound whole d → Holds whole d x → HaveSameNames x v → CanMove x v d.dests.rows
can_move whole d x v sound holds names = λ id server was.
    let s = state_of whole d in (
      subst (λ (rows : List DestRow). IfSome (row_at id rows) IsFarBelow) (sym sound.totals.servers)
          (room_at s.entries s.templates id s.dests (omega (arith, sound.few.few, sound.few.young)) (omega (arith, sound.few.few_templates, sound.few.young_templates))),
      subst (λ (rows : List DestRow). IfSome (row_at id rows) (λ row. 0 < named (not (is_active v.state)) row)) (sym sound.totals.servers)
          (some_at s.entries s.templates x v id s.dests (found_as s.entries x v holds.found names.id) server names.server was),
    )

put_entries : (whole : State) (d : Desk) (change : Change) (x v : Entry) → IsSound whole d → Holds whole d x → v.id ≡ x.id → change ≡ with_update v d.change → after (is_swept whole d.bucket) change whole.entries ≡ put_entry v (state_of whole d).entries
put_entries whole d change x v sound holds same is =
    ap (λ (c : Change). after (is_swept whole d.bucket) c whole.entries) is ∙ sym (put_after (is_swept whole d.bucket) d.home d.change v whole.entries sound.few.entries_apart (about_as d x v holds.about same))

same_origin : (x v : Entry) → v.key ≡ x.key → v.template ≡ x.template → origin v ≡ origin x
same_origin x v keys templates = ap (λ (key : Key). let pair : Key × Option TemplateId = (key, v.template) in pair) keys ∙ ap (λ (made : Option TemplateId). let pair : Key × Option TemplateId = (x.key, made) in pair) templates

put_of_item : (whole : State) (d : Desk) (change : Change) (x v : Entry) → IsSound whole d → Holds whole d x → v.id ≡ x.id → origin v ≡ origin x → change ≡ with_update v d.change → IsOfItem whole d.home change
put_of_item whole d change x v sound holds same keys is =
    subst (IsOfItem whole d.home) (sym is)
    (updated_of_item (is_swept whole d.bucket) whole d.home d.change x v sound.of_item (about_as d x v holds.about same) (found_as (state_of whole d).entries x v holds.found same) (sym keys))

abbrev PutDests : State → Desk → DestsSeen → Entry → Type 0
PutDests whole d dests v = dests ≡ with_rows d.dests (map (row_of (put_entry v (state_of whole d).entries) (templates_of d.templates.rows)) (state_of whole d).dests)

put_controls : (whole : State) (d : Desk) (x v : Entry) → IsSound whole d → Holds whole d x → v.id ≡ x.id → v.template ≡ x.template → d.templates.rows ≡ map (template_row (put_entry v (state_of whole d).entries)) (templates_of d.templates.rows)
put_controls whole d x v sound holds same made =
    let s = state_of whole d in
    sound.totals.controls ∙ kept_controls s.entries x v s.templates (found_as s.entries x v holds.found same) made

pub put_state : (whole : State) (d : Desk) (dests : DestsSeen) (change : Change) (x v : Entry) → IsSound whole d → Holds whole d x → HaveSameNames x v → PutDests whole d dests v → change ≡ with_update v d.change
    → state_of whole (remade dests d.templates change d.next_entry d) ≡ record (state_of whole d) { entries = put_entry v (state_of whole d).entries }
put_state whole d dests change x v sound holds names rows is =
    let s = state_of whole d in
    remade_state whole d dests d.templates change d.next_entry s.dests (put_entry v s.entries) rows (put_controls whole d x v sound holds names.id names.template) (put_entries whole d change x v sound holds names.id is)

pub put_sound : (whole : State) (d : Desk) (dests : DestsSeen) (change : Change) (x v : Entry) → IsSound whole d → Holds whole d x → HaveSameNames x v → PutDests whole d dests v → change ≡ with_update v d.change
    → IsSound whole (remade dests d.templates change d.next_entry d)
put_sound whole d dests change x v sound holds names rows is =
    let s = state_of whole d in
    remade_sound whole d dests d.templates change d.next_entry s.dests (put_entry v s.entries) rows (put_controls whole d x v sound holds names.id names.template) (put_entries whole d change x v sound holds names.id is)
    (put_few s x v sound.few (found_as s.entries x v holds.found names.id) names.id) (put_of_item whole d change x v sound holds names.id (same_origin x v names.key names.template) is) sound.later

-- the desk holds what was put
holds_by : (whole : State) (d : Desk) (dests : DestsSeen) (templates : TemplatesSeen) (change : Change) (next : ℕ) (x v : Entry) → IsSound whole d → Holds whole d x → v.id ≡ x.id → change ≡ with_update v d.change
    → Holds whole (remade dests templates change next d) v
holds_by whole d dests templates change next x v sound holds same is = record {
  found = subst (λ (es : List Entry). find (has_entry_id v.id) es ≡ Some v) (sym (put_entries whole d change x v sound holds same is))
      (find_put (has_entry_id v.id) v (state_of whole d).entries x (found_as (state_of whole d).entries x v holds.found same) (nat_same v.id));
  about = subst (IsAbout d.home v.id) (sym is) (about_after d.home d.change v (about_as d x v holds.about same));
}

pub put_holds : (whole : State) (d : Desk) (dests : DestsSeen) (change : Change) (x v : Entry) → IsSound whole d → Holds whole d x → HaveSameNames x v → change ≡ with_update v d.change → Holds whole (remade dests d.templates change d.next_entry d) v
put_holds whole d dests change x v sound holds names is = holds_by whole d dests d.templates change d.next_entry x v sound holds names.id is

-- AN ENTRY COMES TO A SERVER

come_rows : (es later : List Entry) (ts : List Template) (v : Entry) (id : DestId) (ds : List Dest) → CountsMore es later v → IsDistinct nat_eq (dest_ids ds) → v.server ≡ Some id
    → map (come_one v) (map (row_of es ts) ds) ≡ map (row_of later ts) (count_bound id later ds)
come_rows es later ts v id ds more apart names = sym (one_come id v (map (row_of es ts) ds) names) ∙ bound_rows es later ts v id ds more apart names

pub can_come : (whole : State) (d : Desk) (v : Entry) → IsSound whole d → CanCome v d.dests.rows
can_come whole d v sound = λ id names.
    let s = state_of whole d in
    subst (λ (rows : List DestRow). IfSome (row_at id rows) IsFarBelow) (sym sound.totals.servers)
    (room_at s.entries s.templates id s.dests (omega (arith, sound.few.few, sound.few.young)) (omega (arith, sound.few.few_templates, sound.few.young_templates)))

come_dests : (whole : State) (d : Desk) (dests : DestsSeen) (later : List Entry) (v : Entry) (id : DestId) → IsSound whole d → CountsMore (state_of whole d).entries later v → v.server ≡ Some id
    → dests ≡ with_rows d.dests (map (come_one v) d.dests.rows) → dests ≡ with_rows d.dests (map (row_of later (templates_of d.templates.rows)) (count_bound id later (state_of whole d).dests))
come_dests whole d dests later v id sound more names is =
    let s = state_of whole d in
    is ∙ ap (with_rows d.dests) (ap (map (come_one v)) sound.totals.servers ∙ come_rows s.entries later s.templates v id s.dests more sound.few.dests_apart names)

-- the state once the entry is bound
abbrev pub bound_state : Entry → Dest → State → State
bound_state e d s = (bind_entry s e (Some d)).1

abbrev pair_of : Entry → State → Entry × State
pair_of e s = (e, s)

bind_dests : (whole : State) (d : Desk) (dests : DestsSeen) (e : Entry) (server : Dest) → IsSound whole d → Holds whole d e → e.server ≡ None
    → dests ≡ with_rows d.dests (map (come_one (bound_to server e)) d.dests.rows)
    → dests ≡ with_rows d.dests (map (row_of (put_entry (bound_to server e) (state_of whole d).entries) (templates_of d.templates.rows)) (bound_state e server (state_of whole d)).dests)
bind_dests whole d dests e server sound holds none is =
    let s = state_of whole d in
    come_dests whole d dests (put_entry (bound_to server e) s.entries) (bound_to server e) server.id sound (put_counts s.entries e (bound_to server e) holds.found none) refl is

bind_state : (whole : State) (d : Desk) (dests : DestsSeen) (change : Change) (e : Entry) (server : Dest) → IsSound whole d → Holds whole d e → e.server ≡ None
    → dests ≡ with_rows d.dests (map (come_one (bound_to server e)) d.dests.rows) → change ≡ with_update (bound_to server e) d.change
    → state_of whole (remade dests d.templates change d.next_entry d) ≡ bound_state e server (state_of whole d)
bind_state whole d dests change e server sound holds none rows is =
    let s = state_of whole d in
    let v = bound_to server e in
    remade_state whole d dests d.templates change d.next_entry (count_bound server.id (put_entry v s.entries) s.dests) (put_entry v s.entries) (bind_dests whole d dests e server sound holds none rows) (put_controls whole d e v sound holds refl refl) (put_entries whole d change e v sound holds refl is)

abbrev pub BoundDesk : Desk → DestsSeen → Change → Entry → Type 0
BoundDesk d dests change v = (dests ≡ with_rows d.dests (map (come_one v) d.dests.rows)) × (change ≡ with_update v d.change)

pub bound_pair : (whole : State) (d : Desk) (dests : DestsSeen) (change : Change) (e v : Entry) (server : Dest) → v ≡ bound_to server e → IsSound whole d → Holds whole d e → e.server ≡ None → BoundDesk d dests change v
    → pair_of v (state_of whole (remade dests d.templates change d.next_entry d)) ≡ bind_entry (state_of whole d) e (Some server)
bound_pair whole d dests change e v server same sound holds none made =
    let there = subst (BoundDesk d dests change) same made in
    ap (λ (u : Entry). pair_of u (state_of whole (remade dests d.templates change d.next_entry d))) same ∙ ap (pair_of (bound_to server e)) (bind_state whole d dests change e server sound holds none there.0 there.1)

pub bound_sound : (whole : State) (d : Desk) (dests : DestsSeen) (change : Change) (e v : Entry) (server : Dest) → v ≡ bound_to server e → IsSound whole d → Holds whole d e → e.server ≡ None → BoundDesk d dests change v
    → IsSound whole (remade dests d.templates change d.next_entry d)
bound_sound whole d dests change e v server same sound holds none made =
    let s = state_of whole d in
    let u = bound_to server e in
    let there = subst (BoundDesk d dests change) same made in
    remade_sound whole d dests d.templates change d.next_entry (count_bound server.id (put_entry u s.entries) s.dests) (put_entry u s.entries) (bind_dests whole d dests e server sound holds none there.0) (put_controls whole d e u sound holds refl refl) (put_entries whole d change e u sound holds refl there.1)
    (bind_few s e server sound.few holds.found) (put_of_item whole d change e u sound holds refl refl there.1) sound.later

pub bound_holds : (whole : State) (d : Desk) (dests : DestsSeen) (change : Change) (e v : Entry) (server : Dest) → v ≡ bound_to server e → IsSound whole d → Holds whole d e → BoundDesk d dests change v
    → Holds whole (remade dests d.templates change d.next_entry d) v
bound_holds whole d dests change e v server same sound holds made = holds_by whole d dests d.templates change d.next_entry e v sound holds (ap (λ (x : Entry). x.id) same) made.1

-- A NEW ENTRY

pub can_be_made : (whole : State) (d : Desk) (v : Entry) → IsSound whole d → CanControl v d.templates.rows
can_be_made whole d v sound =
    let s = state_of whole d in
    subst (CanControl v) (sym sound.totals.controls) (can_control s.entries v s.templates (omega (arith, sound.few.few, sound.few.young)))

enter_entries : (whole : State) (d : Desk) (change : Change) (e : Entry) → IsFree d.change → change ≡ with_entry e d.change → after (is_swept whole d.bucket) change whole.entries ≡ (state_of whole d).entries ++ e ∷ []
enter_entries whole d change e free is = ap (λ (c : Change). after (is_swept whole d.bucket) c whole.entries) is ∙ sym (enter_after (is_swept whole d.bucket) d.change e whole.entries free)

enter_controls : (whole : State) (d : Desk) (templates : TemplatesSeen) (e : Entry) → IsSound whole d → templates.rows ≡ map (more_one e) d.templates.rows → templates.rows ≡ map (template_row ((state_of whole d).entries ++ e ∷ [])) (templates_of d.templates.rows)
enter_controls whole d templates e sound is =
    let s = state_of whole d in
    is ∙ ap (map (more_one e)) sound.totals.controls ∙ more_rows s.entries e s.templates

one_drawn : (whole : State) (next next_template : ℕ) → IsLater whole next next_template → IsLater whole (next + 1) next_template
one_drawn whole next next_template later = record { entries = omega (arith, later.entries); templates = later.templates; made = later.made }

enter_of_item : (whole : State) (d : Desk) (change : Change) (e : Entry) → IsSound whole d → IsFree d.change → e.id ≡ d.next_entry → change ≡ with_entry e d.change → IsOfItem whole d.home change
enter_of_item whole d change e sound free drawn is =
    subst (IsOfItem whole d.home) (sym is) (entered_of_item whole d.home d.change e sound.of_item free (subst (λ id. whole.next_entry ≤ id) (sym drawn) sound.later.entries))

pub record EnteredDesk (d : Desk) (dests : DestsSeen) (templates : TemplatesSeen) (change : Change) (e : Entry) : Type 0 where
  pub dests_are : dests ≡ with_rows d.dests (map (come_one e) d.dests.rows)
  pub templates_are : templates.rows ≡ map (more_one e) d.templates.rows
  pub change_is : change ≡ with_entry e d.change

pub entered_state : (whole : State) (d : Desk) (dests : DestsSeen) (templates : TemplatesSeen) (change : Change) (e : Entry) (id : DestId) → IsSound whole d → IsFree d.change → e.server ≡ Some id → EnteredDesk d dests templates change e
    → state_of whole (remade dests templates change (d.next_entry + 1) d) ≡ entered e id (state_of whole d)
entered_state whole d dests templates change e id sound free names made =
    let s = state_of whole d in
    remade_state whole d dests templates change (d.next_entry + 1) (count_bound id (s.entries ++ e ∷ []) s.dests) (s.entries ++ e ∷ [])
    (come_dests whole d dests (s.entries ++ e ∷ []) e id sound (pushed_counts s.entries e) names made.dests_are) (enter_controls whole d templates e sound made.templates_are) (enter_entries whole d change e free made.change_is)

pub entered_sound : (whole : State) (d : Desk) (dests : DestsSeen) (templates : TemplatesSeen) (change : Change) (e : Entry) (id : DestId) → IsSound whole d → IsFree d.change → e.server ≡ Some id → e.id ≡ d.next_entry → d.next_entry < 2 ^ 62
    → EnteredDesk d dests templates change e → IsSound whole (remade dests templates change (d.next_entry + 1) d)
entered_sound whole d dests templates change e id sound free names drawn young made =
    let s = state_of whole d in
    remade_sound whole d dests templates change (d.next_entry + 1) (count_bound id (s.entries ++ e ∷ []) s.dests) (s.entries ++ e ∷ [])
    (come_dests whole d dests (s.entries ++ e ∷ []) e id sound (pushed_counts s.entries e) names made.dests_are) (enter_controls whole d templates e sound made.templates_are) (enter_entries whole d change e free made.change_is)
    (enter_few s e id sound.few drawn young) (enter_of_item whole d change e sound free drawn made.change_is) (one_drawn whole d.next_entry d.next_template sound.later)

-- A NEW ENTRY WITHOUT A SERVER

pub record AppendedDesk (d : Desk) (templates : TemplatesSeen) (change : Change) (e : Entry) : Type 0 where
  pub templates_are : templates.rows ≡ map (more_one e) d.templates.rows
  pub change_is : change ≡ with_entry e d.change

append_dests : (whole : State) (d : Desk) (e : Entry) → IsSound whole d → e.server ≡ None → d.dests ≡ with_rows d.dests (map (row_of ((state_of whole d).entries ++ e ∷ []) (templates_of d.templates.rows)) (state_of whole d).dests)
append_dests whole d e sound none =
    let s = state_of whole d in
    ap (with_rows d.dests) (sound.totals.servers ∙ appended_rows s.entries s.templates e s.dests none)

pub appended_state : (whole : State) (d : Desk) (templates : TemplatesSeen) (change : Change) (e : Entry) → IsSound whole d → IsFree d.change → e.server ≡ None → AppendedDesk d templates change e
    → state_of whole (remade d.dests templates change (d.next_entry + 1) d) ≡ appended e (state_of whole d)
appended_state whole d templates change e sound free none made =
    let s = state_of whole d in
    remade_state whole d d.dests templates change (d.next_entry + 1) s.dests (s.entries ++ e ∷ [])
    (append_dests whole d e sound none) (enter_controls whole d templates e sound made.templates_are) (enter_entries whole d change e free made.change_is)

pub appended_sound : (whole : State) (d : Desk) (templates : TemplatesSeen) (change : Change) (e : Entry) → IsSound whole d → IsFree d.change → e.server ≡ None → e.id ≡ d.next_entry → d.next_entry < 2 ^ 62
    → AppendedDesk d templates change e → IsSound whole (remade d.dests templates change (d.next_entry + 1) d)
appended_sound whole d templates change e sound free none drawn young made =
    let s = state_of whole d in
    remade_sound whole d d.dests templates change (d.next_entry + 1) s.dests (s.entries ++ e ∷ [])
    (append_dests whole d e sound none) (enter_controls whole d templates e sound made.templates_are) (enter_entries whole d change e free made.change_is)
    (append_few s e sound.few drawn young) (enter_of_item whole d change e sound free drawn made.change_is) (one_drawn whole d.next_entry d.next_template sound.later)

pub appended_holds : (whole : State) (d : Desk) (templates : TemplatesSeen) (change : Change) (e : Entry) → IsSound whole d → IsFree d.change → e.id ≡ d.next_entry → AppendedDesk d templates change e
    → Holds whole (remade d.dests templates change (d.next_entry + 1) d) e
appended_holds whole d templates change e sound free drawn made = record {
  found = subst (λ (es : List Entry). find (has_entry_id e.id) es ≡ Some e) (sym (enter_entries whole d change e free made.change_is))
      (find_last (has_entry_id e.id) (state_of whole d).entries e
      (all_weaker (λ (x : Entry). x.id < d.next_entry) (λ (x : Entry). has_entry_id e.id x ≡ false) (state_of whole d).entries (λ x small. grind (arith, nat_tests)) sound.few.below) (nat_same e.id));
  about = subst (IsAbout d.home e.id) (sym made.change_is) (about_entered d.home d.change e free);
}
