-- The state that the desk stands for once the due entries of a bucket have ended.
use Rattle.std.proofs.Common.{◌≡◌, ◌<◌, ℕ, Bool, not, ◌&&◌, ◌==◌, List, refl, sym, ap, subst, ◌∙◌, map, arith, nat_eq, nat_le}
use Rattle.std.proofs.lemmas.List.Sums.{length-filter, count_by-le-length}
use Rattle.std.specs.List.{IsDistinct, filter}
use Rattle.lvs_types.specs.declared.dest.DestRow.{DestRow}
use Rattle.lvs_types.specs.declared.entry.Entry.{Entry}
use Rattle.lvs_types.specs.declared.bucket.Change.{Change}
use Rattle.lvs_types.specs.declared.bucket.Change.TheVariants.{Keep, EndDue}
use Rattle.lvs_model.specs.State.{State}
use Rattle.lvs_model.specs.Lists.{without}
use Rattle.lvs_model.specs.Clock.{is_swept, entry_bucket, sweep}
use Rattle.lvs_model.specs.Counts.{row_of}
use Rattle.lvs_well_formed.proofs.Lists.{all_filter}
use Rattle.lvs_well_formed.proofs.Distinct.{distinct_filter}
use Rattle.lvs_well_formed.proofs.Alike.{ids_alike}
use Rattle.lvs_well_formed.proofs.AlikeStates.{ends_alike}
use Rattle.lvs_dests.specs.Rows.{DestsSeen}
use Rattle.lvs_templates.specs.declared.row.TemplateRow.{TemplateRow}
use Rattle.lvs_templates.specs.Seen.{TemplatesSeen}
use Rattle.lvs_templates.specs.Rows.{template_row, templates_of}
use Rattle.lvs_board.specs.declared.desk.Desk.{Desk}
use Rattle.lvs_board.specs.Endings.{ends_row, lessens_row, CanLeave, CanLessen}
use Rattle.lvs_board.specs.Desks.{state_of, after, AreFew, IsOfItem, IsSound}
use Rattle.lvs_board.proofs.Sweeps.{CountAlike, swept_rows}
use Rattle.lvs_board.proofs.Sweeps as sweeps
use Rattle.lvs_board.proofs.Makers.{lessened_rows}
use Rattle.lvs_board.proofs.Holders.{can_lessen_all}
use Rattle.lvs_board.proofs.Desks.{remade, remade_state, remade_sound}

-- THE DESK AT ANOTHER BUCKET

abbrev at_bucket : ℕ → Desk → Desk
at_bucket bucket d = record d { bucket = bucket }

-- ONE STATE

abbrev left_in : State → ℕ → List Entry
left_in s bucket = without (is_swept s bucket) s.entries

abbrev due_in : State → ℕ → List Entry
due_in s bucket = filter (is_swept s bucket) s.entries

swept_few : (s : State) (bucket : ℕ) → AreFew s → AreFew (sweep s bucket).1
swept_few s bucket few =
    let stays : Entry → Bool = λ e. not (is_swept s bucket e) in
    record {
      entries_apart = distinct_filter nat_eq (λ (e : Entry). e.id) stays s.entries few.entries_apart;
      dests_apart = subst (IsDistinct nat_eq) (sym (ids_alike s.dests (sweep s bucket).1.dests (ends_alike (due_in s bucket) (left_in s bucket) s.dests))) few.dests_apart;
      templates_apart = few.templates_apart;
      below = all_filter (λ (e : Entry). e.id < s.next_entry) stays s.entries few.below;
      templates_below = few.templates_below;
      few = omega (arith, few.few, length-filter stays s.entries, count_by-le-length stays s.entries);
      few_templates = few.few_templates;
      young = few.young;
      young_templates = few.young_templates;
    }

alike_itself : (es : List Entry) → CountAlike es es
alike_itself es = record { of_active = λ id. refl; of_inactive = λ id. refl }

due_alike : (due es : List Entry) → due ≡ es → CountAlike due es
due_alike due es is = subst (λ (xs : List Entry). CountAlike xs es) (sym is) (alike_itself es)

-- WHAT THE LOOPS ASK

pub due_can_leave : (whole : State) (d : Desk) (bucket : ℕ) (due : List Entry) → IsSound whole d → due ≡ due_in (state_of whole d) bucket → CanLeave due d.dests.rows
due_can_leave whole d bucket due sound is =
    let s = state_of whole d in
    subst (CanLeave due) (sym sound.totals.servers) (sweeps.can_leave (is_swept s bucket) due s.entries s.templates s.dests (due_alike due (due_in s bucket) is))

pub due_can_lessen : (whole : State) (d : Desk) (bucket : ℕ) (due : List Entry) → IsSound whole d → due ≡ due_in (state_of whole d) bucket → CanLessen due d.templates.rows
due_can_lessen whole d bucket due sound is =
    let s = state_of whole d in
    subst (CanLessen due) (sym sound.totals.controls) (subst (λ (es : List Entry). CanLessen es (map (template_row s.entries) s.templates)) (sym is) (can_lessen_all (is_swept s bucket) s.entries s.templates))

-- THE DESK ONCE THEY HAVE ENDED

abbrev with_rows : DestsSeen → List DestRow → DestsSeen
with_rows seen rows = record seen { rows = rows }

abbrev pub SweptDesk : Desk → List Entry → DestsSeen → TemplatesSeen → Change → Type 0
SweptDesk d due dests templates change = (dests ≡ with_rows d.dests (map (ends_row due) d.dests.rows)) × (templates.rows ≡ map (lessens_row due) d.templates.rows) × (change ≡ EndDue d.moment)

swept_dests : (whole : State) (d : Desk) (bucket : ℕ) (due : List Entry) (dests : DestsSeen) → IsSound whole d → due ≡ due_in (state_of whole d) bucket → dests ≡ with_rows d.dests (map (ends_row due) d.dests.rows)
    → dests ≡ with_rows d.dests (map (row_of (left_in (state_of whole d) bucket) (templates_of d.templates.rows)) (sweep (state_of whole d) bucket).1.dests)
swept_dests whole d bucket due dests sound is ended =
    let s = state_of whole d in
    ended ∙ ap (with_rows d.dests) (ap (map (ends_row due)) sound.totals.servers ∙ swept_rows (is_swept s bucket) due s.entries s.templates s.dests (due_alike due (due_in s bucket) is))

swept_controls : (whole : State) (d : Desk) (bucket : ℕ) (due : List Entry) (templates : List TemplateRow) → IsSound whole d → due ≡ due_in (state_of whole d) bucket → templates ≡ map (lessens_row due) d.templates.rows
    → templates ≡ map (template_row (left_in (state_of whole d) bucket)) (templates_of d.templates.rows)
swept_controls whole d bucket due templates sound is lessened =
    let s = state_of whole d in
    lessened ∙ ap (λ (es : List Entry). map (lessens_row es) d.templates.rows) is ∙ ap (map (lessens_row (due_in s bucket))) sound.totals.controls ∙ lessened_rows (is_swept s bucket) s.entries s.templates

abbrev swept_at : ℕ → ℕ → ℕ → Entry → Bool
swept_at buckets bucket now e = (entry_bucket buckets e == bucket) && nat_le e.deadline now

swept_entries : (whole : State) (d : Desk) (bucket : ℕ) (change : Change) → d.change ≡ Keep → d.moment ≡ whole.now → change ≡ EndDue d.moment → after (is_swept whole bucket) change whole.entries ≡ left_in (state_of whole d) bucket
swept_entries whole d bucket change still moment is =
    ap (λ (c : Change). after (is_swept whole bucket) c whole.entries) is
    ∙ ap (λ (now : ℕ). without (swept_at whole.buckets bucket now) whole.entries) (sym moment)
    ∙ ap (without (swept_at whole.buckets bucket d.moment)) (sym (ap (λ (c : Change). after (is_swept whole d.bucket) c whole.entries) still))

pub swept_state : (whole : State) (d : Desk) (bucket : ℕ) (due : List Entry) (dests : DestsSeen) (templates : TemplatesSeen) (change : Change) → IsSound whole d → d.change ≡ Keep → d.moment ≡ whole.now → due ≡ due_in (state_of whole d) bucket
    → SweptDesk d due dests templates change → state_of whole (remade dests templates change d.next_entry (at_bucket bucket d)) ≡ (sweep (state_of whole d) bucket).1
swept_state whole d bucket due dests templates change sound still moment is made =
    let s = state_of whole d in
    remade_state whole (at_bucket bucket d) dests templates change d.next_entry (sweep s bucket).1.dests (left_in s bucket)
    (swept_dests whole d bucket due dests sound is made.0) (swept_controls whole d bucket due templates.rows sound is made.1) (swept_entries whole d bucket change still moment made.2)

pub swept_sound : (whole : State) (d : Desk) (bucket : ℕ) (due : List Entry) (dests : DestsSeen) (templates : TemplatesSeen) (change : Change) → IsSound whole d → d.change ≡ Keep → d.moment ≡ whole.now → due ≡ due_in (state_of whole d) bucket
    → SweptDesk d due dests templates change → IsSound whole (remade dests templates change d.next_entry (at_bucket bucket d))
swept_sound whole d bucket due dests templates change sound still moment is made =
    let s = state_of whole d in
    remade_sound whole (at_bucket bucket d) dests templates change d.next_entry (sweep s bucket).1.dests (left_in s bucket)
    (swept_dests whole d bucket due dests sound is made.0) (swept_controls whole d bucket due templates.rows sound is made.1) (swept_entries whole d bucket change still moment made.2)
    (swept_few s bucket sound.few) (subst (IsOfItem whole d.home) (sym made.2) moment) sound.later
