-- An entry that comes to a server: the rows, and the server with its overload.
use Rattle.std.proofs.Common.{◌≡◌, ◌+◌, ℕ, Bool, true, false, cond, not, ◌&&◌, List, [], ◌∷◌, ◌++◌, Some, None, refl, sym, ap, ◌∙◌, map, arith, nat_eq}
use Rattle.std.specs.List.{IsDistinct, find}
use Rattle.lvs_types.specs.declared.addr.DestId.{DestId}
use Rattle.lvs_types.specs.declared.dest.Dest.{Dest}
use Rattle.lvs_types.specs.declared.dest.DestRow.{DestRow}
use Rattle.lvs_types.specs.declared.entry.Entry.{Entry}
use Rattle.lvs_types.specs.declared.template.Template.{Template}
use Rattle.lvs_model.specs.Same.{dest_eq}
use Rattle.lvs_model.specs.Timeouts.{is_active}
use Rattle.lvs_model.specs.Overload.{overload_bound}
use Rattle.lvs_model.specs.Counts.{row_of, counts_active, counts_inactive, active, inactive, total, template_count}
use Rattle.lvs_model.specs.Binding.{put_entry, count_bound}
use Rattle.lvs_model.specs.Lookups.{has_dest_id, has_entry_id}
use Rattle.lvs_model.specs.WellFormed.{dest_ids}
use Rattle.lvs_dests.specs.Rows.{changed, bound, has_row_id}
use Rattle.lvs_board.proofs.Counts.{one_if, count_put, count_push}
use Rattle.lvs_well_formed.proofs.Keys.{dest_id_true}
use Rattle.lvs_board.specs.Desks.{CountsMore}
use Rattle.lvs_board.proofs.Rows.{rows_changed, rows_same, one_both, here_by}
use Rattle.lvs_board.proofs.Ends.{update_all, map_twice}

pub pushed_counts : (es : List Entry) (v : Entry) → CountsMore es (es ++ v ∷ []) v
pushed_counts es v = record { of_active = λ id. count_push (counts_active id) es v; of_inactive = λ id. count_push (counts_inactive id) es v }

unbound : (x : Entry) (id : DestId) (b : Bool) → x.server ≡ None → one_if (dest_eq x.server id && b) ≡ 0
unbound x id b none = one_both (dest_eq x.server id) b false b (ap (λ o. dest_eq o id) none) refl

-- an unbound entry that is bound counts as one more
pub put_counts : (es : List Entry) (x v : Entry) → find (has_entry_id v.id) es ≡ Some x → x.server ≡ None → CountsMore es (put_entry v es) v
put_counts es x v found none = record {
  of_active = λ id. omega (arith, count_put (counts_active id) (has_entry_id v.id) v x es found, unbound x id (is_active x.state) none);
  of_inactive = λ id. omega (arith, count_put (counts_inactive id) (has_entry_id v.id) v x es found, unbound x id (not (is_active x.state)) none);
}

abbrev bound_made : Dest → ℕ → ℕ → ℕ → DestRow
bound_made d a i t = record { dest = record d { overloaded = overload_bound d.spec (a + i) d.overloaded }; active = a; inactive = i; templates = t }

bound_same : (d : Dest) (a b i j t : ℕ) → a ≡ b → i ≡ j → bound_made d a i t ≡ bound_made d b j t
bound_same d a b i j t same_active same_inactive = ap (λ n. bound_made d n i t) same_active ∙ ap (λ n. bound_made d b n t) same_inactive

abbrev plain_made : Dest → ℕ → ℕ → ℕ → DestRow
plain_made d a i t = record { dest = d; active = a; inactive = i; templates = t }

plain_same : (d : Dest) (a b i j t : ℕ) → a ≡ b → i ≡ j → plain_made d a i t ≡ plain_made d b j t
plain_same d a b i j t same_active same_inactive = ap (λ n. plain_made d n i t) same_active ∙ ap (λ n. plain_made d b n t) same_inactive

abbrev looked_at : DestId → List Entry → Dest → Dest
looked_at id later d = record d { overloaded = overload_bound d.spec (total id later) d.overloaded }

bind_point : (es later : List Entry) (ts : List Template) (v : Entry) (d : Dest) (here b : Bool) → CountsMore es later v → dest_eq v.server d.id ≡ here → is_active v.state ≡ b
    → cond here (bound b (row_of es ts d)) (row_of es ts d) ≡ row_of later ts (cond here (looked_at d.id later d) d)
bind_point es later ts v d true true more new is =
    bound_same d (active d.id es + 1) (active d.id later) (inactive d.id es) (inactive d.id later) (template_count d.id ts)
    (omega (arith, more.of_active d.id, one_both (dest_eq v.server d.id) (is_active v.state) true true new is))
    (omega (arith, more.of_inactive d.id, one_both (dest_eq v.server d.id) (not (is_active v.state)) true false new (ap not is)))
bind_point es later ts v d true false more new is =
    bound_same d (active d.id es) (active d.id later) (inactive d.id es + 1) (inactive d.id later) (template_count d.id ts)
    (omega (arith, more.of_active d.id, one_both (dest_eq v.server d.id) (is_active v.state) true false new is))
    (omega (arith, more.of_inactive d.id, one_both (dest_eq v.server d.id) (not (is_active v.state)) true true new (ap not is)))
bind_point es later ts v d false b more new is =
    plain_same d (active d.id es) (active d.id later) (inactive d.id es) (inactive d.id later) (template_count d.id ts)
    (omega (arith, more.of_active d.id, one_both (dest_eq v.server d.id) (is_active v.state) false b new is))
    (omega (arith, more.of_inactive d.id, one_both (dest_eq v.server d.id) (not (is_active v.state)) false (not b) new (ap not is)))

look_by : (id : DestId) (later : List Entry) (d : Dest) (here : Bool) → has_dest_id id d ≡ here → cond here (looked_at d.id later d) d ≡ cond here (looked_at id later d) d
look_by id later d true is = ap (λ (named : DestId). looked_at named later d) (dest_id_true d.id id is)
look_by id later d false is = refl

-- the rows after an entry has come to a server
pub bound_rows : (es later : List Entry) (ts : List Template) (v : Entry) (id : DestId) (ds : List Dest) → CountsMore es later v → IsDistinct nat_eq (dest_ids ds) → v.server ≡ Some id
    → changed (has_row_id id) (bound (is_active v.state)) (map (row_of es ts) ds) ≡ map (row_of later ts) (count_bound id later ds)
bound_rows es later ts v id ds more apart names =
    rows_changed (has_row_id id) (bound (is_active v.state)) (row_of es ts) (λ d. row_of later ts (cond (has_dest_id id d) (looked_at id later d) d)) ds
    (λ d. bind_point es later ts v d (has_dest_id id d) (is_active v.state) more (here_by v.server id d names) refl ∙ ap (row_of later ts) (look_by id later d (has_dest_id id d) refl))
    ∙ sym (map_twice (row_of later ts) (λ (d : Dest). cond (has_dest_id id d) (looked_at id later d) d) ds)
    ∙ sym (ap (map (row_of later ts)) (update_all (λ (d : Dest). d.id.0) id.0 (looked_at id later) ds apart))

free_point : (es : List Entry) (ts : List Template) (e : Entry) (d : Dest) → e.server ≡ None → row_of es ts d ≡ row_of (es ++ e ∷ []) ts d
free_point es ts e d none =
    plain_same d (active d.id es) (active d.id (es ++ e ∷ [])) (inactive d.id es) (inactive d.id (es ++ e ∷ [])) (template_count d.id ts)
    (omega (arith, count_push (counts_active d.id) es e, unbound e d.id (is_active e.state) none))
    (omega (arith, count_push (counts_inactive d.id) es e, unbound e d.id (not (is_active e.state)) none))

-- an entry without a server counts nowhere
pub appended_rows : (es : List Entry) (ts : List Template) (e : Entry) (ds : List Dest) → e.server ≡ None → map (row_of es ts) ds ≡ map (row_of (es ++ e ∷ []) ts) ds
appended_rows es ts e ds none = rows_same (row_of es ts) (row_of (es ++ e ∷ []) ts) ds (λ d. free_point es ts e d none)
