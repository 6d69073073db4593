-- A new template comes last, in the place of the one of its key.
use Rattle.std.proofs.Common.{◌≡◌, ◌+◌, ◌<◌, ◌≤◌, ◌^◌, ℕ, Bool, true, false, cond, not, List, [], ◌∷◌, ◌++◌, Option, Some, None, refl, sym, ap, subst, ◌∙◌, map, length, arith, nat_eq}
use Rattle.std.proofs.lemmas.Bool.Decides.{nat_tests}
use Rattle.std.proofs.lemmas.List.Sums.{length-filter, count_by-le-length}
use Rattle.std.specs.Prelude.{IfSome}
use Rattle.std.specs.List.{AllByRecursion, IsDistinct, count_by, find}
use Rattle.lvs_types.specs.declared.addr.TemplateId.{TemplateId}
use Rattle.lvs_types.specs.declared.bucket.Change.{Change}
use Rattle.lvs_types.specs.declared.bucket.Change.TheVariants.{Keep, Put, Update, End, Swap, EndDue}
use Rattle.lvs_types.specs.declared.entry.Entry.{Entry}
use Rattle.lvs_types.specs.declared.entry.Key.{Key}
use Rattle.lvs_types.specs.declared.template.TemplateKey.{TemplateKey}
use Rattle.lvs_types.specs.declared.template.Template.{Template}
use Rattle.lvs_model.specs.State.{State}
use Rattle.lvs_model.specs.Same.{dest_eq, template_key_eq}
use Rattle.lvs_model.specs.Lists.{update_first, without}
use Rattle.lvs_model.specs.Binding.{put_entry}
use Rattle.lvs_model.specs.Clock.{is_swept}
use Rattle.lvs_model.specs.Counts.{row_of, controls, is_made_by}
use Rattle.lvs_model.specs.Lookups.{has_entry_id, has_template_key, template_at}
use Rattle.lvs_model.specs.Scheduling.{replace_template}
use Rattle.lvs_model.specs.WellFormed.{template_keys, HoldsOlder, IsOlder}
use Rattle.lvs_dests.specs.Rows.{DestsSeen, IsFarBelow, row_at}
use Rattle.lvs_templates.specs.declared.row.TemplateRow.{TemplateRow}
use Rattle.lvs_templates.specs.Seen.{TemplatesSeen}
use Rattle.lvs_templates.specs.Rows.{template_row, has_id, has_key, new_row, recount}
use Rattle.lvs_templates.proofs.Keys.{key_eq_is}
use Rattle.lvs_well_formed.proofs.Keys.{nat_same, template_key_same}
use Rattle.lvs_well_formed.proofs.Finds.{find_last}
use Rattle.lvs_well_formed.proofs.Lists.{all_filter, all_map, all_push, all_unmap, all_weaker, find_none}
use Rattle.lvs_well_formed.proofs.Distinct.{distinct_filter, distinct_parts, distinct_push}
use Rattle.lvs_board.specs.declared.desk.Desk.{Desk}
use Rattle.lvs_board.specs.Desks.{after, origin, state_of, AreFew, IsOfItem, IsSound}
use Rattle.lvs_board.specs.Held.{CanHold, IsHeldAt, held_by, hold_one, unhold_one}
use Rattle.lvs_board.specs.Made.{made_row, new_is_made}
use Rattle.lvs_board.proofs.Counts.{one_if, count_cons, count_parts, count_push, count_put}
use Rattle.lvs_board.proofs.Rows.{room_at}
use Rattle.lvs_board.proofs.Holds.{NamesMore, held_rows, unheld_rows, is_held_at}
use Rattle.lvs_board.proofs.Reaps.{filter_rows}
use Rattle.lvs_board.proofs.Templating.{with_rows, Retabled, retabled, restated, retabled_state, retabled_sound}

-- NO ENTRY NAMES A TEMPLATE THAT IS YET TO COME

abbrev makes : TemplateId → Entry → Bool
makes id e = is_made_by id e.template

older_by : (id : TemplateId) (o : Option TemplateId) (next : ℕ) → next ≤ id.0 → IsOlder next o → is_made_by id o ≡ false
older_by id None next above older = refl
older_by id (Some made) next above older = grind (arith, nat_tests)

none_made : (id : TemplateId) (next : ℕ) (es : List Entry) → next ≤ id.0 → AllByRecursion (HoldsOlder next) es → count_by (makes id) es ≡ 0
none_made id next [] above older = refl
none_made id next (e ∷ es) above older = omega (arith, count_cons (makes id) e es, ap one_if (older_by id e.template next above older.0), none_made id next es above older.1)

missed_step : {X : Type 0} (b : Bool) (v x : X) (xs put : List X) (o : Option X) → cond b (Some x) o ≡ None → (o ≡ None → put ≡ xs) → cond b (v ∷ xs) (x ∷ put) ≡ x ∷ xs
missed_step true v x xs put o none rest = absurd cc
missed_step false v x xs put o none rest = ap (λ zs. x ∷ zs) (rest none)

missed : {X : Type 0} (p : X → Bool) (v : X) (xs : List X) → find p xs ≡ None → update_first p (λ _. v) xs ≡ xs
missed p v [] none = refl
missed p v (x ∷ xs) none = missed_step (p x) v x xs (update_first p (λ _. v) xs) (find p xs) none (λ later. missed p v xs later)

updated_made : (id : TemplateId) (e : Entry) (es : List Entry) (o : Option Entry) → find (has_entry_id e.id) es ≡ o → IfSome o (λ (x : Entry). origin x ≡ origin e) → count_by (makes id) es ≡ 0 → count_by (makes id) (put_entry e es) ≡ 0
updated_made id e es None is keyed none = ap (count_by (makes id)) (missed (has_entry_id e.id) e es is) ∙ none
updated_made id e es (Some x) is keyed none =
    let same : x.template ≡ e.template = ap (λ (pair : Key × Option TemplateId). pair.1) keyed in
    omega (arith, count_put (makes id) (has_entry_id e.id) e x es is, none, ap (λ o. one_if (is_made_by id o)) same)

made_after : (p : Entry → Bool) (whole : State) (home : Option ℕ) (change : Change) (id : TemplateId) → IsOfItem whole home change → count_by (makes id) whole.entries ≡ 0 → count_by (makes id) (after p change whole.entries) ≡ one_if (new_is_made id change)
made_after p whole home Keep id of none = none
made_after p whole home (Put e) id of none = omega (arith, count_push (makes id) whole.entries e, none)
made_after p whole home (Update e) id of none = updated_made id e whole.entries (find (has_entry_id e.id) whole.entries) refl of.1 none
made_after p whole home (End gone) id of none = omega (arith, count_parts (makes id) (has_entry_id gone) whole.entries, none)
made_after p whole home (Swap gone e) id of none = omega (arith, count_parts (makes id) (has_entry_id gone) whole.entries, count_push (makes id) (without (has_entry_id gone) whole.entries) e, none)
made_after p whole home (EndDue moment) id of none = omega (arith, count_parts (makes id) p whole.entries, none)

-- the new entry of the item is the only one that may name the next template
new_controls : (whole : State) (d : Desk) (id : TemplateId) → IsSound whole d → id.0 ≡ d.next_template → controls id (state_of whole d).entries ≡ one_if (new_is_made id d.change)
new_controls whole d id sound drawn =
    made_after (is_swept whole d.bucket) whole d.home d.change id sound.of_item
    (none_made id whole.next_template whole.entries (omega (arith, drawn, sound.later.templates)) sound.later.made)

-- THE STORE

below_other : (id : TemplateId) (row : TemplateRow) → row.template.id.0 < id.0 → has_id id row ≡ false
below_other id row small = grind (arith, nat_tests)

others : (id : TemplateId) (rows : List TemplateRow) → AllByRecursion (λ (row : TemplateRow). row.template.id.0 < id.0) rows → AllByRecursion (λ (row : TemplateRow). has_id id row ≡ false) rows
others id rows below = all_weaker (λ (row : TemplateRow). row.template.id.0 < id.0) (λ (row : TemplateRow). has_id id row ≡ false) rows (λ row small. below_other id row small) below

none_found : (P : TemplateRow → Type 0) (p : TemplateRow → Bool) (rows : List TemplateRow) → AllByRecursion (λ (row : TemplateRow). p row ≡ false) rows → IfSome (find p rows) P
none_found P p [] none = tt
none_found P p (row ∷ rows) none = rw none.0 (none_found P p rows none.1)

-- its id is free
pub free_id : (id : TemplateId) (key : TemplateKey) (rows : List TemplateRow) → AllByRecursion (λ (row : TemplateRow). row.template.id.0 < id.0) rows → IfSome (find (has_id id) rows) (λ row. row.template.key ≡ key)
free_id id key rows below = none_found (λ row. row.template.key ≡ key) (has_id id) rows (others id rows below)

kept_below : (t : Template) (rows : List TemplateRow) → AllByRecursion (λ (row : TemplateRow). row.template.id.0 < t.id.0) rows → AllByRecursion (λ (row : TemplateRow). has_id t.id row ≡ false) (without (has_key t.key) rows)
kept_below t rows below = all_filter (λ (row : TemplateRow). has_id t.id row ≡ false) (λ row. not (has_key t.key row)) rows (others t.id rows below)

few_controls : (o : Option TemplateRow) (row : TemplateRow) → o ≡ Some row → row.controls < 2 ^ 63 → IfSome o (λ r. r.controls < 2 ^ 63)
few_controls None row is few = tt
few_controls (Some r) row is few = let same : r ≡ row = cc in subst (λ (x : TemplateRow). x.controls < 2 ^ 63) (sym same) few

pub can_raise : (t : Template) (rows new : List TemplateRow) → AllByRecursion (λ (row : TemplateRow). row.template.id.0 < t.id.0) rows → new ≡ without (has_key t.key) rows ++ new_row t ∷ [] → IfSome (find (has_id t.id) new) (λ row. row.controls < 2 ^ 63)
can_raise t rows new below is =
    few_controls (find (has_id t.id) new) (new_row t) (ap (find (has_id t.id)) is ∙ find_last (has_id t.id) (without (has_key t.key) rows) (new_row t) (kept_below t rows below) (nat_same t.id.0)) (omega arith)

recount_others : (id : TemplateId) (rows : List TemplateRow) (row : TemplateRow) → AllByRecursion (λ (r : TemplateRow). has_id id r ≡ false) rows → recount (λ n. n + 1) id (rows ++ row ∷ []) ≡ rows ++ recount (λ n. n + 1) id (row ∷ [])
recount_others id [] row none = refl
recount_others id (r ∷ rows) row none = rw none.0 (ap (λ (rest : List TemplateRow). r ∷ rest) (recount_others id rows row none.1))

last_raised : (t : Template) → recount (λ n. n + 1) t.id (new_row t ∷ []) ≡ made_row t true ∷ []
last_raised t = ap (λ b. cond b (record (new_row t) { controls = 0 + 1 }) (new_row t) ∷ []) (nat_same t.id.0)

pub raised_last : (t : Template) (rows new : List TemplateRow) → AllByRecursion (λ (row : TemplateRow). row.template.id.0 < t.id.0) rows → new ≡ without (has_key t.key) rows ++ new_row t ∷ [] → recount (λ n. n + 1) t.id new ≡ without (has_key t.key) rows ++ made_row t true ∷ []
raised_last t rows new below is =
    ap (recount (λ n. n + 1) t.id) is ∙ recount_others t.id (without (has_key t.key) rows) (new_row t) (kept_below t rows below) ∙ ap (λ (last : List TemplateRow). without (has_key t.key) rows ++ last) (last_raised t)

pub rows_below : (whole : State) (d : Desk) (t : Template) → IsSound whole d → t.id.0 ≡ d.next_template → AllByRecursion (λ (row : TemplateRow). row.template.id.0 < t.id.0) d.templates.rows
rows_below whole d t sound drawn =
    let s = state_of whole d in
    subst (AllByRecursion (λ (row : TemplateRow). row.template.id.0 < t.id.0)) (sym sound.totals.controls)
    (all_map (λ (row : TemplateRow). row.template.id.0 < t.id.0) (template_row s.entries) s.templates
    (all_weaker (λ (x : Template). x.id.0 < d.next_template) (λ (x : Template). x.id.0 < t.id.0) s.templates (λ x small. omega (arith, small, drawn)) sound.few.templates_below))

-- THE TEMPLATE THAT LEAVES

none_leaves : {X : Type 0} (p : X → Bool) (xs : List X) → AllByRecursion (λ x. p x ≡ false) xs → without p xs ≡ xs
none_leaves p [] none = refl
none_leaves p (x ∷ xs) none = rw none.0 (ap (λ rest. x ∷ rest) (none_leaves p xs none.1))

not_both : (b : Bool) → b ≡ true → b ≡ false → ⊥
not_both true is also = cc
not_both false is also = cc

key_differs : (a b key : TemplateKey) (c : Bool) → a ≡ key → template_key_eq a b ≡ false → template_key_eq b key ≡ c → template_key_eq b key ≡ false
key_differs a b key false same apart is = is
key_differs a b key true same apart is =
    let one : b ≡ a = key_eq_is b key is ∙ sym same in
    absurd (not_both (template_key_eq a b) (ap (template_key_eq a) one ∙ template_key_same a) apart)

keys_differ : (t : Template) (key : TemplateKey) (ts : List Template) → has_template_key key t ≡ true → AllByRecursion (λ k. template_key_eq t.key k ≡ false) (template_keys ts) → AllByRecursion (λ (x : Template). has_template_key key x ≡ false) ts
keys_differ t key ts here apart =
    all_weaker (λ (x : Template). template_key_eq t.key x.key ≡ false) (λ (x : Template). has_template_key key x ≡ false) ts
    (λ x differs. key_differs t.key x.key key (template_key_eq x.key key) (key_eq_is t.key key here) differs refl)
    (all_unmap (λ k. template_key_eq t.key k ≡ false) (λ (x : Template). x.key) ts apart)

leave_step : (q : Template → Bool) (key : TemplateKey) (x y : Template) (b : Bool) (ts : List Template) → has_template_key key y ≡ b → AllByRecursion (λ k. template_key_eq y.key k ≡ false) (template_keys ts) → cond b (Some y) (template_at key ts) ≡ Some x
    → (template_at key ts ≡ Some x → count_by q (without (has_template_key key) ts) + one_if (q x) ≡ count_by q ts)
    → count_by q (cond (not b) (y ∷ without (has_template_key key) ts) (without (has_template_key key) ts)) + one_if (q x) ≡ count_by q (y ∷ ts)
leave_step q key x y true ts is apart found rest =
    let same : y ≡ x = cc in
    let none = none_leaves (has_template_key key) ts (keys_differ y key ts is apart) in
    omega (arith, count_cons q y ts, ap (λ z. one_if (q z)) same, ap (count_by q) none)
leave_step q key x y false ts is apart found rest = omega (arith, count_cons q y ts, count_cons q y (without (has_template_key key) ts), rest found)

count_key : (q : Template → Bool) (key : TemplateKey) (x : Template) (ts : List Template) → IsDistinct template_key_eq (template_keys ts) → template_at key ts ≡ Some x → count_by q (without (has_template_key key) ts) + one_if (q x) ≡ count_by q ts
count_key q key x [] apart found = absurd cc
count_key q key x (y ∷ ts) apart found =
    let parts = distinct_parts template_key_eq y.key (template_keys ts) apart in
    leave_step q key x y (has_template_key key y) ts refl parts.0 found (λ later. count_key q key x ts parts.1 later)

left_names : (key : TemplateKey) (ts : List Template) (o : Option Template) → IsDistinct template_key_eq (template_keys ts) → template_at key ts ≡ o → NamesMore (without (has_template_key key) ts) ts (held_by o)
left_names key ts None apart is = λ id. omega (arith, ap (count_by (λ (x : Template). dest_eq x.server id)) (none_leaves (has_template_key key) ts (find_none (has_template_key key) ts is)))
left_names key ts (Some x) apart is = λ id. omega (arith, count_key (λ (y : Template). dest_eq y.server id) key x ts apart is)

pushed_names : (ts : List Template) (t : Template) → NamesMore ts (ts ++ t ∷ []) t.server
pushed_names ts t = λ id. count_push (λ (x : Template). dest_eq x.server id) ts t

-- THE DESK

abbrev left_ts : Template → State → List Template
left_ts t s = without (has_template_key t.key) s.templates

-- what the calls have made of the tables
pub record AddedDesk (d : Desk) (held dests : DestsSeen) (templates : TemplatesSeen) (t : Template) (before : Option Template) : Type 0 where
  pub templates_are : templates.rows ≡ without (has_key t.key) d.templates.rows ++ made_row t (new_is_made t.id d.change) ∷ []
  pub held_are : held ≡ with_rows d.dests (map (unhold_one (held_by before)) d.dests.rows)
  pub dests_are : dests ≡ with_rows held (map (hold_one t.server) held.rows)

-- the template that was there under the key
pub record Before (s : State) (t : Template) (before : Option Template) : Type 0 where
  pub was : before ≡ template_at t.key s.templates
  pub apart : IsDistinct template_key_eq (template_keys s.templates)

pub can_let_go : (whole : State) (d : Desk) (t : Template) (before : Option Template) → IsSound whole d → Before (state_of whole d) t before → IsHeldAt (held_by before) d.dests.rows
can_let_go whole d t before sound was =
    let s = state_of whole d in
    subst (IsHeldAt (held_by before)) (sym sound.totals.servers) (is_held_at s.entries s.templates (left_ts t s) (held_by before) s.dests (left_names t.key s.templates before was.apart (sym was.was)))

held_after : (whole : State) (d : Desk) (held : DestsSeen) (t : Template) (before : Option Template) → IsSound whole d → Before (state_of whole d) t before → held ≡ with_rows d.dests (map (unhold_one (held_by before)) d.dests.rows)
    → held ≡ with_rows d.dests (map (row_of (state_of whole d).entries (left_ts t (state_of whole d))) (state_of whole d).dests)
held_after whole d held t before sound was is =
    let s = state_of whole d in
    is ∙ ap (with_rows d.dests) (ap (map (unhold_one (held_by before))) sound.totals.servers ∙ unheld_rows s.entries s.templates (left_ts t s) (held_by before) s.dests (left_names t.key s.templates before was.apart (sym was.was)))

fewer_left : (p : Template → Bool) (ts : List Template) → length (without p ts) ≤ length ts
fewer_left p ts = omega (arith, length-filter (λ t. not (p t)) ts, count_by-le-length (λ t. not (p t)) ts)

pub can_hold_new : (whole : State) (d : Desk) (held : DestsSeen) (t : Template) (before : Option Template) → IsSound whole d → Before (state_of whole d) t before → held ≡ with_rows d.dests (map (unhold_one (held_by before)) d.dests.rows) → CanHold t.server held.rows
can_hold_new whole d held t before sound was is = λ id names.
    let s = state_of whole d in
    subst (λ (seen : DestsSeen). IfSome (row_at id seen.rows) IsFarBelow) (sym (held_after whole d held t before sound was is))
    (room_at s.entries (left_ts t s) id s.dests (omega (arith, sound.few.few, sound.few.young)) (omega (arith, fewer_left (has_template_key t.key) s.templates, sound.few.few_templates, sound.few.young_templates)))

last_row : (es : List Entry) (t : Template) (made : Bool) → controls t.id es ≡ one_if made → made_row t made ≡ template_row es t
last_row es t made is = ap (λ n. let row : TemplateRow = record { template = t; controls = n } in row) (sym is)

pushed_rows : (es : List Entry) (ts : List Template) (t : Template) → map (template_row es) ts ++ template_row es t ∷ [] ≡ map (template_row es) (ts ++ t ∷ [])
pushed_rows es [] t = refl
pushed_rows es (x ∷ ts) t = ap (λ (rest : List TemplateRow). template_row es x ∷ rest) (pushed_rows es ts t)

add_retabled : (whole : State) (d : Desk) (held dests : DestsSeen) (templates : TemplatesSeen) (t : Template) (before : Option Template) → IsSound whole d → t.id.0 ≡ d.next_template → Before (state_of whole d) t before → AddedDesk d held dests templates t before
    → Retabled (state_of whole d) d dests templates (state_of whole d).dests (left_ts t (state_of whole d) ++ t ∷ [])
add_retabled whole d held dests templates t before sound drawn was made =
    let s = state_of whole d in
    record {
      servers = made.dests_are ∙ ap (λ (seen : DestsSeen). with_rows seen (map (hold_one t.server) seen.rows)) (held_after whole d held t before sound was made.held_are)
          ∙ ap (with_rows d.dests) (held_rows s.entries (left_ts t s) (left_ts t s ++ t ∷ []) t.server s.dests (pushed_names (left_ts t s) t));
      controls = made.templates_are
          ∙ ap (λ (rows : List TemplateRow). without (has_key t.key) rows ++ made_row t (new_is_made t.id d.change) ∷ []) sound.totals.controls
          ∙ ap (λ (rows : List TemplateRow). rows ++ made_row t (new_is_made t.id d.change) ∷ []) (filter_rows (template_row s.entries) (λ row. not (has_key t.key row)) (λ x. not (has_template_key t.key x)) s.templates (λ x. refl))
          ∙ ap (λ (row : TemplateRow). map (template_row s.entries) (left_ts t s) ++ row ∷ []) (last_row s.entries t (new_is_made t.id d.change) (new_controls whole d t.id sound drawn))
          ∙ pushed_rows s.entries (left_ts t s) t;
    }

len_push : (ts : List Template) (t : Template) → length (ts ++ t ∷ []) ≡ length ts + 1
len_push [] t = refl
len_push (x ∷ ts) t = omega (arith, len_push ts t)

add_few : (s : State) (t : Template) → AreFew s → t.id.0 ≡ s.next_template → s.next_template < 2 ^ 62 → AreFew (restated s s.dests (left_ts t s ++ t ∷ []) (s.next_template + 1))
add_few s t few drawn young =
    let kept = all_filter (λ (x : Template). x.id.0 < s.next_template) (λ (x : Template). not (has_template_key t.key x)) s.templates few.templates_below in
    record {
      entries_apart = few.entries_apart;
      dests_apart = few.dests_apart;
      templates_apart = distinct_push nat_eq (λ (x : Template). x.id.0) (left_ts t s) t
          (all_weaker (λ (x : Template). x.id.0 < s.next_template) (λ (x : Template). nat_eq x.id.0 t.id.0 ≡ false) (left_ts t s) (λ x small. grind (arith, nat_tests)) kept)
          (distinct_filter nat_eq (λ (x : Template). x.id.0) (λ (x : Template). not (has_template_key t.key x)) s.templates few.templates_apart);
      below = few.below;
      templates_below = all_push (λ (x : Template). x.id.0 < s.next_template + 1) (left_ts t s) t
          (all_weaker (λ (x : Template). x.id.0 < s.next_template) (λ (x : Template). x.id.0 < s.next_template + 1) (left_ts t s) (λ x small. omega (arith, small)) kept) (omega (arith, drawn));
      few = few.few;
      few_templates = omega (arith, few.few_templates, fewer_left (has_template_key t.key) s.templates, len_push (left_ts t s) t);
      young = few.young;
      young_templates = omega (arith, young);
    }

pub add_state : (whole : State) (d : Desk) (held dests : DestsSeen) (templates : TemplatesSeen) (t : Template) (before : Option Template) → IsSound whole d → t.id.0 ≡ d.next_template → Before (state_of whole d) t before → AddedDesk d held dests templates t before
    → state_of whole (retabled dests templates (d.next_template + 1) d) ≡ replace_template t (state_of whole d)
add_state whole d held dests templates t before sound drawn was made =
    let s = state_of whole d in
    retabled_state whole d dests templates (d.next_template + 1) s.dests (left_ts t s ++ t ∷ []) (add_retabled whole d held dests templates t before sound drawn was made)

pub add_sound : (whole : State) (d : Desk) (held dests : DestsSeen) (templates : TemplatesSeen) (t : Template) (before : Option Template) → IsSound whole d → t.id.0 ≡ d.next_template → Before (state_of whole d) t before → AddedDesk d held dests templates t before → d.next_template < 2 ^ 62
    → IsSound whole (retabled dests templates (d.next_template + 1) d)
add_sound whole d held dests templates t before sound drawn was made young =
    let s = state_of whole d in
    retabled_sound whole d dests templates (d.next_template + 1) s.dests (left_ts t s ++ t ∷ []) sound (omega arith) (add_retabled whole d held dests templates t before sound drawn was made) (add_few s t sound.few drawn young)
