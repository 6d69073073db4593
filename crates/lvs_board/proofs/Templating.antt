-- The state that the desk stands for after a change of its templates.
use Rattle.std.proofs.Common.{◌≡◌, ◌<◌, ◌≤◌, ℕ, Bool, true, false, cond, List, [], ◌∷◌, Option, Some, None, refl, sym, ap, subst, ◌∙◌, map, length, arith, nat_eq, suc}
use Rattle.std.specs.Prelude.{IfSome, IsSome, IsOk, OnOk, Result, Ok, Err}
use Rattle.std.specs.Option.{option_map}
use Rattle.std.specs.List.{IsDistinct, find}
use Rattle.lvs_types.specs.declared.addr.DestId.{DestId}
use Rattle.lvs_types.specs.declared.addr.TemplateId.{TemplateId}
use Rattle.lvs_types.specs.declared.dest.Dest.{Dest}
use Rattle.lvs_types.specs.declared.dest.DestRow.{DestRow}
use Rattle.lvs_types.specs.declared.entry.Entry.{Entry}
use Rattle.lvs_types.specs.declared.template.TemplateKey.{TemplateKey}
use Rattle.lvs_types.specs.declared.template.Template.{Template}
use Rattle.lvs_model.specs.State.{State}
use Rattle.lvs_model.specs.Same.{dest_eq, template_id_eq}
use Rattle.lvs_model.specs.Lists.{update_first}
use Rattle.lvs_model.specs.Counts.{row_of}
use Rattle.lvs_model.specs.Binding.{put_template}
use Rattle.lvs_model.specs.Lookups.{has_template_id, has_template_key, template_at, template_of_id}
use Rattle.lvs_model.specs.WellFormed.{template_ids}
use Rattle.lvs_dests.specs.Rows.{DestsSeen, IsFarBelow, row_at}
use Rattle.lvs_templates.specs.declared.row.TemplateRow.{TemplateRow}
use Rattle.lvs_templates.specs.Seen.{TemplatesSeen}
use Rattle.lvs_templates.specs.Rows.{template_row, templates_of, has_id, has_key, put, put_by, replace_row}
use Rattle.lvs_rules.specs.Changes.{IsTemplateUpdate}
use Rattle.lvs_well_formed.proofs.Keys.{nat_same, template_key_same}
use Rattle.lvs_well_formed.proofs.Lists.{all_find, all_update, find_passes}
use Rattle.lvs_well_formed.proofs.Distinct.{each_found, keys_put}
use Rattle.lvs_templates.proofs.Keys.{key_eq_is}
use Rattle.lvs_board.specs.declared.desk.Desk.{Desk}
use Rattle.lvs_board.specs.Stands.{AreTotalled}
use Rattle.lvs_board.specs.Desks.{seen_of, state_of, AreFew, IsSound, Gives}
use Rattle.lvs_board.specs.Held.{CanHold, hold_one, newly_named}
use Rattle.lvs_board.proofs.Counts.{one_if, count_put}
use Rattle.lvs_board.proofs.Rows.{room_at}
use Rattle.lvs_board.proofs.Ends.{dests_of_rows, map_twice, update_all}
use Rattle.lvs_board.proofs.Makers.{template_with, templates_changed}
use Rattle.lvs_board.proofs.Desks.{templates_of_rows}
use Rattle.lvs_board.proofs.Holds.{NamesMore, held_rows}

-- THE STATE OF A DESK WHOSE TEMPLATES CHANGED

abbrev pub with_rows : DestsSeen → List DestRow → DestsSeen
with_rows seen rows = record seen { rows = rows }

abbrev pub retabled : DestsSeen → TemplatesSeen → ℕ → Desk → Desk
retabled dests templates next d = record d { dests = dests; templates = templates; next_template = next }

abbrev pub restated : State → List Dest → List Template → ℕ → State
restated s ds ts next = record s { dests = ds; templates = ts; next_template = next }

-- the rows are those of other servers and templates, beside the same entries
pub record Retabled (s : State) (d : Desk) (dests : DestsSeen) (templates : TemplatesSeen) (ds : List Dest) (ts : List Template) : Type 0 where
  pub servers : dests ≡ with_rows d.dests (map (row_of s.entries ts) ds)
  pub controls : templates.rows ≡ map (template_row s.entries) ts

pub retabled_state : (whole : State) (d : Desk) (dests : DestsSeen) (templates : TemplatesSeen) (next : ℕ) (ds : List Dest) (ts : List Template) → Retabled (state_of whole d) d dests templates ds ts
    → state_of whole (retabled dests templates next d) ≡ restated (state_of whole d) ds ts next
retabled_state whole d dests templates next ds ts made =
    let es = (state_of whole d).entries in
    ap (λ (seen : DestsSeen). state_of whole (retabled seen templates next d)) made.servers
    ∙ ap (λ (others : List Dest). record (state_of whole (retabled d.dests templates next d)) { dests = others }) (dests_of_rows es ts ds)
    ∙ ap (λ (others : List Template). restated (state_of whole d) ds others next) (ap templates_of made.controls ∙ templates_of_rows es ts)

pub retabled_sound : (whole : State) (d : Desk) (dests : DestsSeen) (templates : TemplatesSeen) (next : ℕ) (ds : List Dest) (ts : List Template) → IsSound whole d → d.next_template ≤ next → Retabled (state_of whole d) d dests templates ds ts
    → AreFew (restated (state_of whole d) ds ts next) → IsSound whole (retabled dests templates next d)
retabled_sound whole d dests templates next ds ts sound rises made few =
    let is = sym (retabled_state whole d dests templates next ds ts made) in
    record {
      totals = subst (AreTotalled (seen_of (retabled dests templates next d))) is (record { servers = ap (λ (seen : DestsSeen). seen.rows) made.servers; controls = made.controls });
      few = subst AreFew is few;
      of_item = sound.of_item;
      later = record { entries = sound.later.entries; templates = omega (arith, sound.later.templates, rises); made = sound.later.made };
    }

-- LOOK-UPS

gives_step : (key : TemplateKey) (ts : List Template) (o : Option Template) → template_at key ts ≡ o → IfSome o (λ t. template_at t.key ts ≡ Some t)
gives_step key ts None is = tt
gives_step key ts (Some t) is = subst (λ (named : TemplateKey). template_at named ts ≡ Some t) (sym (key_eq_is t.key key (find_passes (has_template_key key) ts t is))) is

-- the template of a key is the one of its own key
pub key_gives : (key : TemplateKey) (ts : List Template) → IfSome (template_at key ts) (λ t. template_at t.key ts ≡ Some t)
key_gives key ts = gives_step key ts (template_at key ts) refl

row_step : (g : Template → TemplateRow) (b : Bool) (t : Template) (r : Option TemplateRow) (o : Option Template) → r ≡ option_map g o → cond b (Some (g t)) r ≡ option_map g (cond b (Some t) o)
row_step g true t r o rest = refl
row_step g false t r o rest = rest

pub key_row_found : (es : List Entry) (key : TemplateKey) (ts : List Template) → find (has_key key) (map (template_row es) ts) ≡ option_map (template_row es) (template_at key ts)
key_row_found es key [] = refl
key_row_found es key (t ∷ ts) = row_step (template_row es) (has_template_key key t) t (find (has_key key) (map (template_row es) ts)) (template_at key ts) (key_row_found es key ts)

-- A TEMPLATE IN ITS OWN PLACE

pub found_by_id : (ts : List Template) (x v : Template) → IsDistinct nat_eq (template_ids ts) → template_at x.key ts ≡ Some x → v.id ≡ x.id → find (has_template_id v.id) ts ≡ Some x
found_by_id ts x v apart found same =
    subst (λ (id : TemplateId). find (has_template_id id) ts ≡ Some x) (sym same)
    (all_find (λ (t : Template). find (has_template_id t.id) ts ≡ Some t) (has_template_key x.key) ts x (each_found nat_eq (λ (t : Template). t.id.0) ts nat_same apart) found)

put_names : (ts : List Template) (x v : Template) (before : Option DestId) → find (has_template_id v.id) ts ≡ Some x → x.server ≡ before → IfSome before (λ (id : DestId). v.server ≡ Some id) → NamesMore ts (put_template v ts) (newly_named before v.server)
put_names ts x v None found was names = λ id.
    omega (arith, count_put (λ (t : Template). dest_eq t.server id) (has_template_id v.id) v x ts found, ap (λ o. one_if (dest_eq o id)) was)
put_names ts x v (Some b) found was names = λ id.
    omega (arith, count_put (λ (t : Template). dest_eq t.server id) (has_template_id v.id) v x ts found, ap (λ o. one_if (dest_eq o id)) was, ap (λ o. one_if (dest_eq o id)) names)

abbrev put_row : List Entry → Template → Template → TemplateRow
put_row es x v = record { template = v; controls = (template_row es x).controls }

row_put : (es : List Entry) (x v : Template) → v.id ≡ x.id → put_row es x v ≡ template_row es v
row_put es x v same = ap (λ (id : TemplateId). let row : TemplateRow = record { template = v; controls = (template_row es (record x { id = id })).controls } in row) (sym same)

place_step : (es : List Entry) (row : TemplateRow) (v t : Template) (here : Bool) → row ≡ template_row es v → cond here row (template_row es t) ≡ template_row es (cond here v t)
place_step es row v t true is = is
place_step es row v t false is = refl

replaced_rows : (es : List Entry) (ts : List Template) (x v : Template) → IsDistinct nat_eq (template_ids ts) → v.id ≡ x.id → replace_row (put_row es x v) (map (template_row es) ts) ≡ map (template_row es) (put_template v ts)
replaced_rows es ts x v apart same =
    templates_changed (λ (row : TemplateRow). cond (has_id v.id row) (put_row es x v) row) (template_row es) (λ t. template_row es (cond (has_template_id v.id t) v t)) ts (λ t. place_step es (put_row es x v) v t (has_template_id v.id t) (row_put es x v same))
    ∙ sym (map_twice (template_row es) (λ (t : Template). cond (has_template_id v.id t) v t) ts)
    ∙ sym (ap (map (template_row es)) (update_all (λ (t : Template). t.id.0) v.id.0 (λ _. v) ts apart))

by_same : (v : Template) (row : TemplateRow) (rows : List TemplateRow) → template_id_eq v.id row.template.id ≡ true → put_by v (Some row) rows ≡ replace_row (record { template = v; controls = row.controls }) rows
by_same v row rows is = rw is refl

pub put_rows : (es : List Entry) (ts : List Template) (x v : Template) → IsDistinct nat_eq (template_ids ts) → template_at x.key ts ≡ Some x → v.id ≡ x.id → v.key ≡ x.key → put v (map (template_row es) ts) ≡ map (template_row es) (put_template v ts)
put_rows es ts x v apart found same key =
    let there : find (has_key v.key) (map (template_row es) ts) ≡ Some (template_row es x) = ap (λ (k : TemplateKey). find (has_key k) (map (template_row es) ts)) key ∙ key_row_found es x.key ts ∙ ap (option_map (template_row es)) found in
    ap (λ (o : Option TemplateRow). put_by v o (map (template_row es) ts)) there
    ∙ by_same v (template_row es x) (map (template_row es) ts) (ap (λ (id : TemplateId). template_id_eq id x.id) same ∙ nat_same x.id.0)
    ∙ replaced_rows es ts x v apart same

-- WHAT THE CALLS ASK

same_some : (x t : Template) (o : Option Template) → o ≡ Some x → o ≡ Some t → x ≡ t
same_some x t None is also = absurd cc
same_some x t (Some y) is also = let one : y ≡ x = cc in let two : y ≡ t = cc in sym one ∙ two

-- the id is free but for the template's own place
pub own_place : (whole : State) (d : Desk) (x v : Template) → IsSound whole d → Gives d x → IsTemplateUpdate x v → IfSome (find (has_id v.id) d.templates.rows) (λ row. row.template.key ≡ v.key)
own_place whole d x v sound gives names =
    let s = state_of whole d in
    subst (λ (rows : List TemplateRow). IfSome (find (has_id v.id) rows) (λ row. row.template.key ≡ v.key)) (sym sound.totals.controls)
    (template_with (λ row. row.template.key ≡ v.key) s.entries v.id s.templates (λ t is.
    ap (λ (y : Template). y.key) (sym (same_some x t (template_of_id v.id s.templates) (found_by_id s.templates x v sound.few.templates_apart gives names.id) is)) ∙ sym names.key))

pub can_hold : (whole : State) (d : Desk) (o : Option DestId) → IsSound whole d → CanHold o d.dests.rows
can_hold whole d o sound = λ id names.
    let s = state_of whole d in
    subst (λ (rows : List DestRow). IfSome (row_at id rows) IsFarBelow) (sym sound.totals.servers)
    (room_at s.entries s.templates id s.dests (omega (arith, sound.few.few, sound.few.young)) (omega (arith, sound.few.few_templates, sound.few.young_templates)))

-- THE DESK

len_step : {X : Type 0} (b : Bool) (v x : X) (xs put : List X) → length put ≡ length xs → length (cond b (v ∷ xs) (x ∷ put)) ≡ length (x ∷ xs)
len_step true v x xs put rest = refl
len_step false v x xs put rest = ap suc rest

len_put : {X : Type 0} (p : X → Bool) (v : X) (xs : List X) → length (update_first p (λ _. v) xs) ≡ length xs
len_put p v [] = refl
len_put p v (x ∷ xs) = len_step (p x) v x xs (update_first p (λ _. v) xs) (len_put p v xs)

put_few : (s : State) (x v : Template) → AreFew s → find (has_template_id v.id) s.templates ≡ Some x → v.id ≡ x.id → AreFew (restated s s.dests (put_template v s.templates) s.next_template)
put_few s x v few found same = record {
  entries_apart = few.entries_apart;
  dests_apart = few.dests_apart;
  templates_apart = subst (IsDistinct nat_eq) (sym (keys_put (λ (t : Template). t.id.0) (has_template_id v.id) v s.templates x found (ap (λ (id : TemplateId). id.0) same))) few.templates_apart;
  below = few.below;
  templates_below = all_update (λ (t : Template). t.id.0 < s.next_template) (has_template_id v.id) (λ _. v) s.templates (λ y passes small. let was : x.id.0 < s.next_template = all_find (λ (t : Template). t.id.0 < s.next_template) (has_template_id v.id) s.templates x few.templates_below found in omega (arith, was, ap (λ (id : TemplateId). id.0) same)) few.templates_below;
  few = few.few;
  few_templates = omega (arith, few.few_templates, len_put (has_template_id v.id) v s.templates);
  young = few.young;
  young_templates = few.young_templates;
}

pub record PutDesk (d : Desk) (dests : DestsSeen) (templates : TemplatesSeen) (x v : Template) : Type 0 where
  pub dests_are : dests ≡ with_rows d.dests (map (hold_one (newly_named x.server v.server)) d.dests.rows)
  pub templates_are : templates.rows ≡ put v d.templates.rows

put_retabled : (whole : State) (d : Desk) (dests : DestsSeen) (templates : TemplatesSeen) (x v : Template) → IsSound whole d → Gives d x → IsTemplateUpdate x v → PutDesk d dests templates x v
    → Retabled (state_of whole d) d dests templates (state_of whole d).dests (put_template v (state_of whole d).templates)
put_retabled whole d dests templates x v sound gives names made =
    let s = state_of whole d in
    let found = found_by_id s.templates x v sound.few.templates_apart gives names.id in
    record {
      servers = made.dests_are ∙ ap (with_rows d.dests) (ap (map (hold_one (newly_named x.server v.server))) sound.totals.servers
          ∙ held_rows s.entries s.templates (put_template v s.templates) (newly_named x.server v.server) s.dests (put_names s.templates x v x.server found refl names.server));
      controls = made.templates_are ∙ ap (put v) sound.totals.controls ∙ put_rows s.entries s.templates x v sound.few.templates_apart gives names.id names.key;
    }

pub put_template_state : (whole : State) (d : Desk) (dests : DestsSeen) (templates : TemplatesSeen) (x v : Template) → IsSound whole d → Gives d x → IsTemplateUpdate x v → PutDesk d dests templates x v
    → state_of whole (retabled dests templates d.next_template d) ≡ record (state_of whole d) { templates = put_template v (state_of whole d).templates }
put_template_state whole d dests templates x v sound gives names made =
    let s = state_of whole d in
    retabled_state whole d dests templates d.next_template s.dests (put_template v s.templates) (put_retabled whole d dests templates x v sound gives names made)

pub put_template_sound : (whole : State) (d : Desk) (dests : DestsSeen) (templates : TemplatesSeen) (x v : Template) → IsSound whole d → Gives d x → IsTemplateUpdate x v → PutDesk d dests templates x v
    → IsSound whole (retabled dests templates d.next_template d)
put_template_sound whole d dests templates x v sound gives names made =
    let s = state_of whole d in
    retabled_sound whole d dests templates d.next_template s.dests (put_template v s.templates) sound (omega arith) (put_retabled whole d dests templates x v sound gives names made)
    (put_few s x v sound.few (found_by_id s.templates x v sound.few.templates_apart gives names.id) names.id)

at_true : {X : Type 0} (b : Bool) (z : X) (o : Option X) → b ≡ true → cond b (Some z) o ≡ Some z
at_true true z o is = refl
at_true false z o is = absurd cc

at_false : {X : Type 0} (b : Bool) (z v : X) (o : Option X) → b ≡ false → o ≡ Some v → cond b (Some z) o ≡ Some v
at_false true z v o is later = absurd cc
at_false false z v o is later = later

not_both : (b : Bool) → b ≡ true → b ≡ false → ⊥
not_both true is also = cc
not_both false is also = cc

found_step : {X : Type 0} (p q : X → Bool) (v x z : X) (zs : List X) (a b : Bool) → p z ≡ a → q z ≡ b → p v ≡ true → q x ≡ true → cond a (Some z) (find p zs) ≡ Some x → cond b (Some z) (find q zs) ≡ Some x
    → (find p zs ≡ Some x → find q zs ≡ Some x → find p (update_first q (λ _. v) zs) ≡ Some v) → find p (cond b (v ∷ zs) (z ∷ update_first q (λ _. v) zs)) ≡ Some v
found_step p q v x z zs a true pz qz passes qx here there later = at_true (p v) v (find p zs) passes
found_step p q v x z zs true false pz qz passes qx here there later =
    let same : z ≡ x = cc in
    absurd (not_both (q x) qx (ap q (sym same) ∙ qz))
found_step p q v x z zs false false pz qz passes qx here there later = at_false (p z) z v (find p (update_first q (λ _. v) zs)) pz (later here there)

-- the one that two tests find first becomes another, which the first test still finds
found_put : {X : Type 0} (p q : X → Bool) (v x : X) (xs : List X) → p v ≡ true → q x ≡ true → find p xs ≡ Some x → find q xs ≡ Some x → find p (update_first q (λ _. v) xs) ≡ Some v
found_put p q v x [] passes qx found also = absurd cc
found_put p q v x (z ∷ zs) passes qx found also = found_step p q v x z zs (p z) (q z) refl refl passes qx found also (λ later too. found_put p q v x zs passes qx later too)

pub put_template_gives : (whole : State) (d : Desk) (dests : DestsSeen) (templates : TemplatesSeen) (x v : Template) → IsSound whole d → Gives d x → IsTemplateUpdate x v → PutDesk d dests templates x v
    → Gives (retabled dests templates d.next_template d) v
put_template_gives whole d dests templates x v sound gives names made =
    let s = state_of whole d in
    let found = found_by_id s.templates x v sound.few.templates_apart gives names.id in
    subst (λ (ts : List Template). template_at v.key ts ≡ Some v) (sym (ap templates_of (put_retabled whole d dests templates x v sound gives names made).controls ∙ templates_of_rows s.entries (put_template v s.templates)))
    (found_put (has_template_key v.key) (has_template_id v.id) v x s.templates (template_key_same v.key) (find_passes (has_template_id v.id) s.templates x found)
    (subst (λ (k : TemplateKey). template_at k s.templates ≡ Some x) (sym names.key) gives) found)

-- WHAT THE STORE ANSWERS

pub ok_holds : {A B : Type 0} (r : Result A B) (P : Type 0) → IsOk r → OnOk r P → P
ok_holds (Ok x) P ok holds = holds
ok_holds (Err e) P ok holds = absurd cc

is_there : {X : Type 0} (o : Option X) (x : X) → o ≡ Some x → IsSome o
is_there None x is = absurd cc
is_there (Some y) x is = refl

pub known_id : (whole : State) (d : Desk) (x v : Template) → IsSound whole d → Gives d x → IsTemplateUpdate x v → IsSome (template_of_id v.id (templates_of d.templates.rows))
known_id whole d x v sound gives names =
    let s = state_of whole d in
    is_there (template_of_id v.id s.templates) x (found_by_id s.templates x v sound.few.templates_apart gives names.id)
