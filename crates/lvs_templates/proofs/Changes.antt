-- A store after each change is a store, with the rows that the change says.
use Rattle.std.proofs.Common.{◌≡◌, ℕ, Bool, true, false, cond, ◌==◌, refl, sym, ap, ◌∙◌, subst, eq-eqb, eqb-true, List, Option, Some, None, IfSome, IsSomeAnd, IsSome, map}
use Rattle.std.specs.Ordering.{nat_cmp, is_eq}
use Rattle.std.specs.BTreeMap.{is_at, insert_entry}
use Rattle.std.specs.List.{find}
use Rattle.std.specs.List.Sorted.{IsStrictlySortedBy}
use Rattle.std.specs.Map.{values_of, keys_of, remove_entry, set_value}
use Rattle.std.specs.Option.{option_map}
use Rattle.std.proofs.lemmas.Cmp.{nat_cmp_total, eq_by_cmp_equiv}
use Rattle.std.proofs.lemmas.Map.{lookup-set_value, keys-set_value}
use Rattle.lvs_types.specs.declared.addr.TemplateId.{TemplateId}
use Rattle.lvs_types.specs.declared.template.TemplateKey.{TemplateKey}
use Rattle.lvs_types.specs.declared.template.Template.{Template}
use Rattle.lvs_model.specs.Same.{template_id_eq}
use Rattle.lvs_templates.specs.declared.row.TemplateRow.{TemplateRow}
use Rattle.lvs_templates.specs.Rows.{has_key, has_id, insert_row, replace_row, recount}
use Rattle.lvs_model.specs.Lists.{without}
use Rattle.lvs_templates.specs.Maps.{key_same, row_at, id_at, row_put, id_put, IsStore}
use Rattle.lvs_templates.proofs.Keys.{nat_at_is}
use Rattle.lvs_templates.proofs.Lists.{map-values, map-missed, keys-map, lookup-map}
use Rattle.lvs_templates.proofs.Tied.{tied_same, tied_insert, tied_over, tied_leave, tied_each, id_here}
use Rattle.lvs_templates.proofs.Store.{once_in_order, agree_id, find_id, find_key, is_free, leads_nowhere, leads_to, rows_insert, rows_replace}

pub store_same : (es es' : List (ℕ × TemplateRow)) (ids ids' : List (TemplateKey × ℕ)) → IsStore es ids → es' ≡ es → ((q : TemplateKey) → id_at ids' q ≡ id_at ids q) → IsStore es' ids'
store_same es es' ids ids' store same same_ids = record {
  ordered = subst (λ (xs : List (ℕ × TemplateRow)). IsStrictlySortedBy nat_cmp (keys_of xs)) (sym same) store.ordered;
  tied = tied_same (row_at es) (row_at es') (id_at ids) (id_at ids') (λ q. ap (λ (xs : List (ℕ × TemplateRow)). row_at xs q) same) same_ids store.tied;
}

-- ---- a new row

not_some : (o : Option ℕ) (n : ℕ) → o ≡ None → o ≡ Some n → ⊥
not_some None n none some = cc
not_some (Some m) n none some = cc

pub new_id : (row : TemplateRow) (es : List (ℕ × TemplateRow)) (ids : List (TemplateKey × ℕ)) → IsStore es ids → IfSome (find (has_id row.template.id) (values_of es)) (λ other. other.template.key ≡ row.template.key) → find (has_key row.template.key) (values_of es) ≡ None → row_at es row.template.id.0 ≡ None
new_id row es ids store free none =
    is_free row es ids store free (λ led. not_some (id_at ids row.template.key) row.template.id.0 (leads_nowhere row.template.key es ids store none) led)

pub store_insert : (row : TemplateRow) (es es' : List (ℕ × TemplateRow)) (ids ids' : List (TemplateKey × ℕ)) → IsStore es ids → IfSome (find (has_id row.template.id) (values_of es)) (λ other. other.template.key ≡ row.template.key) → find (has_key row.template.key) (values_of es) ≡ None
    → IsStrictlySortedBy nat_cmp (keys_of es') → ((q : ℕ) → row_at es' q ≡ row_put (row_at es) row.template.id.0 (Some row) q) → ((q : TemplateKey) → id_at ids' q ≡ id_put (id_at ids) row.template.key (Some row.template.id.0) q)
    → IsStore es' ids'
store_insert row es es' ids ids' store free none sorted' rows' keys' = record {
  ordered = sorted';
  tied = tied_same (row_put (row_at es) row.template.id.0 (Some row)) (row_at es') (id_put (id_at ids) row.template.key (Some row.template.id.0)) (id_at ids') rows' keys'
      (tied_insert (row_at es) (id_at ids) store.tied row (new_id row es ids store free none) (leads_nowhere row.template.key es ids store none));
}

pub rows_inserted : (row : TemplateRow) (es es' : List (ℕ × TemplateRow)) (ids : List (TemplateKey × ℕ)) → IsStore es ids → IfSome (find (has_id row.template.id) (values_of es)) (λ other. other.template.key ≡ row.template.key) → find (has_key row.template.key) (values_of es) ≡ None
    → es' ≡ insert_entry nat_cmp es row.template.id.0 row → values_of es' ≡ insert_row row (values_of es)
rows_inserted row es es' ids store free none is = ap values_of is ∙ rows_insert row es ids store (new_id row es ids store free none)

-- ---- a row with a new id in the place of one

there_is : (o : Option TemplateRow) (P : TemplateRow → Type 0) → IsSomeAnd o P → (x : TemplateRow) × (o ≡ Some x) × P x
there_is None P there = absurd there
there_is (Some x) P there = (x, refl, there)

pub led_by : (key : TemplateKey) (old : TemplateId) (es : List (ℕ × TemplateRow)) (ids : List (TemplateKey × ℕ)) → IsStore es ids → IsSomeAnd (find (has_key key) (values_of es)) (λ other. other.template.id ≡ old) → id_at ids key ≡ Some old.0
led_by key old es ids store there =
    let its = there_is (find (has_key key) (values_of es)) (λ other. other.template.id ≡ old) there in
    leads_to key its.0 es ids store its.1 ∙ ap (λ (i : TemplateId). Some i.0) its.2

own : (a : ℕ) → (a == a) ≡ true
own a = eq-eqb a a refl

number_apart : (a b : ℕ) → (a == b) ≡ false → a ≡ b → ⊥
number_apart a b e same = let tie : (a == b) ≡ true = subst (λ (n : ℕ). (a == n) ≡ true) same (own a) in absurd (cc)

some_number : (a b : ℕ) → Some a ≡ Some b → a ≡ b
some_number a b e = cc

pub moved_id : (row : TemplateRow) (old : TemplateId) (es : List (ℕ × TemplateRow)) (ids : List (TemplateKey × ℕ)) → IsStore es ids → IsSomeAnd (find (has_key row.template.key) (values_of es)) (λ other. other.template.id ≡ old)
    → IfSome (find (has_id row.template.id) (values_of es)) (λ other. other.template.key ≡ row.template.key) → template_id_eq row.template.id old ≡ false → row_at es row.template.id.0 ≡ None
moved_id row old es ids store there free differ =
    is_free row es ids store free (λ led. number_apart row.template.id.0 old.0 differ (some_number row.template.id.0 old.0 (sym led ∙ led_by row.template.key old es ids store there)))

swap : {X : Type 0} (a b : Bool) (x : X) (o : Option X) → (a ≡ true → b ≡ true → ⊥) → cond a None (cond b (Some x) o) ≡ cond b (Some x) (cond a None o)
swap true true x o apart = absurd (apart refl refl)
swap true false x o apart = refl
swap false b x o apart = refl

twice : (b : Bool) (n : ℕ) (o : Option ℕ) → cond b (Some n) o ≡ cond b (Some n) (cond b None o)
twice true n o = refl
twice false n o = refl

none_at : {X : Type 0} (b : Bool) (o : Option X) → o ≡ None → cond b None o ≡ None
none_at true o none = refl
none_at false o none = none

pub store_replace : (row : TemplateRow) (old : TemplateId) (es es' es2 : List (ℕ × TemplateRow)) (ids ids' : List (TemplateKey × ℕ)) → IsStore es ids → IsSomeAnd (find (has_key row.template.key) (values_of es)) (λ other. other.template.id ≡ old)
    → IfSome (find (has_id row.template.id) (values_of es)) (λ other. other.template.key ≡ row.template.key) → template_id_eq row.template.id old ≡ false
    → ((q : ℕ) → row_at es' q ≡ row_put (row_at es) row.template.id.0 (Some row) q) → ((q : TemplateKey) → id_at ids' q ≡ id_put (id_at ids) row.template.key (Some row.template.id.0) q)
    → IsStrictlySortedBy nat_cmp (keys_of es2) → ((q : ℕ) → row_at es2 q ≡ row_put (row_at es') old.0 None q)
    → IsStore es2 ids'
store_replace row old es es' es2 ids ids' store there free differ rows' keys' sorted2 rows2 =
    let id = row.template.id.0 in
    let key = row.template.key in
    let led = led_by key old es ids store there in
    let new = moved_id row old es ids store there free differ in
    let without_rows : ℕ → Option TemplateRow = row_put (row_at es) old.0 None in
    let without_ids : TemplateKey → Option ℕ = id_put (id_at ids) key None in
    record {
      ordered = sorted2;
      tied = tied_same (row_put without_rows id (Some row)) (row_at es2) (id_put without_ids key (Some id)) (id_at ids')
          (λ q. rows2 q ∙ ap (cond (is_eq (nat_cmp old.0 q)) None) (rows' q)
          ∙ swap (is_eq (nat_cmp old.0 q)) (is_eq (nat_cmp id q)) row (row_at es q)
          (λ tie other. number_apart id old.0 differ (nat_at_is id q other ∙ sym (nat_at_is old.0 q tie))))
          (λ q. keys' q ∙ twice (key_same key q) id (id_at ids q))
          (tied_insert without_rows without_ids (tied_leave (row_at es) (id_at ids) store.tied key old.0 led) row (none_at (is_eq (nat_cmp old.0 id)) (row_at es id) new) (id_here (id_at ids) key None));
    }

put_ids : (row : TemplateRow) (es : List (ℕ × TemplateRow)) (ids : List (TemplateKey × ℕ)) → IsStore es ids → (id : ℕ) (r : TemplateRow) (b : Bool) → is_eq (nat_cmp row.template.id.0 id) ≡ b → cond b (Some row) (row_at es id) ≡ Some r → r.template.id.0 ≡ id
put_ids row es ids store id r true tie e =
    let same : row ≡ r = cc in
    subst (λ (x : TemplateRow). x.template.id.0 ≡ id) same (nat_at_is row.template.id.0 id tie)
put_ids row es ids store id r false tie e = store.tied.ids id r e

pub rows_replaced : (row : TemplateRow) (old : TemplateId) (es es' es2 : List (ℕ × TemplateRow)) (ids : List (TemplateKey × ℕ)) → IsStore es ids → IsSomeAnd (find (has_key row.template.key) (values_of es)) (λ other. other.template.id ≡ old)
    → IfSome (find (has_id row.template.id) (values_of es)) (λ other. other.template.key ≡ row.template.key) → template_id_eq row.template.id old ≡ false
    → es' ≡ insert_entry nat_cmp es row.template.id.0 row → IsStrictlySortedBy nat_cmp (keys_of es') → ((q : ℕ) → row_at es' q ≡ row_put (row_at es) row.template.id.0 (Some row) q)
    → es2 ≡ remove_entry (is_at (nat_cmp old.0)) es' → values_of es2 ≡ insert_row row (without (has_key row.template.key) (values_of es))
rows_replaced row old es es' es2 ids store there free differ is' sorted' rows' is2 =
    let new = moved_id row old es ids store there free differ in
    ap values_of is2 ∙ rows_replace row old es es' ids store (led_by row.template.key old es ids store there) new differ is' sorted'
    (λ id r e. put_ids row es ids store id r (is_eq (nat_cmp row.template.id.0 id)) refl (sym (rows' id) ∙ e))

-- ---- a row in the place of one of the same id and key

some_by : (o : Option TemplateRow) (x : TemplateRow) → o ≡ Some x → IsSome o
some_by None x e = absurd (cc)
some_by (Some y) x e = refl

over_at : (es : List (ℕ × TemplateRow)) (row old : TemplateRow) (q : ℕ) → row_at es row.template.id.0 ≡ Some old → row_at (set_value (is_at (nat_cmp row.template.id.0)) es row) q ≡ row_put (row_at es) row.template.id.0 (Some row) q
over_at es row old q was =
    lookup-set_value (eq_by_cmp_equiv nat_cmp_total) (is_at (nat_cmp row.template.id.0))
    (λ x y tie. ap (λ n. is_eq (nat_cmp n y)) (nat_at_is row.template.id.0 x tie)) q row es (some_by (row_at es row.template.id.0) old was)

over_was : (row : TemplateRow) (es : List (ℕ × TemplateRow)) (ids : List (TemplateKey × ℕ)) → IsStore es ids → IsSomeAnd (find (has_id row.template.id) (values_of es)) (λ other. other.template.key ≡ row.template.key) → (old : TemplateRow) × (row_at es row.template.id.0 ≡ Some old) × (old.template.key ≡ row.template.key)
over_was row es ids store there =
    there_is (row_at es row.template.id.0) (λ other. other.template.key ≡ row.template.key)
    (subst (λ (o : Option TemplateRow). IsSomeAnd o (λ other. other.template.key ≡ row.template.key)) (sym (find_id row.template.id es ids store)) there)

pub store_over : (row : TemplateRow) (es es' : List (ℕ × TemplateRow)) (ids : List (TemplateKey × ℕ)) → IsStore es ids → IsSomeAnd (find (has_id row.template.id) (values_of es)) (λ other. other.template.key ≡ row.template.key)
    → es' ≡ set_value (is_at (nat_cmp row.template.id.0)) es row → IsStore es' ids
store_over row es es' ids store there is =
    let was = over_was row es ids store there in
    record {
      ordered = subst (λ (ks : List ℕ). IsStrictlySortedBy nat_cmp ks) (sym (ap keys_of is ∙ keys-set_value (is_at (nat_cmp row.template.id.0)) es row)) store.ordered;
      tied = tied_same (row_put (row_at es) row.template.id.0 (Some row)) (row_at es') (id_at ids) (id_at ids)
          (λ q. ap (λ (xs : List (ℕ × TemplateRow)). row_at xs q) is ∙ over_at es row was.0 q was.1) (λ q. refl)
          (tied_over (row_at es) (id_at ids) store.tied was.0 row was.1 was.2);
    }

pub rows_over : (row : TemplateRow) (es es' : List (ℕ × TemplateRow)) (ids : List (TemplateKey × ℕ)) → IsStore es ids → IsSomeAnd (find (has_id row.template.id) (values_of es)) (λ other. other.template.key ≡ row.template.key)
    → es' ≡ set_value (is_at (nat_cmp row.template.id.0)) es row → values_of es' ≡ replace_row row (values_of es)
rows_over row es es' ids store there is =
    let was = over_was row es ids store there in
    ap values_of is ∙ sym (map-values (has_id row.template.id) (is_at (nat_cmp row.template.id.0)) (λ _. row) was.0 es (agree_id row.template.id es ids store) (once_in_order row.template.id.0 (keys_of es) store.ordered) was.1)

-- ---- a count that changes

pub rows_recount : (change : ℕ → ℕ) (id : TemplateId) (row : TemplateRow) (es es' : List (ℕ × TemplateRow)) (ids : List (TemplateKey × ℕ)) → IsStore es ids → row_at es id.0 ≡ Some row
    → es' ≡ set_value (is_at (nat_cmp id.0)) es (record row { controls = change row.controls }) → values_of es' ≡ recount change id (values_of es)
rows_recount change id row es es' ids store was is =
    ap values_of is ∙ sym (map-values (has_id id) (is_at (nat_cmp id.0)) (λ (r : TemplateRow). record r { controls = change r.controls }) row es (agree_id id es ids store) (once_in_order id.0 (keys_of es) store.ordered) was)

pub rows_uncounted : (change : ℕ → ℕ) (id : TemplateId) (es : List (ℕ × TemplateRow)) (ids : List (TemplateKey × ℕ)) → IsStore es ids → row_at es id.0 ≡ None → values_of es ≡ recount change id (values_of es)
rows_uncounted change id es ids store none =
    sym (map-missed (has_id id) (is_at (nat_cmp id.0)) (λ (r : TemplateRow). record r { controls = change r.controls }) es (agree_id id es ids store) none)

-- ---- without a row

pub store_leave : (key : TemplateKey) (id : ℕ) (es es' : List (ℕ × TemplateRow)) (ids ids' : List (TemplateKey × ℕ)) → IsStore es ids → id_at ids key ≡ Some id
    → IsStrictlySortedBy nat_cmp (keys_of es') → ((q : ℕ) → row_at es' q ≡ row_put (row_at es) id None q) → ((q : TemplateKey) → id_at ids' q ≡ id_put (id_at ids) key None q) → IsStore es' ids'
store_leave key id es es' ids ids' store led sorted' rows' keys' = record {
  ordered = sorted';
  tied = tied_same (row_put (row_at es) id None) (row_at es') (id_put (id_at ids) key None) (id_at ids') rows' keys' (tied_leave (row_at es) (id_at ids) store.tied key id led);
}

-- ---- a change of each row

pub store_each : (h : TemplateRow → TemplateRow) (es es' : List (ℕ × TemplateRow)) (ids : List (TemplateKey × ℕ)) → ((r : TemplateRow) → (h r).template.id ≡ r.template.id) → ((r : TemplateRow) → (h r).template.key ≡ r.template.key) → IsStore es ids
    → es' ≡ map (λ e. (e.0, h e.1)) es → IsStore es' ids
store_each h es es' ids keeps_id keeps_key store is = record {
  ordered = subst (λ (ks : List ℕ). IsStrictlySortedBy nat_cmp ks) (sym (ap keys_of is ∙ keys-map h es)) store.ordered;
  tied = tied_same (λ id. option_map h (row_at es id)) (row_at es') (id_at ids) (id_at ids)
      (λ q. ap (λ (xs : List (ℕ × TemplateRow)). row_at xs q) is ∙ lookup-map h (is_at (nat_cmp q)) es) (λ q. refl)
      (tied_each (row_at es) (id_at ids) store.tied h keeps_id keeps_key);
}

-- what holds of the row of an id, where there is one, holds of the one under it
pub holds_at : (P : TemplateRow → Type 0) (id : TemplateId) (row : TemplateRow) (es : List (ℕ × TemplateRow)) (ids : List (TemplateKey × ℕ)) → IsStore es ids → row_at es id.0 ≡ Some row → IfSome (find (has_id id) (values_of es)) P → P row
holds_at P id row es ids store was holds = subst (λ (o : Option TemplateRow). IfSome o P) (sym (find_id id es ids store) ∙ was) holds

pub rows_missed : (row : TemplateRow) (es : List (ℕ × TemplateRow)) (ids : List (TemplateKey × ℕ)) → IsStore es ids → row_at es row.template.id.0 ≡ None → values_of es ≡ replace_row row (values_of es)
rows_missed row es ids store none =
    sym (map-missed (has_id row.template.id) (is_at (nat_cmp row.template.id.0)) (λ _. row) es (agree_id row.template.id es ids store) none)

-- the row of a key is found by its id
pub also_there : (id : TemplateId) (key : TemplateKey) (row : TemplateRow) (es : List (ℕ × TemplateRow)) (ids : List (TemplateKey × ℕ)) → IsStore es ids → find (has_key key) (values_of es) ≡ Some row → (id.0 == row.template.id.0) ≡ true → IsSomeAnd (find (has_id id) (values_of es)) (λ other. other.template.key ≡ key)
also_there id key row es ids store there tie =
    let its = store.tied.keys key row.template.id.0 (leads_to key row es ids store there) in
    let same : row.template.id.0 ≡ id.0 = sym (eqb-true id.0 row.template.id.0 tie) in
    let under : row_at es id.0 ≡ Some its.0 = subst (λ (n : ℕ). row_at es n ≡ Some its.0) same its.1 in
    subst (λ (o : Option TemplateRow). IsSomeAnd o (λ other. other.template.key ≡ key)) (sym under ∙ find_id id es ids store) its.2

-- the row of an id that no row of another key has is found by its key too
pub known_id : (id : TemplateId) (key : TemplateKey) (es : List (ℕ × TemplateRow)) (ids : List (TemplateKey × ℕ)) → IsStore es ids → (o : Option TemplateRow) → row_at es id.0 ≡ o → IfSome o (λ row. row.template.key ≡ key) → IsSome o → (row : TemplateRow) × (find (has_key key) (values_of es) ≡ Some row) × (row.template.id.0 ≡ id.0)
known_id id key es ids store None is free some = absurd (cc)
known_id id key es ids store (Some row) is free some =
    let led : id_at ids key ≡ Some id.0 = subst (λ (k : TemplateKey). id_at ids k ≡ Some id.0) free (store.tied.rows id.0 row is) in
    (row, sym (find_key key id.0 es ids store led) ∙ is, store.tied.ids id.0 row is)

-- a row of the same template in the place of one
pub store_same_template : (n : ℕ) (row row' : TemplateRow) (es es' : List (ℕ × TemplateRow)) (ids : List (TemplateKey × ℕ)) → IsStore es ids → row_at es n ≡ Some row → row'.template ≡ row.template → es' ≡ set_value (is_at (nat_cmp n)) es row' → IsStore es' ids
store_same_template n row row' es es' ids store was same is =
    let own : row.template.id.0 ≡ n = store.tied.ids n row was in
    let own' : row'.template.id.0 ≡ n = ap (λ (t : Template). t.id.0) same ∙ own in
    let under : row_at es row'.template.id.0 ≡ Some row = ap (row_at es) own' ∙ was in
    let there : IsSomeAnd (find (has_id row'.template.id) (values_of es)) (λ other. other.template.key ≡ row'.template.key) =
    subst (λ (o : Option TemplateRow). IsSomeAnd o (λ other. other.template.key ≡ row'.template.key)) (sym under ∙ find_id row'.template.id es ids store) (ap (λ (t : Template). t.key) (sym same)) in
    store_over row' es es' ids store there (is ∙ ap (λ (k : ℕ). set_value (is_at (nat_cmp k)) es row') (sym own'))

-- the id of a row without a key is that of no row
pub new_row_id : (row : TemplateRow) (es : List (ℕ × TemplateRow)) (ids : List (TemplateKey × ℕ)) → IsStore es ids → IfSome (find (has_id row.template.id) (values_of es)) (λ other. other.template.key ≡ row.template.key) → find (has_key row.template.key) (values_of es) ≡ None → find (has_id row.template.id) (values_of es) ≡ None
new_row_id row es ids store free none = sym (find_id row.template.id es ids store) ∙ new_id row es ids store free none

pub moved_row_id : (row : TemplateRow) (old : TemplateId) (es : List (ℕ × TemplateRow)) (ids : List (TemplateKey × ℕ)) → IsStore es ids → IsSomeAnd (find (has_key row.template.key) (values_of es)) (λ other. other.template.id ≡ old)
    → IfSome (find (has_id row.template.id) (values_of es)) (λ other. other.template.key ≡ row.template.key) → template_id_eq row.template.id old ≡ false → find (has_id row.template.id) (values_of es) ≡ None
moved_row_id row old es ids store there free differ = sym (find_id row.template.id es ids store) ∙ moved_id row old es ids store there free differ
