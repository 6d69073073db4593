-- A store's rows, read by id and by key.
use Rattle.std.proofs.Common.{◌≡◌, ℕ, Bool, true, false, not, cond, nat_lt, ◌==◌, refl, sym, ap, ◌∙◌, subst, arith, List, [], ◌∷◌, Option, Some, None, IfSome, map}
use Rattle.std.specs.declared.cmp.Ordering.TheVariants.{Less}
use Rattle.std.specs.Ordering.{nat_cmp, is_eq}
use Rattle.std.specs.BTreeMap.{is_at, insert_entry}
use Rattle.std.specs.List.{find, filter, AllByRecursion}
use Rattle.std.specs.List.Sorted.{IsStrictlySortedBy}
use Rattle.std.specs.Map.{values_of, keys_of, remove_entry}
use Rattle.std.proofs.lemmas.Bool.Decides.{nat_tests}
use Rattle.std.proofs.lemmas.Map.{none_passes_from_lookup}
use Rattle.lvs_types.specs.declared.addr.TemplateId.{TemplateId}
use Rattle.lvs_types.specs.declared.template.TemplateKey.{TemplateKey}
use Rattle.lvs_model.specs.Same.{template_key_eq, template_id_eq}
use Rattle.lvs_templates.specs.declared.row.TemplateRow.{TemplateRow}
use Rattle.lvs_templates.specs.Rows.{has_key, has_id, insert_row}
use Rattle.lvs_model.specs.Lists.{without}
use Rattle.lvs_templates.specs.Maps.{row_at, id_at, IsStore}
use Rattle.lvs_templates.proofs.Keys.{nat_at, nat_at_back, nat_at_is, nat_at_own, key_eq_is, key_eq_own}
use Rattle.lvs_templates.proofs.Lists.{all_weaken, all_join, all_filter, Once, Agree, find-values, filter-values}

-- ---- numbers in order

less_apart : (a b : ℕ) → nat_cmp a b ≡ Less → is_eq (nat_cmp b a) ≡ false
less_apart a b e = grind (arith, nat_tests)

less_apart_back : (a b : ℕ) → nat_cmp a b ≡ Less → is_eq (nat_cmp a b) ≡ false
less_apart_back a b e = ap is_eq e

less_trans : (a b c : ℕ) → nat_cmp a b ≡ Less → nat_cmp b c ≡ Less → nat_cmp a c ≡ Less
less_trans a b c e f = grind (arith, nat_tests)

less_from_test : (a b : ℕ) → nat_lt a b ≡ true → nat_cmp a b ≡ Less
less_from_test a b e = grind (arith, nat_tests)

-- an id is at most once among ids in order
pub once_in_order : (id : ℕ) (ids : List ℕ) → IsStrictlySortedBy nat_cmp ids → Once (is_at (nat_cmp id)) ids
unfolding IsStrictlySortedBy
once_in_order id [] sorted = tt
once_in_order id (i ∷ ids) sorted = (
  λ tie. let same = nat_at_is id i tie in
      all_weaken (λ j. nat_cmp i j ≡ Less) (λ j. is_eq (nat_cmp id j) ≡ false)
      (λ j less. subst (λ (k : ℕ). is_eq (nat_cmp k j) ≡ false) (sym same) (less_apart_back i j less)) ids sorted.0,
  once_in_order id ids sorted.1,
)

-- each row is found under its number
pub each_found : (es : List (ℕ × TemplateRow)) → IsStrictlySortedBy nat_cmp (keys_of es) → AllByRecursion (λ (e : ℕ × TemplateRow). row_at es e.0 ≡ Some e.1) es
unfolding IsStrictlySortedBy
each_found [] sorted = tt
each_found (e ∷ es) sorted = (
  rw (nat_at_own e.0) refl,
  all_join (λ (o : ℕ × TemplateRow). row_at es o.0 ≡ Some o.1) (λ q. nat_cmp e.0 q ≡ Less) (λ (o : ℕ × TemplateRow). row_at (e ∷ es) o.0 ≡ Some o.1)
      (λ o found less. ap (λ b. cond b (Some e.1) (row_at es o.0)) (less_apart e.0 o.0 less) ∙ found) es (each_found es sorted.1) sorted.0,
)

-- ---- tests of rows that agree with tests of ids

same_tests : (a b : Bool) → (a ≡ true → b ≡ true) → (b ≡ true → a ≡ true) → a ≡ b
same_tests true b f g = sym (f refl)
same_tests false true f g = g refl
same_tests false false f g = refl

pub agree_id : (id : TemplateId) (es : List (ℕ × TemplateRow)) (ids : List (TemplateKey × ℕ)) → IsStore es ids → Agree (has_id id) (is_at (nat_cmp id.0)) es
agree_id id es ids store =
    all_weaken (λ (e : ℕ × TemplateRow). row_at es e.0 ≡ Some e.1) (λ (e : ℕ × TemplateRow). has_id id e.1 ≡ is_at (nat_cmp id.0) e.0)
    (λ e found. ap (λ n. n == id.0) (store.tied.ids e.0 e.1 found) ∙ sym (nat_at_back id.0 e.0)) es (each_found es store.ordered)

pub agree_key : (key : TemplateKey) (id : ℕ) (es : List (ℕ × TemplateRow)) (ids : List (TemplateKey × ℕ)) → IsStore es ids → id_at ids key ≡ Some id → Agree (has_key key) (is_at (nat_cmp id)) es
agree_key key id es ids store led =
    all_weaken (λ (e : ℕ × TemplateRow). row_at es e.0 ≡ Some e.1) (λ (e : ℕ × TemplateRow). has_key key e.1 ≡ is_at (nat_cmp id) e.0)
    (λ e found. same_tests (has_key key e.1) (is_at (nat_cmp id) e.0)
    (λ tie. let same = sym (key_eq_is e.1.template.key key tie) in
    let mine = store.tied.rows e.0 e.1 found in
    let its : id_at ids e.1.template.key ≡ Some id = subst (λ (k : TemplateKey). id_at ids k ≡ Some id) same led in
    let place : id ≡ e.0 = cc in
    subst (λ (n : ℕ). is_eq (nat_cmp id n) ≡ true) place (nat_at_own id))
    (λ tie. let place = nat_at_is id e.0 tie in
    let its = store.tied.keys key id led in
    let there : row_at es e.0 ≡ Some its.0 = subst (λ (n : ℕ). row_at es n ≡ Some its.0) place its.1 in
    let same : its.0 ≡ e.1 = cc in
    let keys : key ≡ e.1.template.key = sym its.2 ∙ ap (λ (x : TemplateRow). x.template.key) same in
    subst (λ (k : TemplateKey). template_key_eq k key ≡ true) keys (key_eq_own key)))
    es (each_found es store.ordered)

-- ---- look-ups

pub find_id : (id : TemplateId) (es : List (ℕ × TemplateRow)) (ids : List (TemplateKey × ℕ)) → IsStore es ids → row_at es id.0 ≡ find (has_id id) (values_of es)
find_id id es ids store = sym (find-values (has_id id) (is_at (nat_cmp id.0)) es (agree_id id es ids store))

pub find_key : (key : TemplateKey) (id : ℕ) (es : List (ℕ × TemplateRow)) (ids : List (TemplateKey × ℕ)) → IsStore es ids → id_at ids key ≡ Some id → row_at es id ≡ find (has_key key) (values_of es)
find_key key id es ids store led = sym (find-values (has_key key) (is_at (nat_cmp id)) es (agree_key key id es ids store led))

-- no row has a key that leads nowhere
none_found : (key : TemplateKey) (es : List (ℕ × TemplateRow)) → AllByRecursion (λ (e : ℕ × TemplateRow). has_key key e.1 ≡ false) es → find (has_key key) (values_of es) ≡ None
none_found key [] none = refl
none_found key (e ∷ es) none = rw none.0 (none_found key es none.1)

missed_key : (key : TemplateKey) (ids : List (TemplateKey × ℕ)) (row : TemplateRow) (id : ℕ) (b : Bool) → b ≡ has_key key row → id_at ids key ≡ None → id_at ids row.template.key ≡ Some id → b ≡ false
missed_key key ids row id false tie nowhere led = refl
missed_key key ids row id true tie nowhere led =
    let same = sym (key_eq_is row.template.key key (sym tie)) in
    let none : id_at ids row.template.key ≡ None = subst (λ (k : TemplateKey). id_at ids k ≡ None) same nowhere in
    absurd (cc)

pub no_key : (key : TemplateKey) (es : List (ℕ × TemplateRow)) (ids : List (TemplateKey × ℕ)) → IsStore es ids → id_at ids key ≡ None → None ≡ find (has_key key) (values_of es)
no_key key es ids store nowhere =
    sym (none_found key es (all_weaken (λ (e : ℕ × TemplateRow). row_at es e.0 ≡ Some e.1) (λ (e : ℕ × TemplateRow). has_key key e.1 ≡ false)
    (λ e found. missed_key key ids e.1 e.0 (has_key key e.1) refl nowhere (store.tied.rows e.0 e.1 found)) es (each_found es store.ordered)))

-- the tests of a key that leads nowhere, at each row
pub none_agree : (key : TemplateKey) (es : List (ℕ × TemplateRow)) (ids : List (TemplateKey × ℕ)) → IsStore es ids → id_at ids key ≡ None → AllByRecursion (λ (e : ℕ × TemplateRow). has_key key e.1 ≡ false) es
none_agree key es ids store nowhere =
    all_weaken (λ (e : ℕ × TemplateRow). row_at es e.0 ≡ Some e.1) (λ (e : ℕ × TemplateRow). has_key key e.1 ≡ false)
    (λ e found. missed_key key ids e.1 e.0 (has_key key e.1) refl nowhere (store.tied.rows e.0 e.1 found)) es (each_found es store.ordered)

kept_whole : (key : TemplateKey) (es : List (ℕ × TemplateRow)) → AllByRecursion (λ (e : ℕ × TemplateRow). has_key key e.1 ≡ false) es → values_of es ≡ without (has_key key) (values_of es)
kept_whole key [] none = refl
kept_whole key (e ∷ es) none = rw none.0 (ap (λ rows. e.1 ∷ rows) (kept_whole key es none.1))

-- taking out a key that leads nowhere changes nothing
pub without_none : (key : TemplateKey) (es : List (ℕ × TemplateRow)) (ids : List (TemplateKey × ℕ)) → IsStore es ids → id_at ids key ≡ None → values_of es ≡ without (has_key key) (values_of es)
without_none key es ids store nowhere = kept_whole key es (none_agree key es ids store nowhere)

-- taking out a key takes out the row under its id
pub without_one : (key : TemplateKey) (id : ℕ) (es : List (ℕ × TemplateRow)) (ids : List (TemplateKey × ℕ)) → IsStore es ids → id_at ids key ≡ Some id → without (has_key key) (values_of es) ≡ values_of (remove_entry (is_at (nat_cmp id)) es)
without_one key id es ids store led = filter-values (has_key key) (is_at (nat_cmp id)) es (agree_key key id es ids store led) (once_in_order id (keys_of es) store.ordered)

-- ---- what is led to

-- a key whose rows are none leads nowhere
nowhere_by : (key : TemplateKey) (es : List (ℕ × TemplateRow)) (ids : List (TemplateKey × ℕ)) → IsStore es ids → find (has_key key) (values_of es) ≡ None → (o : Option ℕ) → id_at ids key ≡ o → o ≡ None
nowhere_by key es ids store none None e = refl
nowhere_by key es ids store none (Some id) e =
    let its = store.tied.keys key id e in
    let found = its.1 in
    let same = find_key key id es ids store e in
    absurd (cc)

pub leads_nowhere : (key : TemplateKey) (es : List (ℕ × TemplateRow)) (ids : List (TemplateKey × ℕ)) → IsStore es ids → find (has_key key) (values_of es) ≡ None → id_at ids key ≡ None
leads_nowhere key es ids store none = nowhere_by key es ids store none (id_at ids key) refl

leads_by : (key : TemplateKey) (row : TemplateRow) (es : List (ℕ × TemplateRow)) (ids : List (TemplateKey × ℕ)) → IsStore es ids → find (has_key key) (values_of es) ≡ Some row → (o : Option ℕ) → id_at ids key ≡ o → o ≡ Some row.template.id.0
leads_by key row es ids store there None e =
    let none = no_key key es ids store e in absurd (cc)
leads_by key row es ids store there (Some id) e =
    let its = store.tied.keys key id e in
    let found = its.1 in
    let same = find_key key id es ids store e in
    let row_is : its.0 ≡ row = cc in
    let place = store.tied.ids id its.0 its.1 in
    ap (λ n. Some n) (sym place ∙ ap (λ (x : TemplateRow). x.template.id.0) row_is)

-- a key that a row has leads to its id
pub leads_to : (key : TemplateKey) (row : TemplateRow) (es : List (ℕ × TemplateRow)) (ids : List (TemplateKey × ℕ)) → IsStore es ids → find (has_key key) (values_of es) ≡ Some row → id_at ids key ≡ Some row.template.id.0
leads_to key row es ids store there = leads_by key row es ids store there (id_at ids key) refl

-- the id of a row whose key leads elsewhere or nowhere is new, where no row of another key has it
free_by : (row : TemplateRow) (es : List (ℕ × TemplateRow)) (ids : List (TemplateKey × ℕ)) → IsStore es ids → IfSome (row_at es row.template.id.0) (λ other. other.template.key ≡ row.template.key) → (id_at ids row.template.key ≡ Some row.template.id.0 → ⊥) → (o : Option TemplateRow) → row_at es row.template.id.0 ≡ o → o ≡ None
free_by row es ids store free apart None e = refl
free_by row es ids store free apart (Some other) e =
    let same : other.template.key ≡ row.template.key = subst (λ (o : Option TemplateRow). IfSome o (λ x. x.template.key ≡ row.template.key)) e free in
    let led = store.tied.rows row.template.id.0 other e in
    absurd (apart (subst (λ (k : TemplateKey). id_at ids k ≡ Some row.template.id.0) same led))

pub is_free : (row : TemplateRow) (es : List (ℕ × TemplateRow)) (ids : List (TemplateKey × ℕ)) → IsStore es ids → IfSome (find (has_id row.template.id) (values_of es)) (λ other. other.template.key ≡ row.template.key) → (id_at ids row.template.key ≡ Some row.template.id.0 → ⊥) → row_at es row.template.id.0 ≡ None
is_free row es ids store free apart =
    free_by row es ids store (subst (λ (o : Option TemplateRow). IfSome o (λ x. x.template.key ≡ row.template.key)) (sym (find_id row.template.id es ids store)) free) apart (row_at es row.template.id.0) refl

-- ---- a new row at its place

insert_by : (row other : TemplateRow) (n : ℕ) (es : List (ℕ × TemplateRow)) (less tie : Bool) → nat_lt row.template.id.0 n ≡ less → (row.template.id.0 == n) ≡ tie → nat_lt row.template.id.0 other.template.id.0 ≡ less → tie ≡ false → values_of (insert_entry nat_cmp es row.template.id.0 row) ≡ insert_row row (values_of es) → values_of (insert_entry nat_cmp ((n, other) ∷ es) row.template.id.0 row) ≡ insert_row row (other ∷ values_of es)
insert_by row other n es true tie less_is tie_is other_is apart rest = rw (less_is, other_is) refl
insert_by row other n es false true less_is tie_is other_is apart rest = absurd (cc)
insert_by row other n es false false less_is tie_is other_is apart rest = rw (less_is, tie_is, other_is) (ap (λ rows. other ∷ rows) rest)

pub insert_values : (row : TemplateRow) (es : List (ℕ × TemplateRow)) → AllByRecursion (λ (e : ℕ × TemplateRow). e.1.template.id.0 ≡ e.0) es → AllByRecursion (λ (e : ℕ × TemplateRow). is_at (nat_cmp row.template.id.0) e.0 ≡ false) es → values_of (insert_entry nat_cmp es row.template.id.0 row) ≡ insert_row row (values_of es)
insert_values row [] own apart = refl
insert_values row (e ∷ es) own apart =
    insert_by row e.1 e.0 es (nat_lt row.template.id.0 e.0) (row.template.id.0 == e.0) refl refl (ap (λ n. nat_lt row.template.id.0 n) own.0) (sym (nat_at row.template.id.0 e.0) ∙ apart.0) (insert_values row es own.1 apart.1)

pub own_ids : (es : List (ℕ × TemplateRow)) → IsStrictlySortedBy nat_cmp (keys_of es) → ((id : ℕ) (row : TemplateRow) → row_at es id ≡ Some row → row.template.id.0 ≡ id) → AllByRecursion (λ (e : ℕ × TemplateRow). e.1.template.id.0 ≡ e.0) es
own_ids es sorted ids =
    all_weaken (λ (e : ℕ × TemplateRow). row_at es e.0 ≡ Some e.1) (λ (e : ℕ × TemplateRow). e.1.template.id.0 ≡ e.0) (λ e found. ids e.0 e.1 found) es (each_found es sorted)

pub rows_insert : (row : TemplateRow) (es : List (ℕ × TemplateRow)) (ids : List (TemplateKey × ℕ)) → IsStore es ids → row_at es row.template.id.0 ≡ None → values_of (insert_entry nat_cmp es row.template.id.0 row) ≡ insert_row row (values_of es)
rows_insert row es ids store free = insert_values row es (own_ids es store.ordered store.tied.ids) (none_passes_from_lookup (is_at (nat_cmp row.template.id.0)) es free)

-- ---- rows in order of id

abbrev pub ids_of : List TemplateRow → List ℕ
ids_of rows = map (λ (row : TemplateRow). row.template.id.0) rows

ids_are : (es : List (ℕ × TemplateRow)) → AllByRecursion (λ (e : ℕ × TemplateRow). e.1.template.id.0 ≡ e.0) es → ids_of (values_of es) ≡ keys_of es
ids_are [] own = refl
ids_are (e ∷ es) own = rw (own.0, ids_are es own.1) refl

pub rows_sorted : (es : List (ℕ × TemplateRow)) (ids : List (TemplateKey × ℕ)) → IsStore es ids → IsStrictlySortedBy nat_cmp (ids_of (values_of es))
rows_sorted es ids store = subst (λ (ns : List ℕ). IsStrictlySortedBy nat_cmp ns) (sym (ids_are es (own_ids es store.ordered store.tied.ids))) store.ordered

insert_first : (row : TemplateRow) (rows : List TemplateRow) → AllByRecursion (λ n. nat_lt row.template.id.0 n ≡ true) (ids_of rows) → insert_row row rows ≡ row ∷ rows
insert_first row [] above = refl
insert_first row (other ∷ rows) above = rw above.0 refl

kept_by : (q : TemplateRow → Bool) (other : TemplateRow) (row : TemplateRow) (rows : List TemplateRow) (b : Bool) → nat_lt row.template.id.0 other.template.id.0 ≡ false → cond b (other ∷ insert_row row rows) (insert_row row rows) ≡ insert_row row (cond b (other ∷ rows) rows)
kept_by q other row rows true below = rw below refl
kept_by q other row rows false below = refl

lt_trans : (a b c : ℕ) → nat_lt a b ≡ true → nat_cmp b c ≡ Less → nat_lt a c ≡ true
lt_trans a b c e f = grind (arith, nat_tests)

module _ (q : TemplateRow → Bool) (row : TemplateRow) (keeps : q row ≡ true) where
  filter_by : (other : TemplateRow) (rows : List TemplateRow) (b : Bool) → nat_lt row.template.id.0 other.template.id.0 ≡ b → AllByRecursion (λ n. nat_cmp other.template.id.0 n ≡ Less) (ids_of rows) → filter q (insert_row row rows) ≡ insert_row row (filter q rows) → filter q (insert_row row (other ∷ rows)) ≡ insert_row row (filter q (other ∷ rows))
  filter_by other rows true below above rest =
      let each : AllByRecursion (λ n. nat_lt row.template.id.0 n ≡ true) (ids_of (other ∷ rows)) =
      (below, all_weaken (λ n. nat_cmp other.template.id.0 n ≡ Less) (λ n. nat_lt row.template.id.0 n ≡ true) (λ n less. lt_trans row.template.id.0 other.template.id.0 n below less) (ids_of rows) above) in
      let first : insert_row row (filter q (other ∷ rows)) ≡ row ∷ filter q (other ∷ rows) =
      insert_first row (filter q (other ∷ rows)) (all_filter (λ n. nat_lt row.template.id.0 n ≡ true) (λ (x : TemplateRow). x.template.id.0) q (other ∷ rows) each) in
      ap (filter q) (insert_first row (other ∷ rows) each) ∙ ap (λ b. cond b (row ∷ filter q (other ∷ rows)) (filter q (other ∷ rows))) keeps ∙ sym first
  filter_by other rows false below above rest =
      let step : insert_row row (other ∷ rows) ≡ other ∷ insert_row row rows = rw below refl in
      ap (filter q) step ∙ ap (λ rs. cond (q other) (other ∷ rs) rs) rest ∙ kept_by q other row (filter q rows) (q other) below

  pub filter_insert : (rows : List TemplateRow) → IsStrictlySortedBy nat_cmp (ids_of rows) → filter q (insert_row row rows) ≡ insert_row row (filter q rows)
  unfolding IsStrictlySortedBy
  filter_insert [] sorted = rw keeps refl
  filter_insert (other ∷ rows) sorted = filter_by other rows (nat_lt row.template.id.0 other.template.id.0) refl sorted.0 (filter_insert rows sorted.1)

-- a row with a new id in the place of the one of its key, whose id is old
pub rows_replace : (row : TemplateRow) (old : TemplateId) (es es' : List (ℕ × TemplateRow)) (ids : List (TemplateKey × ℕ)) → IsStore es ids → id_at ids row.template.key ≡ Some old.0 → row_at es row.template.id.0 ≡ None → template_id_eq row.template.id old ≡ false
    → es' ≡ insert_entry nat_cmp es row.template.id.0 row → IsStrictlySortedBy nat_cmp (keys_of es') → ((id : ℕ) (r : TemplateRow) → row_at es' id ≡ Some r → r.template.id.0 ≡ id)
    → values_of (remove_entry (is_at (nat_cmp old.0)) es') ≡ insert_row row (without (has_key row.template.key) (values_of es))
rows_replace row old es es' ids store led free differ es'_is sorted' ids' =
    let own' = own_ids es' sorted' ids' in
    let agree' : Agree (has_id old) (is_at (nat_cmp old.0)) es' =
    all_weaken (λ (e : ℕ × TemplateRow). e.1.template.id.0 ≡ e.0) (λ (e : ℕ × TemplateRow). has_id old e.1 ≡ is_at (nat_cmp old.0) e.0)
    (λ e own. ap (λ n. n == old.0) own ∙ sym (nat_at_back old.0 e.0)) es' own' in
    let taken : filter (λ x. not (has_id old x)) (values_of es') ≡ values_of (remove_entry (is_at (nat_cmp old.0)) es') =
    filter-values (has_id old) (is_at (nat_cmp old.0)) es' agree' (once_in_order old.0 (keys_of es') sorted') in
    let put : values_of es' ≡ insert_row row (values_of es) = ap values_of es'_is ∙ rows_insert row es ids store free in
    let keeps : not (has_id old row) ≡ true = ap not differ in
    let moved : filter (λ x. not (has_id old x)) (insert_row row (values_of es)) ≡ insert_row row (filter (λ x. not (has_id old x)) (values_of es)) =
    filter_insert (λ x. not (has_id old x)) row keeps (values_of es) (rows_sorted es ids store) in
    let same : filter (λ x. not (has_id old x)) (values_of es) ≡ without (has_key row.template.key) (values_of es) =
    filter-values (has_id old) (is_at (nat_cmp old.0)) es (agree_id old es ids store) (once_in_order old.0 (keys_of es) store.ordered)
    ∙ sym (without_one row.template.key old.0 es ids store led) in
    sym taken ∙ ap (filter (λ x. not (has_id old x))) put ∙ moved ∙ ap (insert_row row) same
