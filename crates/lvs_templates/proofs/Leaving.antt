-- What is left once the due ones are taken out by their keys.
use Rattle.std.proofs.Common.{◌≡◌, ℕ, Bool, true, false, not, cond, refl, sym, ap, ◌∙◌, subst, List, [], ◌∷◌, Some, map, nat_eq, arith}
use Rattle.std.specs.declared.cmp.Ordering.TheVariants.{Less}
use Rattle.std.specs.Ordering.{nat_cmp, is_eq}
use Rattle.std.specs.List.{filter, AllByRecursion, IsDistinct}
use Rattle.std.specs.List.Sorted.{IsStrictlySortedBy, IsStrictlyIncreasing}
use Rattle.std.proofs.lemmas.Bool.Decides.{nat_tests}
use Rattle.std.proofs.lemmas.Map.Keys.{IsStrictlyIncreasing-from_sorted}
use Rattle.std.specs.Map.{values_of, keys_of}
use Rattle.lvs_types.specs.declared.template.TemplateKey.{TemplateKey}
use Rattle.lvs_types.specs.declared.template.Template.{Template}
use Rattle.lvs_model.specs.Same.{template_key_eq}
use Rattle.lvs_model.specs.Lists.{without}
use Rattle.lvs_model.specs.Clock.{held_longer}
use Rattle.lvs_model.specs.WellFormed.{template_keys}
use Rattle.lvs_templates.specs.declared.row.TemplateRow.{TemplateRow}
use Rattle.lvs_templates.specs.Rows.{has_key, without_all, templates_of, is_renewed, renew, AreDistinct, IsRising}
use Rattle.lvs_templates.specs.Maps.{row_at, id_at, IsStore}
use Rattle.lvs_templates.proofs.Keys.{nat_at_own, key_eq_is, key_eq_own}
use Rattle.lvs_templates.proofs.Lists.{all_weaken, all_join, all_values, all_filter}
use Rattle.lvs_templates.proofs.Store.{each_found, ids_of, rows_sorted}

-- no later row has the key of an earlier one
abbrev pub DifferInKey : List TemplateRow → Type 0
DifferInKey [] = Unit {0}
DifferInKey (row ∷ rows) = AllByRecursion (λ (other : TemplateRow). template_key_eq row.template.key other.template.key ≡ false) rows × DifferInKey rows

apart_by : (ids : List (TemplateKey × ℕ)) (a b : TemplateRow) (i j : ℕ) (t : Bool) → t ≡ template_key_eq a.template.key b.template.key → id_at ids a.template.key ≡ Some i → id_at ids b.template.key ≡ Some j → nat_cmp i j ≡ Less → t ≡ false
apart_by ids a b i j false tie mine its less = refl
apart_by ids a b i j true tie mine its less =
    let same = key_eq_is a.template.key b.template.key (sym tie) in
    let led : id_at ids b.template.key ≡ Some i = subst (λ (k : TemplateKey). id_at ids k ≡ Some i) same mine in
    let number : i ≡ j = cc in
    let own = subst (λ (n : ℕ). is_eq (nat_cmp i n) ≡ true) number (nat_at_own i) in
    let other = ap is_eq less in
    absurd (cc)

apart_led : (ids : List (TemplateKey × ℕ)) (es : List (ℕ × TemplateRow)) → IsStrictlySortedBy nat_cmp (keys_of es) → AllByRecursion (λ (e : ℕ × TemplateRow). id_at ids e.1.template.key ≡ Some e.0) es → DifferInKey (values_of es)
unfolding IsStrictlySortedBy
apart_led ids [] sorted led = tt
apart_led ids (e ∷ es) sorted led = (
  all_values (λ (other : TemplateRow). template_key_eq e.1.template.key other.template.key ≡ false) es
      (all_join (λ (o : ℕ × TemplateRow). id_at ids o.1.template.key ≡ Some o.0) (λ n. nat_cmp e.0 n ≡ Less) (λ (o : ℕ × TemplateRow). template_key_eq e.1.template.key o.1.template.key ≡ false)
      (λ o its less. apart_by ids e.1 o.1 e.0 o.0 (template_key_eq e.1.template.key o.1.template.key) refl led.0 its less) es led.1 sorted.0),
  apart_led ids es sorted.1 led.1,
)

pub are_apart : (es : List (ℕ × TemplateRow)) (ids : List (TemplateKey × ℕ)) → IsStore es ids → DifferInKey (values_of es)
are_apart es ids store =
    apart_led ids es store.ordered (all_weaken (λ (e : ℕ × TemplateRow). row_at es e.0 ≡ Some e.1) (λ (e : ℕ × TemplateRow). id_at ids e.1.template.key ≡ Some e.0) (λ e found. store.tied.rows e.0 e.1 found) es (each_found es store.ordered))

key_flip : (a b : TemplateKey) (t : Bool) → t ≡ template_key_eq b a → template_key_eq a b ≡ false → t ≡ false
key_flip a b false tie apart = refl
key_flip a b true tie apart =
    let same = key_eq_is b a (sym tie) in
    let own = subst (λ (k : TemplateKey). template_key_eq k b ≡ true) same (key_eq_own b) in
    absurd (cc)

-- a key that no row has
without_other : (key : TemplateKey) (rows : List TemplateRow) → AllByRecursion (λ (other : TemplateRow). template_key_eq key other.template.key ≡ false) rows → without (has_key key) rows ≡ rows
without_other key [] apart = refl
without_other key (row ∷ rows) apart =
    rw (key_flip key row.template.key (template_key_eq row.template.key key) refl apart.0) (ap (λ rs. row ∷ rs) (without_other key rows apart.1))

-- a row whose key is none of those that leave stays
stays_first : (row : TemplateRow) (gone rows : List TemplateRow) → AllByRecursion (λ (other : TemplateRow). template_key_eq row.template.key other.template.key ≡ false) gone → without_all (templates_of gone) (row ∷ rows) ≡ row ∷ without_all (templates_of gone) rows
stays_first row [] rows apart = refl
stays_first row (other ∷ gone) rows apart =
    ap (λ b. without_all (templates_of gone) (cond (not b) (row ∷ without (has_key other.template.key) rows) (without (has_key other.template.key) rows)))
    apart.0
    ∙ stays_first row gone (without (has_key other.template.key) rows) apart.1

kept_here : (P : TemplateRow → Type 0) (row : TemplateRow) (rows : List TemplateRow) (b : Bool) → P row → AllByRecursion P rows → AllByRecursion P (cond b (row ∷ rows) rows)
kept_here P row rows true here all = (here, all)
kept_here P row rows false here all = all

kept_rows : (P : TemplateRow → Type 0) (q : TemplateRow → Bool) (rows : List TemplateRow) → AllByRecursion P rows → AllByRecursion P (filter q rows)
kept_rows P q [] all = tt
kept_rows P q (row ∷ rows) all = kept_here P row (filter q rows) (q row) all.0 (kept_rows P q rows all.1)

module _ (q : TemplateRow → Bool) where
  taken_by : (row : TemplateRow) (rows : List TemplateRow) (b : Bool) → AllByRecursion (λ (other : TemplateRow). template_key_eq row.template.key other.template.key ≡ false) rows → without_all (templates_of (filter q rows)) rows ≡ filter (λ r. not (q r)) rows
      → without_all (templates_of (cond b (row ∷ filter q rows) (filter q rows))) (row ∷ rows) ≡ cond (not b) (row ∷ filter (λ r. not (q r)) rows) (filter (λ r. not (q r)) rows)
  taken_by row rows true apart rest =
      ap (λ b. without_all (templates_of (filter q rows)) (cond (not b) (row ∷ without (has_key row.template.key) rows) (without (has_key row.template.key) rows))) (key_eq_own row.template.key)
      ∙ ap (without_all (templates_of (filter q rows))) (without_other row.template.key rows apart) ∙ rest
  taken_by row rows false apart rest =
      stays_first row (filter q rows) rows (kept_rows (λ (other : TemplateRow). template_key_eq row.template.key other.template.key ≡ false) q rows apart) ∙ ap (λ rs. row ∷ rs) rest

  -- taking out the keys of those that pass leaves those that don't
  pub taken_out : (rows : List TemplateRow) → DifferInKey rows → without_all (templates_of (filter q rows)) rows ≡ filter (λ r. not (q r)) rows
  taken_out [] apart = refl
  taken_out (row ∷ rows) apart = taken_by row rows (q row) apart.0 (taken_out rows apart.1)

-- ---- a renewal keeps id and key

renewed_id : (now : ℕ) (row : TemplateRow) (b : Bool) → (cond b (record row { template = held_longer now row.template }) row).template.id ≡ row.template.id
renewed_id now row true = refl
renewed_id now row false = refl

renewed_key : (now : ℕ) (row : TemplateRow) (b : Bool) → (cond b (record row { template = held_longer now row.template }) row).template.key ≡ row.template.key
renewed_key now row true = refl
renewed_key now row false = refl

pub renew_id : (now : ℕ) (row : TemplateRow) → (renew now row).template.id ≡ row.template.id
renew_id now row = renewed_id now row (is_renewed now row)

pub renew_key : (now : ℕ) (row : TemplateRow) → (renew now row).template.key ≡ row.template.key
renew_key now row = renewed_key now row (is_renewed now row)

-- ---- in order of id

sorted_by : (row : TemplateRow) (rows : List TemplateRow) (b : Bool) → AllByRecursion (λ n. nat_cmp row.template.id.0 n ≡ Less) (ids_of rows) → IsStrictlySortedBy nat_cmp (ids_of rows) → IsStrictlySortedBy nat_cmp (ids_of (cond b (row ∷ rows) rows))
unfolding IsStrictlySortedBy
sorted_by row rows true above sorted = (above, sorted)
sorted_by row rows false above sorted = sorted

sorted_filter : (q : TemplateRow → Bool) (rows : List TemplateRow) → IsStrictlySortedBy nat_cmp (ids_of rows) → IsStrictlySortedBy nat_cmp (ids_of (filter q rows))
unfolding IsStrictlySortedBy
sorted_filter q [] sorted = sorted
sorted_filter q (row ∷ rows) sorted =
    sorted_by row (filter q rows) (q row) (all_filter (λ n. nat_cmp row.template.id.0 n ≡ Less) (λ (x : TemplateRow). x.template.id.0) q rows sorted.0) (sorted_filter q rows sorted.1)

pub ids_of_templates : (rows : List TemplateRow) → map (λ (template : Template). template.id.0) (templates_of rows) ≡ ids_of rows
ids_of_templates [] = refl
ids_of_templates (row ∷ rows) = ap (λ ns. row.template.id.0 ∷ ns) (ids_of_templates rows)

rising : (rows : List TemplateRow) → IsStrictlySortedBy nat_cmp (ids_of rows) → IsRising (templates_of rows)
rising rows sorted = subst (λ (ns : List ℕ). IsStrictlyIncreasing ns) (sym (ids_of_templates rows)) (IsStrictlyIncreasing-from_sorted (ids_of rows) sorted)

pub all_rise : (es : List (ℕ × TemplateRow)) (ids : List (TemplateKey × ℕ)) (templates : List Template) → IsStore es ids → templates ≡ templates_of (values_of es) → IsRising templates
all_rise es ids templates store is = subst (λ (ts : List Template). IsRising ts) (sym is) (rising (values_of es) (rows_sorted es ids store))

pub some_rise : (q : TemplateRow → Bool) (es : List (ℕ × TemplateRow)) (ids : List (TemplateKey × ℕ)) (templates : List Template) → IsStore es ids → templates ≡ templates_of (filter q (values_of es)) → IsRising templates
some_rise q es ids templates store is = subst (λ (ts : List Template). IsRising ts) (sym is) (rising (filter q (values_of es)) (sorted_filter q (values_of es) (rows_sorted es ids store)))

-- ---- keys and ids are apart

keys_differ : (key : TemplateKey) (rows : List TemplateRow) → AllByRecursion (λ (other : TemplateRow). template_key_eq key other.template.key ≡ false) rows → AllByRecursion (λ other. template_key_eq key other ≡ false) (template_keys (templates_of rows))
keys_differ key [] differ = tt
keys_differ key (row ∷ rows) differ = (differ.0, keys_differ key rows differ.1)

distinct_keys : (rows : List TemplateRow) → DifferInKey rows → IsDistinct template_key_eq (template_keys (templates_of rows))
unfolding IsDistinct
distinct_keys [] differ = tt
distinct_keys (row ∷ rows) differ = (keys_differ row.template.key rows differ.0, distinct_keys rows differ.1)

less_differs : (a b : ℕ) → nat_cmp a b ≡ Less → nat_eq a b ≡ false
less_differs a b less = grind (arith, nat_tests)

distinct_numbers : (ns : List ℕ) → IsStrictlySortedBy nat_cmp ns → IsDistinct nat_eq ns
unfolding IsDistinct IsStrictlySortedBy
distinct_numbers [] sorted = tt
distinct_numbers (n ∷ ns) sorted =
    (all_weaken (λ m. nat_cmp n m ≡ Less) (λ m. nat_eq n m ≡ false) (λ m less. less_differs n m less) ns sorted.0, distinct_numbers ns sorted.1)

pub are_distinct : (es : List (ℕ × TemplateRow)) (ids : List (TemplateKey × ℕ)) → IsStore es ids → AreDistinct (values_of es)
are_distinct es ids store = record {
  keys = distinct_keys (values_of es) (are_apart es ids store);
  ids = subst (IsDistinct nat_eq) (sym (ids_of_templates (values_of es))) (distinct_numbers (ids_of (values_of es)) (rows_sorted es ids store));
}
