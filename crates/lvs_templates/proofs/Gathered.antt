-- What is gathered of a map's rows, and what stands of it in order of id.
use Rattle.std.proofs.Common.{◌≡◌, ℕ, ◌≤◌, ◌+◌, Bool, true, false, cond, nat_le, ◌==◌, List, [], ◌∷◌, map, refl, sym, ◌∙◌, ap, arith, count_by, nat_eq}
use Rattle.std.specs.List.{AllByRecursion, filter, IsDistinct}
use Rattle.std.specs.List.Sorted.{IsPermutation, IsNonDecreasingBy}
use Rattle.std.specs.Map.{keys_of, values_of}
use Rattle.std.proofs.lemmas.List.Sums.{sum_by-cons}
use Rattle.lvs_types.specs.declared.template.TemplateKey.{TemplateKey}
use Rattle.lvs_types.specs.declared.template.Template.{Template}
use Rattle.lvs_model.specs.Lists.{sorted_by, insert_by}
use Rattle.lvs_model.proofs.OrderLemmas.{all_weaker, all_sorted, filter_sorted, count_sorted, count_filter, sorted_once}
use Rattle.lvs_templates.specs.declared.row.TemplateRow.{TemplateRow}
use Rattle.lvs_templates.specs.Rows.{templates_of}
use Rattle.lvs_templates.specs.Maps.{in_order, IsStore}
use Rattle.lvs_templates.proofs.InOrder.{number, is_under, once}
use Rattle.lvs_templates.proofs.Store.{own_ids}

abbrev pub row_number : TemplateRow → ℕ
row_number row = row.template.id.0

abbrev pub template_number : Template → ℕ
template_number template = template.id.0

abbrev its_number : ℕ × TemplateRow → ℕ
its_number e = row_number e.1

-- ---- an order of elements is one of what they are changed to

map_placed : {X Y : Type 0} (f : X → Y) (n : Y → ℕ) (x y : X) (ys : List X) (b : Bool) → map f (insert_by (λ z. n (f z)) x ys) ≡ insert_by n (f x) (map f ys)
    → map f (cond b (x ∷ y ∷ ys) (y ∷ insert_by (λ z. n (f z)) x ys)) ≡ cond b (f x ∷ f y ∷ map f ys) (f y ∷ insert_by n (f x) (map f ys))
map_placed f n x y ys true later = refl
map_placed f n x y ys false later = ap (λ zs. f y ∷ zs) later

map_insert : {X Y : Type 0} (f : X → Y) (n : Y → ℕ) (x : X) (ys : List X) → map f (insert_by (λ z. n (f z)) x ys) ≡ insert_by n (f x) (map f ys)
map_insert f n x [] = refl
map_insert f n x (y ∷ ys) = map_placed f n x y ys (nat_le (n (f x)) (n (f y))) (map_insert f n x ys)

sorted_map : {X Y : Type 0} (f : X → Y) (n : Y → ℕ) (xs : List X) → map f (sorted_by (λ x. n (f x)) xs) ≡ sorted_by n (map f xs)
sorted_map f n [] = refl
sorted_map f n (x ∷ xs) = map_insert f n x (sorted_by (λ z. n (f z)) xs) ∙ ap (insert_by n (f x)) (sorted_map f n xs)

-- ---- entries in order of their numbers are in order of their rows' ids

insert_agree : (x : ℕ × TemplateRow) (ys : List (ℕ × TemplateRow)) → number x ≡ its_number x → AllByRecursion (λ y. number y ≡ its_number y) ys → insert_by number x ys ≡ insert_by its_number x ys
insert_agree x [] here all = refl
insert_agree x (y ∷ ys) here all =
    ap (λ m. cond (nat_le m (number y)) (x ∷ y ∷ ys) (y ∷ insert_by number x ys)) here ∙ ap (λ m. cond (nat_le (its_number x) m) (x ∷ y ∷ ys) (y ∷ insert_by number x ys)) all.0
    ∙ ap (λ zs. cond (nat_le (its_number x) (its_number y)) (x ∷ y ∷ ys) (y ∷ zs)) (insert_agree x ys here all.1)

sorted_agree : (es : List (ℕ × TemplateRow)) → AllByRecursion (λ e. number e ≡ its_number e) es → sorted_by number es ≡ sorted_by its_number es
sorted_agree [] all = refl
sorted_agree (e ∷ es) all =
    insert_agree e (sorted_by number es) all.0 (all_sorted (λ o. number o ≡ its_number o) number es all.1) ∙ ap (insert_by its_number e) (sorted_agree es all.1)

module _ (P : ℕ × TemplateRow → Type 0) where
  placed_all : (x y : ℕ × TemplateRow) (ys : List (ℕ × TemplateRow)) (b : Bool) → (AllByRecursion P (insert_by number x ys) → P x × AllByRecursion P ys) → AllByRecursion P (cond b (x ∷ y ∷ ys) (y ∷ insert_by number x ys)) → P x × AllByRecursion P (y ∷ ys)
  placed_all x y ys true later all = (all.0, all.1)
  placed_all x y ys false later all = let rest = later all.1 in (rest.0, (all.0, rest.1))

  insert_all : (x : ℕ × TemplateRow) (ys : List (ℕ × TemplateRow)) → AllByRecursion P (insert_by number x ys) → P x × AllByRecursion P ys
  insert_all x [] all = (all.0, tt)
  insert_all x (y ∷ ys) all = placed_all x y ys (nat_le (number x) (number y)) (insert_all x ys) all

  unsorted : (es : List (ℕ × TemplateRow)) → AllByRecursion P (in_order es) → AllByRecursion P es
  unsorted [] all = tt
  unsorted (e ∷ es) all = let both = insert_all e (in_order es) all in (both.0, unsorted es both.1)

-- ---- counts

count_agree : (n : ℕ) (es : List (ℕ × TemplateRow)) → AllByRecursion (λ e. number e ≡ its_number e) es → count_by (λ row. row_number row == n) (values_of es) ≡ count_by (is_under n) es
count_agree n [] all = refl
count_agree n (e ∷ es) all =
    sum_by-cons (λ (row : TemplateRow). cond {A = ℕ} (row_number row == n) 1 0) e.1 (values_of es) ∙ ap (λ m. cond {A = ℕ} (m == n) 1 0 + count_by (λ row. row_number row == n) (values_of es)) (sym all.0)
    ∙ ap (λ m. cond {A = ℕ} (e.0 == n) 1 0 + m) (count_agree n es all.1) ∙ sym (sum_by-cons (λ o. cond {A = ℕ} (is_under n o) 1 0) e es)

count_templates : (n : ℕ) (rows : List TemplateRow) → count_by (λ t. template_number t == n) (templates_of rows) ≡ count_by (λ row. row_number row == n) rows
count_templates n [] = refl
count_templates n (row ∷ rows) =
    sum_by-cons (λ (t : Template). cond {A = ℕ} (template_number t == n) 1 0) row.template (templates_of rows) ∙ ap (λ m. cond {A = ℕ} (row_number row == n) 1 0 + m) (count_templates n rows)
    ∙ sym (sum_by-cons (λ (r : TemplateRow). cond {A = ℕ} (row_number r == n) 1 0) row rows)

module _ (es : List (ℕ × TemplateRow)) (ids : List (TemplateKey × ℕ)) (distinct : IsDistinct nat_eq (keys_of es)) (store : IsStore (in_order es) ids) where
  agree : AllByRecursion (λ e. number e ≡ its_number e) es
  agree = unsorted (λ e. number e ≡ its_number e) es
      (all_weaker (λ (e : ℕ × TemplateRow). e.1.template.id.0 ≡ e.0) (λ (e : ℕ × TemplateRow). number e ≡ its_number e) (λ e own. sym own) (in_order es) (own_ids (in_order es) store.ordered store.tied.ids))

  values_sorted : values_of (in_order es) ≡ sorted_by row_number (values_of es)
  values_sorted = ap values_of (sorted_agree es agree) ∙ sorted_map (λ (e : ℕ × TemplateRow). e.1) row_number es

  rows_once : (n : ℕ) → count_by (λ row. row_number row == n) (values_of es) ≤ 1
  rows_once n = rw (count_agree n es agree) (once es distinct n)

  pub count_rows : (p : TemplateRow → Bool) → count_by p (values_of es) ≡ count_by p (values_of (in_order es))
  count_rows p = sym (count_sorted row_number p (values_of es)) ∙ ap (λ rows. count_by p rows) (sym values_sorted)

  sorted_templates : (rows : List TemplateRow) (gathered templates : List Template) → ((n : ℕ) → count_by (λ row. row_number row == n) rows ≤ 1) → gathered ≡ templates_of rows → IsPermutation gathered templates → IsNonDecreasingBy template_number templates
      → templates ≡ templates_of (sorted_by row_number rows)
  sorted_templates rows gathered templates few is moved order =
      sorted_once template_number gathered templates moved order (λ n. rw is (rw (count_templates n rows) (few n)))
      ∙ ap (sorted_by template_number) is ∙ sym (sorted_map (λ (row : TemplateRow). row.template) template_number rows)

  pub sorted_all : (gathered templates : List Template) → gathered ≡ templates_of (values_of es) → IsPermutation gathered templates → IsNonDecreasingBy template_number templates → templates ≡ templates_of (values_of (in_order es))
  sorted_all gathered templates is moved order = sorted_templates (values_of es) gathered templates rows_once is moved order ∙ ap templates_of (sym values_sorted)

  pub sorted_some : (p : TemplateRow → Bool) (gathered templates : List Template) → gathered ≡ templates_of (filter p (values_of es)) → IsPermutation gathered templates → IsNonDecreasingBy template_number templates
      → templates ≡ templates_of (filter p (values_of (in_order es)))
  sorted_some p gathered templates is moved order =
      sorted_templates (filter p (values_of es)) gathered templates (λ n. let less = count_filter (λ row. row_number row == n) p (values_of es) in let few = rows_once n in omega arith) is moved order
      ∙ ap templates_of (sym (filter_sorted row_number p (values_of es)) ∙ ap (filter p) (sym values_sorted))
