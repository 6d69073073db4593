-- The entries of a map in order of their numbers, through each change of the map.
use Rattle.std.proofs.Common.{◌≡◌, ℕ, ◌+◌, ◌<◌, ◌≤◌, Bool, true, false, cond, nat_le, nat_eq, ◌==◌, List, [], ◌∷◌, map, not, Option, Some, None, refl, sym, ◌∙◌, ap, arith, count_by}
use Rattle.std.specs.declared.cmp.Ordering.{Ordering}
use Rattle.std.specs.declared.cmp.Ordering.TheVariants.{Less, Equal, Greater}
use Rattle.std.specs.Ordering.{nat_cmp, is_eq, match_ordering}
use Rattle.std.specs.BTreeMap.{is_at, insert_entry}
use Rattle.std.specs.List.{AllByRecursion, filter, find, IsDistinct}
use Rattle.std.specs.List.Sorted.{IsPermutation, IsStrictlySortedBy}
use Rattle.std.specs.Map.{keys_of, lookup, remove_entry, set_value}
use Rattle.std.specs.Option.{option_map}
use Rattle.std.proofs.lemmas.Bool.Decides.{nat_tests}
use Rattle.std.proofs.lemmas.List.Sorted.{IsPermutation-sym}
use Rattle.std.proofs.lemmas.List.Sums.{sum_by-cons}
use Rattle.lvs_model.specs.Lists.{insert_by}
use Rattle.lvs_model.proofs.OrderLemmas.{IsStrict, filter_sorted, map_sorted, count_sorted, find_sorted, none_counted, keep_all, put_once, sorted_up, strict_from, sorted_moved}
use Rattle.lvs_templates.specs.declared.row.TemplateRow.{TemplateRow}
use Rattle.lvs_templates.specs.Maps.{in_order, row_at, row_put}
use Rattle.lvs_templates.proofs.Keys.{nat_at, nat_at_back}

abbrev pub number : ℕ × TemplateRow → ℕ
number e = e.0

-- whether an entry stands under a number
abbrev pub is_under : ℕ → ℕ × TemplateRow → Bool
is_under n e = e.0 == n

-- ---- the tests of numbers are one

pub tests_tree : (n : ℕ) → is_at (nat_cmp n) ≡ (λ k. k == n)
tests_tree n = λ i k. nat_at_back n k i

flipped : (n k : ℕ) → nat_eq n k ≡ (k == n)
flipped n k = sym (nat_at n k) ∙ nat_at_back n k

pub tests_hash : (n : ℕ) → nat_eq n ≡ (λ k. k == n)
tests_hash n = λ i k. flipped n k i

pub tests_same : (n : ℕ) → nat_eq n ≡ is_at (nat_cmp n)
tests_same n = tests_hash n ∙ sym (tests_tree n)

-- ---- each number once

under_all : (n : ℕ) (e : ℕ × TemplateRow) (es : List (ℕ × TemplateRow)) → (e.0 == n) ≡ true → AllByRecursion (λ k. nat_eq e.0 k ≡ false) (keys_of es) → AllByRecursion (λ o. is_under n o ≡ false) es
under_all n e [] passes all = tt
under_all n e (o ∷ es) passes all = (grind (arith, nat_tests, passes, all.0), under_all n e es passes all.1)

pub once : (es : List (ℕ × TemplateRow)) → IsDistinct nat_eq (keys_of es) → (n : ℕ) → count_by (is_under n) es ≤ 1
unfolding IsDistinct
once [] distinct n = omega arith
once (e ∷ es) distinct n = put_once (is_under n) e [] es (is_under n e) refl (λ passes. under_all n e es passes distinct.0) (once es distinct.1 n)

once_sorted : (es : List (ℕ × TemplateRow)) → IsDistinct nat_eq (keys_of es) → (n : ℕ) → count_by (is_under n) (in_order es) ≤ 1
once_sorted es distinct n = rw (count_sorted number (is_under n) es) (once es distinct n)

rising_below : (n : ℕ) (es : List (ℕ × TemplateRow)) → AllByRecursion (λ e. n < number e) es → AllByRecursion (λ k. nat_cmp n k ≡ Less) (keys_of es)
rising_below n [] above = tt
rising_below n (e ∷ es) above = (let less : n < e.0 = above.0 in grind (arith, nat_tests), rising_below n es above.1)

rising_keys : (es : List (ℕ × TemplateRow)) → IsStrict number es → IsStrictlySortedBy nat_cmp (keys_of es)
unfolding IsStrictlySortedBy
rising_keys [] strict = tt
rising_keys (e ∷ es) strict = (rising_below e.0 es strict.0, rising_keys es strict.1)

pub ordered : (es : List (ℕ × TemplateRow)) → IsDistinct nat_eq (keys_of es) → IsStrictlySortedBy nat_cmp (keys_of (in_order es))
ordered es distinct = rising_keys (in_order es) (strict_from number (in_order es) (sorted_up number es) (once_sorted es distinct))

-- ---- look-ups

found_head : (n : ℕ) (e : ℕ × TemplateRow) (es : List (ℕ × TemplateRow)) (b : Bool) → lookup (λ k. k == n) es ≡ option_map (λ (o : ℕ × TemplateRow). o.1) (find (is_under n) es)
    → cond b (Some e.1) (lookup (λ k. k == n) es) ≡ option_map (λ (o : ℕ × TemplateRow). o.1) (cond b (Some e) (find (is_under n) es))
found_head n e es true rest = refl
found_head n e es false rest = rest

lookup_found : (n : ℕ) (es : List (ℕ × TemplateRow)) → lookup (λ k. k == n) es ≡ option_map (λ (o : ℕ × TemplateRow). o.1) (find (is_under n) es)
lookup_found n [] = refl
lookup_found n (e ∷ es) = found_head n e es (is_under n e) (lookup_found n es)

-- a row stands under the same number in order
pub row_sorted : (es : List (ℕ × TemplateRow)) → IsDistinct nat_eq (keys_of es) → (n : ℕ) → row_at (in_order es) n ≡ lookup (nat_eq n) es
row_sorted es distinct n =
    ap (λ (t : ℕ → Bool). lookup t (in_order es)) (tests_tree n) ∙ lookup_found n (in_order es)
    ∙ ap (option_map (λ (o : ℕ × TemplateRow). o.1)) (find_sorted number (is_under n) es es (once es distinct n) refl)
    ∙ sym (lookup_found n es) ∙ ap (λ (t : ℕ → Bool). lookup t es) (sym (tests_hash n))

-- so look-ups change in order as they change in the map
pub rows_put : (es es' : List (ℕ × TemplateRow)) (n : ℕ) (w : Option TemplateRow) → IsDistinct nat_eq (keys_of es) → IsDistinct nat_eq (keys_of es') → ((q : ℕ) → lookup (nat_eq q) es' ≡ cond (nat_eq n q) w (lookup (nat_eq q) es))
    → (q : ℕ) → row_at (in_order es') q ≡ row_put (row_at (in_order es)) n w q
rows_put es es' n w distinct distinct' updates q =
    row_sorted es' distinct' q ∙ updates q ∙ ap (λ (t : ℕ → Bool). cond (t q) w (lookup (nat_eq q) es)) (tests_same n)
    ∙ ap (cond (is_at (nat_cmp n) q) w) (sym (row_sorted es distinct q))

-- ---- the map moves

pub same_moved : (es es' : List (ℕ × TemplateRow)) → IsDistinct nat_eq (keys_of es') → IsPermutation es es' → in_order es' ≡ in_order es
same_moved es es' distinct' moved = sorted_moved number es' es (IsPermutation-sym es es' moved) (once es' distinct')

-- ---- one more

enter_by : (n : ℕ) (v : TemplateRow) (e : ℕ × TemplateRow) (es : List (ℕ × TemplateRow)) (o : Ordering) → nat_cmp n e.0 ≡ o → row_at (e ∷ es) n ≡ None → (row_at es n ≡ None → insert_by number (n, v) es ≡ insert_entry nat_cmp es n v)
    → insert_by number (n, v) (e ∷ es) ≡ match_ordering o ((n, v) ∷ e ∷ es) ((e.0, v) ∷ es) (e ∷ insert_entry nat_cmp es n v)
enter_by n v e es Less is none rest = let le : nat_le n e.0 ≡ true = grind (arith, nat_tests) in ap (λ b. cond b ((n, v) ∷ e ∷ es) (e ∷ insert_by number (n, v) es)) le
enter_by n v e es Equal is none rest = let here : Some e.1 ≡ None = sym (ap (λ (o : Ordering). cond (is_eq o) (Some e.1) (row_at es n)) is) ∙ none in absurd (cc)
enter_by n v e es Greater is none rest =
    let le : nat_le n e.0 ≡ false = grind (arith, nat_tests) in
    let there : row_at es n ≡ None = sym (ap (λ (o : Ordering). cond (is_eq o) (Some e.1) (row_at es n)) is) ∙ none in
    ap (λ b. cond b ((n, v) ∷ e ∷ es) (e ∷ insert_by number (n, v) es)) le ∙ ap (λ os. e ∷ os) (rest there)

entered : (n : ℕ) (v : TemplateRow) (es : List (ℕ × TemplateRow)) → row_at es n ≡ None → insert_by number (n, v) es ≡ insert_entry nat_cmp es n v
entered n v [] none = refl
entered n v (e ∷ es) none = enter_by n v e es (nat_cmp n e.0) refl none (entered n v es)

pub sorted_enter : (n : ℕ) (v : TemplateRow) (es es' : List (ℕ × TemplateRow)) → IsDistinct nat_eq (keys_of es') → row_at (in_order es) n ≡ None → IsPermutation ((n, v) ∷ es) es' → in_order es' ≡ insert_entry nat_cmp (in_order es) n v
sorted_enter n v es es' distinct' none moved = same_moved ((n, v) ∷ es) es' distinct' moved ∙ entered n v (in_order es) none

-- ---- one fewer

few_after : (n : ℕ) (e : ℕ × TemplateRow) (es : List (ℕ × TemplateRow)) → is_under n e ≡ true → count_by (is_under n) (e ∷ es) ≤ 1 → AllByRecursion (λ o. is_under n o ≡ false) es
few_after n e es passes few =
    let whole = sum_by-cons (λ o. cond {A = ℕ} (is_under n o) 1 0) e es ∙ ap (λ (b : Bool). cond {A = ℕ} b 1 0 + count_by (is_under n) es) passes in
    none_counted (is_under n) es (omega arith)

few_rest : (n : ℕ) (e : ℕ × TemplateRow) (es : List (ℕ × TemplateRow)) → count_by (is_under n) (e ∷ es) ≤ 1 → count_by (is_under n) es ≤ 1
few_rest n e es few = let whole = sum_by-cons (λ o. cond {A = ℕ} (is_under n o) 1 0) e es in omega arith

remove_by : (n : ℕ) (e : ℕ × TemplateRow) (es : List (ℕ × TemplateRow)) (b : Bool) → is_under n e ≡ b → (b ≡ true → AllByRecursion (λ o. is_under n o ≡ false) es) → remove_entry (λ k. k == n) es ≡ filter (λ o. not (is_under n o)) es
    → cond b es (e ∷ remove_entry (λ k. k == n) es) ≡ cond (not b) (e ∷ filter (λ o. not (is_under n o)) es) (filter (λ o. not (is_under n o)) es)
remove_by n e es true is none rest = sym (keep_all (is_under n) es (none refl))
remove_by n e es false is none rest = ap (λ os. e ∷ os) rest

removed : (n : ℕ) (es : List (ℕ × TemplateRow)) → count_by (is_under n) es ≤ 1 → remove_entry (λ k. k == n) es ≡ filter (λ o. not (is_under n o)) es
removed n [] few = refl
removed n (e ∷ es) few = remove_by n e es (is_under n e) refl (λ passes. few_after n e es passes few) (removed n es (few_rest n e es few))

pub sorted_remove : (n : ℕ) (es es' : List (ℕ × TemplateRow)) → IsDistinct nat_eq (keys_of es) → IsDistinct nat_eq (keys_of es') → IsPermutation (remove_entry (nat_eq n) es) es' → in_order es' ≡ remove_entry (is_at (nat_cmp n)) (in_order es)
sorted_remove n es es' distinct distinct' moved =
    same_moved (remove_entry (nat_eq n) es) es' distinct' moved
    ∙ ap (λ (t : ℕ → Bool). in_order (remove_entry t es)) (tests_hash n) ∙ ap in_order (removed n es (once es distinct n))
    ∙ sym (filter_sorted number (λ o. not (is_under n o)) es) ∙ sym (removed n (in_order es) (once_sorted es distinct n))
    ∙ ap (λ (t : ℕ → Bool). remove_entry t (in_order es)) (sym (tests_tree n))

-- ---- a row in the place of one

abbrev written : ℕ → TemplateRow → ℕ × TemplateRow → ℕ × TemplateRow
written n w e = cond (is_under n e) (e.0, w) e

written_number : (n : ℕ) (w : TemplateRow) (e : ℕ × TemplateRow) (b : Bool) → number (cond b (e.0, w) e) ≡ number e
written_number n w e true = refl
written_number n w e false = refl

written_none : (n : ℕ) (w : TemplateRow) (es : List (ℕ × TemplateRow)) → AllByRecursion (λ o. is_under n o ≡ false) es → map (written n w) es ≡ es
written_none n w [] none = refl
written_none n w (e ∷ es) none = rw (none.0, written_none n w es none.1) refl

set_by : (n : ℕ) (w : TemplateRow) (e : ℕ × TemplateRow) (es : List (ℕ × TemplateRow)) (b : Bool) → is_under n e ≡ b → (b ≡ true → AllByRecursion (λ o. is_under n o ≡ false) es) → set_value (λ k. k == n) es w ≡ map (written n w) es
    → cond b ((e.0, w) ∷ es) (e ∷ set_value (λ k. k == n) es w) ≡ cond b (e.0, w) e ∷ map (written n w) es
set_by n w e es true is none rest = ap (λ os. (e.0, w) ∷ os) (sym (written_none n w es (none refl)))
set_by n w e es false is none rest = ap (λ os. e ∷ os) rest

set_is : (n : ℕ) (w : TemplateRow) (es : List (ℕ × TemplateRow)) → count_by (is_under n) es ≤ 1 → set_value (λ k. k == n) es w ≡ map (written n w) es
set_is n w [] few = refl
set_is n w (e ∷ es) few = set_by n w e es (is_under n e) refl (λ passes. few_after n e es passes few) (set_is n w es (few_rest n e es few))

pub sorted_set : (n : ℕ) (w : TemplateRow) (es es' : List (ℕ × TemplateRow)) → IsDistinct nat_eq (keys_of es) → es' ≡ set_value (nat_eq n) es w → in_order es' ≡ set_value (is_at (nat_cmp n)) (in_order es) w
sorted_set n w es es' distinct is =
    ap in_order is ∙ ap (λ (t : ℕ → Bool). in_order (set_value t es w)) (tests_hash n) ∙ ap in_order (set_is n w es (once es distinct n))
    ∙ sym (map_sorted number (written n w) (λ e. written_number n w e (is_under n e)) es) ∙ sym (set_is n w (in_order es) (once_sorted es distinct n))
    ∙ ap (λ (t : ℕ → Bool). set_value t (in_order es) w) (sym (tests_tree n))

-- ---- a change of each row

pub sorted_each : (h : TemplateRow → TemplateRow) (es es' : List (ℕ × TemplateRow)) → es' ≡ map (λ e. (e.0, h e.1)) es → in_order es' ≡ map (λ e. (e.0, h e.1)) (in_order es)
sorted_each h es es' is = ap in_order is ∙ sym (map_sorted number (λ e. (e.0, h e.1)) (λ e. refl) es)
