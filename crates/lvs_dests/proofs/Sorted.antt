-- What sorting by a number keeps.
use Rattle.std.proofs.Common.{◌≡◌, ℕ, Bool, true, false, ◌||◌, cond, refl, sym, ap, ◌∙◌, List, [], ◌∷◌, ◌++◌, Option, Some, None, nat_le, nat_lt, filter_map, arith}
use Rattle.std.specs.List.{AllByRecursion, list_any, cons_option}
use Rattle.std.proofs.lemmas.Bool.Decides.{nat_tests}
use Rattle.lvs_model.specs.Lists.{insert_by, sorted_by}

pub all_weaken : {X : Type 0} (P Q : X → Type 0) → ((x : X) → P x → Q x) → (xs : List X) → AllByRecursion P xs → AllByRecursion Q xs
all_weaken P Q f [] all = tt
all_weaken P Q f (x ∷ xs) all = (f x all.0, all_weaken P Q f xs all.1)

le_trans : (a b c : ℕ) → nat_le a b ≡ true → nat_le b c ≡ true → nat_le a c ≡ true
le_trans a b c e f = grind (arith, nat_tests)

le_other : (a b : ℕ) → nat_le a b ≡ false → nat_le b a ≡ true
le_other a b e = grind (arith, nat_tests)

pub lt_le : (a b : ℕ) → nat_lt a b ≡ true → nat_le a b ≡ true
lt_le a b e = grind (arith, nat_tests)

pub lt_not : (a b : ℕ) → nat_lt a b ≡ true → nat_le b a ≡ false
lt_not a b e = grind (arith, nat_tests)

or_swap : (a b c : Bool) → (a || (b || c)) ≡ (b || (a || c))
or_swap true true c = refl
or_swap true false c = refl
or_swap false true c = refl
or_swap false false c = refl

module _ {X : Type 0} (number : X → ℕ) where
  -- no number is lower than x's
  abbrev pub Below : X → List X → Type 0
  Below x xs = AllByRecursion (λ y. nat_le (number x) (number y) ≡ true) xs

  abbrev pub IsInOrder : List X → Type 0
  IsInOrder [] = Unit {0}
  IsInOrder (x ∷ xs) = Below x xs × IsInOrder xs

  all_insert_by : (P : X → Type 0) (x y : X) (ys zs : List X) (b : Bool) → P x → P y → AllByRecursion P ys → AllByRecursion P zs → AllByRecursion P (cond b (x ∷ y ∷ ys) (y ∷ zs))
  all_insert_by P x y ys zs true here at all later = (here, (at, all))
  all_insert_by P x y ys zs false here at all later = (at, later)

  all_insert : (P : X → Type 0) (x : X) (ys : List X) → P x → AllByRecursion P ys → AllByRecursion P (insert_by number x ys)
  all_insert P x [] here all = (here, tt)
  all_insert P x (y ∷ ys) here all =
      all_insert_by P x y ys (insert_by number x ys) (nat_le (number x) (number y)) here all.0 all.1 (all_insert P x ys here all.1)

  -- what holds of each holds of each after sorting
  pub all_sorted : (P : X → Type 0) (xs : List X) → AllByRecursion P xs → AllByRecursion P (sorted_by number xs)
  all_sorted P [] all = tt
  all_sorted P (x ∷ xs) all = all_insert P x (sorted_by number xs) all.0 (all_sorted P xs all.1)

  order_by : (x y : X) (ys zs : List X) (b : Bool) → nat_le (number x) (number y) ≡ b → Below y ys → IsInOrder ys → (nat_le (number y) (number x) ≡ true → Below y zs) → IsInOrder zs → IsInOrder (cond b (x ∷ y ∷ ys) (y ∷ zs))
  order_by x y ys zs true le below order above later =
      ((le, all_weaken (λ z. nat_le (number y) (number z) ≡ true) (λ z. nat_le (number x) (number z) ≡ true) (λ z more. le_trans (number x) (number y) (number z) le more) ys below), (below, order))
  order_by x y ys zs false le below order above later = (above (le_other (number x) (number y) le), later)

  order_insert : (x : X) (ys : List X) → IsInOrder ys → IsInOrder (insert_by number x ys)
  order_insert x [] order = (tt, tt)
  order_insert x (y ∷ ys) order =
      order_by x y ys (insert_by number x ys) (nat_le (number x) (number y)) refl order.0 order.1
      (λ le. all_insert (λ z. nat_le (number y) (number z) ≡ true) x ys le order.0) (order_insert x ys order.1)

  pub in_order : (xs : List X) → IsInOrder (sorted_by number xs)
  in_order [] = tt
  in_order (x ∷ xs) = order_insert x (sorted_by number xs) (in_order xs)

  insert_first : (x : X) (ys : List X) → Below x ys → insert_by number x ys ≡ x ∷ ys
  insert_first x [] below = refl
  insert_first x (y ∷ ys) below = rw below.0 refl

  -- ---- some are taken out or changed, and each keeps its number
  module _ (h : X → Option X) (keeps : (x y : X) → h x ≡ Some y → number y ≡ number x) where
    below_by : (n : ℕ) (y : X) (zs : List X) (o : Option X) → h y ≡ o → nat_le n (number y) ≡ true → AllByRecursion (λ z. nat_le n (number z) ≡ true) zs → AllByRecursion (λ z. nat_le n (number z) ≡ true) (cons_option o zs)
    below_by n y zs None is le all = all
    below_by n y zs (Some z) is le all = (ap (nat_le n) (keeps y z is) ∙ le, all)

    below_kept : (n : ℕ) (ys : List X) → AllByRecursion (λ z. nat_le n (number z) ≡ true) ys → AllByRecursion (λ z. nat_le n (number z) ≡ true) (filter_map h ys)
    below_kept n [] all = tt
    below_kept n (y ∷ ys) all = below_by n y (filter_map h ys) (h y) refl all.0 (below_kept n ys all.1)

    -- one that may be left, among the others
    abbrev onto : Option X → List X → List X
    onto None ys = ys
    onto (Some x) ys = insert_by number x ys

    onto_first : (x : X) (o : Option X) (ys : List X) → h x ≡ o → AllByRecursion (λ z. nat_le (number x) (number z) ≡ true) ys → cons_option o ys ≡ onto o ys
    onto_first x None ys is below = refl
    onto_first x (Some y) ys is below =
        sym (insert_first y ys (all_weaken (λ z. nat_le (number x) (number z) ≡ true) (λ z. nat_le (number y) (number z) ≡ true) (λ z le. ap (λ n. nat_le n (number z)) (keeps x y is) ∙ le) ys below))

    onto_later : (x y : X) (o p : Option X) (ys : List X) → h x ≡ o → h y ≡ p → nat_le (number x) (number y) ≡ false → cons_option p (onto o ys) ≡ onto o (cons_option p ys)
    onto_later x y None p ys is at more = refl
    onto_later x y (Some v) None ys is at more = refl
    onto_later x y (Some v) (Some w) ys is at more =
        let above : nat_le (number v) (number w) ≡ false = ap (λ n. nat_le n (number w)) (keeps x v is) ∙ ap (nat_le (number x)) (keeps y w at) ∙ more in
        rw above refl

    insert_kept_by : (x y : X) (ys : List X) (b : Bool) → nat_le (number x) (number y) ≡ b → Below y ys → filter_map h (insert_by number x ys) ≡ onto (h x) (filter_map h ys) → filter_map h (cond b (x ∷ y ∷ ys) (y ∷ insert_by number x ys)) ≡ onto (h x) (filter_map h (y ∷ ys))
    insert_kept_by x y ys true le below rest =
        onto_first x (h x) (filter_map h (y ∷ ys)) refl
        (below_kept (number x) (y ∷ ys) (le, all_weaken (λ z. nat_le (number y) (number z) ≡ true) (λ z. nat_le (number x) (number z) ≡ true) (λ z more. le_trans (number x) (number y) (number z) le more) ys below))
    insert_kept_by x y ys false le below rest =
        ap (cons_option (h y)) rest ∙ onto_later x y (h x) (h y) (filter_map h ys) refl refl le

    insert_kept : (x : X) (ys : List X) → IsInOrder ys → filter_map h (insert_by number x ys) ≡ onto (h x) (filter_map h ys)
    insert_kept x [] order = onto_first x (h x) [] refl tt
    insert_kept x (y ∷ ys) order = insert_kept_by x y ys (nat_le (number x) (number y)) refl order.0 (insert_kept x ys order.1)

    sorted_onto : (o : Option X) (ys : List X) → onto o (sorted_by number ys) ≡ sorted_by number (cons_option o ys)
    sorted_onto None ys = refl
    sorted_onto (Some x) ys = refl

    -- what is left is sorted as what is left of the sorted list
    pub sorted_kept : (xs : List X) → sorted_by number (filter_map h xs) ≡ filter_map h (sorted_by number xs)
    sorted_kept [] = refl
    sorted_kept (x ∷ xs) =
        sym (sorted_onto (h x) (filter_map h xs)) ∙ ap (onto (h x)) (sorted_kept xs) ∙ sym (insert_kept x (sorted_by number xs) (in_order xs))

  -- ---- the one of the highest number stands last

  pub insert_last : (x : X) (ys : List X) → AllByRecursion (λ y. nat_lt (number y) (number x) ≡ true) ys → insert_by number x ys ≡ ys ++ x ∷ []
  insert_last x [] all = refl
  insert_last x (y ∷ ys) all = rw (lt_not (number y) (number x) all.0) (ap (λ zs. y ∷ zs) (insert_last x ys all.1))

  before_by : (x y z : X) (ys zs : List X) (b : Bool) → zs ≡ insert_by number x ys ++ z ∷ [] → cond b (x ∷ y ∷ ys ++ z ∷ []) (y ∷ zs) ≡ cond b (x ∷ y ∷ ys) (y ∷ insert_by number x ys) ++ z ∷ []
  before_by x y z ys zs true rest = refl
  before_by x y z ys zs false rest = ap (λ vs. y ∷ vs) rest

  pub insert_before : (x z : X) (ys : List X) → nat_le (number x) (number z) ≡ true → insert_by number x (ys ++ z ∷ []) ≡ insert_by number x ys ++ z ∷ []
  insert_before x z [] le = rw le refl
  insert_before x z (y ∷ ys) le = before_by x y z ys (insert_by number x (ys ++ z ∷ [])) (nat_le (number x) (number y)) (insert_before x z ys le)

  -- ---- whether one passes

  any_by : (p : X → Bool) (x y : X) (ys zs : List X) (b : Bool) → list_any p zs ≡ (p x || list_any p ys) → list_any p (cond b (x ∷ y ∷ ys) (y ∷ zs)) ≡ (p x || (p y || list_any p ys))
  any_by p x y ys zs true rest = refl
  any_by p x y ys zs false rest = ap (λ t. p y || t) rest ∙ or_swap (p y) (p x) (list_any p ys)

  pub any_insert : (p : X → Bool) (x : X) (ys : List X) → list_any p (insert_by number x ys) ≡ (p x || list_any p ys)
  any_insert p x [] = refl
  any_insert p x (y ∷ ys) = any_by p x y ys (insert_by number x ys) (nat_le (number x) (number y)) (any_insert p x ys)

  pub any_sorted : (p : X → Bool) (xs : List X) → list_any p (sorted_by number xs) ≡ list_any p xs
  any_sorted p [] = refl
  any_sorted p (x ∷ xs) = any_insert p x (sorted_by number xs) ∙ ap (λ t. p x || t) (any_sorted p xs)
