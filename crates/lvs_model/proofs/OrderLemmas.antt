-- Lists in order of a number, the elements that pass a test, and lists with the same members.
use Rattle.std.proofs.Common.{◌≡◌, ℕ, ◌+◌, ◌<◌, ◌≤◌, Bool, true, false, cond, nat_le, List, [], ◌∷◌, ◌++◌, length, map, Option, Some, None, refl, sym, ◌∙◌, ap, arith, count_by, not, subst, if◌then◌else◌, ◌==◌, get_or, inl, inr, ◌⊎◌, zero, suc, add-one}
use Rattle.std.specs.List.{AllByRecursion, filter, find, Contains}
use Rattle.std.proofs.lemmas.Bool.{leb-true, leb-false, le-leb, lt-leb, cond-true, cond-false, eqb-false, eq-eqb}
use Rattle.std.proofs.lemmas.Bool.Decides.{nat_tests}
use Rattle.std.proofs.lemmas.List.Sums.{length-filter, sum_by-cons, sum_by-append}
use Rattle.lvs_model.specs.Lists.{insert_by, sorted_by, least_by, lower_of, update_first}
use Rattle.std.specs.List.Sorted.{IsNonDecreasingBy, IsPermutation, IsStrictlyIncreasing}
use Rattle.std.proofs.lemmas.List.Sorted.{IsPermutation-sym, Contains-permutation, sum_by-IsPermutation}

-- ---- WHAT HOLDS OF EACH ELEMENT OF TWO LISTS

pub all_join : {X : Type 0} (P : X → Type 0) (xs ys : List X) → AllByRecursion P xs → AllByRecursion P ys → AllByRecursion P (xs ++ ys)
all_join P [] ys prefix back = back
all_join P (x ∷ xs) ys prefix back = (prefix.0, all_join P xs ys prefix.1 back)

pub join_front : {X : Type 0} (P : X → Type 0) (xs ys : List X) → AllByRecursion P (xs ++ ys) → AllByRecursion P xs
join_front P [] ys all = tt
join_front P (x ∷ xs) ys all = (all.0, join_front P xs ys all.1)

pub join_back : {X : Type 0} (P : X → Type 0) (xs ys : List X) → AllByRecursion P (xs ++ ys) → AllByRecursion P ys
join_back P [] ys all = all
join_back P (x ∷ xs) ys all = join_back P xs ys all.1

-- ---- LISTS IN ORDER OF A NUMBER

-- each number is at most those after it
abbrev pub IsUp : {X : Type 0} → (X → ℕ) → List X → Type 0
IsUp number [] = Unit {0}
IsUp number (x ∷ xs) = AllByRecursion (λ y. number x ≤ number y) xs × IsUp number xs

-- each number is below those after it
abbrev pub IsStrict : {X : Type 0} → (X → ℕ) → List X → Type 0
IsStrict number [] = Unit {0}
IsStrict number (x ∷ xs) = AllByRecursion (λ y. number x < number y) xs × IsStrict number xs

pub all_weaker : {X : Type 0} (P Q : X → Type 0) → ((x : X) → P x → Q x) → (xs : List X) → AllByRecursion P xs → AllByRecursion Q xs
all_weaker P Q says [] all = tt
all_weaker P Q says (x ∷ xs) all = (says x all.0, all_weaker P Q says xs all.1)

all_kept : {X : Type 0} (P : X → Type 0) (b : Bool) (x : X) (xs : List X) → P x → AllByRecursion P xs → AllByRecursion P (cond b (x ∷ xs) xs)
all_kept P true x xs here all = (here, all)
all_kept P false x xs here all = all

pub all_filter : {X : Type 0} (P : X → Type 0) (p : X → Bool) (xs : List X) → AllByRecursion P xs → AllByRecursion P (filter p xs)
all_filter P p [] all = tt
all_filter P p (x ∷ xs) all = all_kept P (p x) x (filter p xs) all.0 (all_filter P p xs all.1)

all_placed : {X : Type 0} (P : X → Type 0) (number : X → ℕ) (x y : X) (ys : List X) (b : Bool) → P x → AllByRecursion P (y ∷ ys) → AllByRecursion P (insert_by number x ys) → AllByRecursion P (cond b (x ∷ y ∷ ys) (y ∷ insert_by number x ys))
all_placed P number x y ys true here all later = (here, all)
all_placed P number x y ys false here all later = (all.0, later)

pub all_insert : {X : Type 0} (P : X → Type 0) (number : X → ℕ) (x : X) (ys : List X) → P x → AllByRecursion P ys → AllByRecursion P (insert_by number x ys)
all_insert P number x [] here all = (here, tt)
all_insert P number x (y ∷ ys) here all = all_placed P number x y ys (nat_le (number x) (number y)) here all (all_insert P number x ys here all.1)

pub all_sorted : {X : Type 0} (P : X → Type 0) (number : X → ℕ) (xs : List X) → AllByRecursion P xs → AllByRecursion P (sorted_by number xs)
all_sorted P number [] all = tt
all_sorted P number (x ∷ xs) all = all_insert P number x (sorted_by number xs) all.0 (all_sorted P number xs all.1)

up_placed : {X : Type 0} (number : X → ℕ) (x y : X) (ys : List X) (b : Bool) → nat_le (number x) (number y) ≡ b → IsUp number (y ∷ ys) → IsUp number (insert_by number x ys) → IsUp number (cond b (x ∷ y ∷ ys) (y ∷ insert_by number x ys))
up_placed number x y ys true is up later =
    let below : number x ≤ number y = leb-true (number x) (number y) is in
    ((below, all_weaker (λ z. number y ≤ number z) (λ z. number x ≤ number z) (λ z le. omega arith) ys up.0), up)
up_placed number x y ys false is up later =
    let above : number y < number x = leb-false (number x) (number y) is in
    (all_insert (λ z. number y ≤ number z) number x ys (omega arith) up.0, later)

insert_up : {X : Type 0} (number : X → ℕ) (x : X) (ys : List X) → IsUp number ys → IsUp number (insert_by number x ys)
insert_up number x [] up = (tt, tt)
insert_up number x (y ∷ ys) up = up_placed number x y ys (nat_le (number x) (number y)) refl up (insert_up number x ys up.1)

pub sorted_up : {X : Type 0} (number : X → ℕ) (xs : List X) → IsUp number (sorted_by number xs)
sorted_up number [] = tt
sorted_up number (x ∷ xs) = insert_up number x (sorted_by number xs) (sorted_up number xs)

insert_before : {X : Type 0} (number : X → ℕ) (x z : X) (zs : List X) → nat_le (number x) (number z) ≡ true → insert_by number x (z ∷ zs) ≡ x ∷ z ∷ zs
insert_before number x z zs is = cond-true (nat_le (number x) (number z)) (x ∷ z ∷ zs) (z ∷ insert_by number x zs) is

insert_after : {X : Type 0} (number : X → ℕ) (x z : X) (zs : List X) → nat_le (number x) (number z) ≡ false → insert_by number x (z ∷ zs) ≡ z ∷ insert_by number x zs
insert_after number x z zs is = cond-false (nat_le (number x) (number z)) (x ∷ z ∷ zs) (z ∷ insert_by number x zs) is

insert_front : {X : Type 0} (number : X → ℕ) (x : X) (zs : List X) → AllByRecursion (λ z. number x ≤ number z) zs → insert_by number x zs ≡ x ∷ zs
insert_front number x [] all = refl
insert_front number x (z ∷ zs) all = insert_before number x z zs (le-leb (number x) (number z) all.0)

-- ---- a filter of a list in order

filter_two : {X : Type 0} (number : X → ℕ) (x y : X) (zs : List X) (a b : Bool) → nat_le (number x) (number y) ≡ false → cond a (y ∷ cond b (insert_by number x zs) zs) (cond b (insert_by number x zs) zs) ≡ cond b (insert_by number x (cond a (y ∷ zs) zs)) (cond a (y ∷ zs) zs)
filter_two number x y zs true true is = sym (insert_after number x y zs is)
filter_two number x y zs true false is = refl
filter_two number x y zs false true is = refl
filter_two number x y zs false false is = refl

filter_placed : {X : Type 0} (number : X → ℕ) (p : X → Bool) (x y : X) (ys : List X) (b : Bool) → nat_le (number x) (number y) ≡ b → IsUp number (y ∷ ys)
    → filter p (insert_by number x ys) ≡ cond (p x) (insert_by number x (filter p ys)) (filter p ys)
    → filter p (cond b (x ∷ y ∷ ys) (y ∷ insert_by number x ys)) ≡ cond (p x) (insert_by number x (filter p (y ∷ ys))) (filter p (y ∷ ys))
filter_placed number p x y ys true is up later =
    let below : number x ≤ number y = leb-true (number x) (number y) is in
    let all : AllByRecursion (λ z. number x ≤ number z) (y ∷ ys) = (below, all_weaker (λ z. number y ≤ number z) (λ z. number x ≤ number z) (λ z le. omega arith) ys up.0) in
    ap (λ zs. cond (p x) zs (filter p (y ∷ ys))) (sym (insert_front number x (filter p (y ∷ ys)) (all_filter (λ z. number x ≤ number z) p (y ∷ ys) all)))
filter_placed number p x y ys false is up later =
    ap (λ zs. cond (p y) (y ∷ zs) zs) later ∙ filter_two number x y (filter p ys) (p y) (p x) is

filter_insert : {X : Type 0} (number : X → ℕ) (p : X → Bool) (x : X) (ys : List X) → IsUp number ys → filter p (insert_by number x ys) ≡ cond (p x) (insert_by number x (filter p ys)) (filter p ys)
filter_insert number p x [] up = refl
filter_insert number p x (y ∷ ys) up = filter_placed number p x y ys (nat_le (number x) (number y)) refl up (filter_insert number p x ys up.1)

sorted_kept : {X : Type 0} (number : X → ℕ) (b : Bool) (x : X) (zs xs : List X) → zs ≡ sorted_by number xs → cond b (insert_by number x zs) zs ≡ sorted_by number (cond b (x ∷ xs) xs)
sorted_kept number true x zs xs is = ap (insert_by number x) is
sorted_kept number false x zs xs is = is

pub filter_sorted : {X : Type 0} (number : X → ℕ) (p : X → Bool) (xs : List X) → filter p (sorted_by number xs) ≡ sorted_by number (filter p xs)
filter_sorted number p [] = refl
filter_sorted number p (x ∷ xs) =
    filter_insert number p x (sorted_by number xs) (sorted_up number xs) ∙ sorted_kept number (p x) x (filter p (sorted_by number xs)) (filter p xs) (filter_sorted number p xs)

length_placed : {X : Type 0} (number : X → ℕ) (x y : X) (ys : List X) (b : Bool) → length (insert_by number x ys) ≡ 1 + length ys → length (cond b (x ∷ y ∷ ys) (y ∷ insert_by number x ys)) ≡ 1 + length (y ∷ ys)
length_placed number x y ys true later = omega arith
length_placed number x y ys false later = omega arith

length_insert : {X : Type 0} (number : X → ℕ) (x : X) (ys : List X) → length (insert_by number x ys) ≡ 1 + length ys
length_insert number x [] = refl
length_insert number x (y ∷ ys) = length_placed number x y ys (nat_le (number x) (number y)) (length_insert number x ys)

pub length_sorted : {X : Type 0} (number : X → ℕ) (xs : List X) → length (sorted_by number xs) ≡ length xs
length_sorted number [] = refl
length_sorted number (x ∷ xs) =
    let one = length_insert number x (sorted_by number xs) in
    let rest = length_sorted number xs in
    omega arith

pub count_sorted : {X : Type 0} (number : X → ℕ) (p : X → Bool) (xs : List X) → count_by p (sorted_by number xs) ≡ count_by p xs
count_sorted number p xs =
    sym (length-filter p (sorted_by number xs)) ∙ ap (λ ys. length ys) (filter_sorted number p xs) ∙ length_sorted number (filter p xs) ∙ length-filter p xs

-- ---- the least one

lower_swap : {X : Type 0} (number : X → ℕ) (x y : X) (o : Option X) → nat_le (number x) (number y) ≡ false → lower_of number y (lower_of number x o) ≡ lower_of number x (lower_of number y o)
lower_swap number x y None is = grind (arith, nat_tests)
lower_swap number x y (Some z) is = grind (arith, nat_tests)

least_placed : {X : Type 0} (number : X → ℕ) (x y : X) (ys : List X) (b : Bool) → nat_le (number x) (number y) ≡ b → least_by number (insert_by number x ys) ≡ lower_of number x (least_by number ys)
    → least_by number (cond b (x ∷ y ∷ ys) (y ∷ insert_by number x ys)) ≡ lower_of number x (least_by number (y ∷ ys))
least_placed number x y ys true is later = refl
least_placed number x y ys false is later = ap (lower_of number y) later ∙ lower_swap number x y (least_by number ys) is

least_insert : {X : Type 0} (number : X → ℕ) (x : X) (ys : List X) → least_by number (insert_by number x ys) ≡ lower_of number x (least_by number ys)
least_insert number x [] = refl
least_insert number x (y ∷ ys) = least_placed number x y ys (nat_le (number x) (number y)) refl (least_insert number x ys)

pub least_sorted : {X : Type 0} (number : X → ℕ) (xs : List X) → least_by number (sorted_by number xs) ≡ least_by number xs
least_sorted number [] = refl
least_sorted number (x ∷ xs) = least_insert number x (sorted_by number xs) ∙ ap (lower_of number x) (least_sorted number xs)

-- ---- a change that keeps the numbers

map_placed : {X : Type 0} (number : X → ℕ) (h : X → X) (x y : X) (ys : List X) (b c : Bool) → c ≡ b → map h (insert_by number x ys) ≡ insert_by number (h x) (map h ys)
    → map h (cond b (x ∷ y ∷ ys) (y ∷ insert_by number x ys)) ≡ cond c (h x ∷ h y ∷ map h ys) (h y ∷ insert_by number (h x) (map h ys))
map_placed number h x y ys true true is later = refl
map_placed number h x y ys true false is later = absurd (cc)
map_placed number h x y ys false true is later = absurd (cc)
map_placed number h x y ys false false is later = ap (λ zs. h y ∷ zs) later

map_insert : {X : Type 0} (number : X → ℕ) (h : X → X) (keeps : (x : X) → number (h x) ≡ number x) (x : X) (ys : List X) → map h (insert_by number x ys) ≡ insert_by number (h x) (map h ys)
map_insert number h keeps x [] = refl
map_insert number h keeps x (y ∷ ys) =
    map_placed number h x y ys (nat_le (number x) (number y)) (nat_le (number (h x)) (number (h y)))
    (ap (λ n. nat_le n (number (h y))) (keeps x) ∙ ap (nat_le (number x)) (keeps y)) (map_insert number h keeps x ys)

pub map_sorted : {X : Type 0} (number : X → ℕ) (h : X → X) (keeps : (x : X) → number (h x) ≡ number x) (xs : List X) → map h (sorted_by number xs) ≡ sorted_by number (map h xs)
map_sorted number h keeps [] = refl
map_sorted number h keeps (x ∷ xs) = map_insert number h keeps x (sorted_by number xs) ∙ ap (insert_by number (h x)) (map_sorted number h keeps xs)

-- ---- one more, wherever it stands

comm_front : {X : Type 0} (number : X → ℕ) (x y z : X) (zs : List X) (b : Bool) → nat_le (number x) (number y) ≡ b → (number x ≡ number y → ⊥) → nat_le (number x) (number z) ≡ true → nat_le (number y) (number z) ≡ true
    → insert_by number x (y ∷ z ∷ zs) ≡ insert_by number y (x ∷ z ∷ zs)
comm_front number x y z zs true is apart xz yz =
    let below : number x ≤ number y = leb-true (number x) (number y) is in
    let other : nat_le (number y) (number x) ≡ false = lt-leb (number y) (number x) (omega arith) in
    insert_before number x y (z ∷ zs) is ∙ sym (insert_after number y x (z ∷ zs) other ∙ ap (λ ys. x ∷ ys) (insert_before number y z zs yz))
comm_front number x y z zs false is apart xz yz =
    let above : number y < number x = leb-false (number x) (number y) is in
    let other : nat_le (number y) (number x) ≡ true = le-leb (number y) (number x) (omega arith) in
    insert_after number x y (z ∷ zs) is ∙ ap (λ ys. y ∷ ys) (insert_before number x z zs xz) ∙ sym (insert_before number y x (z ∷ zs) other)

comm_at : {X : Type 0} (number : X → ℕ) (x y z : X) (zs : List X) (b c : Bool) → nat_le (number x) (number z) ≡ b → nat_le (number y) (number z) ≡ c → (number x ≡ number y → ⊥)
    → insert_by number x (insert_by number y zs) ≡ insert_by number y (insert_by number x zs) → insert_by number x (insert_by number y (z ∷ zs)) ≡ insert_by number y (insert_by number x (z ∷ zs))
comm_at number x y z zs true true xz yz apart later =
    ap (insert_by number x) (insert_before number y z zs yz) ∙ comm_front number x y z zs (nat_le (number x) (number y)) refl apart xz yz ∙ ap (insert_by number y) (sym (insert_before number x z zs xz))
comm_at number x y z zs true false xz yz apart later =
    let below : number x ≤ number z = leb-true (number x) (number z) xz in
    let above : number z < number y = leb-false (number y) (number z) yz in
    let yx : nat_le (number y) (number x) ≡ false = lt-leb (number y) (number x) (omega arith) in
    ap (insert_by number x) (insert_after number y z zs yz) ∙ insert_before number x z (insert_by number y zs) xz
    ∙ sym (ap (insert_by number y) (insert_before number x z zs xz) ∙ insert_after number y x (z ∷ zs) yx ∙ ap (λ ys. x ∷ ys) (insert_after number y z zs yz))
comm_at number x y z zs false true xz yz apart later =
    let above : number z < number x = leb-false (number x) (number z) xz in
    let below : number y ≤ number z = leb-true (number y) (number z) yz in
    let xy : nat_le (number x) (number y) ≡ false = lt-leb (number x) (number y) (omega arith) in
    ap (insert_by number x) (insert_before number y z zs yz) ∙ insert_after number x y (z ∷ zs) xy ∙ ap (λ ys. y ∷ ys) (insert_after number x z zs xz)
    ∙ sym (ap (insert_by number y) (insert_after number x z zs xz) ∙ insert_before number y z (insert_by number x zs) yz)
comm_at number x y z zs false false xz yz apart later =
    ap (insert_by number x) (insert_after number y z zs yz) ∙ insert_after number x z (insert_by number y zs) xz ∙ ap (λ ys. z ∷ ys) later
    ∙ sym (ap (insert_by number y) (insert_after number x z zs xz) ∙ insert_after number y z (insert_by number x zs) yz)

comm_none : {X : Type 0} (number : X → ℕ) (x y : X) (b : Bool) → nat_le (number x) (number y) ≡ b → (number x ≡ number y → ⊥) → insert_by number x (y ∷ []) ≡ insert_by number y (x ∷ [])
comm_none number x y true is apart =
    let below : number x ≤ number y = leb-true (number x) (number y) is in
    insert_before number x y [] is ∙ sym (insert_after number y x [] (lt-leb (number y) (number x) (omega arith)))
comm_none number x y false is apart =
    let above : number y < number x = leb-false (number x) (number y) is in
    insert_after number x y [] is ∙ sym (insert_before number y x [] (le-leb (number y) (number x) (omega arith)))

insert_comm : {X : Type 0} (number : X → ℕ) (x y : X) (zs : List X) → (number x ≡ number y → ⊥) → insert_by number x (insert_by number y zs) ≡ insert_by number y (insert_by number x zs)
insert_comm number x y [] apart = comm_none number x y (nat_le (number x) (number y)) refl apart
insert_comm number x y (z ∷ zs) apart =
    comm_at number x y z zs (nat_le (number x) (number z)) (nat_le (number y) (number z)) refl refl apart (insert_comm number x y zs apart)

pub sorted_put : {X : Type 0} (number : X → ℕ) (x : X) (prefix back : List X) → AllByRecursion (λ y. number y ≡ number x → ⊥) prefix → sorted_by number (prefix ++ x ∷ back) ≡ insert_by number x (sorted_by number (prefix ++ back))
sorted_put number x [] back apart = refl
sorted_put number x (y ∷ prefix) back apart =
    ap (insert_by number y) (sorted_put number x prefix back apart.1) ∙ insert_comm number y x (sorted_by number (prefix ++ back)) apart.0

-- one with a higher number than each stands last
pub insert_last : {X : Type 0} (number : X → ℕ) (x : X) (ys : List X) → AllByRecursion (λ y. number y < number x) ys → insert_by number x ys ≡ ys ++ x ∷ []
insert_last number x [] all = refl
insert_last number x (y ∷ ys) all = insert_after number x y ys (lt-leb (number x) (number y) all.0) ∙ ap (λ zs. y ∷ zs) (insert_last number x ys all.1)

-- ---- THE ELEMENTS THAT PASS A TEST

-- ---- none passes

pub filter_none : {X : Type 0} (p : X → Bool) (xs : List X) → AllByRecursion (λ x. p x ≡ false) xs → filter p xs ≡ []
filter_none p [] none = refl
filter_none p (x ∷ xs) none = rw none.0 (filter_none p xs none.1)

none_cons : {X : Type 0} (b : Bool) (x : X) (xs : List X) → cond b (x ∷ xs) xs ≡ [] → (b ≡ false) × (xs ≡ [])
none_cons true x xs is = absurd (cc)
none_cons false x xs is = (refl, is)

pub none_passes : {X : Type 0} (p : X → Bool) (xs : List X) → filter p xs ≡ [] → AllByRecursion (λ x. p x ≡ false) xs
none_passes p [] is = tt
none_passes p (x ∷ xs) is = let parts = none_cons (p x) x (filter p xs) is in (parts.0, none_passes p xs parts.1)

pub keep_all : {X : Type 0} (p : X → Bool) (xs : List X) → AllByRecursion (λ x. p x ≡ false) xs → filter (λ x. not (p x)) xs ≡ xs
keep_all p [] none = refl
keep_all p (x ∷ xs) none = rw none.0 (ap (λ ys. x ∷ ys) (keep_all p xs none.1))

pub change_none : {X : Type 0} (p : X → Bool) (v : X) (xs : List X) → AllByRecursion (λ x. p x ≡ false) xs → map (λ x. if p x then v else x) xs ≡ xs
change_none p v [] none = refl
change_none p v (x ∷ xs) none = rw none.0 (ap (λ ys. x ∷ ys) (change_none p v xs none.1))

count_none : {X : Type 0} (p : X → Bool) (x : X) (xs : List X) (n : ℕ) → n ≡ count_by p xs → (b : Bool) → cond b 1 0 + n ≤ 0 → (b ≡ false) × (count_by p xs ≤ 0)
count_none p x xs n is true few = absurd (omega arith)
count_none p x xs n is false few = (refl, omega arith)

pub none_counted : {X : Type 0} (p : X → Bool) (xs : List X) → count_by p xs ≤ 0 → AllByRecursion (λ x. p x ≡ false) xs
none_counted p [] few = tt
none_counted p (x ∷ xs) few =
    let whole = sum_by-cons (λ z. cond (p z) 1 0) x xs in
    let parts = count_none p x xs (count_by p xs) refl (p x) (omega arith) in
    (parts.0, none_counted p xs parts.1)

-- ---- the first that passes

find_kept : {X : Type 0} (p : X → Bool) (b : Bool) (x : X) (xs : List X) → p x ≡ b → find p (filter p xs) ≡ find p xs → find p (cond b (x ∷ filter p xs) (filter p xs)) ≡ cond b (Some x) (find p xs)
find_kept p true x xs is later = rw is refl
find_kept p false x xs is later = later

pub find_filter : {X : Type 0} (p : X → Bool) (xs : List X) → find p (filter p xs) ≡ find p xs
find_filter p [] = refl
find_filter p (x ∷ xs) = find_kept p (p x) x xs refl (find_filter p xs)

pub find_none : {X : Type 0} (p : X → Bool) (xs : List X) → AllByRecursion (λ x. p x ≡ false) xs → find p xs ≡ None
find_none p [] none = refl
find_none p (x ∷ xs) none = rw none.0 (find_none p xs none.1)

missed : {X : Type 0} (b : Bool) (x : X) (o : Option X) → cond b (Some x) o ≡ None → (b ≡ false) × (o ≡ None)
missed true x o is = absurd (cc)
missed false x o is = (refl, is)

pub none_found : {X : Type 0} (p : X → Bool) (xs : List X) → find p xs ≡ None → AllByRecursion (λ x. p x ≡ false) xs
none_found p [] is = tt
none_found p (x ∷ xs) is = let parts = missed (p x) x (find p xs) is in (parts.0, none_found p xs parts.1)

-- ---- at most one passes

short_sorted : {X : Type 0} (number : X → ℕ) (xs : List X) → length xs ≤ 1 → sorted_by number xs ≡ xs
short_sorted number [] short = refl
short_sorted number (x ∷ []) short = refl
short_sorted number (x ∷ y ∷ xs) short = absurd (omega arith)

pub one_sorted : {X : Type 0} (number : X → ℕ) (p : X → Bool) (xs : List X) → count_by p xs ≤ 1 → filter p (sorted_by number xs) ≡ filter p xs
one_sorted number p xs once = filter_sorted number p xs ∙ short_sorted number (filter p xs) (let same = length-filter p xs in omega arith)

-- the search of the sorted list is that of a part with the same that pass
pub find_sorted : {X : Type 0} (number : X → ℕ) (p : X → Bool) (xs part : List X) → count_by p xs ≤ 1 → filter p xs ≡ filter p part → find p (sorted_by number xs) ≡ find p part
find_sorted number p xs part once same =
    sym (find_filter p (sorted_by number xs)) ∙ ap (find p) (one_sorted number p xs once ∙ same) ∙ find_filter p part

-- so is the least one that passes
pub least_of : {X : Type 0} (number : X → ℕ) (p : X → Bool) (xs part : List X) → filter p xs ≡ filter p part → least_by number (filter p (sorted_by number xs)) ≡ least_by number (filter p part)
least_of number p xs part same =
    ap (least_by number) (filter_sorted number p xs) ∙ least_sorted number (filter p xs) ∙ ap (least_by number) same

pub all_pass : {X : Type 0} (p : X → Bool) (xs : List X) → AllByRecursion (λ x. p x ≡ true) xs → filter p xs ≡ xs
all_pass p [] all = refl
all_pass p (x ∷ xs) all = rw all.0 (ap (λ ys. x ∷ ys) (all_pass p xs all.1))

-- where just a part passes, the sorted list has as many that pass as the part has members
pub count_part : {X : Type 0} (number : X → ℕ) (p : X → Bool) (xs part : List X) → filter p xs ≡ filter p part → AllByRecursion (λ x. p x ≡ true) part → count_by p (sorted_by number xs) ≡ length part
count_part number p xs part same all =
    count_sorted number p xs ∙ sym (length-filter p xs) ∙ ap (λ ys. length ys) (same ∙ all_pass p part all)

-- ---- an update of the one that passes

update_one : {X : Type 0} (p : X → Bool) (v x : X) (xs : List X) (b : Bool) → cond b 1 0 + count_by p xs ≤ 1 → update_first p (λ _. v) xs ≡ map (λ y. if p y then v else y) xs
    → cond b (v ∷ xs) (x ∷ update_first p (λ _. v) xs) ≡ cond b v x ∷ map (λ y. if p y then v else y) xs
update_one p v x xs true once later = ap (λ ys. v ∷ ys) (sym (change_none p v xs (none_counted p xs (omega arith))))
update_one p v x xs false once later = ap (λ ys. x ∷ ys) later

pub update_is : {X : Type 0} (p : X → Bool) (v : X) (xs : List X) → count_by p xs ≤ 1 → update_first p (λ _. v) xs ≡ map (λ y. if p y then v else y) xs
update_is p v [] once = refl
update_is p v (x ∷ xs) once =
    let whole = sum_by-cons (λ z. cond (p z) 1 0) x xs in
    let few : cond (p x) 1 0 + count_by p xs ≤ 1 = omega arith in
    update_one p v x xs (p x) few (update_is p v xs (omega arith))

-- ---- counts after a change

pub count_put : {X : Type 0} (p : X → Bool) (x : X) (prefix back : List X) → count_by p (prefix ++ x ∷ back) ≡ cond (p x) 1 0 + count_by p (prefix ++ back)
count_put p x prefix back =
    let one = sum_by-append (λ z. cond (p z) 1 0) prefix (x ∷ back) in
    let two = sum_by-cons (λ z. cond (p z) 1 0) x back in
    let three = sum_by-append (λ z. cond (p z) 1 0) prefix back in
    omega arith

count_less : {X : Type 0} (p : X → Bool) (b : Bool) (x : X) (xs ys : List X) → count_by p ys ≤ count_by p xs → count_by p (cond b (x ∷ ys) ys) ≤ cond (p x) 1 0 + count_by p xs
count_less p true x xs ys less = let whole = sum_by-cons (λ z. cond (p z) 1 0) x ys in omega arith
count_less p false x xs ys less = omega arith

pub count_filter : {X : Type 0} (p q : X → Bool) (xs : List X) → count_by p (filter q xs) ≤ count_by p xs
count_filter p q [] = omega arith
count_filter p q (x ∷ xs) =
    let whole = sum_by-cons (λ z. cond (p z) 1 0) x xs in
    let less = count_less p (q x) x xs (filter q xs) (count_filter p q xs) in
    omega arith

pub count_map : {X : Type 0} (p : X → Bool) (h : X → X) (xs : List X) → AllByRecursion (λ x. p (h x) ≡ p x) xs → count_by p (map h xs) ≡ count_by p xs
count_map p h [] same = refl
count_map p h (x ∷ xs) same =
    sum_by-cons (λ z. cond (p z) 1 0) (h x) (map h xs) ∙ ap (λ (b : Bool). cond b 1 0 + count_by p (map h xs)) same.0 ∙ ap (λ n. cond (p x) 1 0 + n) (count_map p h xs same.1)
    ∙ sym (sum_by-cons (λ z. cond (p z) 1 0) x xs)

-- ---- what holds of those that pass

passes_cons : {X : Type 0} (P : X → Type 0) (p : X → Bool) (b : Bool) (x : X) (xs : List X) → p x ≡ b → AllByRecursion P (cond b (x ∷ filter p xs) (filter p xs)) → (p x ≡ true → P x) × AllByRecursion P (filter p xs)
passes_cons P p true x xs is all = ((λ _. all.0), all.1)
passes_cons P p false x xs is all = ((λ yes. absurd (cc)), all)

pub from_filter : {X : Type 0} (P : X → Type 0) (p : X → Bool) (xs : List X) → AllByRecursion P (filter p xs) → AllByRecursion (λ x. p x ≡ true → P x) xs
from_filter P p [] all = tt
from_filter P p (x ∷ xs) all = let parts = passes_cons P p (p x) x xs refl all in (parts.0, from_filter P p xs parts.1)

single : {X : Type 0} (P : X → Type 0) (p : X → Bool) (x : X) (xs : List X) → length xs ≤ 1 → AllByRecursion (λ y. p y ≡ true) xs → find p xs ≡ Some x → P x → AllByRecursion P xs
single P p x [] short pass found here = tt
single P p x (y ∷ []) short pass found here =
    let same : y ≡ x = (let first : Some y ≡ Some x = rw pass.0 at found in cc) in
    (subst P (sym same) here, tt)
single P p x (y ∷ z ∷ xs) short pass found here = absurd (omega arith)

filter_pass_cons : {X : Type 0} (p : X → Bool) (b : Bool) (x : X) (xs : List X) → p x ≡ b → AllByRecursion (λ y. p y ≡ true) xs → AllByRecursion (λ y. p y ≡ true) (cond b (x ∷ xs) xs)
filter_pass_cons p true x xs is all = (is, all)
filter_pass_cons p false x xs is all = all

filter_pass : {X : Type 0} (p : X → Bool) (xs : List X) → AllByRecursion (λ x. p x ≡ true) (filter p xs)
filter_pass p [] = tt
filter_pass p (x ∷ xs) = filter_pass_cons p (p x) x (filter p xs) refl (filter_pass p xs)

-- what holds of the one that is found holds of each that passes, where at most one does
pub found_holds : {X : Type 0} (P : X → Type 0) (p : X → Bool) (x : X) (xs : List X) → count_by p xs ≤ 1 → find p xs ≡ Some x → P x → AllByRecursion (λ y. p y ≡ true → P y) xs
found_holds P p x xs once found here =
    from_filter P p xs (single P p x (filter p xs) (let same = length-filter p xs in omega arith) (filter_pass p xs) (find_filter p xs ∙ found) here)

pub count_zero : {X : Type 0} (p : X → Bool) (xs : List X) → AllByRecursion (λ x. p x ≡ false) xs → count_by p xs ≡ 0
count_zero p xs none = sym (length-filter p xs) ∙ ap (λ ys. length ys) (filter_none p xs none)

-- one more passes, where none did, or it doesn't pass
pub put_once : {X : Type 0} (p : X → Bool) (x : X) (prefix back : List X) (b : Bool) → p x ≡ b → (p x ≡ true → AllByRecursion (λ y. p y ≡ false) (prefix ++ back)) → count_by p (prefix ++ back) ≤ 1 → count_by p (prefix ++ x ∷ back) ≤ 1
put_once p x prefix back true is none once =
    let whole = count_put p x prefix back ∙ ap (λ (b : Bool). cond b 1 0 + count_by p (prefix ++ back)) is in
    let zero_there = count_zero p (prefix ++ back) (none is) in
    omega arith
put_once p x prefix back false is none once =
    let whole = count_put p x prefix back ∙ ap (λ (b : Bool). cond b 1 0 + count_by p (prefix ++ back)) is in
    omega arith

-- ---- LISTS WITH THE SAME MEMBERS

-- the member stands in the list
abbrev pub Has : {X : Type 0} → X → List X → Type 0
Has x [] = ⊥
Has x (y ∷ ys) = (y ≡ x) ⊎ Has x ys

all_has : {X : Type 0} (P : X → Type 0) (x : X) (ys : List X) → AllByRecursion P ys → Has x ys → P x
all_has P x [] all has = absurd has
all_has P x (y ∷ ys) all (inl is) = subst P is all.0
all_has P x (y ∷ ys) all (inr has) = all_has P x ys all.1 has

-- ---- one list from its members

heads_same : {X : Type 0} (number : X → ℕ) (a b : X) (us vs : List X) → AllByRecursion (λ y. number a < number y) us → AllByRecursion (λ y. number b < number y) vs → (b ≡ a) ⊎ Has a vs → (a ≡ b) ⊎ Has b us → a ≡ b
heads_same number a b us vs up_a up_b (inl is) there = sym is
heads_same number a b us vs up_a up_b (inr has_a) (inl is) = is
heads_same number a b us vs up_a up_b (inr has_a) (inr has_b) =
    let one : number b < number a = all_has (λ y. number b < number y) a vs up_b has_a in
    let two : number a < number b = all_has (λ y. number a < number y) b us up_a has_b in
    absurd (omega arith)

tail_has : {X : Type 0} (number : X → ℕ) (a b x : X) (us vs : List X) → AllByRecursion (λ y. number a < number y) us → a ≡ b → Has x us → (b ≡ x) ⊎ Has x vs → Has x vs
tail_has number a b x us vs up same has (inl is) =
    let above : number a < number x = all_has (λ y. number a < number y) x us up has in
    let equal : number a ≡ number x = ap number (same ∙ is) in
    absurd (omega arith)
tail_has number a b x us vs up same has (inr there) = there

pub same_strict : {X : Type 0} (number : X → ℕ) (us vs : List X) → IsStrict number us → IsStrict number vs → ((x : X) → Has x us → Has x vs) → ((x : X) → Has x vs → Has x us) → us ≡ vs
same_strict number [] [] up_a up_b to fro = refl
same_strict number [] (b ∷ vs) up_a up_b to fro = absurd (fro b (inl refl))
same_strict number (a ∷ us) [] up_a up_b to fro = absurd (to a (inl refl))
same_strict number (a ∷ us) (b ∷ vs) up_a up_b to fro =
    let same : a ≡ b = heads_same number a b us vs up_a.0 up_b.0 (to a (inl refl)) (fro b (inl refl)) in
    let rest : us ≡ vs = same_strict number us vs up_a.1 up_b.1 (λ x has. tail_has number a b x us vs up_a.0 same has (to x (inr has))) (λ x has. tail_has number b a x vs us up_b.0 (sym same) has (fro x (inr has))) in
    cc

-- ---- members of sorted lists

has_placed : {X : Type 0} (number : X → ℕ) (x z y : X) (ys : List X) (b : Bool) → ((x ≡ z) ⊎ Has z ys → Has z (insert_by number x ys)) → (x ≡ z) ⊎ Has z (y ∷ ys) → Has z (cond b (x ∷ y ∷ ys) (y ∷ insert_by number x ys))
has_placed number x z y ys true later has = has
has_placed number x z y ys false later (inl is) = inr (later (inl is))
has_placed number x z y ys false later (inr (inl is)) = inl is
has_placed number x z y ys false later (inr (inr has)) = inr (later (inr has))

has_insert : {X : Type 0} (number : X → ℕ) (x z : X) (ys : List X) → (x ≡ z) ⊎ Has z ys → Has z (insert_by number x ys)
has_insert number x z [] has = has
has_insert number x z (y ∷ ys) has = has_placed number x z y ys (nat_le (number x) (number y)) (has_insert number x z ys) has

later_of : {X : Type 0} (x z y : X) (ys : List X) → (x ≡ z) ⊎ Has z ys → (x ≡ z) ⊎ Has z (y ∷ ys)
later_of x z y ys (inl is) = inl is
later_of x z y ys (inr has) = inr (inr has)

from_placed : {X : Type 0} (number : X → ℕ) (x z y : X) (ys : List X) (b : Bool) → (Has z (insert_by number x ys) → (x ≡ z) ⊎ Has z ys) → Has z (cond b (x ∷ y ∷ ys) (y ∷ insert_by number x ys)) → (x ≡ z) ⊎ Has z (y ∷ ys)
from_placed number x z y ys true later has = has
from_placed number x z y ys false later (inl is) = inr (inl is)
from_placed number x z y ys false later (inr has) = later_of x z y ys (later has)

from_insert : {X : Type 0} (number : X → ℕ) (x z : X) (ys : List X) → Has z (insert_by number x ys) → (x ≡ z) ⊎ Has z ys
from_insert number x z [] has = has
from_insert number x z (y ∷ ys) has = from_placed number x z y ys (nat_le (number x) (number y)) (from_insert number x z ys) has

has_sorted_cons : {X : Type 0} (number : X → ℕ) (x z : X) (xs ys : List X) → (Has z xs → Has z ys) → (x ≡ z) ⊎ Has z xs → Has z (insert_by number x ys)
has_sorted_cons number x z xs ys later (inl is) = has_insert number x z ys (inl is)
has_sorted_cons number x z xs ys later (inr has) = has_insert number x z ys (inr (later has))

pub has_sorted : {X : Type 0} (number : X → ℕ) (z : X) (xs : List X) → Has z xs → Has z (sorted_by number xs)
has_sorted number z [] has = has
has_sorted number z (x ∷ xs) has = has_sorted_cons number x z xs (sorted_by number xs) (has_sorted number z xs) has

from_sorted_cons : {X : Type 0} (x z : X) (xs ys : List X) → (Has z ys → Has z xs) → (x ≡ z) ⊎ Has z ys → (x ≡ z) ⊎ Has z xs
from_sorted_cons x z xs ys later (inl is) = inl is
from_sorted_cons x z xs ys later (inr has) = inr (later has)

pub from_sorted : {X : Type 0} (number : X → ℕ) (z : X) (xs : List X) → Has z (sorted_by number xs) → Has z xs
from_sorted number z [] has = has
from_sorted number z (x ∷ xs) has = from_sorted_cons x z xs (sorted_by number xs) (from_sorted number z xs) (from_insert number x z (sorted_by number xs) has)

-- ---- members by place

has_at : {X : Type 0} (x d : X) (xs : List X) (k : ℕ) → k < length xs → get_or xs k d ≡ x → Has x xs
has_at x d [] k within is = absurd (omega arith)
has_at x d (y ∷ ys) zero within is = inl is
has_at x d (y ∷ ys) (suc k) within is = inr (has_at x d ys k (omega arith) is)

pub has_contained : {X : Type 0} (x : X) (xs : List X) → Contains xs x → Has x xs
has_contained x xs within = has_at x x xs within.0 within.1 within.2

contained_here : {X : Type 0} (x y : X) (ys : List X) → y ≡ x → Contains (y ∷ ys) x
contained_here x y ys is = (0, omega arith, is)

contained_later : {X : Type 0} (x y : X) (ys : List X) → Contains ys x → Contains (y ∷ ys) x
contained_later x y ys within = (suc within.0, (let lt = within.1 in omega arith), within.2)

pub contains_from : {X : Type 0} (x : X) (xs : List X) → Has x xs → Contains xs x
contains_from x [] has = absurd has
contains_from x (y ∷ ys) (inl is) = contained_here x y ys is
contains_from x (y ∷ ys) (inr has) = contained_later x y ys (contains_from x ys has)

-- ---- order

all_above : {X : Type 0} (number : X → ℕ) (n : ℕ) (d : X) (ys : List X) → ((k : ℕ) → k < length ys → n ≤ number (get_or ys k d)) → AllByRecursion (λ y. n ≤ number y) ys
all_above number n d [] at = tt
all_above number n d (y ∷ ys) at = (at 0 (omega arith), all_above number n d ys (λ k within. at (suc k) (omega arith)))

pub up_from : {X : Type 0} (number : X → ℕ) (xs : List X) → IsNonDecreasingBy number xs → IsUp number xs
up_from number [] order = tt
up_from number (x ∷ xs) order = (
  all_above number (number x) x xs (λ k within. order 0 (suc k) x (omega arith) (omega arith)),
  up_from number xs (λ i j d le within. order (suc i) (suc j) d (omega arith) (omega arith)),
)

none_there : {X : Type 0} (number : X → ℕ) (n : ℕ) (y : X) (count : ℕ) (b : Bool) → (number y == n) ≡ b → cond b 1 0 + count ≤ 0 → n ≤ number y → (n < number y) × (count ≤ 0)
none_there number n y count true is none at = absurd (omega arith)
none_there number n y count false is none at = let apart = eqb-false (number y) n is in (omega arith, omega arith)

all_strict : {X : Type 0} (number : X → ℕ) (n : ℕ) (ys : List X) → AllByRecursion (λ y. n ≤ number y) ys → count_by (λ y. number y == n) ys ≤ 0 → AllByRecursion (λ y. n < number y) ys
all_strict number n [] all none = tt
all_strict number n (y ∷ ys) all none =
    let whole = sum_by-cons (λ (z : _). cond (number z == n) 1 0) y ys in
    let here = none_there number n y (count_by (λ y. number y == n) ys) (number y == n) refl (omega arith) all.0 in
    (here.0, all_strict number n ys all.1 here.1)

own_step : (b : Bool) (n : ℕ) → b ≡ true → cond b 1 0 + n ≤ 1 → n ≤ 0
own_step true n is once = omega arith
own_step false n is once = absurd (cc)

own : {X : Type 0} (number : X → ℕ) (x : X) (xs : List X) → count_by (λ y. number y == number x) (x ∷ xs) ≤ 1 → count_by (λ y. number y == number x) xs ≤ 0
own number x xs once =
    let whole = sum_by-cons (λ (z : _). cond (number z == number x) 1 0) x xs in
    own_step (number x == number x) (count_by (λ y. number y == number x) xs) (eq-eqb (number x) (number x) refl) (omega arith)

tail_count : {X : Type 0} (p : X → Bool) (x : X) (xs : List X) → count_by p (x ∷ xs) ≤ 1 → count_by p xs ≤ 1
tail_count p x xs once = let whole = sum_by-cons (λ z. cond (p z) 1 0) x xs in omega arith

pub strict_from : {X : Type 0} (number : X → ℕ) (xs : List X) → IsUp number xs → ((n : ℕ) → count_by (λ y. number y == n) xs ≤ 1) → IsStrict number xs
strict_from number [] up once = tt
strict_from number (x ∷ xs) up once = (all_strict number (number x) xs up.0 (own number x xs (once (number x))), strict_from number xs up.1 (λ n. tail_count (λ y. number y == n) x xs (once n)))

-- what a sort leaves is the list in order of its numbers, each there once
pub sorted_once : {X : Type 0} (number : X → ℕ) (xs ys : List X) → IsPermutation xs ys → IsNonDecreasingBy number ys → ((n : ℕ) → count_by (λ y. number y == n) xs ≤ 1) → ys ≡ sorted_by number xs
sorted_once number xs ys moved order once =
    same_strict number ys (sorted_by number xs)
    (strict_from number ys (up_from number ys order) (λ n. let same = sum_by-IsPermutation (λ y. cond (number y == n) 1 0) xs ys moved in let few = once n in omega arith))
    (strict_from number (sorted_by number xs) (sorted_up number xs) (λ n. let same = count_sorted number (λ y. number y == n) xs in let few = once n in omega arith))
    (λ x has. has_sorted number x xs (has_contained x xs (Contains-permutation ys xs x (IsPermutation-sym xs ys moved) (contains_from x ys has))))
    (λ x has. has_contained x ys (Contains-permutation xs ys x moved (contains_from x xs (from_sorted number x xs has))))

-- lists with the same members, each number there once, are the same in order
pub sorted_moved : {X : Type 0} (number : X → ℕ) (xs ys : List X) → IsPermutation xs ys → ((n : ℕ) → count_by (λ y. number y == n) xs ≤ 1) → sorted_by number xs ≡ sorted_by number ys
sorted_moved number xs ys moved once =
    same_strict number (sorted_by number xs) (sorted_by number ys)
    (strict_from number (sorted_by number xs) (sorted_up number xs) (λ n. let same = count_sorted number (λ y. number y == n) xs in let few = once n in omega arith))
    (strict_from number (sorted_by number ys) (sorted_up number ys)
    (λ n. let same = count_sorted number (λ y. number y == n) ys in let moves = sum_by-IsPermutation (λ y. cond (number y == n) 1 0) xs ys moved in let few = once n in omega arith))
    (λ x has. has_sorted number x ys (has_contained x ys (Contains-permutation xs ys x moved (contains_from x xs (from_sorted number x xs has)))))
    (λ x has. has_sorted number x xs (has_contained x xs (Contains-permutation ys xs x (IsPermutation-sym xs ys moved) (contains_from x ys (from_sorted number x ys has)))))

rising_at : {X : Type 0} (number : X → ℕ) (ys : List X) → IsStrict number ys → (k : ℕ) → suc k < length (map number ys) → get_or (map number ys) k 0 < get_or (map number ys) (suc k) 0
rising_at number [] strict k within = absurd (omega arith)
rising_at number (y ∷ []) strict k within = absurd (omega arith)
rising_at number (y ∷ z ∷ ys) strict zero within = strict.0.0
rising_at number (y ∷ z ∷ ys) strict (suc k) within = rising_at number (z ∷ ys) strict.1 k (omega arith)

pub rising_from : {X : Type 0} (number : X → ℕ) (ys : List X) → IsStrict number ys → IsStrictlyIncreasing (map number ys)
rising_from number ys strict = λ k within. rw add-one (rising_at number ys strict k (omega arith))
