-- The values of entries, by tests that agree with those of the keys.
use Rattle.std.proofs.Common.{◌≡◌, Bool, true, false, not, cond, refl, sym, ap, ◌∙◌, List, [], ◌∷◌, Option, Some, None, map}
use Rattle.std.specs.List.{find, filter, AllByRecursion}
use Rattle.std.specs.Map.{values_of, keys_of, lookup, remove_entry, set_value}
use Rattle.std.specs.Option.{option_map}

pub all_weaken : {X : Type 0} (P Q : X → Type 0) → ((x : X) → P x → Q x) → (xs : List X) → AllByRecursion P xs → AllByRecursion Q xs
all_weaken P Q f [] all = tt
all_weaken P Q f (x ∷ xs) all = (f x all.0, all_weaken P Q f xs all.1)

-- what holds of each entry and of each key, together
pub all_join : {K X : Type 0} (P : K × X → Type 0) (Q : K → Type 0) (R : K × X → Type 0) → ((e : K × X) → P e → Q e.0 → R e) → (es : List (K × X)) → AllByRecursion P es → AllByRecursion Q (keys_of es) → AllByRecursion R es
all_join P Q R f [] all keys = tt
all_join P Q R f (e ∷ es) all keys = (f e all.0 keys.0, all_join P Q R f es all.1 keys.1)

pub all_values : {K X : Type 0} (P : X → Type 0) → (es : List (K × X)) → AllByRecursion (λ e. P e.1) es → AllByRecursion P (values_of es)
all_values P [] all = tt
all_values P (e ∷ es) all = (all.0, all_values P es all.1)

pub all_keys : {K X : Type 0} (P : K → Type 0) → (es : List (K × X)) → AllByRecursion (λ e. P e.0) es → AllByRecursion P (keys_of es)
all_keys P [] all = tt
all_keys P (e ∷ es) all = (all.0, all_keys P es all.1)

all_kept : {X Y : Type 0} (P : Y → Type 0) (f : X → Y) (q : X → Bool) (x : X) (b : Bool) (xs : List X) → P (f x) → AllByRecursion P (map f xs) → AllByRecursion P (map f (cond b (x ∷ xs) xs))
all_kept P f q x true xs here all = (here, all)
all_kept P f q x false xs here all = all

pub all_filter : {X Y : Type 0} (P : Y → Type 0) (f : X → Y) (q : X → Bool) (xs : List X) → AllByRecursion P (map f xs) → AllByRecursion P (map f (filter q xs))
all_filter P f q [] all = tt
all_filter P f q (x ∷ xs) all = all_kept P f q x (q x) (filter q xs) all.0 (all_filter P f q xs all.1)

-- at most one key passes
abbrev pub Once : {K : Type 0} → (K → Bool) → List K → Type 0
Once t [] = Unit {0}
Once t (k ∷ ks) = (t k ≡ true → AllByRecursion (λ q. t q ≡ false) ks) × Once t ks

module _ {K X : Type 0} (p : X → Bool) (t : K → Bool) where
  -- a test of the values says at each entry what the test of the keys says
  abbrev pub Agree : List (K × X) → Type 0
  Agree es = AllByRecursion (λ e. p e.1 ≡ t e.0) es

  pub find-values : (es : List (K × X)) → Agree es → find p (values_of es) ≡ lookup t es
  find-values [] agree = refl
  find-values (e ∷ es) agree = rw (agree.0, find-values es agree.1) refl

  pub filter-none : (es : List (K × X)) → Agree es → AllByRecursion (λ q. t q ≡ false) (keys_of es) → filter (λ x. not (p x)) (values_of es) ≡ values_of es
  filter-none [] agree none = refl
  filter-none (e ∷ es) agree none = rw (agree.0, none.0, filter-none es agree.1 none.1) refl

  filter-by : (e : K × X) (es : List (K × X)) (b : Bool) → t e.0 ≡ b → p e.1 ≡ b → Agree es → (b ≡ true → AllByRecursion (λ q. t q ≡ false) (keys_of es)) → filter (λ x. not (p x)) (values_of es) ≡ values_of (remove_entry t es) → filter (λ x. not (p x)) (e.1 ∷ values_of es) ≡ values_of (remove_entry t (e ∷ es))
  filter-by e es true te pe agree none rest = rw (te, pe) (filter-none es agree (none refl))
  filter-by e es false te pe agree none rest = rw (te, pe, rest) refl

  pub filter-values : (es : List (K × X)) → Agree es → Once t (keys_of es) → filter (λ x. not (p x)) (values_of es) ≡ values_of (remove_entry t es)
  filter-values [] agree once = refl
  filter-values (e ∷ es) agree once = filter-by e es (t e.0) refl agree.0 agree.1 once.0 (filter-values es agree.1 once.1)

  -- a change at the values that pass
  abbrev pub changed : (X → X) → X → X
  changed h x = cond (p x) (h x) x

  pub map-none : (h : X → X) (es : List (K × X)) → Agree es → AllByRecursion (λ q. t q ≡ false) (keys_of es) → map (changed h) (values_of es) ≡ values_of es
  map-none h [] agree none = refl
  map-none h (e ∷ es) agree none = rw (agree.0, none.0, map-none h es agree.1 none.1) refl

  map-by : (h : X → X) (v : X) (e : K × X) (es : List (K × X)) (b : Bool) → t e.0 ≡ b → p e.1 ≡ b → Agree es → (b ≡ true → AllByRecursion (λ q. t q ≡ false) (keys_of es)) → (lookup t es ≡ Some v → map (changed h) (values_of es) ≡ values_of (set_value t es (h v))) → lookup t (e ∷ es) ≡ Some v → map (changed h) (e.1 ∷ values_of es) ≡ values_of (set_value t (e ∷ es) (h v))
  map-by h v e es true te pe agree none rest found =
      let here : Some e.1 ≡ Some v = sym (ap (λ b. cond b (Some e.1) (lookup t es)) te) ∙ found in
      let same : e.1 ≡ v = cc in
      rw (te, pe, map-none h es agree (none refl)) (ap (λ x. h x ∷ values_of es) same)
  map-by h v e es false te pe agree none rest found =
      let there : lookup t es ≡ Some v = sym (ap (λ b. cond b (Some e.1) (lookup t es)) te) ∙ found in
      rw (te, pe) (ap (λ xs. e.1 ∷ xs) (rest there))

  pub map-values : (h : X → X) (v : X) (es : List (K × X)) → Agree es → Once t (keys_of es) → lookup t es ≡ Some v → map (changed h) (values_of es) ≡ values_of (set_value t es (h v))
  map-values h v [] agree once found = absurd (cc)
  map-values h v (e ∷ es) agree once found = map-by h v e es (t e.0) refl agree.0 agree.1 once.0 (map-values h v es agree.1 once.1) found

  map-missed_by : (h : X → X) (e : K × X) (es : List (K × X)) (b : Bool) → t e.0 ≡ b → p e.1 ≡ b → Agree es → (lookup t es ≡ None → map (changed h) (values_of es) ≡ values_of es) → lookup t (e ∷ es) ≡ None → map (changed h) (e.1 ∷ values_of es) ≡ e.1 ∷ values_of es
  map-missed_by h e es true te pe agree rest missed =
      let here : Some e.1 ≡ None = sym (ap (λ b. cond b (Some e.1) (lookup t es)) te) ∙ missed in absurd (cc)
  map-missed_by h e es false te pe agree rest missed =
      let there : lookup t es ≡ None = sym (ap (λ b. cond b (Some e.1) (lookup t es)) te) ∙ missed in
      rw pe (ap (λ xs. e.1 ∷ xs) (rest there))

  -- where no key passes, nothing changes
  pub map-missed : (h : X → X) (es : List (K × X)) → Agree es → lookup t es ≡ None → map (changed h) (values_of es) ≡ values_of es
  map-missed h [] agree missed = refl
  map-missed h (e ∷ es) agree missed = map-missed_by h e es (t e.0) refl agree.0 agree.1 (map-missed h es agree.1) missed

-- a change of each value
pub values-map : {K X Y : Type 0} (h : X → Y) (es : List (K × X)) → values_of (map (λ e. (e.0, h e.1)) es) ≡ map h (values_of es)
values-map h [] = refl
values-map h (e ∷ es) = ap (λ xs. h e.1 ∷ xs) (values-map h es)

pub keys-map : {K X Y : Type 0} (h : X → Y) (es : List (K × X)) → keys_of (map (λ e. (e.0, h e.1)) es) ≡ keys_of es
keys-map h [] = refl
keys-map h (e ∷ es) = ap (λ ks. e.0 ∷ ks) (keys-map h es)

lookup-map_by : {K X Y : Type 0} (h : X → Y) (t : K → Bool) (e : K × X) (b : Bool) (o : Option X) (o' : Option Y) → o' ≡ option_map h o → cond b (Some (h e.1)) o' ≡ option_map h (cond b (Some e.1) o)
lookup-map_by h t e true o o' rest = refl
lookup-map_by h t e false o o' rest = rest

pub lookup-map : {K X Y : Type 0} (h : X → Y) (t : K → Bool) (es : List (K × X)) → lookup t (map (λ e. (e.0, h e.1)) es) ≡ option_map h (lookup t es)
lookup-map h t [] = refl
lookup-map h t (e ∷ es) = lookup-map_by h t e (t e.0) (lookup t es) (lookup t (map (λ e. (e.0, h e.1)) es)) (lookup-map h t es)
