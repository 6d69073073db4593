-- Entries by rising id, and what is found among them.
use Rattle.std.proofs.Common.{◌≡◌, ℕ, ◌+◌, ◌<◌, ◌≤◌, Bool, true, false, cond, not, List, [], ◌∷◌, length, map, Option, Some, None, refl, sym, ap, arith, count_by, get_or, suc}
use Rattle.std.specs.List.{AllByRecursion, find}
use Rattle.std.proofs.lemmas.Bool.{eqb-true, ne_eqb}
use Rattle.std.proofs.lemmas.List.Sums.{sum_by-cons, length-filter}
use Rattle.lvs_types.specs.declared.entry.Key.{Key}
use Rattle.lvs_types.specs.declared.entry.Entry.{Entry}
use Rattle.lvs_model.specs.Lists.{without}
use Rattle.lvs_model.specs.Lookups.{has_key, has_entry_id}
use Rattle.lvs_model.specs.Buckets.{is_found_with}
use Rattle.lvs_model.proofs.OrderLemmas.{IsStrict, all_weaker, filter_none, found_holds}
use Rattle.lvs_entries.specs.Seen.{AreListed}
use Rattle.lvs_timer.proofs.Finding.{found_has, find_has}

abbrev pub id_of : Entry → ℕ
id_of e = e.id

-- ---- rising ids

abbrev Rises : List ℕ → Type 0
Rises ns = (k : ℕ) → suc k < length ns → get_or ns k 0 < get_or ns (suc k) 0

above : (n : ℕ) (es : List Entry) → Rises (n ∷ map id_of es) → AllByRecursion (λ (e : Entry). n < e.id) es
above n [] up = tt
above n (e ∷ es) up =
    let here : n < e.id = up 0 (omega arith) in
    (here, all_weaker (λ (d : Entry). e.id < d.id) (λ (d : Entry). n < d.id) (λ d lt. omega arith) es (above e.id es (λ k within. up (suc k) (omega arith))))

strict_rises : (es : List Entry) → Rises (map id_of es) → IsStrict id_of es
strict_rises [] up = tt
strict_rises (e ∷ es) up = (above e.id es up, strict_rises es (λ k within. up (suc k) (omega arith)))

pub strict : (es : List Entry) → AreListed es → IsStrict id_of es
strict es listed = strict_rises es (λ k within. let next : suc k ≡ k + 1 = omega arith in rw next (listed.rising k (omega arith)))

later_ids : (n : ℕ) (e : Entry) (es : List Entry) → e.id ≡ n → AllByRecursion (λ (d : Entry). e.id < d.id) es → AllByRecursion (λ (d : Entry). has_entry_id n d ≡ false) es
later_ids n e es is all = all_weaker (λ (d : Entry). e.id < d.id) (λ (d : Entry). has_entry_id n d ≡ false) (λ d lt. ne_eqb d.id n (λ same. omega arith)) es all

once_step : (n : ℕ) (e : Entry) (es : List Entry) (b : Bool) → has_entry_id n e ≡ b → AllByRecursion (λ (d : Entry). e.id < d.id) es → count_by (has_entry_id n) es ≤ 1 → cond {A = ℕ} b 1 0 + count_by (has_entry_id n) es ≤ 1
once_step n e es true is all later =
    let none = filter_none (has_entry_id n) es (later_ids n e es (eqb-true e.id n is) all) in
    let long = length-filter (has_entry_id n) es in
    let zero_long = ap (λ (ds : List Entry). length ds) none in
    omega arith
once_step n e es false is all later = omega arith

pub ids_once : (n : ℕ) (es : List Entry) → IsStrict id_of es → count_by (has_entry_id n) es ≤ 1
ids_once n [] up = omega arith
ids_once n (e ∷ es) up =
    let whole = sum_by-cons (λ (d : Entry). cond {A = ℕ} (has_entry_id n d) 1 0) e es in
    let few = once_step n e es (has_entry_id n e) refl up.0 (ids_once n es up.1) in
    omega arith

-- ---- a new entry

pub none_older : (n : ℕ) (es : List Entry) → AllByRecursion (λ (e : Entry). e.id < n) es → AllByRecursion (λ (e : Entry). has_entry_id n e ≡ false) es
none_older n es older = all_weaker (λ (e : Entry). e.id < n) (λ (e : Entry). has_entry_id n e ≡ false) (λ e lt. ne_eqb e.id n (λ same. omega arith)) es older

-- ---- the one that is found with a key

pub record IsThere (n : ℕ) (key : Key) (es : List Entry) : Type 0 where
  pub entry : Entry
  pub found : find (has_entry_id n) es ≡ Some entry
  pub same_key : has_key key entry ≡ true

there_by : (n : ℕ) (key : Key) (es : List Entry) (o : Option Entry) → o ≡ find (has_entry_id n) es → is_found_with key o ≡ true → IsThere n key es
there_by n key es None is there = absurd (cc)
there_by n key es (Some e) is there = record { entry = e; found = sym is; same_key = there }

pub there : (n : ℕ) (key : Key) (es : List Entry) → is_found_with key (find (has_entry_id n) es) ≡ true → IsThere n key es
there n key es is = there_by n key es (find (has_entry_id n) es) refl is

fails_by : (p q : Entry → Bool) (e : Entry) (b : Bool) → p e ≡ b → q e ≡ false → (p e ≡ true → q e ≡ true) → p e ≡ false
fails_by p q e true passes is says = absurd (let other = says passes in cc)
fails_by p q e false fails is says = fails

none_left_step : (p q : Entry → Bool) (e : Entry) (es : List Entry) (b : Bool) → q e ≡ b → (p e ≡ true → q e ≡ true) → AllByRecursion (λ d. p d ≡ false) (without q es) → AllByRecursion (λ d. p d ≡ false) (cond (not b) (e ∷ without q es) (without q es))
none_left_step p q e es true is says later = later
none_left_step p q e es false is says later = (fails_by p q e (p e) refl is says, later)

-- those that pass left, where each that passes left
pub none_left : (p q : Entry → Bool) (es : List Entry) → AllByRecursion (λ e. p e ≡ true → q e ≡ true) es → AllByRecursion (λ e. p e ≡ false) (without q es)
none_left p q [] all = tt
none_left p q (e ∷ es) all = none_left_step p q e es (q e) refl all.0 (none_left p q es all.1)

-- the key of an entry that leaves is free
pub key_free : (n : ℕ) (key : Key) (es : List Entry) → AreListed es → IsThere n key es → AllByRecursion (λ (e : Entry). has_key key e ≡ false) (without (has_entry_id n) es)
key_free n key es listed is =
    let found = found_has (has_entry_id n) is.entry es is.found in
    let by_key = find_has (has_key key) is.entry es is.same_key (listed.keys key) found.1 in
    none_left (has_key key) (has_entry_id n) es (found_holds (λ (e : Entry). has_entry_id n e ≡ true) (has_key key) is.entry es (listed.keys key) by_key found.0)

-- ---- due entries leave one by one

skip_step : (p q : Entry → Bool) (e : Entry) (es : List Entry) (a b : Bool) → p e ≡ a → q e ≡ b → (b ≡ true → a ≡ true) → without p (without q es) ≡ without p es → without p (cond (not b) (e ∷ without q es) (without q es)) ≡ cond (not a) (e ∷ without p es) (without p es)
skip_step p q e es true true is_p is_q says later = later
skip_step p q e es true false is_p is_q says later = rw is_p later
skip_step p q e es false true is_p is_q says later = absurd (let off = says refl in cc)
skip_step p q e es false false is_p is_q says later = rw is_p (ap (λ ds. e ∷ ds) later)

-- those that pass leave, whichever of them left before
pub skip : (p q : Entry → Bool) (es : List Entry) → AllByRecursion (λ e. q e ≡ true → p e ≡ true) es → without p (without q es) ≡ without p es
skip p q [] all = refl
skip p q (e ∷ es) all = skip_step p q e es (p e) (q e) refl refl all.0 (skip p q es all.1)

shorter_step : (n : ℕ) (e : Entry) (es : List Entry) (b : Bool) → length (without (has_entry_id n) es) ≤ length es → length (cond (not b) (e ∷ without (has_entry_id n) es) (without (has_entry_id n) es)) ≤ length (e ∷ es)
shorter_step n e es true le = omega arith
shorter_step n e es false le = omega arith

shorter : (n : ℕ) (es : List Entry) → length (without (has_entry_id n) es) ≤ length es
shorter n [] = omega arith
shorter n (e ∷ es) = shorter_step n e es (has_entry_id n e) (shorter n es)

less_step : (n : ℕ) (e d : Entry) (es : List Entry) (b : Bool) → length (without (has_entry_id n) es) ≤ length es → (find (has_entry_id n) es ≡ Some e → length (without (has_entry_id n) es) < length es) → cond b (Some d) (find (has_entry_id n) es) ≡ Some e
    → length (cond (not b) (d ∷ without (has_entry_id n) es) (without (has_entry_id n) es)) < length (d ∷ es)
less_step n e d es true le later found = omega arith
less_step n e d es false le later found = let lt = later found in omega arith

-- fewer are left where one was found
pub less : (n : ℕ) (e : Entry) (es : List Entry) → find (has_entry_id n) es ≡ Some e → length (without (has_entry_id n) es) < length es
less n e [] found = absurd (cc)
less n e (d ∷ es) found = less_step n e d es (has_entry_id n d) (shorter n es) (less n e es) found
