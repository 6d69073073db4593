-- A chain as a map by id: its look-ups, writes and removals are those of the list of its entries.
use Rattle.std.proofs.Common.{◌≡◌, ℕ, ◌<◌, Bool, true, false, cond, ◌==◌, nat_eq, List, [], ◌∷◌, ◌++◌, length, Option, Some, None, refl, sym, ◌∙◌, ap, arith, get_or, swap_remove, slice_get, is_some, zero, suc}
use Rattle.std.specs.List.{find}
use Rattle.std.specs.List.Sorted.{IsPermutation}
use Rattle.std.specs.Map.{lookup, set_value, values_of}
use Rattle.std.proofs.lemmas.Bool.{eqb-true}
use Rattle.std.proofs.lemmas.List.Elements.{All-from_recursion, recursion_from_All}
use Rattle.std.proofs.lemmas.List.Sorted.{IsPermutation-swap_remove, IsPermutation-map, All-permutation}
use Rattle.lvs_types.specs.declared.entry.Entry.{Entry}
use Rattle.lvs_model.specs.Lookups.{has_entry_id}
use Rattle.lvs_model.specs.Binding.{put_entry}
use Rattle.lvs_entries.specs.Keyed.{AreKeyed}

eq_flip : (m n : ℕ) → (m == n) ≡ (n == m)
eq_flip m n = grind arith

test_same : (id : ℕ) (key : ℕ) (e : Entry) → key ≡ e.id → (id == key) ≡ has_entry_id id e
test_same id key e keyed = ap (λ n. id == n) keyed ∙ eq_flip id e.id

-- ---- look-ups

pub looked_up : (id : ℕ) (pairs : List (ℕ × Entry)) → AreKeyed pairs → lookup (nat_eq id) pairs ≡ find (has_entry_id id) (values_of pairs)
looked_up id [] keyed = refl
looked_up id (pair ∷ pairs) keyed =
    ap (λ b. cond b (Some pair.1) (lookup (nat_eq id) pairs)) (test_same id pair.0 pair.1 keyed.0) ∙ ap (λ o. cond (has_entry_id id pair.1) (Some pair.1) o) (looked_up id pairs keyed.1)

-- ---- a write

pub written : (e : Entry) (pairs : List (ℕ × Entry)) → AreKeyed pairs → values_of (set_value (nat_eq e.id) pairs e) ≡ put_entry e (values_of pairs)
written e [] keyed = refl
written e (pair ∷ pairs) keyed = written_cons (nat_eq e.id pair.0) (has_entry_id e.id pair.1) (test_same e.id pair.0 pair.1 keyed.0) (written e pairs keyed.1)
  where
    written_cons : (a b : Bool) → a ≡ b → values_of (set_value (nat_eq e.id) pairs e) ≡ put_entry e (values_of pairs)
        → values_of (cond a ((pair.0, e) ∷ pairs) (pair ∷ set_value (nat_eq e.id) pairs e)) ≡ cond b (e ∷ values_of pairs) (pair.1 ∷ put_entry e (values_of pairs))
    written_cons true true is later = refl
    written_cons true false is later = absurd (cc)
    written_cons false true is later = absurd (cc)
    written_cons false false is later = ap (λ es. pair.1 ∷ es) later

pub written_keyed : (e : Entry) (pairs : List (ℕ × Entry)) → AreKeyed pairs → AreKeyed (set_value (nat_eq e.id) pairs e)
written_keyed e [] keyed = tt
written_keyed e (pair ∷ pairs) keyed = keyed_cons (nat_eq e.id pair.0) refl (written_keyed e pairs keyed.1)
  where
    keyed_cons : (b : Bool) → nat_eq e.id pair.0 ≡ b → AreKeyed (set_value (nat_eq e.id) pairs e) → AreKeyed (cond b ((pair.0, e) ∷ pairs) (pair ∷ set_value (nat_eq e.id) pairs e))
    keyed_cons true is later = (sym (eqb-true e.id pair.0 is), keyed.1)
    keyed_cons false is later = (keyed.0, later)

pub unwritten : (e : Entry) (es : List Entry) → find (has_entry_id e.id) es ≡ None → es ≡ put_entry e es
unwritten e [] none = refl
unwritten e (x ∷ es) none = unwritten_cons (has_entry_id e.id x) none (unwritten e es)
  where
    unwritten_cons : (b : Bool) → cond b (Some x) (find (has_entry_id e.id) es) ≡ None → (find (has_entry_id e.id) es ≡ None → es ≡ put_entry e es) → x ∷ es ≡ cond b (e ∷ es) (x ∷ put_entry e es)
    unwritten_cons true none later = absurd (cc)
    unwritten_cons false none later = ap (λ xs. x ∷ xs) (later none)

-- ---- one more at the end

pub pushed_keyed : (e : Entry) (pairs : List (ℕ × Entry)) → AreKeyed pairs → AreKeyed (pairs ++ (e.id, e) ∷ [])
pushed_keyed e [] keyed = (refl, tt)
pushed_keyed e (pair ∷ pairs) keyed = (keyed.0, pushed_keyed e pairs keyed.1)

pub pushed : (e : Entry) (pairs : List (ℕ × Entry)) → values_of (pairs ++ (e.id, e) ∷ []) ≡ values_of pairs ++ e ∷ []
pushed e [] = refl
pushed e (pair ∷ pairs) = ap (λ es. pair.1 ∷ es) (pushed e pairs)

-- ---- one less, the last in its place

at_place : {X : Type 0} (xs : List X) (i : ℕ) (x : X) → slice_get xs i ≡ Some x → (i < length xs) × (x ≡ get_or xs i x)
at_place [] i x is = absurd (cc)
at_place (y ∷ ys) zero x is = (omega arith, (let same : y ≡ x = cc in sym same))
at_place (y ∷ ys) (suc i) x is = let rest = at_place ys i x is in (omega arith, rest.1)

pub removed_moves : (pairs : List (ℕ × Entry)) (i : ℕ) (pair : ℕ × Entry) → slice_get pairs i ≡ Some pair → IsPermutation pairs (pair ∷ swap_remove pairs i pair)
removed_moves pairs i pair is = let here = at_place pairs i pair is in IsPermutation-swap_remove pairs i pair here.0 here.1

pub removed_keyed : (pairs : List (ℕ × Entry)) (i : ℕ) (pair : ℕ × Entry) → slice_get pairs i ≡ Some pair → AreKeyed pairs → AreKeyed (swap_remove pairs i pair)
removed_keyed pairs i pair is keyed =
    let P : ℕ × Entry → Type 0 = λ (p : ℕ × Entry). p.0 ≡ p.1.id in
    (recursion_from_All P (pair ∷ swap_remove pairs i pair) (All-permutation P pairs (pair ∷ swap_remove pairs i pair) (removed_moves pairs i pair is) (All-from_recursion P pairs keyed))).1

pub removed_values : (pairs : List (ℕ × Entry)) (i : ℕ) (pair : ℕ × Entry) → slice_get pairs i ≡ Some pair → IsPermutation (values_of pairs) (pair.1 ∷ values_of (swap_remove pairs i pair))
removed_values pairs i pair is = IsPermutation-map (λ (p : ℕ × Entry). p.1) pairs (pair ∷ swap_remove pairs i pair) (removed_moves pairs i pair is)

pub value_at : (pairs : List (ℕ × Entry)) (i : ℕ) (pair : ℕ × Entry) → slice_get pairs i ≡ Some pair → slice_get (values_of pairs) i ≡ Some pair.1
value_at [] i pair is = absurd (cc)
value_at (p ∷ pairs) zero pair is = grind arith
value_at (p ∷ pairs) (suc i) pair is = value_at pairs i pair is

pub value_missed : (pairs : List (ℕ × Entry)) (i : ℕ) → slice_get pairs i ≡ None → slice_get (values_of pairs) i ≡ None
value_missed [] i is = refl
value_missed (p ∷ pairs) zero is = absurd (cc)
value_missed (p ∷ pairs) (suc i) is = value_missed pairs i is

pub is_none : (o : Option Entry) → false ≡ is_some o → o ≡ None
is_none None is = refl
is_none (Some e) is = absurd (cc)
