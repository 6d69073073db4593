-- The due entries by the ids of the due timers.
use Rattle.std.proofs.Common.{◌≡◌, ℕ, ◌<◌, Bool, true, false, cond, List, [], ◌∷◌, ◌++◌, length, take, get_or, Option, Some, refl, sym, ◌∙◌, ap, arith, inl, inr, suc, zero, ◌+◌, ◌≤◌}
use Rattle.std.specs.List.{filter, find}
use Rattle.std.proofs.lemmas.Bool.{eq-eqb}
use Rattle.lvs_types.specs.declared.entry.Entry.{Entry}
use Rattle.lvs_model.specs.Lookups.{has_entry_id}
use Rattle.lvs_model.specs.Buckets.{is_due_entry}
use Rattle.lvs_model.proofs.OrderLemmas.{Has}
use Rattle.lvs_entries.specs.Seen.{AreListed}
use Rattle.lvs_timer.specs.Timers.{is_due, ids_of}
use Rattle.lvs_timer.proofs.Finding.{find_has}
use Rattle.lvs_bucket.specs.Pairs.{timers_of}
use Rattle.lvs_bucket.proofs.Rising.{strict, ids_once}
use Rattle.lvs_bucket.proofs.Timed.{timers_filter}

-- the entry that stands at a place, which has this id
record IsAt (n : ℕ) (ds : List Entry) (i : ℕ) : Type 0 where
  entry : Entry
  next : take (suc i) ds ≡ take i ds ++ entry ∷ []
  has : Has entry ds
  same : entry.id ≡ n

stands : (ds : List Entry) (i d : ℕ) → i < length (ids_of (timers_of ds)) → IsAt (get_or (ids_of (timers_of ds)) i d) ds i
stands [] i d within = absurd (omega arith)
stands (e ∷ ds) zero d within = record { entry = e; next = refl; has = inl refl; same = refl }
stands (e ∷ ds) (suc i) d within =
    let later = stands ds i d (omega arith) in
    record { entry = later.entry; next = ap (λ es. e ∷ es) later.next; has = inr later.has; same = later.same }

has_kept : (b : Bool) (p : Entry → Bool) (x e : Entry) (es : List Entry) → (Has x (filter p es) → Has x es) → Has x (cond b (e ∷ filter p es) (filter p es)) → Has x (e ∷ es)
has_kept true p x e es later (inl is) = inl is
has_kept true p x e es later (inr has) = inr (later has)
has_kept false p x e es later has = inr (later has)

has_filter : (p : Entry → Bool) (x : Entry) (es : List Entry) → Has x (filter p es) → Has x es
has_filter p x [] has = has
has_filter p x (e ∷ es) has = has_kept (p e) p x e es (has_filter p x es) has

pub all_taken : (ds : List Entry) (i : ℕ) → length (ids_of (timers_of ds)) ≤ i → take i ds ≡ ds
all_taken [] zero past = refl
all_taken [] (suc i) past = refl
all_taken (e ∷ ds) zero past = absurd (omega arith)
all_taken (e ∷ ds) (suc i) past = ap (λ es. e ∷ es) (all_taken ds i (omega arith))

module _ (m : ℕ) (es : List Entry) (listed : AreListed es) (ids : List ℕ) (is : ids ≡ ids_of (filter (is_due m) (timers_of es))) where
  abbrev pub due : List Entry
  due = filter (is_due_entry m) es

  whole : ids ≡ ids_of (timers_of due)
  whole = is ∙ ap ids_of (timers_filter (is_due m) es)

  -- the entry of the id at a place is the next due one
  pub next_found : (i d : ℕ) (o : Option Entry) (so_far more : List Entry) → i < length ids → so_far ≡ take i due → o ≡ find (has_entry_id (get_or ids i d)) es
      → ((e : Entry) → o ≡ Some e → more ≡ so_far ++ e ∷ []) → more ≡ take (i + 1) due
  next_found i d o so_far more within before found pushed =
      let long = ap (λ (ns : List ℕ). length ns) whole in
      let at = stands due i d (omega arith) in
      let same : at.entry.id ≡ get_or ids i d = at.same ∙ ap (λ (ns : List ℕ). get_or ns i d) (sym whole) in
      let there = find_has (has_entry_id (get_or ids i d)) at.entry es (eq-eqb at.entry.id (get_or ids i d) same) (ids_once (get_or ids i d) es (strict es listed)) (has_filter (is_due_entry m) at.entry es at.has) in
      let next : suc i ≡ i + 1 = omega arith in
      pushed at.entry (found ∙ there) ∙ ap (λ (ds : List Entry). ds ++ at.entry ∷ []) before ∙ sym at.next ∙ ap (λ n. take n due) next

  pub all_listed : (i : ℕ) → length ids ≤ i → take i due ≡ due
  all_listed i past = let long = ap (λ (ns : List ℕ). length ns) whole in all_taken due i (omega arith)
