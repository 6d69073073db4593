-- A store after an entry was taken out of its chain is a store, without that entry.
use Rattle.std.proofs.Common.{◌≡◌, ℕ, ◌+◌, ◌<◌, ◌≤◌, Bool, true, false, cond, not, ◌==◌, List, [], ◌∷◌, length, Option, Some, None, refl, sym, ◌∙◌, ap, arith, get_or, set, count_by, zero, suc}
use Rattle.std.specs.List.{AllByRecursion, find}
use Rattle.std.specs.List.Sorted.{IsPermutation}
use Rattle.std.proofs.lemmas.Bool.{eqb-false}
use Rattle.std.proofs.lemmas.List.{length-set}
use Rattle.std.proofs.lemmas.List.Sums.{sum_by-cons}
use Rattle.std.proofs.lemmas.List.Elements.{All-from_recursion, recursion_from_All}
use Rattle.std.proofs.lemmas.List.Sorted.{IsPermutation-trans, IsPermutation-append_left, IsPermutation-append_right, IsPermutation-middle, sum_by-IsPermutation, All-permutation}
use Rattle.lvs_types.specs.declared.entry.Entry.{Entry}
use Rattle.lvs_model.specs.Lists.{without, sorted_by}
use Rattle.lvs_model.specs.Lookups.{has_key, has_entry_id}
use Rattle.lvs_entries.specs.Seen.{ChainSeen}
use Rattle.lvs_entries.specs.Store.{Belongs, IsStore, all_of, entries_in}
use Rattle.lvs_entries.specs.Keyed.{IsTaken}
use Rattle.lvs_model.proofs.OrderLemmas.{all_weaker, filter_sorted, sorted_moved, keep_all, none_counted, none_found}
use Rattle.lvs_entries.proofs.Listed.{id_of}
use Rattle.lvs_entries.proofs.Chained.{chain_at, chained_set, chained_moved}
use Rattle.lvs_entries.proofs.Kept.{entries_without, store_without, room_write, room_at, places_kept}

found_cons : {X : Type 0} (p : X → Bool) (x y : X) (o : Option X) (b : Bool) → p y ≡ b → (Some x ≡ o → p x ≡ true) → Some x ≡ cond b (Some y) o → p x ≡ true
found_cons p x y o true passes later is = let same : x ≡ y = cc in ap p same ∙ passes
found_cons p x y o false fails later is = later is

-- what a find gives passes
found_passes : {X : Type 0} (p : X → Bool) (x : X) (xs : List X) → Some x ≡ find p xs → p x ≡ true
found_passes p x [] is = absurd (cc)
found_passes p x (y ∷ ys) is = found_cons p x y (find p ys) (p y) refl (found_passes p x ys) is

-- all entries hold the taken one and what is left
moved_at : (e : Entry) (i : ℕ) (d : ChainSeen) (chains : List ChainSeen) (c : ChainSeen) → i < length chains → IsPermutation (get_or chains i d).entries (e ∷ c.entries) → IsPermutation (all_of chains) (e ∷ all_of (set chains i c))
moved_at e i d [] c within moved = absurd (omega arith)
moved_at e zero d (x ∷ chains) c within moved = IsPermutation-append_left (all_of chains) x.entries (e ∷ c.entries) moved
moved_at e (suc i) d (x ∷ chains) c within moved =
    IsPermutation-trans _ _ _ (IsPermutation-append_right x.entries (all_of chains) (e ∷ all_of (set chains i c)) (moved_at e i d chains c (omega arith) moved))
    (IsPermutation-middle x.entries e (all_of (set chains i c)))

module _ (chains : List ChainSeen) (place : ℕ → Option ℕ) (spare room : ℕ) (store : IsStore chains place spare room) (id k : ℕ) (c d : ChainSeen) (below : k < 256) (at : place id ≡ Some k) where
  within : k < length chains
  within = let count = store.count in omega arith

  module _ (e : Entry) (found : Some e ≡ find (has_entry_id id) (get_or chains k d).entries) (taken : IsPermutation (get_or chains k d).entries (e ∷ c.entries)) where
    passes : has_entry_id id e ≡ true
    passes = found_passes (has_entry_id id) e (get_or chains k d).entries found

    moved : IsPermutation (all_of chains) (e ∷ all_of (set chains k c))
    moved = moved_at e k d chains c within taken

    count_moved : (p : Entry → Bool) → cond (p e) 1 0 + count_by p (all_of (set chains k c)) ≡ count_by p (all_of chains)
    count_moved p = sym (sum_by-cons (λ z. cond (p z) 1 0) e (all_of (set chains k c))) ∙ sum_by-IsPermutation (λ z. cond (p z) 1 0) (all_of chains) (e ∷ all_of (set chains k c)) moved

    count_less : (p : Entry → Bool) → count_by p (all_of (set chains k c)) ≤ count_by p (all_of chains)
    count_less p = let whole = count_moved p in omega arith

    none_left : AllByRecursion (λ (x : Entry). has_entry_id id x ≡ false) (all_of (set chains k c))
    none_left =
        let whole = count_moved (has_entry_id id) in
        let once = store.ids id in
        let one : cond {A = ℕ} (has_entry_id id e) 1 0 ≡ 1 = ap (λ (b : Bool). cond {A = ℕ} b 1 0) passes in
        none_counted (has_entry_id id) (all_of (set chains k c)) (omega arith)

    left : without (has_entry_id id) (e ∷ all_of (set chains k c)) ≡ all_of (set chains k c)
    left = rw passes (keep_all (has_entry_id id) (all_of (set chains k c)) none_left)

    pub entries_some : entries_in (set chains k c) ≡ without (has_entry_id id) (entries_in chains)
    entries_some =
        ap (sorted_by id_of) (sym left) ∙ sym (filter_sorted id_of (λ x. not (has_entry_id id x)) (e ∷ all_of (set chains k c)))
        ∙ ap (without (has_entry_id id)) (sym (sorted_moved id_of (all_of chains) (e ∷ all_of (set chains k c)) moved store.ids))

    members : AllByRecursion (Belongs place k) c.entries
    members =
        (recursion_from_All (Belongs place k) (e ∷ c.entries)
        (All-permutation (Belongs place k) (get_or chains k d).entries (e ∷ c.entries) taken (All-from_recursion (Belongs place k) (get_or chains k d).entries (chain_at place 0 k k d chains store.chained within (omega arith))))).1

    others : AllByRecursion (λ (x : Entry). x.id ≡ id → ⊥) (all_of (set chains k c))
    others = all_weaker (λ (x : Entry). has_entry_id id x ≡ false) (λ (x : Entry). x.id ≡ id → ⊥) (λ x fails. eqb-false x.id id fails) (all_of (set chains k c)) none_left

    pub store_some : (place' : ℕ → Option ℕ) (spare' : ℕ) → ((q : ℕ) → place' q ≡ cond (id == q) None (place q)) → spare ≤ spare' → (get_or chains k d).spare ≤ c.spare → IsStore (set chains k c) place' spare' room
    store_some place' spare' update more wide = record {
      count = length-set chains k c ∙ store.count;
      chained = chained_moved place place' 0 (set chains k c) (chained_set place 0 k k chains c store.chained within (omega arith) members) (places_kept id None place place' update (all_of (set chains k c)) others);
      ids = λ q. let less = count_less (has_entry_id q) in let once = store.ids q in omega arith;
      keys = λ key. let less = count_less (has_key key) in let once = store.keys key in omega arith;
      places = let was = store.places in omega arith;
      chain_room = room_write room chains k c (let was = room_at room chains k d within store.chain_room in omega arith) store.chain_room;
    }

  nothing : None ≡ find (has_entry_id id) (get_or chains k d).entries → c.entries ≡ (get_or chains k d).entries → c.entries ≡ without (has_entry_id id) (get_or chains k d).entries
  nothing found same = same ∙ sym (keep_all (has_entry_id id) (get_or chains k d).entries (none_found (has_entry_id id) (get_or chains k d).entries (sym found)))

  pub entries_taken : (o : Option Entry) → o ≡ find (has_entry_id id) (get_or chains k d).entries → IsTaken o (get_or chains k d).entries c.entries → entries_in (set chains k c) ≡ without (has_entry_id id) (entries_in chains)
  entries_taken None found same = entries_without chains place spare room store id k c d below at (nothing found same)
  entries_taken (Some e) found taken = entries_some e found taken

  pub store_taken : (o : Option Entry) → o ≡ find (has_entry_id id) (get_or chains k d).entries → IsTaken o (get_or chains k d).entries c.entries
      → (place' : ℕ → Option ℕ) (spare' : ℕ) → ((q : ℕ) → place' q ≡ cond (id == q) None (place q)) → spare ≤ spare' → (get_or chains k d).spare ≤ c.spare → IsStore (set chains k c) place' spare' room
  store_taken None found same = store_without chains place spare room store id k c d below at (nothing found same)
  store_taken (Some e) found taken = store_some e found taken
