-- A store after an insertion is a store, with the entry at its place.
use Rattle.std.proofs.Common.{◌≡◌, ℕ, ◌+◌, ◌-◌, ◌<◌, ◌≤◌, Bool, true, false, cond, ◌==◌, List, [], ◌∷◌, ◌++◌, length, Option, Some, None, refl, sym, ◌∙◌, ap, subst, arith, get_or, set, count_by, zero, suc}
use Rattle.std.specs.List.{AllByRecursion, find}
use Rattle.std.proofs.lemmas.Bool.{eqb-true, eqb-false, eq-eqb}
use Rattle.std.proofs.lemmas.List.{length-set}
use Rattle.lvs_types.specs.declared.entry.Key.{Key}
use Rattle.lvs_types.specs.declared.entry.Entry.{Entry}
use Rattle.lvs_model.specs.Lists.{sorted_by, insert_by}
use Rattle.lvs_model.specs.Lookups.{has_key, has_entry_id, entry_at}
use Rattle.lvs_entries.specs.Chains.{key_chain}
use Rattle.lvs_entries.specs.Seen.{ChainSeen}
use Rattle.lvs_entries.specs.Store.{Belongs, AreChained, IsStore, all_of, entries_in}
use Rattle.lvs_model.proofs.OrderLemmas.{all_weaker, sorted_put, none_found, find_none, find_sorted, join_front, join_back, all_join, put_once}
use Rattle.lvs_entries.proofs.Listed.{id_of}
use Rattle.lvs_entries.proofs.Chained.{IsPut, chain_at, chained_set, chained_moved, put_at}
use Rattle.lvs_entries.proofs.Belonging.{key_same}
use Rattle.lvs_entries.proofs.Kept.{room_write, room_less, room_at, places_kept}

-- what holds of all entries holds of those of a chain
part_at : (P : Entry → Type 0) (i : ℕ) (d : ChainSeen) (chains : List ChainSeen) → i < length chains → AllByRecursion P (all_of chains) → AllByRecursion P (get_or chains i d).entries
part_at P i d [] within all = absurd (omega arith)
part_at P zero d (c ∷ chains) within all = join_front P c.entries (all_of chains) all
part_at P (suc i) d (c ∷ chains) within all = part_at P i d chains (omega arith) (join_back P c.entries (all_of chains) all)

-- an id that is new to the store is new to each chain
pub new_in_chain : (chains : List ChainSeen) (place : ℕ → Option ℕ) (spare room : ℕ) → IsStore chains place spare room → (id k : ℕ) (d : ChainSeen) → k < 256 → find (has_entry_id id) (entries_in chains) ≡ None → find (has_entry_id id) (get_or chains k d).entries ≡ None
new_in_chain chains place spare room store id k d below new_id =
    let none : AllByRecursion (λ (e : Entry). has_entry_id id e ≡ false) (all_of chains) = none_found (has_entry_id id) (all_of chains) (sym (find_sorted id_of (has_entry_id id) (all_of chains) (all_of chains) (store.ids id) refl) ∙ new_id) in
    find_none (has_entry_id id) (get_or chains k d).entries (part_at (λ (e : Entry). has_entry_id id e ≡ false) k d chains (let count = store.count in omega arith) none)

module _ (chains : List ChainSeen) (place : ℕ → Option ℕ) (spare room : ℕ) (store : IsStore chains place spare room) (v : Entry) (k : ℕ) (c d : ChainSeen) (is : k ≡ key_chain v.key) (below : k < 256)
    (new_id : find (has_entry_id v.id) (entries_in chains) ≡ None) (new_key : entry_at v.key (entries_in chains) ≡ None) (pushed : c.entries ≡ (get_or chains k d).entries ++ v ∷ []) where
  within : k < length chains
  within = let count = store.count in omega arith

  no_id : AllByRecursion (λ (e : Entry). has_entry_id v.id e ≡ false) (all_of chains)
  no_id = none_found (has_entry_id v.id) (all_of chains) (sym (find_sorted id_of (has_entry_id v.id) (all_of chains) (all_of chains) (store.ids v.id) refl) ∙ new_id)

  no_key : AllByRecursion (λ (e : Entry). has_key v.key e ≡ false) (all_of chains)
  no_key = none_found (has_key v.key) (all_of chains) (sym (find_sorted id_of (has_key v.key) (all_of chains) (all_of chains) (store.keys v.key) refl) ∙ new_key)

  others : AllByRecursion (λ (e : Entry). e.id ≡ v.id → ⊥) (all_of chains)
  others = all_weaker (λ (e : Entry). has_entry_id v.id e ≡ false) (λ (e : Entry). e.id ≡ v.id → ⊥) (λ e other. eqb-false e.id v.id other) (all_of chains) no_id

  entered : IsPut v (all_of chains) (all_of (set chains k c))
  entered = put_at v k d chains c within pushed

  pub entries_entered : entries_in (set chains k c) ≡ insert_by id_of v (entries_in chains)
  entries_entered =
      let all : AllByRecursion (λ (e : Entry). e.id ≡ v.id → ⊥) (entered.front ++ entered.back) = subst (λ (es : List Entry). AllByRecursion (λ (e : Entry). e.id ≡ v.id → ⊥) es) entered.was others in
      ap (sorted_by id_of) entered.is ∙ sorted_put id_of v entered.front entered.back (join_front (λ (e : Entry). e.id ≡ v.id → ⊥) entered.front entered.back all)
      ∙ ap (λ (es : List Entry). insert_by id_of v (sorted_by id_of es)) (sym entered.was)

  once_more : (p : Entry → Bool) → (p v ≡ true → AllByRecursion (λ e. p e ≡ false) (all_of chains)) → count_by p (all_of chains) ≤ 1 → count_by p (all_of (set chains k c)) ≤ 1
  once_more p none once =
      rw entered.is
      (put_once p v entered.front entered.back (p v) refl (λ passes. subst (λ (es : List Entry). AllByRecursion (λ e. p e ≡ false) es) entered.was (none passes))
      (subst (λ (es : List Entry). count_by p es ≤ 1) entered.was once))

  id_new : (id : ℕ) → has_entry_id id v ≡ true → AllByRecursion (λ (e : Entry). has_entry_id id e ≡ false) (all_of chains)
  id_new id passes = subst (λ n. AllByRecursion (λ (e : Entry). has_entry_id n e ≡ false) (all_of chains)) (eqb-true v.id id passes) no_id

  key_new : (key : Key) → has_key key v ≡ true → AllByRecursion (λ (e : Entry). has_key key e ≡ false) (all_of chains)
  key_new key passes = subst (λ (other : Key). AllByRecursion (λ (e : Entry). has_key other e ≡ false) (all_of chains)) (key_same v.key key passes) no_key

  pub store_entered : (place' : ℕ → Option ℕ) (spare' : ℕ) → ((q : ℕ) → place' q ≡ cond (v.id == q) (Some k) (place q)) → spare ≤ spare' + 1 → (get_or chains k d).spare ≤ c.spare + 1 → 0 < room → IsStore (set chains k c) place' spare' (room - 1)
  store_entered place' spare' update more used some =
      let chained : AreChained place' 0 chains = chained_moved place place' 0 chains store.chained (places_kept v.id (Some k) place place' update (all_of chains) others) in
      let own : place' v.id ≡ Some k = update v.id ∙ ap (λ (b : Bool). cond b (Some k) (place v.id)) (eq-eqb v.id v.id refl) in
      let members : AllByRecursion (Belongs place' k) c.entries =
      subst (λ (es : List Entry). AllByRecursion (Belongs place' k) es) (sym pushed)
      (all_join (Belongs place' k) (get_or chains k d).entries (v ∷ []) (chain_at place' 0 k k d chains chained within (omega arith)) (record { by_key = sym is; by_id = own }, tt)) in
      record {
        count = length-set chains k c ∙ store.count;
        chained = chained_set place' 0 k k chains c chained within (omega arith) members;
        ids = λ id. once_more (has_entry_id id) (id_new id) (store.ids id);
        keys = λ key. once_more (has_key key) (key_new key) (store.keys key);
        places = let was = store.places in omega arith;
        chain_room = room_write (room - 1) chains k c (let was = room_at room chains k d within store.chain_room in omega arith) (room_less room (room - 1) chains (omega arith) store.chain_room);
      }
