-- A store after an update is a store, with the entry in the place of the one of its id.
use Rattle.std.proofs.Common.{◌≡◌, ℕ, ◌+◌, ◌<◌, ◌≤◌, Bool, true, false, cond, ◌==◌, List, [], ◌∷◌, length, Option, Some, None, refl, sym, ◌∙◌, ap, subst, arith, get_or, set, count_by, if◌then◌else◌, IsSomeAnd}
use Rattle.std.specs.List.{AllByRecursion, filter, find}
use Rattle.std.proofs.lemmas.Bool.{eqb-true}
use Rattle.std.proofs.lemmas.List.{length-set}
use Rattle.std.proofs.lemmas.List.Sums.{length-filter}
use Rattle.lvs_types.specs.declared.entry.Key.{Key}
use Rattle.lvs_types.specs.declared.entry.Entry.{Entry}
use Rattle.lvs_model.specs.Lists.{sorted_by}
use Rattle.lvs_model.specs.Lookups.{has_key, has_entry_id}
use Rattle.lvs_model.specs.Same.{key_eq}
use Rattle.lvs_model.specs.Binding.{put_entry}
use Rattle.lvs_entries.specs.Chains.{key_chain}
use Rattle.lvs_entries.specs.Seen.{ChainSeen}
use Rattle.lvs_entries.specs.Store.{Belongs, AreChained, IsStore, all_of, entries_in}
use Rattle.lvs_model.proofs.OrderLemmas.{all_weaker, map_sorted, find_sorted, update_is, count_map, found_holds, all_join}
use Rattle.lvs_entries.proofs.Listed.{id_of, ids_once}
use Rattle.lvs_entries.proofs.Chained.{chain_at, chained_set, changed, changed_at, filter_at}
use Rattle.lvs_entries.proofs.Belonging.{id_only}
use Rattle.lvs_entries.proofs.Kept.{room_write, room_at}

-- ---- where an entry that is found belongs

chained_all : (place : ℕ → Option ℕ) (n : ℕ) (chains : List ChainSeen) → AreChained place n chains → AllByRecursion (λ (e : Entry). place e.id ≡ Some (key_chain e.key)) (all_of chains)
chained_all place n [] chained = tt
chained_all place n (c ∷ chains) chained =
    all_join (λ (e : Entry). place e.id ≡ Some (key_chain e.key)) c.entries (all_of chains)
    (all_weaker (Belongs place n) (λ (e : Entry). place e.id ≡ Some (key_chain e.key)) (λ e here. here.by_id ∙ ap (λ m. Some m) (sym here.by_key)) c.entries chained.0)
    (chained_all place (n + 1) chains chained.1)

found_step : {X : Type 0} (P : X → Type 0) (p : X → Bool) (b : Bool) (x y : X) (o : Option X) → p y ≡ b → cond b (Some y) o ≡ Some x → P y → (o ≡ Some x → P x × (p x ≡ true)) → P x × (p x ≡ true)
found_step P p true x y o is found here later = let same : y ≡ x = cc in (subst P same here, subst (λ z. p z ≡ true) same is)
found_step P p false x y o is found here later = later found

found_one : {X : Type 0} (P : X → Type 0) (p : X → Bool) (x : X) (xs : List X) → AllByRecursion P xs → find p xs ≡ Some x → P x × (p x ≡ true)
found_one P p x [] all found = absurd (cc)
found_one P p x (y ∷ ys) all found = found_step P p (p y) x y (find p ys) refl found all.0 (found_one P p x ys all.1)

-- ---- a change that keeps ids and keys

id_kept : (v e : Entry) (b : Bool) → has_entry_id v.id e ≡ b → (if b then v else e).id ≡ e.id
id_kept v e true is = sym (eqb-true e.id v.id is)
id_kept v e false is = refl

key_kept : (v e : Entry) (b : Bool) → has_entry_id v.id e ≡ b → (has_entry_id v.id e ≡ true → e.key ≡ v.key) → (if b then v else e).key ≡ e.key
key_kept v e true is same = sym (same is)
key_kept v e false is same = refl

one_changed : (P : Entry → Type 0) (b : Bool) (v e : Entry) → P v → P e → P (if b then v else e)
one_changed P true v e here old = here
one_changed P false v e here old = old

all_changed : (P : Entry → Type 0) (p : Entry → Bool) (v : Entry) (es : List Entry) → P v → AllByRecursion P es → AllByRecursion P (changed p v es)
all_changed P p v [] here all = tt
all_changed P p v (e ∷ es) here all = (one_changed P (p e) v e here all.0, all_changed P p v es here all.1)

there_is : (o : Option Entry) (P : Entry → Type 0) → IsSomeAnd o P → (x : Entry) × (o ≡ Some x) × P x
there_is None P there = absurd there
there_is (Some x) P there = (x, refl, there)

module _ (chains : List ChainSeen) (place : ℕ → Option ℕ) (spare room : ℕ) (store : IsStore chains place spare room) (v : Entry) (k : ℕ) (c d : ChainSeen) (is : k ≡ key_chain v.key) (below : k < 256)
    (there : IsSomeAnd (find (has_entry_id v.id) (entries_in chains)) (λ old. old.key ≡ v.key)) (put : c.entries ≡ put_entry v (get_or chains k d).entries) where
  abbrev p : Entry → Bool
  p = has_entry_id v.id

  within : k < length chains
  within = let count = store.count in omega arith

  old : (x : Entry) × (find p (all_of chains) ≡ Some x) × (x.key ≡ v.key)
  old =
      there_is (find p (all_of chains)) (λ x. x.key ≡ v.key)
      (subst (λ (o : Option Entry). IsSomeAnd o (λ x. x.key ≡ v.key)) (find_sorted id_of p (all_of chains) (all_of chains) (store.ids v.id) refl) there)

  at : place v.id ≡ Some k
  at =
      let found = found_one (λ (e : Entry). place e.id ≡ Some (key_chain e.key)) p old.0 (all_of chains) (chained_all place 0 chains store.chained) old.1 in
      ap place (sym (eqb-true old.0.id v.id found.1)) ∙ found.0 ∙ ap (λ (key : Key). Some (key_chain key)) old.2 ∙ ap (λ n. Some n) (sym is)

  keys_same : AllByRecursion (λ (e : Entry). p e ≡ true → e.key ≡ v.key) (all_of chains)
  keys_same = found_holds (λ (e : Entry). e.key ≡ v.key) p old.0 (all_of chains) (store.ids v.id) old.1 old.2

  part : filter p (all_of chains) ≡ filter p (get_or chains k d).entries
  part = filter_at place p 0 k k d chains (id_only place v.id k at) store.chained within (omega arith)

  once : count_by p (get_or chains k d).entries ≤ 1
  once =
      let all = length-filter p (all_of chains) in
      let some = length-filter p (get_or chains k d).entries in
      let same = ap (λ (es : List Entry). length es) part in
      let few = store.ids v.id in
      omega arith

  left : c.entries ≡ changed p v (get_or chains k d).entries
  left = put ∙ update_is p v (get_or chains k d).entries once

  all_put : all_of (set chains k c) ≡ changed p v (all_of chains)
  all_put = changed_at place p v 0 k k d chains c (id_only place v.id k at) store.chained within (omega arith) left

  pub entries_put : entries_in (set chains k c) ≡ put_entry v (entries_in chains)
  entries_put =
      ap (sorted_by id_of) all_put ∙ sym (map_sorted id_of (λ e. if p e then v else e) (λ e. id_kept v e (p e) refl) (all_of chains))
      ∙ sym (update_is p v (entries_in chains) (ids_once (all_of chains) store.ids v.id))

  members : AllByRecursion (Belongs place k) c.entries
  members = rw left (all_changed (Belongs place k) p v (get_or chains k d).entries (record { by_key = sym is; by_id = at }) (chain_at place 0 k k d chains store.chained within (omega arith)))

  ids_same : (id : ℕ) → AllByRecursion (λ (e : Entry). has_entry_id id (if p e then v else e) ≡ has_entry_id id e) (all_of chains)
  ids_same id =
      all_weaker (λ (e : Entry). p e ≡ true → e.key ≡ v.key) (λ (e : Entry). has_entry_id id (if p e then v else e) ≡ has_entry_id id e)
      (λ e _. ap (λ n. n == id) (id_kept v e (p e) refl)) (all_of chains) keys_same

  tests_same : (key : Key) → AllByRecursion (λ (e : Entry). has_key key (if p e then v else e) ≡ has_key key e) (all_of chains)
  tests_same key =
      all_weaker (λ (e : Entry). p e ≡ true → e.key ≡ v.key) (λ (e : Entry). has_key key (if p e then v else e) ≡ has_key key e)
      (λ e same. ap (λ (other : Key). key_eq other key) (key_kept v e (p e) refl same)) (all_of chains) keys_same

  pub store_put : (get_or chains k d).spare ≤ c.spare → IsStore (set chains k c) place spare room
  store_put wide = record {
    count = length-set chains k c ∙ store.count;
    chained = chained_set place 0 k k chains c store.chained within (omega arith) members;
    ids = λ id. rw all_put (rw (count_map (has_entry_id id) (λ e. if p e then v else e) (all_of chains) (ids_same id)) (store.ids id));
    keys = λ key. rw all_put (rw (count_map (has_key key) (λ e. if p e then v else e) (all_of chains) (tests_same key)) (store.keys key));
    places = store.places;
    chain_room = room_write room chains k c (let was = room_at room chains k d within store.chain_room in omega arith) store.chain_room;
  }
