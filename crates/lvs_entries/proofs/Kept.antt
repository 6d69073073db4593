-- A store after each change is a store, with the entries that the change says.
use Rattle.std.proofs.Common.{◌≡◌, ℕ, ◌<◌, ◌≤◌, Bool, true, false, cond, not, ◌==◌, List, [], ◌∷◌, length, Option, Some, None, refl, sym, ◌∙◌, ap, arith, get_or, set, zero, suc}
use Rattle.std.specs.List.{AllByRecursion}
use Rattle.std.proofs.lemmas.Bool.{eqb-true, eqb-false, ne_eqb}
use Rattle.std.proofs.lemmas.List.{length-set}
use Rattle.lvs_types.specs.declared.entry.Entry.{Entry}
use Rattle.lvs_model.specs.Lists.{without, sorted_by}
use Rattle.lvs_model.specs.Lookups.{has_key, has_entry_id}
use Rattle.lvs_entries.specs.Seen.{ChainSeen}
use Rattle.lvs_entries.specs.Store.{Belongs, HaveRoom, IsStore, all_of, entries_in}
use Rattle.lvs_model.proofs.OrderLemmas.{all_weaker, all_filter, filter_sorted, keep_all, count_filter}
use Rattle.lvs_entries.proofs.Listed.{id_of}
use Rattle.lvs_entries.proofs.Chained.{chain_at, chained_set, chained_moved, without_at}
use Rattle.lvs_entries.proofs.Belonging.{id_only}
use Rattle.lvs_entries.proofs.Looking.{id_nowhere}

-- ---- room

pub room_write : (n : ℕ) (chains : List ChainSeen) (i : ℕ) (c : ChainSeen) → n ≤ c.spare → HaveRoom n chains → HaveRoom n (set chains i c)
room_write n [] i c room all = tt
room_write n (x ∷ chains) zero c room all = (room, all.1)
room_write n (x ∷ chains) (suc i) c room all = (all.0, room_write n chains i c room all.1)

pub room_less : (n m : ℕ) (chains : List ChainSeen) → m ≤ n → HaveRoom n chains → HaveRoom m chains
room_less n m chains le all = all_weaker (λ (c : ChainSeen). n ≤ c.spare) (λ (c : ChainSeen). m ≤ c.spare) (λ c room. omega arith) chains all

pub room_at : (n : ℕ) (chains : List ChainSeen) (i : ℕ) (d : ChainSeen) → i < length chains → HaveRoom n chains → n ≤ (get_or chains i d).spare
room_at n [] i d within all = absurd (omega arith)
room_at n (x ∷ chains) zero d within all = all.0
room_at n (x ∷ chains) (suc i) d within all = room_at n chains i d (omega arith) all.1

-- ---- an id less

apart : (id : ℕ) (e : Entry) (b : Bool) → has_entry_id id e ≡ b → not b ≡ true → e.id ≡ id → ⊥
apart id e true is left same = absurd (cc)
apart id e false is left same = eqb-false e.id id is same

place_kept : (id : ℕ) (w : Option ℕ) (place place' : ℕ → Option ℕ) → ((q : ℕ) → place' q ≡ cond (id == q) w (place q)) → (e : Entry) → (e.id ≡ id → ⊥) → place' e.id ≡ place e.id
place_kept id w place place' update e other =
    let test : (id == e.id) ≡ false = ne_eqb id e.id (λ same. other (sym same)) in
    update e.id ∙ ap (λ (b : Bool). cond b w (place e.id)) test

kept_cons : (id : ℕ) (b : Bool) (e : Entry) (es : List Entry) → has_entry_id id e ≡ b → AllByRecursion (λ (x : Entry). x.id ≡ id → ⊥) es → AllByRecursion (λ (x : Entry). x.id ≡ id → ⊥) (cond (not b) (e ∷ es) es)
kept_cons id true e es is all = all
kept_cons id false e es is all = (apart id e false is refl, all)

without_apart : (id : ℕ) (es : List Entry) → AllByRecursion (λ (x : Entry). x.id ≡ id → ⊥) (without (has_entry_id id) es)
without_apart id [] = tt
without_apart id (e ∷ es) = kept_cons id (has_entry_id id e) e (without (has_entry_id id) es) refl (without_apart id es)

pub places_kept : (id : ℕ) (w : Option ℕ) (place place' : ℕ → Option ℕ) → ((q : ℕ) → place' q ≡ cond (id == q) w (place q)) → (es : List Entry) → AllByRecursion (λ (x : Entry). x.id ≡ id → ⊥) es → AllByRecursion (λ (x : Entry). place' x.id ≡ place x.id) es
places_kept id w place place' update es all = all_weaker (λ (x : Entry). x.id ≡ id → ⊥) (λ (x : Entry). place' x.id ≡ place x.id) (λ e other. place_kept id w place place' update e other) es all

same_pick : (place : ℕ → Option ℕ) (id q : ℕ) (b : Bool) → (id == q) ≡ b → place id ≡ None → cond b None (place q) ≡ place q
same_pick place id q true is none = sym none ∙ ap place (eqb-true id q is)
same_pick place id q false is none = refl

pub same_place : (place place' : ℕ → Option ℕ) (id : ℕ) → place id ≡ None → ((q : ℕ) → place' q ≡ cond (id == q) None (place q)) → (q : ℕ) → place' q ≡ place q
same_place place place' id none update q = update q ∙ same_pick place id q (id == q) refl none

module _ (chains : List ChainSeen) (place : ℕ → Option ℕ) (spare room : ℕ) (store : IsStore chains place spare room) where
  -- where an id leaves its chain
  module _ (id k : ℕ) (c d : ChainSeen) (below : k < 256) (at : place id ≡ Some k) (left : c.entries ≡ without (has_entry_id id) (get_or chains k d).entries) where
    within : k < length chains
    within = let count = store.count in omega arith

    pub all_without : all_of (set chains k c) ≡ without (has_entry_id id) (all_of chains)
    all_without = without_at place (has_entry_id id) 0 k k d chains c (id_only place id k at) store.chained within (omega arith) left

    pub entries_without : entries_in (set chains k c) ≡ without (has_entry_id id) (entries_in chains)
    entries_without = ap (sorted_by id_of) all_without ∙ sym (filter_sorted id_of (λ e. not (has_entry_id id e)) (all_of chains))

    members : AllByRecursion (Belongs place k) c.entries
    members = rw left (all_filter (Belongs place k) (λ e. not (has_entry_id id e)) (get_or chains k d).entries (chain_at place 0 k k d chains store.chained within (omega arith)))

    pub store_without : (place' : ℕ → Option ℕ) (spare' : ℕ) → ((q : ℕ) → place' q ≡ cond (id == q) None (place q)) → spare ≤ spare' → (get_or chains k d).spare ≤ c.spare → IsStore (set chains k c) place' spare' room
    store_without place' spare' update more wide = record {
      count = length-set chains k c ∙ store.count;
      chained = chained_moved place place' 0 (set chains k c) (chained_set place 0 k k chains c store.chained within (omega arith) members)
          (rw all_without (places_kept id None place place' update (without (has_entry_id id) (all_of chains)) (without_apart id (all_of chains))));
      ids = λ q. rw all_without (let less = count_filter (has_entry_id q) (λ e. not (has_entry_id id e)) (all_of chains) in let once = store.ids q in omega arith);
      keys = λ key. rw all_without (let less = count_filter (has_key key) (λ e. not (has_entry_id id e)) (all_of chains) in let once = store.keys key in omega arith);
      places = let was = store.places in omega arith;
      chain_room = room_write room chains k c (let was = room_at room chains k d within store.chain_room in omega arith) store.chain_room;
    }

  -- where it is nowhere
  module _ (id : ℕ) (none : place id ≡ None) where
    nowhere : AllByRecursion (λ e. has_entry_id id e ≡ false) (all_of chains)
    nowhere = id_nowhere chains place spare room id store none

    pub entries_same : entries_in chains ≡ without (has_entry_id id) (entries_in chains)
    entries_same = ap (sorted_by id_of) (sym (keep_all (has_entry_id id) (all_of chains) nowhere)) ∙ sym (filter_sorted id_of (λ e. not (has_entry_id id e)) (all_of chains))

    pub store_same : (place' : ℕ → Option ℕ) (spare' : ℕ) → ((q : ℕ) → place' q ≡ place q) → spare ≤ spare' → IsStore chains place' spare' room
    store_same place' spare' same more = record {
      count = store.count;
      chained = chained_moved place place' 0 chains store.chained (all_weaker (λ e. has_entry_id id e ≡ false) (λ (e : Entry). place' e.id ≡ place e.id) (λ e _. same e.id) (all_of chains) nowhere);
      ids = store.ids;
      keys = store.keys;
      places = let was = store.places in omega arith;
      chain_room = store.chain_room;
    }
