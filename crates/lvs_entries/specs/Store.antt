-- The chains of a store and the chain of each id, and what ties them.
use Rattle.std.specs.Prelude.{◌≡◌, ℕ, ◌+◌, ◌≤◌, List, [], ◌∷◌, map, Option, Some, length, count_by, nat_eq}
use Rattle.std.specs.List.{flat_map, AllByRecursion}
use Rattle.std.specs.HashMap.{HashMap, get}
use Rattle.std.specs.declared.hash.FoldHasher.{FoldHasher}
use Rattle.std.specs.declared.hash.BuildHasherDefault.{BuildHasherDefault}
use Rattle.lvs_types.specs.declared.entry.Key.{Key}
use Rattle.lvs_types.specs.declared.entry.Entry.{Entry}
use Rattle.lvs_model.specs.Lists.{sorted_by}
use Rattle.lvs_model.specs.Lookups.{has_key, has_entry_id}
use Rattle.lvs_entries.specs.Chains.{key_chain}
use Rattle.lvs_entries.specs.Seen.{ChainSeen}

-- the entries of each chain
abbrev pub lists_of : List ChainSeen → List (List Entry)
lists_of chains = map (λ (c : ChainSeen). c.entries) chains

-- all entries, chain by chain
abbrev pub all_of : List ChainSeen → List Entry
all_of chains = flat_map (λ (c : ChainSeen). c.entries) chains

-- all entries, in order of id
abbrev pub entries_in : List ChainSeen → List Entry
entries_in chains = sorted_by (λ (e : Entry). e.id) (all_of chains)

-- so many chains without entries
abbrev pub AreEmpty : ℕ → List ChainSeen → Type 0
AreEmpty n chains = (length chains ≡ n) × (all_of chains ≡ [])

-- each chain has room for so many more
abbrev pub HaveRoom : ℕ → List ChainSeen → Type 0
HaveRoom room chains = AllByRecursion (λ (c : ChainSeen). room ≤ c.spare) chains

-- the chain of an id
abbrev pub place_in : HashMap ℕ ℕ (BuildHasherDefault FoldHasher) → ℕ → Option ℕ
place_in places id = get nat_eq places id

-- by its key and by its id the entry belongs to the chain
pub record Belongs (place : ℕ → Option ℕ) (chain : ℕ) (e : Entry) : Type 0 where
  pub by_key : key_chain e.key ≡ chain
  pub by_id : place e.id ≡ Some chain

-- each entry belongs to its chain, the first of them being this one
abbrev pub AreChained : (ℕ → Option ℕ) → ℕ → List ChainSeen → Type 0
AreChained place n [] = Unit {0}
AreChained place n (c ∷ chains) = AllByRecursion (Belongs place n) c.entries × AreChained place (n + 1) chains

pub record IsStore (chains : List ChainSeen) (place : ℕ → Option ℕ) (spare room : ℕ) : Type 0 where
  pub count : length chains ≡ 256
  pub chained : AreChained place 0 chains
  pub ids : (id : ℕ) → count_by (has_entry_id id) (all_of chains) ≤ 1
  pub keys : (key : Key) → count_by (has_key key) (all_of chains) ≤ 1
  pub places : room ≤ spare
  pub chain_room : HaveRoom room chains
