-- The entries of a store in order of id.
use Rattle.std.proofs.Common.{ℕ, ◌≤◌}
use Rattle.lvs_types.specs.declared.entry.Entry.{Entry}
use Rattle.lvs_model.specs.Lookups.{has_key, has_entry_id}
use Rattle.lvs_model.specs.Lists.{sorted_by}
use Rattle.std.proofs.Common.{List, Option, count_by}
use Rattle.lvs_types.specs.declared.entry.Key.{Key}
use Rattle.lvs_entries.specs.Seen.{AreListed, ChainSeen}
use Rattle.lvs_entries.specs.Store.{IsStore, all_of, entries_in}
use Rattle.lvs_model.proofs.OrderLemmas.{sorted_up, count_sorted, strict_from, rising_from}

abbrev pub id_of : Entry → ℕ
id_of e = e.id

pub ids_once : (es : List Entry) → ((id : ℕ) → count_by (has_entry_id id) es ≤ 1) → (id : ℕ) → count_by (has_entry_id id) (sorted_by id_of es) ≤ 1
ids_once es once id = rw (count_sorted id_of (has_entry_id id) es) (once id)

pub keys_once : (es : List Entry) → ((key : Key) → count_by (has_key key) es ≤ 1) → (key : Key) → count_by (has_key key) (sorted_by id_of es) ≤ 1
keys_once es once key = rw (count_sorted id_of (has_key key) es) (once key)

pub are_listed : (chains : List ChainSeen) (place : ℕ → Option ℕ) (spare room : ℕ) → IsStore chains place spare room → AreListed (entries_in chains)
are_listed chains place spare room store = record {
  rising = rising_from id_of (entries_in chains) (strict_from id_of (entries_in chains) (sorted_up id_of (all_of chains)) (ids_once (all_of chains) store.ids));
  keys = keys_once (all_of chains) store.keys;
}
