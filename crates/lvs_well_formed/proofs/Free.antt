-- A key is free where no entry has it, and once its entry has ended.
use Rattle.std.proofs.Common.{◌≡◌, false, List, Some, None, subst}
use Rattle.std.specs.List.{AllByRecursion, IsDistinct, find}
use Rattle.lvs_types.specs.declared.entry.Key.{Key}
use Rattle.lvs_types.specs.declared.entry.Entry.{Entry}
use Rattle.lvs_model.specs.State.{State}
use Rattle.lvs_model.specs.Same.{key_eq}
use Rattle.lvs_model.specs.Lists.{without}
use Rattle.lvs_model.specs.Lookups.{has_entry_id, has_key, entry_at}
use Rattle.lvs_model.specs.Incoming.{end_entry}
use Rattle.lvs_model.specs.WellFormed.{entry_keys}
use Rattle.lvs_well_formed.proofs.Lists.{all_find, find_none, find_passes}
use Rattle.lvs_well_formed.proofs.Distinct.{others_apart}
use Rattle.lvs_well_formed.proofs.Keys.{key_flip, key_true}
use Rattle.lvs_well_formed.proofs.Parts.{Parts}
use Rattle.lvs_well_formed.proofs.Entries.{IsEntryOf, IsFree, entries_found}

key_gone : (es : List Entry) (e : Entry) (key : Key) → IsDistinct key_eq (entry_keys es) → find (has_entry_id e.id) es ≡ Some e → e.key ≡ key → AllByRecursion (λ (x : Entry). key_eq x.key key ≡ false) (without (has_entry_id e.id) es)
key_gone es e key apart found is =
    subst (λ k. AllByRecursion (λ (x : Entry). key_eq x.key k ≡ false) (without (has_entry_id e.id) es)) is
    (others_apart key_eq (λ (x : Entry). x.key) (has_entry_id e.id) es e key_flip apart found)

-- once the entry of the key has ended
pub free_ended : (s : State) (e : Entry) (key : Key) → Parts s → IsEntryOf s e → e.key ≡ key → IsFree (end_entry e s) key
free_ended s e key p found is = key_gone s.entries e key p.entries.keys found is

-- where none is found
pub free_none : (s : State) (key : Key) → entry_at key s.entries ≡ None → IsFree s key
free_none s key none = find_none (has_key key) s.entries none

-- an entry that is found by its key is in the list
pub found_by_key : (s : State) (key : Key) (e : Entry) → Parts s → entry_at key s.entries ≡ Some e → IsEntryOf s e
found_by_key s key e p found = all_find (λ (x : Entry). find (has_entry_id x.id) s.entries ≡ Some x) (has_key key) s.entries e (entries_found s p) found

pub found_of_key : (s : State) (key : Key) (e : Entry) → entry_at key s.entries ≡ Some e → e.key ≡ key
found_of_key s key e found = key_true e.key key (find_passes (has_key key) s.entries e found)
