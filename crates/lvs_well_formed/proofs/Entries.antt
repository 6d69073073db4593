-- Entries that change, end or are added keep the state well formed.
use Rattle.std.proofs.Common.{◌≡◌, ◌+◌, ℕ, Bool, true, false, not, List, [], ◌∷◌, ◌++◌, Option, Some, None, sym, ap, subst, is_some, nat_eq}
use Rattle.std.specs.List.{AllByRecursion, IsDistinct, find, filter}
use Rattle.lvs_types.specs.declared.dest.Dest.{Dest}
use Rattle.lvs_types.specs.declared.entry.Key.{Key}
use Rattle.lvs_types.specs.declared.entry.Entry.{Entry}
use Rattle.lvs_types.specs.declared.sync.SyncRecord.{SyncRecord}
use Rattle.lvs_model.specs.State.{State}
use Rattle.lvs_model.specs.Same.{key_eq}
use Rattle.lvs_model.specs.Lists.{without}
use Rattle.lvs_model.specs.Lookups.{dest_at, has_entry_id}
use Rattle.lvs_model.specs.Binding.{put_entry, serves_at, count_ended}
use Rattle.lvs_model.specs.Incoming.{end_entry, server_named}
use Rattle.lvs_model.specs.WellFormed.{AreDrawn, IsThere, GoesTo, HoldsOlder, HasStateOfProto, entry_ids}
use Rattle.lvs_well_formed.proofs.Lists.{all_filter, all_push, all_find, all_update}
use Rattle.lvs_well_formed.proofs.Distinct.{keys_put, distinct_filter, distinct_push, each_found}
use Rattle.lvs_well_formed.proofs.Ids.{goes_equal, goes_filter, goes_push}
use Rattle.lvs_well_formed.proofs.Keys.{nat_same}
use Rattle.lvs_well_formed.proofs.Parts.{IsSound, Parts, After, ids_stay, then_after}
use Rattle.lvs_well_formed.proofs.AlikeStates.{with_alike, ended_alike}

-- each server is the one that is found by its id
pub dests_found : (s : State) → Parts s → AllByRecursion (λ (d : Dest). dest_at d.id s.dests ≡ Some d) s.dests
dests_found s p = each_found nat_eq (λ (d : Dest). d.id.0) s.dests nat_same p.dests.ids.apart

-- each entry is the one that is found by its id
pub entries_found : (s : State) → Parts s → AllByRecursion (λ (e : Entry). find (has_entry_id e.id) s.entries ≡ Some e) s.entries
entries_found s p = each_found nat_eq (λ (e : Entry). e.id) s.entries nat_same p.entries.ids.apart

-- the entry is in the list
abbrev pub IsEntryOf : State → Entry → Type 0
IsEntryOf s e = find (has_entry_id e.id) s.entries ≡ Some e

pub entry_sound : (s : State) (e : Entry) → Parts s → IsEntryOf s e → IsSound s.next_template s.dests e
entry_sound s e p found = all_find (IsSound s.next_template s.dests) (has_entry_id e.id) s.entries e p.entries.each found

-- an entry at a server of the list
pub sound_at : (next : ℕ) (ds : List Dest) (e : Entry) (d : Dest) → dest_at d.id ds ≡ Some d → serves_at e.daddr e.dport e.key.vport d ≡ true → e.server ≡ Some d.id → HoldsOlder next e → HasStateOfProto e → IsSound next ds e
sound_at next ds e d found serves named older state =
    let there : IsThere ds (Some d.id) = ap (λ (o : Option Dest). is_some o) found in
    let goes : GoesTo e (server_named (Some d.id) ds) = subst (GoesTo e) (sym found) serves in
    record {
      server = subst (IsThere ds) (sym named) there;
      goes = subst (λ o. GoesTo e (server_named o ds)) (sym named) goes;
      template = older;
      state = state;
    }

pub with_entry_put : (s : State) (e after : Entry) → find (has_entry_id after.id) s.entries ≡ Some e → after.id ≡ e.id → after.key ≡ e.key → IsSound s.next_template s.dests after → Parts s → After s (record s { entries = put_entry after s.entries })
with_entry_put s e after found id key sound p =
    let same_ids = keys_put (λ (f : Entry). f.id) (has_entry_id after.id) after s.entries e found id in
    let same_keys = keys_put (λ (f : Entry). f.key) (has_entry_id after.id) after s.entries e found key in
    record {
      parts = record {
        services = p.services;
        dests = p.dests;
        entries = record {
          ids = subst (λ ids. AreDrawn s.next_entry ids) (sym same_ids) p.entries.ids;
          keys = subst (λ keys. IsDistinct key_eq keys) (sym same_keys) p.entries.keys;
          each = all_update (IsSound s.next_template s.dests) (has_entry_id after.id) (λ _. after) s.entries (λ x here old. sound) p.entries.each;
        };
        templates = p.templates;
        pending = p.pending;
      };
      ids = record {
        entries = (goes_equal s.next_entry (entry_ids s.entries) (entry_ids (put_entry after s.entries)) p.entries.ids same_ids).rises;
        dests = (ids_stay s).dests;
        templates = (ids_stay s).templates;
      };
    }

pub with_entries_filtered : (s : State) (test : Entry → Bool) → Parts s → After s (record s { entries = filter test s.entries })
with_entries_filtered s test p =
    let goes = goes_filter s.next_entry (λ (e : Entry). e.id) test s.entries p.entries.ids in
    record {
      parts = record {
        services = p.services;
        dests = p.dests;
        entries = record {
          ids = goes.drawn;
          keys = distinct_filter key_eq (λ (e : Entry). e.key) test s.entries p.entries.keys;
          each = all_filter (IsSound s.next_template s.dests) test s.entries p.entries.each;
        };
        templates = p.templates;
        pending = p.pending;
      };
      ids = record { entries = goes.rises; dests = (ids_stay s).dests; templates = (ids_stay s).templates };
    }

-- no entry has the key
abbrev pub IsFree : State → Key → Type 0
IsFree s key = AllByRecursion (λ (e : Entry). key_eq e.key key ≡ false) s.entries

pub with_entry_added : (s : State) (e : Entry) → e.id ≡ s.next_entry → IsFree s e.key → IsSound s.next_template s.dests e → Parts s
    → After s (record s { entries = s.entries ++ e ∷ []; next_entry = s.next_entry + 1 })
with_entry_added s e id free sound p =
    let goes = goes_push s.next_entry (λ (f : Entry). f.id) s.entries e id p.entries.ids in
    record {
      parts = record {
        services = p.services;
        dests = p.dests;
        entries = record {
          ids = goes.drawn;
          keys = distinct_push key_eq (λ (f : Entry). f.key) s.entries e free p.entries.keys;
          each = all_push (IsSound s.next_template s.dests) s.entries e p.entries.each sound;
        };
        templates = p.templates;
        pending = p.pending;
      };
      ids = record { entries = goes.rises; dests = (ids_stay s).dests; templates = (ids_stay s).templates };
    }

pub with_pending : (s : State) (records : List SyncRecord) → (s.daemons.master ≡ None → records ≡ []) → Parts s → After s (record s { pending = records })
with_pending s records quiet p = record {
  parts = record { services = p.services; dests = p.dests; entries = p.entries; templates = p.templates; pending = quiet };
  ids = record { entries = (ids_stay s).entries; dests = (ids_stay s).dests; templates = (ids_stay s).templates };
}

-- an entry ends
pub ended_after : (s : State) (e : Entry) → Parts s → After s (end_entry e s)
ended_after s e p =
    let entries = without (has_entry_id e.id) s.entries in
    let left : State = record s { entries = entries } in
    then_after s left (end_entry e s) (with_entries_filtered s (λ (f : Entry). not (has_entry_id e.id f)) p)
    (λ q. with_alike left (count_ended e.server entries s.dests) (ended_alike e.server entries s.dests) q)
