-- What the board knows of ids and numbers, through each change of the item's entry.
use Rattle.std.proofs.Common.{◌≡◌, ◌+◌, ◌<◌, ◌^◌, Bool, true, false, cond, not, List, [], ◌∷◌, ◌++◌, Option, Some, None, refl, sym, ap, subst, length, arith, nat_eq, suc}
use Rattle.std.proofs.lemmas.List.Sums.{length-filter, count_by-le-length}
use Rattle.std.proofs.lemmas.Bool.Decides.{nat_tests}
use Rattle.std.specs.List.{IsDistinct, find}
use Rattle.lvs_types.specs.declared.addr.DestId.{DestId}
use Rattle.lvs_types.specs.declared.dest.Dest.{Dest}
use Rattle.lvs_types.specs.declared.entry.Entry.{Entry}
use Rattle.lvs_model.specs.State.{State}
use Rattle.lvs_model.specs.Lists.{update_first}
use Rattle.lvs_model.specs.Counts.{total}
use Rattle.lvs_model.specs.Overload.{overload_ended, overload_bound}
use Rattle.lvs_model.specs.Binding.{put_entry, count_ended, count_bound, bound_to, bind_entry}
use Rattle.lvs_model.specs.Incoming.{end_entry}
use Rattle.lvs_model.specs.Lookups.{has_dest_id, has_entry_id}
use Rattle.lvs_model.specs.WellFormed.{dest_ids}
use Rattle.lvs_rules.specs.Changes.{entered, appended}
use Rattle.lvs_well_formed.proofs.Lists.{all_find, all_update, all_filter, all_weaker, all_push}
use Rattle.lvs_well_formed.proofs.Distinct.{distinct_filter, distinct_push, keys_update, keys_put}
use Rattle.lvs_board.specs.Desks.{AreFew}

len_step : {X : Type 0} (b : Bool) (v x : X) (xs put : List X) → length put ≡ length xs → length (cond b (v ∷ xs) (x ∷ put)) ≡ length (x ∷ xs)
len_step true v x xs put rest = refl
len_step false v x xs put rest = ap suc rest

len_put : {X : Type 0} (p : X → Bool) (v : X) (xs : List X) → length (update_first p (λ _. v) xs) ≡ length xs
len_put p v [] = refl
len_put p v (x ∷ xs) = len_step (p x) v x xs (update_first p (λ _. v) xs) (len_put p v xs)

len_push : {X : Type 0} (xs : List X) (y : X) → length (xs ++ y ∷ []) ≡ length xs + 1
len_push [] y = refl
len_push (x ∷ xs) y = omega (arith, len_push xs y)

abbrev relieved : DestId → List Entry → Dest → Dest
relieved id left d = record d { overloaded = overload_ended d.spec (total id left) d.overloaded }

ids_ended : (server : Option DestId) (left : List Entry) (ds : List Dest) → dest_ids (count_ended server left ds) ≡ dest_ids ds
ids_ended None left ds = refl
ids_ended (Some id) left ds = keys_update (λ (d : Dest). d.id.0) (has_dest_id id) (relieved id left) ds (λ d passes. refl)

abbrev looked : DestId → List Entry → Dest → Dest
looked id later d = record d { overloaded = overload_bound d.spec (total id later) d.overloaded }

ids_bound : (id : DestId) (later : List Entry) (ds : List Dest) → dest_ids (count_bound id later ds) ≡ dest_ids ds
ids_bound id later ds = keys_update (λ (d : Dest). d.id.0) (has_dest_id id) (looked id later) ds (λ d passes. refl)

-- the servers have the same ids, and one entry becomes another of its id
put_few_at : (s : State) (ds : List Dest) (x v : Entry) → AreFew s → dest_ids ds ≡ dest_ids s.dests → find (has_entry_id v.id) s.entries ≡ Some x → v.id ≡ x.id → AreFew (record s { dests = ds; entries = put_entry v s.entries })
put_few_at s ds x v few ids found same = record {
  entries_apart = subst (IsDistinct nat_eq) (sym (keys_put (λ (e : Entry). e.id) (has_entry_id v.id) v s.entries x found same)) few.entries_apart;
  dests_apart = subst (IsDistinct nat_eq) (sym ids) few.dests_apart;
  templates_apart = few.templates_apart;
  below = all_update (λ (e : Entry). e.id < s.next_entry) (has_entry_id v.id) (λ _. v) s.entries (λ y passes small. let was : x.id < s.next_entry = all_find (λ (e : Entry). e.id < s.next_entry) (has_entry_id v.id) s.entries x few.below found in omega (arith, was, same)) few.below;
  templates_below = few.templates_below;
  few = omega (arith, few.few, len_put (has_entry_id v.id) v s.entries);
  few_templates = few.few_templates;
  young = few.young;
  young_templates = few.young_templates;
}

pub put_few : (s : State) (x v : Entry) → AreFew s → find (has_entry_id v.id) s.entries ≡ Some x → v.id ≡ x.id → AreFew (record s { entries = put_entry v s.entries })
put_few s x v few found same = put_few_at s s.dests x v few refl found same

pub bind_few : (s : State) (e : Entry) (d : Dest) → AreFew s → find (has_entry_id e.id) s.entries ≡ Some e → AreFew (bind_entry s e (Some d)).1
bind_few s e d few found = put_few_at s (count_bound d.id (put_entry (bound_to d e) s.entries) s.dests) e (bound_to d e) few (ids_bound d.id (put_entry (bound_to d e) s.entries) s.dests) found refl

pub end_few : (s : State) (e : Entry) → AreFew s → AreFew (end_entry e s)
end_few s e few = record {
  entries_apart = distinct_filter nat_eq (λ (x : Entry). x.id) (λ (x : Entry). not (has_entry_id e.id x)) s.entries few.entries_apart;
  dests_apart = subst (IsDistinct nat_eq) (sym (ids_ended e.server (end_entry e s).entries s.dests)) few.dests_apart;
  templates_apart = few.templates_apart;
  below = all_filter (λ (x : Entry). x.id < s.next_entry) (λ (x : Entry). not (has_entry_id e.id x)) s.entries few.below;
  templates_below = few.templates_below;
  few = omega (arith, few.few, length-filter (λ (x : Entry). not (has_entry_id e.id x)) s.entries, count_by-le-length (λ (x : Entry). not (has_entry_id e.id x)) s.entries);
  few_templates = few.few_templates;
  young = few.young;
  young_templates = few.young_templates;
}

enter_few_at : (s : State) (ds : List Dest) (e : Entry) → AreFew s → dest_ids ds ≡ dest_ids s.dests → e.id ≡ s.next_entry → s.next_entry < 2 ^ 62 → AreFew (record s { dests = ds; entries = s.entries ++ e ∷ []; next_entry = s.next_entry + 1 })
enter_few_at s ds e few ids new young = record {
  entries_apart = distinct_push nat_eq (λ (x : Entry). x.id) s.entries e (all_weaker (λ (x : Entry). x.id < s.next_entry) (λ (x : Entry). nat_eq x.id e.id ≡ false) s.entries (λ x small. grind (arith, nat_tests)) few.below) few.entries_apart;
  dests_apart = subst (IsDistinct nat_eq) (sym ids) few.dests_apart;
  templates_apart = few.templates_apart;
  below = all_push (λ (x : Entry). x.id < s.next_entry + 1) s.entries e (all_weaker (λ (x : Entry). x.id < s.next_entry) (λ (x : Entry). x.id < s.next_entry + 1) s.entries (λ x small. omega arith) few.below) (omega (arith, new));
  templates_below = few.templates_below;
  few = omega (arith, few.few, len_push s.entries e);
  few_templates = few.few_templates;
  young = omega (arith, young);
  young_templates = few.young_templates;
}

pub enter_few : (s : State) (e : Entry) (id : DestId) → AreFew s → e.id ≡ s.next_entry → s.next_entry < 2 ^ 62 → AreFew (entered e id s)
enter_few s e id few new young = enter_few_at s (count_bound id (s.entries ++ e ∷ []) s.dests) e few (ids_bound id (s.entries ++ e ∷ []) s.dests) new young

pub append_few : (s : State) (e : Entry) → AreFew s → e.id ≡ s.next_entry → s.next_entry < 2 ^ 62 → AreFew (appended e s)
append_few s e few new young = enter_few_at s s.dests e few refl new young
