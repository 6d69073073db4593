-- The change of the desk carries the entries of the item's bucket to those of the next state.
use Rattle.std.proofs.Common.{◌≡◌, ◌==◌, ◌<◌, ◌≤◌, ℕ, true, false, List, [], ◌∷◌, ◌++◌, Option, Some, None, is_some, refl, sym, ◌∙◌, ap, subst, arith}
use Rattle.std.specs.Prelude.{IfSome}
use Rattle.std.specs.List.{AllByRecursion, IsDistinct, find, filter}
use Rattle.lvs_types.specs.declared.addr.TemplateId.{TemplateId}
use Rattle.lvs_types.specs.declared.entry.Key.{Key}
use Rattle.lvs_types.specs.declared.entry.Entry.{Entry}
use Rattle.lvs_types.specs.declared.bucket.Change.{Change}
use Rattle.lvs_types.specs.declared.bucket.Change.TheVariants.{Keep, Put, Update, End, Swap, EndDue}
use Rattle.lvs_types.specs.Protocols.{proto_code}
use Rattle.lvs_model.specs.State.{State}
use Rattle.lvs_model.specs.Same.{key_eq}
use Rattle.lvs_model.specs.Numbers.{bucket_of}
use Rattle.lvs_model.specs.Lists.{without}
use Rattle.lvs_model.specs.Lookups.{has_key, has_entry_id, entry_at}
use Rattle.lvs_model.specs.Binding.{put_entry}
use Rattle.lvs_model.specs.Clock.{is_swept}
use Rattle.lvs_model.specs.WellFormed.{entry_keys}
use Rattle.lvs_model.specs.Buckets.{is_in_bucket, entries_of, is_due_entry, changed_by, entry_of_id, is_found_with, AreOlder, Fits}
use Rattle.lvs_well_formed.proofs.Lists.{all_weaker, all_filter}
use Rattle.lvs_well_formed.proofs.Keys.{key_same}
use Rattle.lvs_well_formed.proofs.Distinct.{distinct_parts}
use Rattle.lvs_well_formed.proofs.Finds.{find_filter}
use Rattle.lvs_board.specs.Desks.{after, origin, IsOfItem}
use Rattle.lvs_board.specs.Homes.{id_of, IsSweptAt}
use Rattle.lvs_board.proofs.Filters.{filter_in, filter_put_in, filter_swap, filter_both_left, find_nothing, all_last}

-- a new entry is in the bucket, and has the key of the entry that was found
abbrev pub IsAnew : State → ℕ → Option Entry → Entry → Type 0
IsAnew s b o e = s.next_entry ≤ e.id → (is_in_bucket s.buckets b e ≡ true) × ((x : Entry) → o ≡ Some x → e.key ≡ x.key)

-- what is known of an item of this bucket, of the entry that it found and of the next state
pub record IsStep (s t : State) (b : ℕ) (o : Option Entry) : Type 0 where
  pub buckets : t.buckets ≡ s.buckets
  pub below : AllByRecursion (λ (e : Entry). e.id < s.next_entry) s.entries
  pub keys : IsDistinct key_eq (entry_keys t.entries)
  pub found : (x : Entry) → o ≡ Some x → (find (has_entry_id x.id) s.entries ≡ Some x) × (is_in_bucket s.buckets b x ≡ true)
  pub anew : AllByRecursion (IsAnew s b o) t.entries

-- THE ENTRY THAT WAS FOUND

record IsThere (s : State) (b id : ℕ) (x : Entry) : Type 0 where
  in_all : find (has_entry_id id) s.entries ≡ Some x
  inside : is_in_bucket s.buckets b x ≡ true
  in_bucket : find (has_entry_id id) (entries_of b s) ≡ Some x

there_is : (s t : State) (b id : ℕ) (o : Option Entry) (x : Entry) → IsStep s t b o → o ≡ Some x → x.id ≡ id → IsThere s b id x
there_is s t b id o x step is same =
    let known = step.found x is in
    let here : find (has_entry_id id) s.entries ≡ Some x = subst (λ n. find (has_entry_id n) s.entries ≡ Some x) same known.0 in
    record { in_all = here; inside = known.1; in_bucket = find_filter (has_entry_id id) (is_in_bucket s.buckets b) s.entries x here known.1 }

-- of an id that was found there is the entry
with_found : (o : Option Entry) (id : ℕ) (Q : Type 0) → id_of o ≡ Some id → ((x : Entry) → o ≡ Some x → x.id ≡ id → Q) → Q
with_found None id Q is then = absurd cc
with_found (Some x) id Q is then = then x refl (let same : x.id ≡ id = cc in same)

key_stays : (v x : Entry) (o : Option Entry) → o ≡ Some x → IfSome o (λ (e : Entry). origin e ≡ origin v) → x.key ≡ v.key
key_stays v x None is keyed = absurd cc
key_stays v x (Some y) is keyed = let same : y ≡ x = cc in ap (λ (from : Key × Option TemplateId). from.0) (subst (λ (e : Entry). origin e ≡ origin v) same keyed)

found_with : (key : Key) (x : Entry) (o : Option Entry) → o ≡ Some x → x.key ≡ key → is_found_with key o ≡ true
found_with key x o is same = ap (is_found_with key) is ∙ ap (λ k. key_eq k key) same ∙ key_same key

is_there : (x : Entry) (o : Option Entry) → o ≡ Some x → is_some o ≡ true
is_there x None is = absurd cc
is_there x (Some y) is = refl

same_bucket : (buckets b : ℕ) (x v : Entry) → x.key ≡ v.key → is_in_bucket buckets b x ≡ true → is_in_bucket buckets b v ≡ true
same_bucket buckets b x v same is = ap (λ (k : Key). bucket_of (proto_code k.proto) k.caddr k.cport buckets == b) (sym same) ∙ is

-- A NEW ENTRY

older_of : (s : State) (b id : ℕ) → AllByRecursion (λ (e : Entry). e.id < s.next_entry) s.entries → s.next_entry ≤ id → AreOlder id (entries_of b s)
older_of s b id below drawn =
    all_filter (λ (e : Entry). e.id < id) (is_in_bucket s.buckets b) s.entries
    (all_weaker (λ (e : Entry). e.id < s.next_entry) (λ (e : Entry). e.id < id) s.entries (λ e young. omega (arith, young, drawn)) below)

differ_step : (x e : Entry) (es : List Entry) → AllByRecursion (λ k. key_eq x.key k ≡ false) (entry_keys (es ++ e ∷ [])) → key_eq x.key e.key ≡ false
differ_step x e [] each = each.0
differ_step x e (y ∷ es) each = differ_step x e es each.1

-- no other entry has the key of the last one
others_differ : (es : List Entry) (e : Entry) → IsDistinct key_eq (entry_keys (es ++ e ∷ [])) → AllByRecursion (λ (x : Entry). has_key e.key x ≡ false) es
others_differ [] e apart = tt
others_differ (x ∷ es) e apart = let parts = distinct_parts key_eq x.key (entry_keys (es ++ e ∷ [])) apart in (differ_step x e es parts.0, others_differ es e parts.1)

free_of : (s : State) (b : ℕ) (e : Entry) → IsDistinct key_eq (entry_keys (s.entries ++ e ∷ [])) → entry_at e.key (entries_of b s) ≡ None
free_of s b e apart = find_nothing (has_key e.key) (entries_of b s) (all_filter (λ (x : Entry). has_key e.key x ≡ false) (is_in_bucket s.buckets b) s.entries (others_differ s.entries e apart))

last_anew : (s t : State) (b : ℕ) (o : Option Entry) (es : List Entry) (e : Entry) → IsStep s t b o → es ++ e ∷ [] ≡ t.entries → IsAnew s b o e
last_anew s t b o es e step is = all_last (IsAnew s b o) es e (subst (λ xs. AllByRecursion (IsAnew s b o) xs) (sym is) step.anew)

-- BY THE CHANGE

pub record Takes (s : State) (b : ℕ) (change : Change) (es : List Entry) : Type 0 where
  pub fits : Fits change (entries_of b s)
  pub carried : filter (is_in_bucket s.buckets b) es ≡ changed_by change (entries_of b s)

put_takes : (s t : State) (b : ℕ) (o : Option Entry) (e : Entry) → IsStep s t b o → s.next_entry ≤ e.id → s.entries ++ e ∷ [] ≡ t.entries → Takes s b (Put e) (s.entries ++ e ∷ [])
put_takes s t b o e step drawn is = record {
  fits = (older_of s b e.id step.below drawn, free_of s b e (subst (λ xs. IsDistinct key_eq (entry_keys xs)) (sym is) step.keys));
  carried = filter_in (is_in_bucket s.buckets b) s.entries e (last_anew s t b o s.entries e step is drawn).0;
}

update_takes : (s : State) (b : ℕ) (e x : Entry) → IsThere s b e.id x → x.key ≡ e.key → Takes s b (Update e) (put_entry e s.entries)
update_takes s b e x there same = record {
  fits = found_with e.key x (entry_of_id e.id (entries_of b s)) there.in_bucket same;
  carried = filter_put_in (is_in_bucket s.buckets b) (has_entry_id e.id) e x s.entries there.in_all there.inside (same_bucket s.buckets b x e same there.inside);
}

end_takes : (s : State) (b id : ℕ) (x : Entry) → IsThere s b id x → Takes s b (End id) (without (has_entry_id id) s.entries)
end_takes s b id x there = record {
  fits = is_there x (entry_of_id id (entries_of b s)) there.in_bucket;
  carried = filter_swap (is_in_bucket s.buckets b) (has_entry_id id) s.entries;
}

swap_takes : (s t : State) (b id : ℕ) (o : Option Entry) (e x : Entry) → IsStep s t b o → o ≡ Some x → IsThere s b id x → s.next_entry ≤ e.id → without (has_entry_id id) s.entries ++ e ∷ [] ≡ t.entries
    → Takes s b (Swap id e) (without (has_entry_id id) s.entries ++ e ∷ [])
swap_takes s t b id o e x step found there drawn is =
    let left : List Entry = without (has_entry_id id) s.entries in
    let anew = last_anew s t b o left e step is drawn in
    record {
      fits = (older_of s b e.id step.below drawn, found_with e.key x (entry_of_id id (entries_of b s)) there.in_bucket (sym (anew.1 x found)));
      carried = filter_in (is_in_bucket s.buckets b) left e anew.0 ∙ ap (λ es. es ++ e ∷ []) (filter_swap (is_in_bucket s.buckets b) (has_entry_id id) s.entries);
    }

due_takes : (s : State) (b k moment : ℕ) → k ≡ b → moment ≡ s.now → Takes s b (EndDue moment) (without (is_swept s k) s.entries)
due_takes s b k moment same now = record {
  fits = tt;
  carried = ap (λ n. filter (is_in_bucket s.buckets b) (without (is_swept s n) s.entries)) same
      ∙ filter_both_left (is_in_bucket s.buckets b) (is_due_entry s.now) s.entries
      ∙ ap (λ n. without (is_due_entry n) (entries_of b s)) (sym now);
}

pub takes : (s t : State) (b k : ℕ) (o : Option Entry) (sweep : Option ℕ) (change : Change) → IsStep s t b o → (sweep ≡ Some k → k ≡ b) → IsOfItem s (id_of o) change → IsSweptAt sweep s.buckets k change
    → after (is_swept s k) change s.entries ≡ t.entries → Takes s b change (after (is_swept s k) change s.entries)
takes s t b k o sweep Keep step own of swept is = record { fits = tt; carried = refl }
takes s t b k o sweep (Put e) step own of swept is = put_takes s t b o e step of is
takes s t b k o sweep (Update e) step own of swept is =
    with_found o e.id (Takes s b (Update e) (put_entry e s.entries)) of.0
    (λ x found same. let there = there_is s t b e.id o x step found same in update_takes s b e x there (key_stays e x (find (has_entry_id e.id) s.entries) there.in_all of.1))
takes s t b k o sweep (End id) step own of swept is =
    with_found o id (Takes s b (End id) (without (has_entry_id id) s.entries)) of (λ x found same. end_takes s b id x (there_is s t b id o x step found same))
takes s t b k o sweep (Swap id e) step own of swept is =
    with_found o id (Takes s b (Swap id e) (without (has_entry_id id) s.entries ++ e ∷ [])) of.0
    (λ x found same. swap_takes s t b id o e x step found (there_is s t b id o x step found same) of.1 is)
takes s t b k o sweep (EndDue moment) step own of swept is = due_takes s b k moment (own swept.0) of
