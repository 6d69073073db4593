-- A connection through edits of the list of entries: what is found under its id.
use Rattle.std.proofs.Common.{◌≡◌, ◌==◌, ◌<◌, ℕ, Bool, true, false, cond, not, List, [], ◌∷◌, ◌++◌, Option, Some, None, refl, sym, ap, subst, ◌∙◌, is_some, arith}
use Rattle.std.proofs.lemmas.Bool.{eqb-true, false_from_ne_true}
use Rattle.std.specs.List.{AllByRecursion, find, filter}
use Rattle.lvs_types.specs.declared.entry.Entry.{Entry}
use Rattle.lvs_model.specs.State.{State}
use Rattle.lvs_model.specs.Lists.{update_first, without}
use Rattle.lvs_model.specs.Lookups.{has_entry_id}
use Rattle.lvs_model.specs.Binding.{put_entry}
use Rattle.lvs_model.specs.WellFormed.{IsDrawn}
use Rattle.lvs_well_formed.proofs.Lists.{all_find, all_filter, all_unmap, find_passes}
use Rattle.lvs_well_formed.proofs.Finds.{find_filter, find_put}
use Rattle.lvs_well_formed.proofs.Keys.{nat_same}
use Rattle.lvs_well_formed.proofs.Parts.{Parts}
use Rattle.lvs_well_formed.proofs.Entries.{IsEntryOf}
use Rattle.lvs_laws.specs.Keeping.{IsSameConnection, IsKeptUnless, entry_of_id}

-- ONE CONNECTION

pub same_self : (e : Entry) → IsSameConnection e e
same_self e = record { id = refl; key = refl; daddr = refl; dport = refl; server = λ bound. refl; method = λ bound. refl }

pub same_then : (e f g : Entry) → IsSameConnection e f → IsSameConnection f g → IsSameConnection e g
same_then e f g first then = record {
  id = then.id ∙ first.id;
  key = then.key ∙ first.key;
  daddr = then.daddr ∙ first.daddr;
  dport = then.dport ∙ first.dport;
  server = λ bound. then.server (ap (λ o. is_some o) (first.server bound) ∙ bound) ∙ first.server bound;
  method = λ bound. then.method (ap (λ o. is_some o) (first.server bound) ∙ bound) ∙ first.method bound;
}

-- UNLESS

pub kept_found : (Way : Type 0) (e later : Entry) (o : Option Entry) → o ≡ Some later → IsSameConnection e later → IsKeptUnless Way e o
kept_found Way e later o is same = subst (IsKeptUnless Way e) (sym is) same

pub kept_weaker : (Way Other : Type 0) (e : Entry) (o : Option Entry) → (Way → Other) → IsKeptUnless Way e o → IsKeptUnless Other e o
kept_weaker Way Other e (Some later) weaker kept = kept
kept_weaker Way Other e None weaker kept = weaker kept

-- a connection that was the same until now
pub kept_from : (Way : Type 0) (e now : Entry) (o : Option Entry) → IsSameConnection e now → IsKeptUnless Way now o → IsKeptUnless Way e o
kept_from Way e now (Some later) same kept = same_then e now later same kept
kept_from Way e now None same kept = kept

-- a connection that is there, and the same
pub record IsKept (e : Entry) (es : List Entry) : Type 0 where
  pub later : Entry
  pub found : entry_of_id e.id es ≡ Some later
  pub same : IsSameConnection e later

pub found_self : (e f : Entry) (es : List Entry) → entry_of_id e.id es ≡ Some f → f.id ≡ e.id → entry_of_id f.id es ≡ Some f
found_self e f es found same = subst (λ id. entry_of_id id es ≡ Some f) (sym same) found

-- it is there and the same, and goes on from there
pub then_kept : (Way : Type 0) (e : Entry) (ts us : List Entry) (k : IsKept e ts) → (entry_of_id k.later.id ts ≡ Some k.later → IsKeptUnless Way k.later (entry_of_id k.later.id us)) → IsKeptUnless Way e (entry_of_id e.id us)
then_kept Way e ts us k then =
    let kept = then (found_self e k.later ts k.found k.same.id) in
    subst (λ id. IsKeptUnless Way e (entry_of_id id us)) k.same.id (kept_from Way e k.later (entry_of_id k.later.id us) k.same kept)

-- OTHER ENTRIES

-- one that passes the first test alone takes the place of another such one: the second test finds what it found
pub find_put_else : (p q : Entry → Bool) (v : Entry) (xs : List Entry) → q v ≡ false → ((z : Entry) → p z ≡ true → q z ≡ false) → find q (update_first p (λ _. v) xs) ≡ find q xs
find_put_else p q v [] differs apart = refl
find_put_else p q v (z ∷ zs) differs apart =
    let M : Bool → Type 0 = λ b. (b ≡ true → q z ≡ false) → find q (cond b (v ∷ zs) (z ∷ update_first p (λ _. v) zs)) ≡ cond (q z) (Some z) (find q zs) in
    (elim (p z) as M [
      | true ↦ (λ here.
          ap (λ b. cond b (Some v) (find q zs)) differs ∙ sym (ap (λ b. cond b (Some z) (find q zs)) (here refl)))
      | false ↦ (λ here. ap (λ o. cond (q z) (Some z) o) (find_put_else p q v zs differs apart))
    ]) (apart z)

pub id_differs : (a b id : ℕ) → (a == b) ≡ true → (b == id) ≡ false → (a == id) ≡ false
id_differs a b id same differs = subst (λ n. (n == id) ≡ false) (sym (eqb-true a b same)) differs

-- an entry of another id takes its place
pub put_else : (x : Entry) (es : List Entry) (id : ℕ) → (x.id == id) ≡ false → entry_of_id id (put_entry x es) ≡ entry_of_id id es
put_else x es id differs = find_put_else (has_entry_id x.id) (has_entry_id id) x es differs (λ z same. id_differs z.id x.id id same differs)

-- an entry of another id stands last
pub push_else : (x : Entry) (es : List Entry) (id : ℕ) → (x.id == id) ≡ false → entry_of_id id (es ++ x ∷ []) ≡ entry_of_id id es
push_else x [] id differs = ap (λ b. cond b (Some x) None) differs
push_else x (z ∷ zs) id differs = ap (λ o. cond (z.id == id) (Some z) o) (push_else x zs id differs)

-- PUT AND FILTERED

-- an entry becomes another of the same connection
pub put_kept : (es : List Entry) (x after e : Entry) → entry_of_id x.id es ≡ Some x → IsSameConnection x after → entry_of_id e.id es ≡ Some e → IsKept e (put_entry after es)
put_kept es x after e there same found =
    let M : Bool → Type 0 = λ b. (after.id == e.id) ≡ b → IsKept e (put_entry after es) in
    (elim (after.id == e.id) as M [
      | true ↦ (λ is.
          let ids : after.id ≡ e.id = eqb-true after.id e.id is in
          let here : entry_of_id e.id es ≡ Some x = subst (λ id. entry_of_id id es ≡ Some x) (sym same.id ∙ ids) there in
          let one : x ≡ e = cc in
          let put : entry_of_id after.id (put_entry after es) ≡ Some after = find_put (has_entry_id after.id) after es x (subst (λ id. entry_of_id id es ≡ Some x) (sym same.id) there) (nat_same after.id) in
          record {
            later = after;
            found = subst (λ id. entry_of_id id (put_entry after es) ≡ Some after) ids put;
            same = subst (λ y. IsSameConnection y after) one same;
          })
      | false ↦ (λ differs. record { later = e; found = put_else after es e.id differs ∙ found; same = same_self e })
    ]) refl

-- each entry is the one that is found by its id
abbrev pub AreFound : List Entry → Type 0
AreFound es = AllByRecursion (λ (x : Entry). entry_of_id x.id es ≡ Some x) es

-- what is found under an id after others have left was found under it before
still_found : (test : Entry → Bool) (es : List Entry) (id : ℕ) (e later : Entry) → AreFound es → entry_of_id id es ≡ Some e → entry_of_id id (filter test es) ≡ Some later → e ≡ later
still_found test es id e later each found is =
    let there : entry_of_id later.id es ≡ Some later = all_find (λ (x : Entry). entry_of_id x.id es ≡ Some x) (has_entry_id id) (filter test es) later (all_filter (λ (x : Entry). entry_of_id x.id es ≡ Some x) test es each) is in
    let ids : later.id ≡ id = eqb-true later.id id (find_passes (has_entry_id id) (filter test es) later is) in
    let here : entry_of_id id es ≡ Some later = subst (λ n. entry_of_id n es ≡ Some later) ids there in
    cc

filtered_step : (Way : Type 0) (e : Entry) (o : Option Entry) → Way → ((later : Entry) → o ≡ Some later → e ≡ later) → IsKeptUnless Way e o
filtered_step Way e None way one = way
filtered_step Way e (Some later) way one = subst (IsSameConnection e) (one later refl) (same_self e)

-- those that pass stay
pub filter_kept : (test : Entry → Bool) (es : List Entry) (e : Entry) → AreFound es → entry_of_id e.id es ≡ Some e → IsKeptUnless (test e ≡ false) e (entry_of_id e.id (filter test es))
filter_kept test es e each found =
    let M : Bool → Type 0 = λ b. test e ≡ b → IsKeptUnless (test e ≡ false) e (entry_of_id e.id (filter test es)) in
    (elim (test e) as M [
      | true ↦ (λ stays. kept_found (test e ≡ false) e e (entry_of_id e.id (filter test es)) (find_filter (has_entry_id e.id) test es e found stays) (same_self e))
      | false ↦ (λ leaves. filtered_step (test e ≡ false) e (entry_of_id e.id (filter test es)) leaves (λ later is. still_found test es e.id e later each found is))
    ]) refl

pub not_false : (b : Bool) → not b ≡ false → b ≡ true
not_false true is = refl
not_false false is = absurd cc

-- one entry leaves
pub ended_kept : (es : List Entry) (x e : Entry) → AreFound es → entry_of_id x.id es ≡ Some x → entry_of_id e.id es ≡ Some e → IsKeptUnless (x ≡ e) e (entry_of_id e.id (without (has_entry_id x.id) es))
ended_kept es x e each there found =
    kept_weaker (not (e.id == x.id) ≡ false) (x ≡ e) e (entry_of_id e.id (without (has_entry_id x.id) es))
    (λ is.
    let ids : e.id ≡ x.id = eqb-true e.id x.id (not_false (e.id == x.id) is) in
    let here : entry_of_id e.id es ≡ Some x = subst (λ id. entry_of_id id es ≡ Some x) (sym ids) there in
    cc)
    (filter_kept (λ (f : Entry). not (has_entry_id x.id f)) es e each found)

-- IDS

-- the id of an entry isn't the next one
pub drawn_below : (s : State) (e : Entry) → Parts s → IsEntryOf s e → e.id < s.next_entry
drawn_below s e p found =
    (all_find (λ (x : Entry). IsDrawn s.next_entry x.id) (has_entry_id e.id) s.entries e (all_unmap (IsDrawn s.next_entry) (λ (x : Entry). x.id) s.entries p.entries.ids.each) found).1

pub below_differs : (id next : ℕ) → id < next → (next == id) ≡ false
below_differs id next below = false_from_ne_true (next == id) (λ same. let equal : next ≡ id = eqb-true next id same in omega arith)
