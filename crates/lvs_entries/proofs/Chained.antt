-- Each entry belongs to its chain, so those that belong to one chain stand in that chain alone.
use Rattle.std.proofs.Common.{◌≡◌, ℕ, ◌+◌, ◌<◌, ◌≤◌, Bool, true, false, not, List, [], ◌∷◌, ◌++◌, length, map, Option, Some, refl, sym, ◌∙◌, ap, arith, get_or, set, zero, suc, if◌then◌else◌, append_assoc, append-nil}
use Rattle.std.specs.List.{AllByRecursion, filter}
use Rattle.std.proofs.lemmas.List.Elements.{filter-append}
use Rattle.lvs_types.specs.declared.entry.Entry.{Entry}
use Rattle.lvs_model.specs.Lists.{without}
use Rattle.lvs_entries.specs.Seen.{ChainSeen}
use Rattle.lvs_entries.specs.Store.{Belongs, AreChained, all_of}
use Rattle.lvs_model.proofs.OrderLemmas.{all_weaker, filter_none, keep_all, change_none, all_join, join_front, join_back}

no_pass : (place : ℕ → Option ℕ) (n : ℕ) (p : Entry → Bool) (e : Entry) (b : Bool) → p e ≡ b → Belongs place n e → ((e : Entry) → Belongs place n e → p e ≡ true → ⊥) → p e ≡ false
no_pass place n p e true is here none = absurd (none e here is)
no_pass place n p e false is here none = is

-- no entry of the chain passes
pub chain_fails : (place : ℕ → Option ℕ) (n : ℕ) (p : Entry → Bool) (es : List Entry) → AllByRecursion (Belongs place n) es → ((e : Entry) → Belongs place n e → p e ≡ true → ⊥) → AllByRecursion (λ e. p e ≡ false) es
chain_fails place n p es all none = all_weaker (Belongs place n) (λ e. p e ≡ false) (λ e here. no_pass place n p e (p e) refl here none) es all

-- no entry of these chains passes
pub chains_fail : (place : ℕ → Option ℕ) (n : ℕ) (p : Entry → Bool) (chains : List ChainSeen) → AreChained place n chains → ((j : ℕ) (e : Entry) → n ≤ j → Belongs place j e → p e ≡ true → ⊥) → AllByRecursion (λ e. p e ≡ false) (all_of chains)
chains_fail place n p [] chained none = tt
chains_fail place n p (c ∷ chains) chained none =
    all_join (λ e. p e ≡ false) c.entries (all_of chains) (chain_fails place n p c.entries chained.0 (λ e here. none n e (omega arith) here))
    (chains_fail place (n + 1) p chains chained.1 (λ j e le here. none j e (omega arith) here))

-- an entry that passes belongs to the chain
abbrev pub OnlyIn : (ℕ → Option ℕ) → (Entry → Bool) → ℕ → Type 0
OnlyIn place p k = (j : ℕ) (e : Entry) → Belongs place j e → p e ≡ true → j ≡ k

-- those that pass are those of their chain
pub filter_at : (place : ℕ → Option ℕ) (p : Entry → Bool) (n i k : ℕ) (d : ChainSeen) (chains : List ChainSeen) → OnlyIn place p k → AreChained place n chains → i < length chains → n + i ≡ k → filter p (all_of chains) ≡ filter p (get_or chains i d).entries
filter_at place p n i k d [] only chained within at = absurd (omega arith)
filter_at place p n zero k d (c ∷ chains) only chained within at =
    filter-append p c.entries (all_of chains)
    ∙ ap (λ es. filter p c.entries ++ es) (filter_none p (all_of chains) (chains_fail place (n + 1) p chains chained.1 (λ j e le here yes. let is = only j e here yes in omega arith)))
    ∙ append-nil (filter p c.entries)
filter_at place p n (suc i) k d (c ∷ chains) only chained within at =
    filter-append p c.entries (all_of chains)
    ∙ ap (λ es. es ++ filter p (all_of chains)) (filter_none p c.entries (chain_fails place n p c.entries chained.0 (λ e here yes. let is = only n e here yes in omega arith)))
    ∙ filter_at place p (n + 1) i k d chains only chained.1 (omega arith) (omega arith)

-- each entry of a chain belongs to it
pub chain_at : (place : ℕ → Option ℕ) (n i k : ℕ) (d : ChainSeen) (chains : List ChainSeen) → AreChained place n chains → i < length chains → n + i ≡ k → AllByRecursion (Belongs place k) (get_or chains i d).entries
chain_at place n i k d [] chained within at = absurd (omega arith)
chain_at place n zero k d (c ∷ chains) chained within at =
    let same : n ≡ k = omega arith in
    all_weaker (Belongs place n) (Belongs place k) (λ e here. record { by_key = here.by_key ∙ same; by_id = here.by_id ∙ ap (λ m. Some m) same }) c.entries chained.0
chain_at place n (suc i) k d (c ∷ chains) chained within at = chain_at place (n + 1) i k d chains chained.1 (omega arith) (omega arith)

-- ---- a chain written back

pub chained_set : (place : ℕ → Option ℕ) (n i k : ℕ) (chains : List ChainSeen) (c : ChainSeen) → AreChained place n chains → i < length chains → n + i ≡ k → AllByRecursion (Belongs place k) c.entries → AreChained place n (set chains i c)
chained_set place n i k [] c chained within at all = absurd (omega arith)
chained_set place n zero k (x ∷ chains) c chained within at all =
    let same : k ≡ n = omega arith in
    (all_weaker (Belongs place k) (Belongs place n) (λ e here. record { by_key = here.by_key ∙ same; by_id = here.by_id ∙ ap (λ m. Some m) same }) c.entries all, chained.1)
chained_set place n (suc i) k (x ∷ chains) c chained within at all = (chained.0, chained_set place (n + 1) i k chains c chained.1 (omega arith) (omega arith) all)

moved : (place place' : ℕ → Option ℕ) (n : ℕ) (es : List Entry) → AllByRecursion (Belongs place n) es → AllByRecursion (λ (e : Entry). place' e.id ≡ place e.id) es → AllByRecursion (Belongs place' n) es
moved place place' n [] all same = tt
moved place place' n (e ∷ es) all same = (record { by_key = all.0.by_key; by_id = same.0 ∙ all.0.by_id }, moved place place' n es all.1 same.1)

-- with the same places at the ids that are there
pub chained_moved : (place place' : ℕ → Option ℕ) (n : ℕ) (chains : List ChainSeen) → AreChained place n chains → AllByRecursion (λ (e : Entry). place' e.id ≡ place e.id) (all_of chains) → AreChained place' n chains
chained_moved place place' n [] chained same = tt
chained_moved place place' n (c ∷ chains) chained same = (
  moved place place' n c.entries chained.0 (join_front (λ (e : Entry). place' e.id ≡ place e.id) c.entries (all_of chains) same),
  chained_moved place place' (n + 1) chains chained.1 (join_back (λ (e : Entry). place' e.id ≡ place e.id) c.entries (all_of chains) same),
)

-- all entries after those that pass have left their chain
pub without_at : (place : ℕ → Option ℕ) (p : Entry → Bool) (n i k : ℕ) (d : ChainSeen) (chains : List ChainSeen) (c : ChainSeen) → OnlyIn place p k → AreChained place n chains → i < length chains → n + i ≡ k → c.entries ≡ without p (get_or chains i d).entries
    → all_of (set chains i c) ≡ without p (all_of chains)
without_at place p n i k d [] c only chained within at is = absurd (omega arith)
without_at place p n zero k d (x ∷ chains) c only chained within at is =
    ap (λ es. es ++ all_of chains) is
    ∙ ap (λ es. without p x.entries ++ es) (sym (keep_all p (all_of chains) (chains_fail place (n + 1) p chains chained.1 (λ j e le here yes. let same = only j e here yes in omega arith))))
    ∙ sym (filter-append (λ e. not (p e)) x.entries (all_of chains))
without_at place p n (suc i) k d (x ∷ chains) c only chained within at is =
    ap (λ es. x.entries ++ es) (without_at place p (n + 1) i k d chains c only chained.1 (omega arith) (omega arith) is)
    ∙ ap (λ es. es ++ without p (all_of chains)) (sym (keep_all p x.entries (chain_fails place n p x.entries chained.0 (λ e here yes. let same = only n e here yes in omega arith))))
    ∙ sym (filter-append (λ e. not (p e)) x.entries (all_of chains))

-- those that pass changed
abbrev pub changed : (Entry → Bool) → Entry → List Entry → List Entry
changed p v es = map (λ e. if p e then v else e) es

changed_join : (p : Entry → Bool) (v : Entry) (xs ys : List Entry) → changed p v (xs ++ ys) ≡ changed p v xs ++ changed p v ys
changed_join p v [] ys = refl
changed_join p v (x ∷ xs) ys = ap (λ es. (if p x then v else x) ∷ es) (changed_join p v xs ys)

-- all entries after those that pass are changed in their chain
pub changed_at : (place : ℕ → Option ℕ) (p : Entry → Bool) (v : Entry) (n i k : ℕ) (d : ChainSeen) (chains : List ChainSeen) (c : ChainSeen) → OnlyIn place p k → AreChained place n chains → i < length chains → n + i ≡ k → c.entries ≡ changed p v (get_or chains i d).entries
    → all_of (set chains i c) ≡ changed p v (all_of chains)
changed_at place p v n i k d [] c only chained within at is = absurd (omega arith)
changed_at place p v n zero k d (x ∷ chains) c only chained within at is =
    ap (λ es. es ++ all_of chains) is
    ∙ ap (λ es. changed p v x.entries ++ es) (sym (change_none p v (all_of chains) (chains_fail place (n + 1) p chains chained.1 (λ j e le here yes. let same = only j e here yes in omega arith))))
    ∙ sym (changed_join p v x.entries (all_of chains))
changed_at place p v n (suc i) k d (x ∷ chains) c only chained within at is =
    ap (λ es. x.entries ++ es) (changed_at place p v (n + 1) i k d chains c only chained.1 (omega arith) (omega arith) is)
    ∙ ap (λ es. es ++ changed p v (all_of chains)) (sym (change_none p v x.entries (chain_fails place n p x.entries chained.0 (λ e here yes. let same = only n e here yes in omega arith))))
    ∙ sym (changed_join p v x.entries (all_of chains))

-- a list with one more, somewhere
pub record IsPut (e : Entry) (old new : List Entry) : Type 0 where
  pub front : List Entry
  pub back : List Entry
  pub was : old ≡ front ++ back
  pub is : new ≡ front ++ e ∷ back

pub put_at : (e : Entry) (i : ℕ) (d : ChainSeen) (chains : List ChainSeen) (c : ChainSeen) → i < length chains → c.entries ≡ (get_or chains i d).entries ++ e ∷ [] → IsPut e (all_of chains) (all_of (set chains i c))
put_at e i d [] c within is = absurd (omega arith)
put_at e zero d (x ∷ chains) c within is = record {
  front = x.entries;
  back = all_of chains;
  was = refl;
  is = ap (λ es. es ++ all_of chains) is ∙ append_assoc x.entries (e ∷ []) (all_of chains);
}
put_at e (suc i) d (x ∷ chains) c within is =
    let later = put_at e i d chains c (omega arith) is in
    record {
      front = x.entries ++ later.front;
      back = later.back;
      was = ap (λ es. x.entries ++ es) later.was ∙ sym (append_assoc x.entries later.front later.back);
      is = ap (λ es. x.entries ++ es) later.is ∙ sym (append_assoc x.entries later.front (e ∷ later.back));
    }
