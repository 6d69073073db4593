-- A number that is above all others is new.
use Rattle.std.proofs.Common.{◌≡◌, ℕ, ◌+◌, ◌<◌, ◌^◌, Bool, true, false, List, None, refl, sym, ◌∙◌, ap, arith}
use Rattle.std.specs.List.{AllByRecursion, find}
use Rattle.std.proofs.lemmas.Bool.{eqb-true}
use Rattle.lvs_types.specs.declared.entry.Key.{Key}
use Rattle.lvs_types.specs.declared.entry.Entry.{Entry}
use Rattle.lvs_timer.specs.declared.timer.Timer.{Timer}
use Rattle.lvs_model.specs.Lists.{insert_by}
use Rattle.lvs_model.specs.Lookups.{has_key, has_entry_id, entry_at}
use Rattle.lvs_model.proofs.OrderLemmas.{all_weaker, all_insert, find_none}
use Rattle.lvs_entries.proofs.Belonging.{key_same}
use Rattle.lvs_timer.specs.Timers.{has_id}
use Rattle.lvs_times.specs.declared.load.Load.{Load}
use Rattle.lvs_times.specs.Numbered.{IsBelow, IsTimed, deadline_by}

fails : {X : Type 0} (p : X → Bool) (x : X) (b : Bool) → p x ≡ b → (p x ≡ true → ⊥) → p x ≡ false
fails p x true is none = absurd (none is)
fails p x false is none = is

pub new_id : (n : ℕ) (es : List Entry) → AllByRecursion (IsBelow n) es → find (has_entry_id n) es ≡ None
new_id n es all =
    find_none (has_entry_id n) es (all_weaker (IsBelow n) (λ e. has_entry_id n e ≡ false) (λ e below. fails (has_entry_id n) e (has_entry_id n e) refl (λ is. let same = eqb-true e.id n is in let less = below.1 in omega arith)) es all)

pub new_key : (n : ℕ) (key : Key) (es : List Entry) → key.caddr.number ≡ n → AllByRecursion (IsBelow n) es → entry_at key es ≡ None
new_key n key es client all =
    find_none (has_key key) es (all_weaker (IsBelow n) (λ e. has_key key e ≡ false) (λ e below. fails (has_key key) e (has_key key e) refl
    (λ is. let same : e.key.caddr.number ≡ key.caddr.number = ap (λ (k : Key). k.caddr.number) (key_same e.key key is) in let own = below.0 in let less = below.1 in omega arith)) es all)

pub below_next : (n : ℕ) (e : Entry) (es : List Entry) → e.id ≡ n → e.key.caddr.number ≡ n → AllByRecursion (IsBelow n) es → AllByRecursion (IsBelow (n + 1)) (insert_by (λ (x : Entry). x.id) e es)
below_next n e es id client all =
    all_insert (IsBelow (n + 1)) (λ (x : Entry). x.id) e es (client ∙ sym id, omega arith) (all_weaker (IsBelow n) (IsBelow (n + 1)) (λ x below. (below.0, (let less = below.1 in omega arith))) es all)

pub new_timer : (n : ℕ) (ts : List Timer) → AllByRecursion (λ (t : Timer). t.id < n) ts → find (has_id n) ts ≡ None
new_timer n ts all = find_none (has_id n) ts (all_weaker (λ (t : Timer). t.id < n) (λ t. has_id n t ≡ false) (λ t less. fails (has_id n) t (has_id n t) refl (λ is. let same = eqb-true t.id n is in omega arith)) ts all)

pub timers_below : (n deadline : ℕ) (ts : List Timer) → AllByRecursion (λ (t : Timer). t.id < n) ts → AllByRecursion (λ (t : Timer). t.id < n + 1) (insert_by (λ (t : Timer). t.id) (record { id = n; deadline = deadline }) ts)
timers_below n deadline ts all =
    all_insert (λ (t : Timer). t.id < n + 1) (λ (t : Timer). t.id) (record { id = n; deadline = deadline }) ts (omega arith) (all_weaker (λ (t : Timer). t.id < n) (λ (t : Timer). t.id < n + 1) (λ t less. omega arith) ts all)

pub timers_timed : (load : Load) (n deadline : ℕ) (ts : List Timer) → n < 2 ^ 32 → deadline ≡ deadline_by load n → AllByRecursion (IsTimed load) ts → AllByRecursion (IsTimed load) (insert_by (λ (t : Timer). t.id) (record { id = n; deadline = deadline }) ts)
timers_timed load n deadline ts few is all = all_insert (IsTimed load) (λ (t : Timer). t.id) (record { id = n; deadline = deadline }) ts (few, is) all
