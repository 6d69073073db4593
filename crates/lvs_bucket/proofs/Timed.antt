-- The timers of entries after each change of the entries.
use Rattle.std.proofs.Common.{◌≡◌, ℕ, ◌<◌, Bool, true, false, cond, not, List, [], ◌∷◌, ◌++◌, length, Option, Some, None, refl, sym, ◌∙◌, ap, arith, nat_le}
use Rattle.std.specs.List.{AllByRecursion, filter, find}
use Rattle.std.specs.Option.{option_map}
use Rattle.std.proofs.lemmas.Bool.{eqb-true, ne_eqb, le-leb, lt-leb, cond-true, cond-false}
use Rattle.std.proofs.lemmas.List.{map-append, length-map}
use Rattle.std.proofs.lemmas.List.Sums.{length-filter}
use Rattle.lvs_types.specs.declared.entry.Entry.{Entry}
use Rattle.lvs_model.specs.Lists.{without, insert_by}
use Rattle.lvs_model.specs.Lookups.{has_entry_id}
use Rattle.lvs_model.specs.Binding.{put_entry}
use Rattle.lvs_model.specs.Buckets.{is_due_entry}
use Rattle.lvs_model.proofs.OrderLemmas.{IsStrict, all_weaker, keep_all, none_counted, find_none, insert_last, found_holds}
use Rattle.lvs_timer.specs.declared.timer.Timer.{Timer}
use Rattle.lvs_timer.specs.Timers.{has_id, is_due}
use Rattle.lvs_timer.proofs.Finding.{found_has}
use Rattle.lvs_bucket.specs.Pairs.{timer_of, timers_of}
use Rattle.lvs_entries.specs.Seen.{AreListed}
use Rattle.lvs_bucket.proofs.Rising.{id_of, strict, ids_once, skip}

abbrev timer_id : Timer → ℕ
timer_id t = t.id

-- ---- filters and searches

filter_step : (b : Bool) (e : Entry) (es ds : List Entry) (ts : List Timer) → ts ≡ timers_of ds → cond b (timer_of e ∷ ts) ts ≡ timers_of (cond b (e ∷ ds) ds)
filter_step true e es ds ts is = ap (λ us. timer_of e ∷ us) is
filter_step false e es ds ts is = is

pub timers_filter : (p : Timer → Bool) (es : List Entry) → filter p (timers_of es) ≡ timers_of (filter (λ e. p (timer_of e)) es)
timers_filter p [] = refl
timers_filter p (e ∷ es) = filter_step (p (timer_of e)) e es (filter (λ d. p (timer_of d)) es) (filter p (timers_of es)) (timers_filter p es)

pub timers_without : (n : ℕ) (es : List Entry) → without (has_id n) (timers_of es) ≡ timers_of (without (has_entry_id n) es)
timers_without n es = timers_filter (λ t. not (has_id n t)) es

find_step : (b : Bool) (e : Entry) (o : Option Entry) (r : Option Timer) → r ≡ option_map timer_of o → cond b (Some (timer_of e)) r ≡ option_map timer_of (cond b (Some e) o)
find_step true e o r is = refl
find_step false e o r is = is

pub timers_find : (n : ℕ) (es : List Entry) → find (has_id n) (timers_of es) ≡ option_map timer_of (find (has_entry_id n) es)
timers_find n [] = refl
timers_find n (e ∷ es) = find_step (has_entry_id n e) e (find (has_entry_id n) es) (find (has_id n) (timers_of es)) (timers_find n es)

-- the entry of a timer
pub record IsEntryOf (t : Timer) (es : List Entry) : Type 0 where
  pub entry : Entry
  pub found : find (has_entry_id t.id) es ≡ Some entry
  pub is : timer_of entry ≡ t

entry_by : (t : Timer) (es : List Entry) (o : Option Entry) → o ≡ find (has_entry_id t.id) es → option_map timer_of o ≡ Some t → IsEntryOf t es
entry_by t es None is found = absurd (cc)
entry_by t es (Some e) is found = record { entry = e; found = sym is; is = cc }

pub entry_of : (t : Timer) (es : List Entry) → find (has_id t.id) (timers_of es) ≡ Some t → IsEntryOf t es
entry_of t es found = entry_by t es (find (has_entry_id t.id) es) refl (sym (timers_find t.id es) ∙ found)

-- ---- a new entry

older_timers : (n : ℕ) (es : List Entry) → AllByRecursion (λ (e : Entry). e.id < n) es → AllByRecursion (λ (t : Timer). t.id < n) (timers_of es)
older_timers n [] older = tt
older_timers n (e ∷ es) older = (older.0, older_timers n es older.1)

pub timers_put : (e : Entry) (es : List Entry) → AllByRecursion (λ (d : Entry). d.id < e.id) es → insert_by timer_id (timer_of e) (timers_of es) ≡ timers_of (es ++ e ∷ [])
timers_put e es older = insert_last timer_id (timer_of e) (timers_of es) (older_timers e.id es older) ∙ sym (map-append timer_of es (e ∷ []))

pub entries_put : (e : Entry) (es : List Entry) → AllByRecursion (λ (d : Entry). d.id < e.id) es → insert_by id_of e es ≡ es ++ e ∷ []
entries_put e es older = insert_last id_of e es older

-- ---- an entry in the place of the one of its id

front : (t : Timer) (e : Entry) (es : List Entry) → t.id ≡ e.id → AllByRecursion (λ (d : Entry). e.id < d.id) es → insert_by timer_id t (timers_of es) ≡ t ∷ timers_of es
front t e [] is all = refl
front t e (d ∷ es) is all =
    let above = all.0 in
    cond-true (nat_le t.id d.id) (t ∷ timer_of d ∷ timers_of es) (timer_of d ∷ insert_by timer_id t (timers_of es)) (le-leb t.id d.id (omega arith))

above_by : (n : ℕ) (d old : Entry) (es : List Entry) (b : Bool) → n < d.id → (find (has_entry_id old.id) es ≡ Some old → n < old.id) → cond b (Some d) (find (has_entry_id old.id) es) ≡ Some old → n < old.id
above_by n d old es true here later found = let same : d ≡ old = cc in rw (← same) here
above_by n d old es false here later found = later found

-- what is found is above what all are above
found_above : (n : ℕ) (old : Entry) (es : List Entry) → AllByRecursion (λ (d : Entry). n < d.id) es → find (has_entry_id old.id) es ≡ Some old → n < old.id
found_above n old [] all found = absurd (cc)
found_above n old (d ∷ es) all found = above_by n d old es (has_entry_id old.id d) all.0 (found_above n old es all.1) found

renew_step : (v e old : Entry) (es : List Entry) (b : Bool) → has_entry_id v.id e ≡ b → AllByRecursion (λ (d : Entry). e.id < d.id) es → cond b (Some e) (find (has_entry_id v.id) es) ≡ Some old
    → (find (has_entry_id v.id) es ≡ Some old → insert_by timer_id (timer_of v) (without (has_id v.id) (timers_of es)) ≡ timers_of (put_entry v es))
    → insert_by timer_id (timer_of v) (cond (not b) (timer_of e ∷ without (has_id v.id) (timers_of es)) (without (has_id v.id) (timers_of es))) ≡ timers_of (cond b (v ∷ es) (e ∷ put_entry v es))
renew_step v e old es true is all found later =
    let same = eqb-true e.id v.id is in
    let none = all_weaker (λ (d : Entry). e.id < d.id) (λ (d : Entry). has_entry_id v.id d ≡ false) (λ d lt. ne_eqb d.id v.id (λ other. omega arith)) es all in
    ap (insert_by timer_id (timer_of v)) (timers_without v.id es ∙ ap timers_of (keep_all (has_entry_id v.id) es none)) ∙ front (timer_of v) e es (sym same) all
renew_step v e old es false is all found later =
    let there = found_has (has_entry_id v.id) old es found in
    let same = eqb-true old.id v.id there.0 in
    let above = found_above e.id old es all (ap (λ n. find (has_entry_id n) es) same ∙ found) in
    cond-false (nat_le v.id e.id) (timer_of v ∷ timer_of e ∷ without (has_id v.id) (timers_of es)) (timer_of e ∷ insert_by timer_id (timer_of v) (without (has_id v.id) (timers_of es))) (lt-leb v.id e.id (omega arith))
    ∙ ap (λ ts. timer_of e ∷ ts) (later found)

pub timers_renewed : (v old : Entry) (es : List Entry) → IsStrict id_of es → find (has_entry_id v.id) es ≡ Some old → insert_by timer_id (timer_of v) (without (has_id v.id) (timers_of es)) ≡ timers_of (put_entry v es)
timers_renewed v old [] up found = absurd (cc)
timers_renewed v old (e ∷ es) up found = renew_step v e old es (has_entry_id v.id e) refl up.0 found (timers_renewed v old es up.1)

-- ---- due entries

no_timers : (es : List Entry) → timers_of es ≡ [] → length es ≡ 0
no_timers es none = let long = length-map es timer_of in let zero_long = ap (λ (ts : List Timer). length ts) none in omega arith

-- where no timer is due no entry leaves
pub none_due : (m : ℕ) (es : List Entry) → filter (is_due m) (timers_of es) ≡ [] → without (is_due_entry m) es ≡ es
none_due m es none =
    let empty = no_timers (filter (is_due_entry m) es) (sym (timers_filter (is_due m) es) ∙ none) in
    let long = length-filter (is_due_entry m) es in
    keep_all (is_due_entry m) es (none_counted (is_due_entry m) es (omega arith))

-- the timer of an id that is found is armed
pub timer_found : (n : ℕ) (e : Entry) (es : List Entry) (ts : List Timer) → ts ≡ timers_of es → find (has_entry_id n) es ≡ Some e → find (has_id n) ts ≡ Some (record { deadline = e.deadline; id = n })
timer_found n e es ts is found =
    let there = found_has (has_entry_id n) e es found in
    let same = eqb-true e.id n there.0 in
    ap (find (has_id n)) is ∙ timers_find n es ∙ ap (option_map timer_of) found ∙ ap (λ m. Some (record { deadline = e.deadline; id = m })) same

pub timer_new : (n : ℕ) (es : List Entry) (ts : List Timer) → ts ≡ timers_of es → find (has_entry_id n) es ≡ None → find (has_id n) ts ≡ None
timer_new n es ts is none = ap (find (has_id n)) is ∙ timers_find n es ∙ ap (option_map timer_of) none

-- no timer has the id that was disarmed
none_disarmed : (n : ℕ) (ts : List Timer) → find (has_id n) (without (has_id n) ts) ≡ None
none_disarmed n ts = find_none (has_id n) (without (has_id n) ts) (all_gone ts)
  where
    kept : (t : Timer) (ts : List Timer) (b : Bool) → has_id n t ≡ b → AllByRecursion (λ (u : Timer). has_id n u ≡ false) (without (has_id n) ts) → AllByRecursion (λ (u : Timer). has_id n u ≡ false) (cond (not b) (t ∷ without (has_id n) ts) (without (has_id n) ts))
    kept t ts true is all = all
    kept t ts false is all = (is, all)

    all_gone : (ts : List Timer) → AllByRecursion (λ (u : Timer). has_id n u ≡ false) (without (has_id n) ts)
    all_gone [] = tt
    all_gone (t ∷ ts) = kept t ts (has_id n t) refl (all_gone ts)

pub disarmed_new : (n : ℕ) (ts more : List Timer) → more ≡ without (has_id n) ts → find (has_id n) more ≡ None
disarmed_new n ts more is = ap (find (has_id n)) is ∙ none_disarmed n ts

-- the due entries that are left where the one of a due timer has left
pub due_left : (m : ℕ) (t : Timer) (es : List Entry) → AreListed es → IsEntryOf t es → is_due m t ≡ true → without (is_due_entry m) (without (has_entry_id t.id) es) ≡ without (is_due_entry m) es
due_left m t es listed e due =
    let here : is_due_entry m e.entry ≡ true = ap (is_due m) e.is ∙ due in
    skip (is_due_entry m) (has_entry_id t.id) es
    (found_holds (λ (d : Entry). is_due_entry m d ≡ true) (has_entry_id t.id) e.entry es (ids_once t.id es (strict es listed)) e.found here)
