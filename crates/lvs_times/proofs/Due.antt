-- The timers that are due stay armed until they are disarmed.
use Rattle.std.proofs.Common.{◌≡◌, ℕ, ◌+◌, ◌<◌, ◌^◌, Bool, true, false, cond, not, List, [], ◌∷◌, Option, Some, refl, sym, ◌∙◌, ap, arith, drop, get_or, length, add-one, zero, suc}
use Rattle.std.specs.List.{AllByRecursion, find, filter}
use Rattle.std.specs.List.Sorted.{IsStrictlyIncreasing}
use Rattle.std.proofs.lemmas.Bool.{eqb-true, eq-eqb, ne_eqb}
use Rattle.lvs_model.specs.Lists.{without}
use Rattle.lvs_timer.specs.declared.timer.Timer.{Timer}
use Rattle.lvs_timer.specs.Timers.{has_id, is_due, ids_of}
use Rattle.lvs_model.proofs.OrderLemmas.{all_weaker, all_filter}
use Rattle.lvs_times.specs.declared.load.Load.{Load}
use Rattle.lvs_times.specs.Numbered.{IsTimed, deadline_by}

-- each number is below those after it
abbrev pub IsRising : List ℕ → Type 0
IsRising [] = Unit {0}
IsRising (x ∷ xs) = AllByRecursion (λ (y : ℕ). x < y) xs × IsRising xs

rising_tail : (x : ℕ) (xs : List ℕ) → IsStrictlyIncreasing (x ∷ xs) → IsStrictlyIncreasing xs
rising_tail x xs rising k within = let step = rw add-one at (rising (suc k) (omega arith)) in rw add-one step

rising_above : (x : ℕ) (xs : List ℕ) → IsStrictlyIncreasing (x ∷ xs) → AllByRecursion (λ (y : ℕ). x < y) xs
rising_above x [] rising = tt
rising_above x (y ∷ ys) rising =
    let first : x < y = rising 0 (omega arith) in
    (first, all_weaker (λ (z : ℕ). y < z) (λ (z : ℕ). x < z) (λ z less. omega arith) ys (rising_above y ys (rising_tail x (y ∷ ys) rising)))

pub rising_from : (xs : List ℕ) → IsStrictlyIncreasing xs → IsRising xs
rising_from [] rising = tt
rising_from (x ∷ xs) rising = (rising_above x xs rising, rising_from xs (rising_tail x xs rising))

pub rising_drop : (i : ℕ) (xs : List ℕ) → IsRising xs → IsRising (drop i xs)
rising_drop zero xs rising = rising
rising_drop (suc i) [] rising = tt
rising_drop (suc i) (x ∷ xs) rising = rising_drop i xs rising.1

-- the timer of that id is armed with the id's deadline
abbrev pub IsArmed : Load → List Timer → ℕ → Type 0
IsArmed load timers id = (id < 2 ^ 32) × (find (has_id id) timers ≡ Some (record { id = id; deadline = deadline_by load id }))

unmap : (P : ℕ → Type 0) (ts : List Timer) → AllByRecursion P (ids_of ts) → AllByRecursion (λ (t : Timer). P t.id) ts
unmap P [] all = tt
unmap P (t ∷ ts) all = (all.0, unmap P ts all.1)

remap : (P : ℕ → Type 0) (ts : List Timer) → AllByRecursion (λ (t : Timer). P t.id) ts → AllByRecursion P (ids_of ts)
remap P [] all = tt
remap P (t ∷ ts) all = (all.0, remap P ts all.1)

pass_by : (id : ℕ) (t : Timer) (o : Option Timer) → t.id < id → cond (has_id id t) (Some t) o ≡ o
pass_by id t o less = let other : has_id id t ≡ false = ne_eqb t.id id (λ same. omega arith) in ap (λ (b : Bool). cond b (Some t) o) other

-- each timer is found by its id
found_self : (ts : List Timer) → IsRising (ids_of ts) → AllByRecursion (λ (t : Timer). find (has_id t.id) ts ≡ Some t) ts
found_self [] rising = tt
found_self (t ∷ ts) rising = (
  ap (λ (b : Bool). cond b (Some t) (find (has_id t.id) ts)) (eq-eqb t.id t.id refl),
  found_later t ts ts (unmap (λ (y : ℕ). t.id < y) ts rising.0) (found_self ts rising.1),
)
  where
    found_later : (t : Timer) (ts us : List Timer) → AllByRecursion (λ (u : Timer). t.id < u.id) us → AllByRecursion (λ (u : Timer). find (has_id u.id) ts ≡ Some u) us → AllByRecursion (λ (u : Timer). find (has_id u.id) (t ∷ ts) ≡ Some u) us
    found_later t ts [] above found = tt
    found_later t ts (u ∷ us) above found = (pass_by u.id t (find (has_id u.id) ts) above.0 ∙ found.0, found_later t ts us above.1 found.1)

timer_is : (load : Load) (t : Timer) → IsTimed load t → t ≡ record { id = t.id; deadline = deadline_by load t.id }
timer_is load t timed = λ i. record { id = t.id; deadline = timed.1 i }

both : {X : Type 0} (P Q : X → Type 0) (xs : List X) → AllByRecursion P xs → AllByRecursion Q xs → AllByRecursion (λ x. P x × Q x) xs
both P Q [] p q = tt
both P Q (x ∷ xs) p q = ((p.0, q.0), both P Q xs p.1 q.1)

pub armed_all : (load : Load) (now : ℕ) (timers : List Timer) → IsStrictlyIncreasing (ids_of timers) → AllByRecursion (IsTimed load) timers → AllByRecursion (IsArmed load timers) (ids_of (filter (is_due now) timers))
armed_all load now timers rising timed =
    let own : AllByRecursion (λ (t : Timer). find (has_id t.id) timers ≡ Some t) timers = found_self timers (rising_from (ids_of timers) rising) in
    let whole : AllByRecursion (λ (t : Timer). IsArmed load timers t.id) timers =
    all_weaker (λ (t : Timer). IsTimed load t × (find (has_id t.id) timers ≡ Some t)) (λ (t : Timer). IsArmed load timers t.id) (λ t facts. (facts.0.0, facts.1 ∙ ap (λ (u : Timer). Some u) (timer_is load t facts.0))) timers
    (both (IsTimed load) (λ (t : Timer). find (has_id t.id) timers ≡ Some t) timers timed own) in
    remap (IsArmed load timers) (filter (is_due now) timers) (all_filter (λ (t : Timer). IsArmed load timers t.id) (is_due now) timers whole)

find_without_cons : (id other : ℕ) (t : Timer) (ts : List Timer) (b : Bool) → has_id id t ≡ b → id < other → find (has_id other) (without (has_id id) ts) ≡ find (has_id other) ts
    → find (has_id other) (cond (not b) (t ∷ without (has_id id) ts) (without (has_id id) ts)) ≡ cond (has_id other t) (Some t) (find (has_id other) ts)
find_without_cons id other t ts true is less later = let same : t.id ≡ id = eqb-true t.id id is in later ∙ sym (pass_by other t (find (has_id other) ts) (omega arith))
find_without_cons id other t ts false is less later = ap (λ (o : Option Timer). cond (has_id other t) (Some t) o) later

find_without : (id other : ℕ) (ts : List Timer) → id < other → find (has_id other) (without (has_id id) ts) ≡ find (has_id other) ts
find_without id other [] less = refl
find_without id other (t ∷ ts) less = find_without_cons id other t ts (has_id id t) refl less (find_without id other ts less)

still_armed : (load : Load) (id : ℕ) (timers : List Timer) (ids : List ℕ) → AllByRecursion (λ (y : ℕ). id < y) ids → AllByRecursion (IsArmed load timers) ids → AllByRecursion (IsArmed load (without (has_id id) timers)) ids
still_armed load id timers [] above armed = tt
still_armed load id timers (x ∷ ids) above armed = ((armed.0.0, find_without id x timers above.0 ∙ armed.0.1), still_armed load id timers ids above.1 armed.1)

-- ---- the next one

pub rising_next : (i : ℕ) (ids : List ℕ) → i < length ids → IsRising (drop i ids) → IsRising (drop (i + 1) ids)
rising_next i [] within rising = absurd (omega arith)
rising_next zero (x ∷ ids) within rising = rising.1
rising_next (suc i) (x ∷ ids) within rising = rw add-one (rw add-one at (rising_next i ids (omega arith) rising))

-- once it is disarmed, those after it still are armed
pub armed_next : (load : Load) (i : ℕ) (timers : List Timer) (ids : List ℕ) (d : ℕ) → i < length ids → IsRising (drop i ids) → AllByRecursion (IsArmed load timers) (drop i ids)
    → AllByRecursion (IsArmed load (without (has_id (get_or ids i d)) timers)) (drop (i + 1) ids)
armed_next load i timers [] d within rising armed = absurd (omega arith)
armed_next load zero timers (x ∷ ids) d within rising armed = still_armed load x timers ids rising.0 armed.1
armed_next load (suc i) timers (x ∷ ids) d within rising armed = rw add-one (rw add-one at (armed_next load i timers ids d (omega arith) rising armed))

pub timed_next : (load : Load) (id : ℕ) (timers : List Timer) → AllByRecursion (IsTimed load) timers → AllByRecursion (IsTimed load) (without (has_id id) timers)
timed_next load id timers timed = all_filter (IsTimed load) (λ t. not (has_id id t)) timers timed
