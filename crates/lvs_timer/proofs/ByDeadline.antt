-- The order of a due list, and what the ordered set makes of it.
use Rattle.std.proofs.Common.{◌≡◌, ℕ, ◌+◌, ◌≤◌, Bool, true, false, cond, not, List, [], ◌∷◌, refl, sym, ◌∙◌, ap, subst, arith, count_by}
use Rattle.std.specs.declared.cmp.Ordering.{Ordering}
use Rattle.std.specs.declared.cmp.Ordering.TheVariants.{Less, Equal, Greater}
use Rattle.std.specs.Ordering.{nat_cmp, ordering_then, match_ordering, is_eq}
use Rattle.std.specs.BTreeMap.{is_at}
use Rattle.std.specs.BTreeSet.{insert_key}
use Rattle.std.specs.Set.{remove_key}
use Rattle.std.specs.List.{AllByRecursion, filter}
use Rattle.std.specs.List.Sorted.{IsStrictlySortedBy}
use Rattle.std.proofs.lemmas.Bool.{leb-false, lt-leb, eq-eqb}
use Rattle.std.proofs.lemmas.Bool.Decides.{nat_tests}
use Rattle.std.proofs.lemmas.List.Sums.{sum_by-cons}
use Rattle.lvs_model.specs.Lists.{without}
use Rattle.lvs_model.proofs.OrderLemmas.{all_weaker, filter_none, keep_all, none_counted}
use Rattle.lvs_timer.specs.declared.timer.Timer.{Timer}
use Rattle.lvs_timer.specs.Timers.{is_due, has_id}
use Rattle.lvs_timer.specs.DueLists.{IsEntered}

-- by deadline, and then by id
abbrev pub timer_cmp : Timer → Timer → Ordering
timer_cmp x y = ordering_then (nat_cmp x.deadline y.deadline) (nat_cmp x.id y.id)

equal_ids : (x y : Timer) → timer_cmp x y ≡ Equal → y.id ≡ x.id
equal_ids x y is = grind (arith, nat_tests)

equal_itself : (x : Timer) → is_eq (timer_cmp x x) ≡ true
equal_itself x = grind (arith, nat_tests)

less_deadline : (x y : Timer) → timer_cmp x y ≡ Less → x.deadline ≤ y.deadline
less_deadline x y is = grind (arith, nat_tests)

is_equal : (o : Ordering) → is_eq o ≡ true → o ≡ Equal
is_equal Less is = absurd (cc)
is_equal Equal is = refl
is_equal Greater is = absurd (cc)

-- ---- one more

entered_step : (o : Ordering) (x t : Timer) (ts more : List Timer) → (o ≡ Equal → ⊥) → IsEntered x ts more → IsEntered x (t ∷ ts) (match_ordering o (x ∷ t ∷ ts) (t ∷ ts) (t ∷ more))
entered_step Less x t ts more other later = record { front = []; back = t ∷ ts; was = refl; is = refl }
entered_step Equal x t ts more other later = absurd (other refl)
entered_step Greater x t ts more other later = record {
  front = t ∷ later.front;
  back = later.back;
  was = ap (λ us. t ∷ us) later.was;
  is = ap (λ us. t ∷ us) later.is;
}

entered_from : (x : Timer) (ts : List Timer) → AllByRecursion (λ t. timer_cmp x t ≡ Equal → ⊥) ts → IsEntered x ts (insert_key timer_cmp ts x)
entered_from x [] other = record { front = []; back = []; was = refl; is = refl }
entered_from x (t ∷ ts) other = entered_step (timer_cmp x t) x t ts (insert_key timer_cmp ts x) other.0 (entered_from x ts other.1)

clash : (b : Bool) → b ≡ true → b ≡ false → ⊥
clash true one two = absurd (cc)
clash false one two = absurd (cc)

pub entered : (x : Timer) (ts : List Timer) → AllByRecursion (λ t. has_id x.id t ≡ false) ts → IsEntered x ts (insert_key timer_cmp ts x)
entered x ts none =
    entered_from x ts (all_weaker (λ t. has_id x.id t ≡ false) (λ t. timer_cmp x t ≡ Equal → ⊥) (λ t other is. clash (has_id x.id t) (eq-eqb t.id x.id (equal_ids x t is)) other) ts none)

-- ---- one less

taken_step : (x t : Timer) (ts : List Timer) (here there : Bool) → here ≡ is_at (timer_cmp x) t → there ≡ has_id x.id t → (there ≡ true → t ≡ x) → cond {A = ℕ} there 1 0 + count_by (has_id x.id) ts ≤ 1
    → remove_key (is_at (timer_cmp x)) ts ≡ without (has_id x.id) ts → cond here ts (t ∷ remove_key (is_at (timer_cmp x)) ts) ≡ cond (not there) (t ∷ without (has_id x.id) ts) (without (has_id x.id) ts)
taken_step x t ts true true is_here is_there same once later = sym (keep_all (has_id x.id) ts (none_counted (has_id x.id) ts (omega arith)))
taken_step x t ts true false is_here is_there same once later =
    absurd (clash (has_id x.id t) (eq-eqb t.id x.id (equal_ids x t (is_equal (timer_cmp x t) (sym is_here)))) (sym is_there))
taken_step x t ts false true is_here is_there same once later =
    absurd (clash (is_at (timer_cmp x) t) (ap (is_at (timer_cmp x)) (same refl) ∙ equal_itself x) (sym is_here))
taken_step x t ts false false is_here is_there same once later = ap (λ us. t ∷ us) later

pub taken : (x : Timer) (ts : List Timer) → AllByRecursion (λ t. has_id x.id t ≡ true → t ≡ x) ts → count_by (has_id x.id) ts ≤ 1 → remove_key (is_at (timer_cmp x)) ts ≡ without (has_id x.id) ts
taken x [] same once = refl
taken x (t ∷ ts) same once =
    let whole = sum_by-cons (λ u. cond {A = ℕ} (has_id x.id u) 1 0) t ts in
    let few : cond {A = ℕ} (has_id x.id t) 1 0 + count_by (has_id x.id) ts ≤ 1 = omega arith in
    taken_step x t ts (is_at (timer_cmp x) t) (has_id x.id t) refl refl same.0 few (taken x ts same.1 (omega arith))

-- ---- those that are due

none_due : (now : ℕ) (t : Timer) (ts : List Timer) → IsStrictlySortedBy timer_cmp (t ∷ ts) → is_due now t ≡ false → filter (is_due now) (t ∷ ts) ≡ []
unfolding IsStrictlySortedBy
none_due now t ts order late =
    let past = leb-false t.deadline now late in
    filter_none (is_due now) (t ∷ ts) (late, all_weaker (λ u. timer_cmp t u ≡ Less) (λ u. is_due now u ≡ false) (λ u less. let up = less_deadline t u less in lt-leb u.deadline now (omega arith)) ts order.0)

-- from a timer on that isn't due none is
pub late_from : (now : ℕ) (t : Timer) (ts rest : List Timer) → ts ≡ t ∷ rest → IsStrictlySortedBy timer_cmp ts → is_due now t ≡ false → filter (is_due now) ts ≡ []
late_from now t ts rest is order late = ap (filter (is_due now)) is ∙ none_due now t rest (subst (IsStrictlySortedBy timer_cmp) is order) late

-- the rest of a list in order is in order
pub rest_sorted : (t : Timer) (ts rest : List Timer) → ts ≡ t ∷ rest → IsStrictlySortedBy timer_cmp ts → IsStrictlySortedBy timer_cmp rest
unfolding IsStrictlySortedBy
rest_sorted t ts rest is order = (subst (IsStrictlySortedBy timer_cmp) is order).1
