-- A due timer of a store, where there is one.
use Rattle.std.proofs.Common.{◌≡◌, ℕ, ◌≤◌, Bool, true, false, List, [], ◌∷◌, ◌++◌, length, Option, Some, None, IfSome, IfNone, refl, sym, ◌∙◌, ap, arith, slice_get}
use Rattle.std.specs.List.{All, Contains, filter, find}
use Rattle.std.specs.Ordering.{is_gt}
use Rattle.std.specs.BTreeMap.Range.{IsLeBy}
use Rattle.std.proofs.lemmas.Bool.{leb-false, lt-leb, eq-eqb}
use Rattle.std.proofs.lemmas.Bool.Decides.{nat_tests}
use Rattle.std.proofs.lemmas.List.Elements.{filter-append, recursion_from_All}
use Rattle.lvs_model.specs.Lists.{sorted_by}
use Rattle.lvs_model.proofs.OrderLemmas.{Has, all_weaker, filter_none, filter_sorted, find_sorted, has_contained, none_found}
use Rattle.lvs_timer.specs.declared.timer.Timer.{Timer}
use Rattle.lvs_timer.specs.Timers.{has_id, is_due}
use Rattle.lvs_timer.specs.DueLists.{AreOnce, in_order}
use Rattle.lvs_timer.proofs.ByDeadline.{timer_cmp}
use Rattle.lvs_timer.proofs.Finding.{found_has, find_has, has_front, has_back}
use Rattle.lvs_timer.proofs.Kept.{id_of}

-- ---- the first of a due list

up_to : (t u : Timer) → is_gt (timer_cmp t u) ≡ false → t.deadline ≤ u.deadline
up_to t u is = grind (arith, nat_tests)

pub none_after : (now : ℕ) (t : Timer) (ts : List Timer) → All (IsLeBy timer_cmp t) ts → is_due now t ≡ false → filter (is_due now) ts ≡ []
none_after now t ts all late =
    let past = leb-false t.deadline now late in
    filter_none (is_due now) ts
    (all_weaker (IsLeBy timer_cmp t) (λ u. is_due now u ≡ false) (λ u le. let up = up_to t u le in lt-leb u.deadline now (omega arith)) ts (recursion_from_All (IsLeBy timer_cmp t) ts all))

pub none_in_empty : (p : Timer → Bool) (ts : List Timer) → length ts ≡ 0 → filter p ts ≡ []
none_in_empty p [] is = refl
none_in_empty p (t ∷ ts) is = absurd (omega arith)

pub first_in : (t : Timer) (ts : List Timer) → slice_get ts 0 ≡ Some t → Contains ts t
first_in t [] is = absurd (cc)
first_in t (u ∷ ts) is = (0, omega arith, cc)

module _ (due fresh : List Timer) (once : AreOnce (due ++ fresh)) where
  armed : (t : Timer) → Has t (due ++ fresh) → find (has_id t.id) (in_order (due ++ fresh)) ≡ Some t
  armed t has = find_sorted id_of (has_id t.id) (due ++ fresh) (due ++ fresh) (once t.id) refl ∙ find_has (has_id t.id) t (due ++ fresh) (eq-eqb t.id t.id refl) (once t.id) has

  pub due_armed : (t : Timer) → Contains due t → find (has_id t.id) (in_order (due ++ fresh)) ≡ Some t
  due_armed t within = armed t (has_front t due fresh (has_contained t due within))

  pub fresh_passes : (p : Timer → Bool) (o : Option Timer) → o ≡ find p fresh → IfSome o (λ t. p t ≡ true)
  fresh_passes p None is = tt
  fresh_passes p (Some t) is = (found_has p t fresh (sym is)).0

  pub fresh_armed : (p : Timer → Bool) (o : Option Timer) → o ≡ find p fresh → IfSome o (λ t. find (has_id t.id) (in_order (due ++ fresh)) ≡ Some t)
  fresh_armed p None is = tt
  fresh_armed p (Some t) is = armed t (has_back t due fresh (found_has p t fresh (sym is)).1)

  pub fresh_none : (p : Timer → Bool) (o : Option Timer) → filter p due ≡ [] → o ≡ find p fresh → IfNone o (filter p (in_order (due ++ fresh)) ≡ [])
  fresh_none p None none is =
      filter_sorted id_of p (due ++ fresh)
      ∙ ap (sorted_by id_of) (filter-append p due fresh ∙ ap (λ (ts : List Timer). ts ++ filter p fresh) none ∙ filter_none p fresh (none_found p fresh (sym is)))
  fresh_none p (Some t) none is = tt
