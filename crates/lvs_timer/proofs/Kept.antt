-- A store of timers after each change is a store, with the timers that the change says.
use Rattle.std.proofs.Common.{◌≡◌, ℕ, ◌-◌, ◌≤◌, Bool, true, cond, not, List, [], ◌∷◌, ◌++◌, Some, None, refl, sym, ◌∙◌, ap, subst, arith, count_by, append_assoc, append-nil, false, slice_get, length, take, zero, suc}
use Rattle.std.specs.List.{AllByRecursion, find}
use Rattle.std.proofs.lemmas.Bool.{eqb-true, eqb-false, eq-eqb, ne_eqb}
use Rattle.std.proofs.lemmas.List.Elements.{filter-append}
use Rattle.std.proofs.lemmas.List.Sums.{sum_by-append}
use Rattle.lvs_model.specs.Lists.{without, insert_by}
use Rattle.lvs_model.proofs.OrderLemmas.{all_weaker, filter_sorted, sorted_put, none_found, find_none, find_sorted, count_filter, join_front, count_put, put_once, found_holds, none_counted}
use Rattle.lvs_timer.specs.declared.timer.Timer.{Timer}
use Rattle.lvs_timer.specs.Timers.{has_id}
use Rattle.lvs_timer.specs.DueLists.{IsEntered, AreOnce, in_order}

abbrev pub id_of : Timer → ℕ
id_of t = t.id

-- no timer has the id of this one
abbrev pub AreOthers : Timer → List Timer → Type 0
AreOthers x ts = AllByRecursion (λ (t : Timer). t.id ≡ x.id → ⊥) ts

others_from : (x : Timer) (ts : List Timer) → AllByRecursion (λ (t : Timer). has_id x.id t ≡ false) ts → AreOthers x ts
others_from x ts none = all_weaker (λ (t : Timer). has_id x.id t ≡ false) (λ (t : Timer). t.id ≡ x.id → ⊥) (λ t other. eqb-false t.id x.id other) ts none

none_has : (x : Timer) (n : ℕ) (ts : List Timer) → x.id ≡ n → AreOthers x ts → AllByRecursion (λ (t : Timer). has_id n t ≡ false) ts
none_has x n ts is others = all_weaker (λ (t : Timer). t.id ≡ x.id → ⊥) (λ (t : Timer). has_id n t ≡ false) (λ t other. ne_eqb t.id n (λ same. other (same ∙ sym is))) ts others

pub not_found : (x : Timer) (ts : List Timer) → AreOthers x ts → find (has_id x.id) ts ≡ None
not_found x ts others = find_none (has_id x.id) ts (none_has x x.id ts refl others)

-- ---- one more

once_put : (x : Timer) (front back : List Timer) → AreOnce (front ++ back) → AreOthers x (front ++ back) → AreOnce (front ++ x ∷ back)
once_put x front back once others q =
    put_once (has_id q) x front back (has_id q x) refl (λ passes. none_has x q (front ++ back) (eqb-true x.id q passes) others) (once q)

sorted_last : (x : Timer) (ts : List Timer) → AreOthers x ts → in_order (ts ++ x ∷ []) ≡ insert_by id_of x (in_order ts)
sorted_last x ts others = sorted_put id_of x ts [] others ∙ ap (λ us. insert_by id_of x (in_order us)) (append-nil ts)

once_last : (x : Timer) (ts : List Timer) → AreOnce ts → AreOthers x ts → AreOnce (ts ++ x ∷ [])
once_last x ts once others = once_put x ts [] (subst AreOnce (sym (append-nil ts)) once) (subst (AreOthers x) (sym (append-nil ts)) others)

others_last : (x : Timer) (ts : List Timer) → AreOnce (ts ++ x ∷ []) → AreOthers x ts
others_last x ts once =
    let here : cond {A = ℕ} (has_id x.id x) 1 0 ≡ 1 = ap (λ (b : Bool). cond {A = ℕ} b 1 0) (eq-eqb x.id x.id refl) in
    let whole = count_put (has_id x.id) x ts [] in
    let end = ap (λ us. count_by (has_id x.id) us) (append-nil ts) in
    let few = once x.id in
    others_from x ts (none_counted (has_id x.id) ts (omega arith))

less_last : (x : Timer) (ts : List Timer) → AreOnce (ts ++ x ∷ []) → AreOnce ts
less_last x ts once q =
    let whole = sum_by-append (λ t. cond {A = ℕ} (has_id q t) 1 0) ts (x ∷ []) in
    let few = once q in
    omega arith

-- a timer is armed
module _ (x : Timer) (due fresh : List Timer) (once : AreOnce (due ++ fresh)) (new_id : find (has_id x.id) (in_order (due ++ fresh)) ≡ None) where
  others_armed : AreOthers x (due ++ fresh)
  others_armed =
      others_from x (due ++ fresh) (none_found (has_id x.id) (due ++ fresh) (sym (find_sorted id_of (has_id x.id) (due ++ fresh) (due ++ fresh) (once x.id) refl) ∙ new_id))

  pub timers_armed : in_order (due ++ (fresh ++ x ∷ [])) ≡ insert_by id_of x (in_order (due ++ fresh))
  timers_armed = ap in_order (sym (append_assoc due fresh (x ∷ []))) ∙ sorted_last x (due ++ fresh) others_armed

  pub once_armed : AreOnce (due ++ (fresh ++ x ∷ []))
  once_armed = subst AreOnce (append_assoc due fresh (x ∷ [])) (once_last x (due ++ fresh) once others_armed)

-- ---- the last of the fresh ones goes to the due list

module _ (x : Timer) (due fresh rest : List Timer) (is : fresh ≡ rest ++ x ∷ []) (once : AreOnce (due ++ fresh)) where
  whole : due ++ fresh ≡ (due ++ rest) ++ x ∷ []
  whole = ap (λ ts. due ++ ts) is ∙ sym (append_assoc due rest (x ∷ []))

  once_whole : AreOnce ((due ++ rest) ++ x ∷ [])
  once_whole = subst AreOnce whole once

  others : AreOthers x (due ++ rest)
  others = others_last x (due ++ rest) once_whole

  pub new_in_due : find (has_id x.id) due ≡ None
  new_in_due = not_found x due (join_front (λ (t : Timer). t.id ≡ x.id → ⊥) due rest others)

  module _ (due' : List Timer) (put : IsEntered x due due') where
    apart : due ++ rest ≡ put.front ++ (put.back ++ rest)
    apart = ap (λ ts. ts ++ rest) put.was ∙ append_assoc put.front put.back rest

    together : due' ++ rest ≡ put.front ++ x ∷ (put.back ++ rest)
    together = ap (λ ts. ts ++ rest) put.is ∙ append_assoc put.front (x ∷ put.back) rest

    others_apart : AreOthers x (put.front ++ (put.back ++ rest))
    others_apart = subst (AreOthers x) apart others

    pub timers_settled : in_order (due' ++ rest) ≡ in_order (due ++ fresh)
    timers_settled =
        ap in_order together ∙ sorted_put id_of x put.front (put.back ++ rest) (join_front (λ (t : Timer). t.id ≡ x.id → ⊥) put.front (put.back ++ rest) others_apart)
        ∙ ap (λ ts. insert_by id_of x (in_order ts)) (sym apart) ∙ sym (sorted_last x (due ++ rest) others) ∙ ap in_order (sym whole)

    pub once_settled : AreOnce (due' ++ rest)
    once_settled = subst AreOnce (sym together) (once_put x put.front (put.back ++ rest) (subst AreOnce apart (less_last x (due ++ rest) once_whole)) others_apart)

-- ---- a timer is disarmed

module _ (x : Timer) (due fresh : List Timer) (once : AreOnce (due ++ fresh)) where
  pub same_in_due : find (has_id x.id) (in_order (due ++ fresh)) ≡ Some x → AllByRecursion (λ (t : Timer). has_id x.id t ≡ true → t ≡ x) due
  same_in_due found =
      join_front (λ (t : Timer). has_id x.id t ≡ true → t ≡ x) due fresh
      (found_holds (λ (t : Timer). t ≡ x) (has_id x.id) x (due ++ fresh) (once x.id) (sym (find_sorted id_of (has_id x.id) (due ++ fresh) (due ++ fresh) (once x.id) refl) ∙ found) refl)

  pub once_in_due : count_by (has_id x.id) due ≤ 1
  once_in_due =
      let parts = sum_by-append (λ t. cond {A = ℕ} (has_id x.id t) 1 0) due fresh in
      let few = once x.id in
      omega arith

  left : (n : ℕ) (due' fresh' : List Timer) → due' ≡ without (has_id n) due → fresh' ≡ without (has_id n) fresh → due' ++ fresh' ≡ without (has_id n) (due ++ fresh)
  left n due' fresh' is_due is_fresh =
      ap (λ ts. ts ++ fresh') is_due ∙ ap (λ ts. without (has_id n) due ++ ts) is_fresh ∙ sym (filter-append (λ t. not (has_id n t)) due fresh)

  pub timers_without : (n : ℕ) (due' fresh' : List Timer) → due' ≡ without (has_id n) due → fresh' ≡ without (has_id n) fresh → in_order (due' ++ fresh') ≡ without (has_id n) (in_order (due ++ fresh))
  timers_without n due' fresh' is_due is_fresh = ap in_order (left n due' fresh' is_due is_fresh) ∙ sym (filter_sorted id_of (λ t. not (has_id n t)) (due ++ fresh))

  pub once_without : (n : ℕ) (due' fresh' : List Timer) → due' ≡ without (has_id n) due → fresh' ≡ without (has_id n) fresh → AreOnce (due' ++ fresh')
  once_without n due' fresh' is_due is_fresh q =
      rw (left n due' fresh' is_due is_fresh) (let less = count_filter (has_id q) (λ t. not (has_id n t)) (due ++ fresh) in let few = once q in omega arith)

split_last : (x : Timer) (xs : List Timer) (i : ℕ) → slice_get xs i ≡ Some x → suc i ≡ length xs → xs ≡ take i xs ++ x ∷ []
split_last x [] i got is = absurd (omega arith)
split_last x (y ∷ []) zero got is = let same : y ≡ x = cc in ap (λ z. z ∷ []) same
split_last x (y ∷ z ∷ ys) zero got is = absurd (omega arith)
split_last x (y ∷ ys) (suc i) got is = ap (λ zs. y ∷ zs) (split_last x ys i got (omega arith))

-- a list by its last element
pub split_end : (x : Timer) (xs : List Timer) → slice_get xs (length xs - 1) ≡ Some x → xs ≡ take (length xs - 1) xs ++ x ∷ []
split_end x [] got = absurd (cc)
split_end x (y ∷ ys) got = split_last x (y ∷ ys) (length (y ∷ ys) - 1) got (omega arith)
