-- The due ids of a store, in order.
use Rattle.std.proofs.Common.{◌≡◌, ℕ, ◌≤◌, ◌<◌, ◌+◌, Bool, true, false, cond, ◌==◌, nat_le, List, [], ◌∷◌, ◌++◌, length, drop, get_or, refl, sym, ◌∙◌, ap, arith, count_by, append_assoc, suc}
use Rattle.std.specs.List.{filter}
use Rattle.std.specs.List.Sorted.{IsPermutation, IsNonDecreasingBy, IsStrictlyIncreasing}
use Rattle.std.proofs.lemmas.List.Sums.{sum_by-cons, sum_by-append, length-filter, count_by-le-length}
use Rattle.lvs_model.specs.Lists.{sorted_by, insert_by}
use Rattle.std.proofs.lemmas.List.{map-append, length-map}
use Rattle.std.proofs.lemmas.List.Elements.{filter-append}
use Rattle.std.proofs.Math.Seq.{drop-cons}
use Rattle.lvs_model.proofs.OrderLemmas.{filter_sorted, sorted_up, count_sorted, sorted_once, strict_from, rising_from, count_filter}
use Rattle.lvs_timer.specs.declared.timer.Timer.{Timer}
use Rattle.lvs_timer.specs.Timers.{has_id, ids_of, AreListed}
use Rattle.lvs_timer.specs.DueLists.{AreOnce, in_order}
use Rattle.lvs_timer.proofs.Kept.{id_of}

abbrev pub itself : ℕ → ℕ
itself n = n

ids_placed : (x y : Timer) (ts : List Timer) (b : Bool) → ids_of (insert_by id_of x ts) ≡ insert_by itself x.id (ids_of ts) → ids_of (cond b (x ∷ y ∷ ts) (y ∷ insert_by id_of x ts)) ≡ cond b (x.id ∷ y.id ∷ ids_of ts) (y.id ∷ insert_by itself x.id (ids_of ts))
ids_placed x y ts true later = refl
ids_placed x y ts false later = ap (λ ids. y.id ∷ ids) later

ids_insert : (x : Timer) (ts : List Timer) → ids_of (insert_by id_of x ts) ≡ insert_by itself x.id (ids_of ts)
ids_insert x [] = refl
ids_insert x (y ∷ ts) = ids_placed x y ts (nat_le x.id y.id) (ids_insert x ts)

ids_sorted : (ts : List Timer) → ids_of (sorted_by id_of ts) ≡ sorted_by itself (ids_of ts)
ids_sorted [] = refl
ids_sorted (t ∷ ts) = ids_insert t (sorted_by id_of ts) ∙ ap (insert_by itself t.id) (ids_sorted ts)

count_ids : (n : ℕ) (ts : List Timer) → count_by (λ id. id == n) (ids_of ts) ≡ count_by (has_id n) ts
count_ids n [] = refl
count_ids n (t ∷ ts) =
    sum_by-cons (λ id. cond (id == n) 1 0) t.id (ids_of ts) ∙ ap (λ m. cond (t.id == n) 1 0 + m) (count_ids n ts)
    ∙ sym (sum_by-cons (λ (u : Timer). cond (has_id n u) 1 0) t ts)

module _ (all : List Timer) (once : AreOnce all) where
  ids_once : (id : ℕ) → count_by (has_id id) (in_order all) ≤ 1
  ids_once id = rw (count_sorted id_of (has_id id) all) (once id)

  pub are_listed : AreListed (in_order all)
  are_listed = rising_from id_of (in_order all) (strict_from id_of (in_order all) (sorted_up id_of all) ids_once)

  module _ (p : Timer → Bool) where
    few : (id : ℕ) → count_by (has_id id) (filter p all) ≤ 1
    few id = let less = count_filter (has_id id) p all in let once = once id in omega arith

    few_sorted : (id : ℕ) → count_by (has_id id) (sorted_by id_of (filter p all)) ≤ 1
    few_sorted id = rw (count_sorted id_of (has_id id) (filter p all)) (few id)

    pub rising : IsStrictlyIncreasing (ids_of (filter p (in_order all)))
    rising =
        rw (filter_sorted id_of p all)
        (rising_from id_of (sorted_by id_of (filter p all)) (strict_from id_of (sorted_by id_of (filter p all)) (sorted_up id_of (filter p all)) few_sorted))

    -- what a sort makes of the ids that were gathered
    pub sorted_ids : (gathered ids : List ℕ) → gathered ≡ ids_of (filter p all) → IsPermutation gathered ids → IsNonDecreasingBy itself ids → ids ≡ ids_of (filter p (in_order all))
    sorted_ids gathered ids is moved order =
        sorted_once itself gathered ids moved order (λ n. rw is (rw (count_ids n (filter p all)) (few n)))
        ∙ ap (sorted_by itself) is ∙ sym (ids_sorted (filter p all)) ∙ ap ids_of (sym (filter_sorted id_of p all))

-- ---- the two parts of a store

module _ (p : Timer → Bool) where
  pub counts : (due fresh : List Timer) → count_by p (in_order (due ++ fresh)) ≡ count_by p due + count_by p fresh
  counts due fresh = count_sorted id_of p (due ++ fresh) ∙ sum_by-append (λ t. cond {A = ℕ} (p t) 1 0) due fresh

  pub gathered_is : (due fresh : List Timer) (first second third : List ℕ) → first ≡ [] → second ≡ first ++ ids_of (filter p due) → third ≡ second ++ ids_of (filter p fresh) → third ≡ ids_of (filter p (due ++ fresh))
  gathered_is due fresh first second third none one two =
      two ∙ ap (λ ids. ids ++ ids_of (filter p fresh)) (one ∙ ap (λ ids. ids ++ ids_of (filter p due)) none) ∙ sym (map-append id_of (filter p due) (filter p fresh))
      ∙ ap ids_of (sym (filter-append p due fresh))

  -- at least each due one was looked at
  pub few_ids : (due fresh : List Timer) (ids : List ℕ) → ids ≡ ids_of (filter p (in_order (due ++ fresh))) → length ids ≤ count_by p due + length fresh
  few_ids due fresh ids is =
      let long = ap (λ (ns : List ℕ). length ns) is in
      let mapped = length-map (filter p (in_order (due ++ fresh))) id_of in
      let filtered = length-filter p (in_order (due ++ fresh)) in
      let parts = counts due fresh in
      let less = count_by-le-length p fresh in
      omega arith

  -- one more due timer is listed
  pub list_more : (t : Timer) (ts rest : List Timer) (ids more all : List ℕ) → ts ≡ t ∷ rest → p t ≡ true → more ≡ ids ++ t.id ∷ [] → ids ++ ids_of (filter p ts) ≡ all → more ++ ids_of (filter p rest) ≡ all
  list_more t ts rest ids more all is passes pushed so_far =
      ap (λ (ns : List ℕ). ns ++ ids_of (filter p rest)) pushed ∙ append_assoc ids (t.id ∷ []) (ids_of (filter p rest))
      ∙ ap (λ (us : List Timer). ids ++ ids_of us) (sym (ap (filter p) is ∙ ap (λ b. cond b (t ∷ filter p rest) (filter p rest)) passes)) ∙ so_far

  pub count_more : (t : Timer) (ts rest : List Timer) → ts ≡ t ∷ rest → p t ≡ true → count_by p ts ≡ 1 + count_by p rest
  count_more t ts rest is passes =
      ap (λ (us : List Timer). count_by p us) is ∙ sum_by-cons (λ u. cond {A = ℕ} (p u) 1 0) t rest ∙ ap (λ (b : Bool). cond {A = ℕ} b 1 0 + count_by p rest) passes

  -- a loop that goes by place: the timer there is due, or isn't
  module _ (d : Timer) (xs : List Timer) (i : ℕ) (ids all : List ℕ) (within : i < length xs) (so_far : ids ++ ids_of (filter p (drop i xs)) ≡ all) where
    here : drop i xs ≡ get_or xs i d ∷ drop (i + 1) xs
    here = let next : suc i ≡ i + 1 = omega arith in drop-cons xs i d within ∙ ap (λ n. get_or xs i d ∷ drop n xs) next

    pub push_due : p (get_or xs i d) ≡ true → (ids ++ (get_or xs i d).id ∷ []) ++ ids_of (filter p (drop (i + 1) xs)) ≡ all
    push_due passes = list_more (get_or xs i d) (drop i xs) (drop (i + 1) xs) ids (ids ++ (get_or xs i d).id ∷ []) all here passes refl so_far

    pub pass_over : p (get_or xs i d) ≡ false → ids ++ ids_of (filter p (drop (i + 1) xs)) ≡ all
    pass_over fails =
        ap (λ (ts : List Timer). ids ++ ids_of ts) (sym (ap (filter p) here ∙ ap (λ b. cond b (get_or xs i d ∷ filter p (drop (i + 1) xs)) (filter p (drop (i + 1) xs))) fails)) ∙ so_far
