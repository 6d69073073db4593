-- Ids are drawn in order, and rise.
use Rattle.std.proofs.Common.{◌≡◌, ◌==◌, ◌+◌, ℕ, Bool, true, false, not, ◌||◌, List, [], ◌∷◌, ◌++◌, Option, Some, refl, sym, subst, map, arith, nat_eq}
use Rattle.std.proofs.lemmas.Bool.{eqb-true, ne_eqb, not-true, or_left, or_right}
use Rattle.std.specs.List.{AllByRecursion, filter, filter_map}
use Rattle.lvs_model.specs.WellFormed.{AreDrawn, IsDrawn}
use Rattle.lvs_well_formed.specs.Rising.{Rises, IsNewOrAmong, is_among}
use Rattle.lvs_well_formed.proofs.Lists.{all_weaker, all_map, all_unmap, all_append, all_filter, all_filtered, all_filter_map}
use Rattle.lvs_well_formed.proofs.Distinct.{distinct_push, distinct_filter, distinct_filter_map}
use Rattle.lvs_well_formed.proofs.Keys.{nat_same}

pub all_among : (ids : List ℕ) → AllByRecursion (λ id. is_among ids id ≡ true) ids
all_among [] = tt
all_among (id ∷ ids) = (
  or_left (id == id) (is_among ids id) (nat_same id),
  all_weaker (λ other. is_among ids other ≡ true) (λ other. is_among (id ∷ ids) other ≡ true) ids (λ other is. or_right (id == other) (is_among ids other) is) (all_among ids),
)

pub among_all : (P : ℕ → Type 0) (ids : List ℕ) (id : ℕ) → AllByRecursion P ids → is_among ids id ≡ true → P id
among_all P [] id each is = absurd cc
among_all P (first ∷ ids) id each is =
    let Q : Bool → Type 0 = λ b. (first == id) ≡ b → (b || is_among ids id) ≡ true → P id in
    (elim (first == id) as Q [ true ↦ (λ same _. subst P (eqb-true first id same) each.0) | false ↦ (λ differs later. among_all P ids id each.1 later) ]) refl is

pub rises_same : (next : ℕ) (ids : List ℕ) → Rises next ids next ids
rises_same next ids = record {
  next_id = omega arith;
  each = all_weaker (λ id. is_among ids id ≡ true) (IsNewOrAmong next ids) ids (λ id is below. is) (all_among ids);
}

pub rises_then : (a b c : ℕ) (first_ids mid_ids last_ids : List ℕ) → Rises a first_ids b mid_ids → Rises b mid_ids c last_ids → Rises a first_ids c last_ids
rises_then a b c first_ids mid_ids last_ids first then = record {
  next_id = omega (arith, first.next_id, then.next_id);
  each = all_weaker (IsNewOrAmong b mid_ids) (IsNewOrAmong a first_ids) last_ids
      (λ id later below. among_all (IsNewOrAmong a first_ids) mid_ids id first.each (later (omega (arith, first.next_id, below))) below) then.each;
}

-- ids that go on from others
pub record GoesOn (next : ℕ) (ids : List ℕ) (later_next : ℕ) (later_ids : List ℕ) : Type 0 where
  pub drawn : AreDrawn later_next later_ids
  pub rises : Rises next ids later_next later_ids

pub goes_same : (next : ℕ) (ids : List ℕ) → AreDrawn next ids → GoesOn next ids next ids
goes_same next ids drawn = record { drawn = drawn; rises = rises_same next ids }

pub goes_equal : (next : ℕ) (ids later_ids : List ℕ) → AreDrawn next ids → later_ids ≡ ids → GoesOn next ids next later_ids
goes_equal next ids later_ids drawn same = subst (λ other. GoesOn next ids next other) (sym same) (goes_same next ids drawn)

pub goes_then : (a b c : ℕ) (first_ids mid_ids last_ids : List ℕ) → GoesOn a first_ids b mid_ids → (AreDrawn b mid_ids → GoesOn b mid_ids c last_ids) → GoesOn a first_ids c last_ids
goes_then a b c first_ids mid_ids last_ids first then =
    let later = then first.drawn in record { drawn = later.drawn; rises = rises_then a b c first_ids mid_ids last_ids first.rises later.rises }

-- those that are among the old ones
old_rise : (next : ℕ) (ids later : List ℕ) → AllByRecursion (λ id. is_among ids id ≡ true) later → Rises next ids next later
old_rise next ids later each = record { next_id = omega arith; each = all_weaker (λ id. is_among ids id ≡ true) (IsNewOrAmong next ids) later (λ id is below. is) each }

pub goes_filter : {X : Type 0} (next : ℕ) (key : X → ℕ) (p : X → Bool) (xs : List X) → AreDrawn next (map key xs) → GoesOn next (map key xs) next (map key (filter p xs))
goes_filter next key p xs drawn = record {
  drawn = record {
    begins = drawn.begins;
    each = all_map (IsDrawn next) key (filter p xs) (all_filter (λ x. IsDrawn next (key x)) p xs (all_unmap (IsDrawn next) key xs drawn.each));
    apart = distinct_filter nat_eq key p xs drawn.apart;
  };
  rises = let ids = map key xs in
      old_rise next ids (map key (filter p xs))
      (all_map (λ id. is_among ids id ≡ true) key (filter p xs) (all_filter (λ x. is_among ids (key x) ≡ true) p xs (all_unmap (λ id. is_among ids id ≡ true) key xs (all_among ids))));
}

pub goes_filter_map : {X : Type 0} (next : ℕ) (key : X → ℕ) (h : X → Option X) (xs : List X) → ((x y : X) → h x ≡ Some y → key y ≡ key x) → AreDrawn next (map key xs) → GoesOn next (map key xs) next (map key (filter_map h xs))
goes_filter_map next key h xs same drawn = record {
  drawn = record {
    begins = drawn.begins;
    each = all_map (IsDrawn next) key (filter_map h xs)
        (all_filter_map (λ x. IsDrawn next (key x)) (λ x. IsDrawn next (key x)) h xs (λ x y is here. subst (IsDrawn next) (sym (same x y is)) here) (all_unmap (IsDrawn next) key xs drawn.each));
    apart = distinct_filter_map nat_eq key h xs same drawn.apart;
  };
  rises = let ids = map key xs in
      let IsOld : ℕ → Type 0 = λ id. is_among ids id ≡ true in
      old_rise next ids (map key (filter_map h xs))
      (all_map IsOld key (filter_map h xs)
      (all_filter_map (λ x. IsOld (key x)) (λ x. IsOld (key x)) h xs (λ x y is here. subst IsOld (sym (same x y is)) here) (all_unmap IsOld key xs (all_among ids))));
}

below_differs : (next id : ℕ) → IsDrawn next id → nat_eq id next ≡ false
below_differs next id drawn = ne_eqb id next (λ same. absurd (omega (arith, drawn.1, same)))

-- one more with the next id
pub goes_push : {X : Type 0} (next : ℕ) (key : X → ℕ) (xs : List X) (y : X) → key y ≡ next → AreDrawn next (map key xs) → GoesOn next (map key xs) (next + 1) (map key (xs ++ y ∷ []))
goes_push next key xs y is drawn =
    let each = all_unmap (IsDrawn next) key xs drawn.each in
    let ids = map key xs in
    record {
      drawn = record {
        begins = omega arith;
        each = all_map (IsDrawn (next + 1)) key (xs ++ y ∷ [])
            (all_append (λ x. IsDrawn (next + 1) (key x)) xs (y ∷ [])
            (all_weaker (λ x. IsDrawn next (key x)) (λ x. IsDrawn (next + 1) (key x)) xs (λ x here. (here.0, omega (arith, here.1))) each)
            ((omega (arith, is, drawn.begins), omega (arith, is)), tt));
        apart = distinct_push nat_eq key xs y
            (all_weaker (λ x. IsDrawn next (key x)) (λ x. nat_eq (key x) (key y) ≡ false) xs (λ x here. subst (λ k. nat_eq (key x) k ≡ false) (sym is) (below_differs next (key x) here)) each) drawn.apart;
      };
      rises = record {
        next_id = omega arith;
        each = all_map (IsNewOrAmong next ids) key (xs ++ y ∷ [])
            (all_append (λ x. IsNewOrAmong next ids (key x)) xs (y ∷ [])
            (all_unmap (IsNewOrAmong next ids) key xs (rises_same next ids).each)
            ((λ below. absurd (omega (arith, is, below))), tt));
      };
    }

-- an id that stands last instead
pub goes_moved : {X : Type 0} (next : ℕ) (key : X → ℕ) (xs : List X) (y : X) → is_among (map key xs) (key y) ≡ true → AreDrawn next (map key xs) → GoesOn next (map key xs) next (map key (filter (λ x. not (key x == key y)) xs ++ y ∷ []))
goes_moved {X} next key xs y old drawn =
    let test : X → Bool = λ x. not (key x == key y) in
    let rest = filter test xs in
    let ids = map key xs in
    let left = goes_filter next key test xs drawn in
    record {
      drawn = record {
        begins = drawn.begins;
        each = all_map (IsDrawn next) key (rest ++ y ∷ []) (all_append (λ x. IsDrawn next (key x)) rest (y ∷ []) (all_unmap (IsDrawn next) key rest left.drawn.each) (among_all (IsDrawn next) ids (key y) drawn.each old, tt));
        apart = distinct_push nat_eq key rest y (all_filtered (λ x. nat_eq (key x) (key y) ≡ false) test xs (λ x differs. not-true (nat_eq (key x) (key y)) differs)) left.drawn.apart;
      };
      rises = record {
        next_id = omega arith;
        each = all_map (IsNewOrAmong next ids) key (rest ++ y ∷ []) (all_append (λ x. IsNewOrAmong next ids (key x)) rest (y ∷ []) (all_unmap (IsNewOrAmong next ids) key rest left.rises.each) ((λ below. old), tt));
      };
    }
