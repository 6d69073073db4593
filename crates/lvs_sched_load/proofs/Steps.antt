-- The best of the first candidates, one candidate after another.
use borrow.Author.Count.{below_more}
use Rattle.std.proofs.Common.{◌≡◌, ℕ, ◌<◌, ◌+◌, Bool, true, false, not, ◌&&◌, eqb, List, [], ◌∷◌, length, get_or, slice_get, Option, Some, None, refl, ◌∙◌, ap, arith}
use Rattle.std.specs.List.{list_any, position, position_or_len, All}
use Rattle.std.proofs.lemmas.Bool.Decides.{nat_tests}
use Rattle.std.proofs.lemmas.Grind.{common_steps}
use Rattle.std.proofs.lemmas.List.Folds.{list_any_at, list_any_none}
use Rattle.std.proofs.lemmas.List.Sums.{position_or_len_is}
use Rattle.std.proofs.lemmas.Option.{slice_get-get_or, slice_get_within, get_or_from_slice_get}
use Rattle.std.specs.Option.{option_map, IfSome, IfNone}
use Rattle.lvs_types.specs.declared.dest.Candidate.{Candidate}
use Rattle.lvs_model.specs.LeastLoad.{AreWeighed, is_weightless, is_best, first_best}
use Rattle.lvs_model.specs.RoundRobin.{IsEligibleAt, IsNoneEligible}
use Rattle.lvs_sched_load.specs.Best.{IsBestAmong, IsBest}
use Rattle.lvs_sched_load.proofs.Ranks.{Ranks}

weight_from : (e : Bool) (w : ℕ) → e ≡ true → (e && eqb w 0) ≡ false → 0 < w
weight_from true w is isnt = grind (arith, nat_tests)
weight_from false w is isnt = absurd (cc)

not_weightless : (b : Bool) (cs : List Candidate) (k : ℕ) (c : Candidate) → slice_get cs k ≡ Some c → list_any is_weightless cs ≡ false → is_weightless c ≡ b → is_weightless c ≡ false
not_weightless true cs k c there none is =
    let here = get_or_from_slice_get cs k c c there in
    absurd (cc (list_any_at is_weightless cs k c (slice_get_within cs k c there) (ap is_weightless here ∙ is)))
not_weightless false cs k c there none is = is

weighed : (cs : List Candidate) (k : ℕ) (c : Candidate) → AreWeighed cs → slice_get cs k ≡ Some c → c.eligible ≡ true → 0 < c.weight
weighed cs k c none there is = weight_from c.eligible c.weight is (not_weightless (is_weightless c) cs k c there none refl)

same_there : (cs : List Candidate) (k : ℕ) (a b : Candidate) → slice_get cs k ≡ Some a → slice_get cs k ≡ Some b → a ≡ b
same_there cs k a b is was = cc

-- the first eligible one is taken
pub taken_first : (better : Candidate → Candidate → Bool) → Ranks better → (cs : List Candidate) (n : ℕ) (x : Candidate) → slice_get cs n ≡ Some x → x.eligible ≡ true → IsBest better cs n None → IsBest better cs (n + 1) (Some n)
taken_first better ranks cs n x there eligible none = (
  x,
  record {
    there = there;
    within = omega arith;
    eligible = eligible;
    unbeaten = below_more (λ k. (c : Candidate) → slice_get cs k ≡ Some c → c.eligible ≡ true → better c x ≡ false) n (λ k below c is was. absurd (cc (none k below c is))) (λ c is was. cc (same_there cs n x c there is, ranks.same x));
    first = λ k below c is was. absurd (cc (none k below c is));
  },
)

-- a better one is taken
pub taken : (better : Candidate → Candidate → Bool) → Ranks better → (cs : List Candidate) (n place : ℕ) (x y : Candidate) → AreWeighed cs → slice_get cs n ≡ Some x → x.eligible ≡ true → slice_get cs place ≡ Some y → better x y ≡ true → IsBest better cs n (Some place) → IsBest better cs (n + 1) (Some n)
taken better ranks cs n place x z all there eligible here is_better (y, best) =
    let same = same_there cs place z y here best.there in
    let now : better x y ≡ true = cc in
    let beaten : (k : ℕ) → k < n → (c : Candidate) → slice_get cs k ≡ Some c → c.eligible ≡ true → better x c ≡ true = λ k below c is was. ranks.chain x y c (weighed cs n x all there eligible) (weighed cs place y all best.there best.eligible) (weighed cs k c all is was) now (best.unbeaten k below c is was) in (
      x,
      record {
        there = there;
        within = omega arith;
        eligible = eligible;
        unbeaten = below_more (λ k. (c : Candidate) → slice_get cs k ≡ Some c → c.eligible ≡ true → better c x ≡ false) n (λ k below c is was. ranks.one_way x c (beaten k below c is was)) (λ c is was. cc (same_there cs n x c there is, ranks.same x));
        first = beaten;
      },
    )

both_true : (a b : Bool) → a ≡ true → b ≡ true → (a && b) ≡ true
both_true a b one two = grind (arith, nat_tests)

not_both : (a b : Bool) → b ≡ true → (a && not b) ≡ false
not_both a b is = grind (arith, nat_tests)

only_first : (a b : Bool) → a ≡ true → b ≡ false → (a && not b) ≡ true
only_first a b is isnt = grind (arith, nat_tests)

fails : (a b : Bool) → (a ≡ true → b ≡ false) → (a && b) ≡ false
fails true b then = then refl
fails false b then = refl

-- what stands before the best is no best
beaten_by : (better : Candidate → Candidate → Bool) (cs : List Candidate) (place : ℕ) (y c : Candidate) (e : Bool) → slice_get cs place ≡ Some y → y.eligible ≡ true → (c.eligible ≡ true → better y c ≡ true) → c.eligible ≡ e → is_best better cs c ≡ false
beaten_by better cs place y c true there eligible beaten is =
    let within = slice_get_within cs place y there in
    let test : (y.eligible && better y c) ≡ true = cc (both_true (y.eligible) (better y c) eligible (beaten is)) in
    let here : (λ (other : Candidate). other.eligible && better other c) (get_or cs place y) ≡ true = ap (λ (other : Candidate). other.eligible && better other c) (get_or_from_slice_get cs place y y there) ∙ test in
    not_both c.eligible (list_any (λ other. other.eligible && better other c) cs) (list_any_at (λ other. other.eligible && better other c) cs place y within here)
beaten_by better cs place y c false there eligible beaten is = ap (λ e. e && not (list_any (λ other. other.eligible && better other c) cs)) is

best_there : (better : Candidate → Candidate → Bool) (cs : List Candidate) (place : ℕ) (y : Candidate) → IsBestAmong better cs (length cs) place y → is_best better cs y ≡ true
best_there better cs place y best =
    let unbeaten : All (λ (other : Candidate). (other.eligible && better other y) ≡ false) cs =
    λ k d within. fails (get_or cs k d).eligible (better (get_or cs k d) y) (λ is. best.unbeaten k within (get_or cs k d) (slice_get-get_or cs k d within) is)
    in
    only_first y.eligible (list_any (λ other. other.eligible && better other y) cs) best.eligible (list_any_none (λ other. other.eligible && better other y) cs unbeaten)

not_first : (test : Bool) (more : Bool) → test ≡ false → (test && more) ≡ false
not_first test more is = grind (arith, nat_tests)

position_at : {X : Type 0} (p : X → Bool) (xs : List X) (i : ℕ) → position_or_len p xs ≡ i → i < length xs → Some i ≡ position p xs
position_at p xs i is within = grind (arith, common_steps)

position_nowhere : {X : Type 0} (p : X → Bool) (xs : List X) → position_or_len p xs ≡ length xs → None ≡ position p xs
position_nowhere p xs is = grind (arith, common_steps)

nowhere : (better : Candidate → Candidate → Bool) (c : Candidate) (cs : List Candidate) → IsBest better (c ∷ cs) (length (c ∷ cs)) None → None ≡ first_best better (c ∷ cs)
nowhere better c cs none =
    position_nowhere (is_best better (c ∷ cs)) (c ∷ cs) (position_or_len_is (is_best better (c ∷ cs)) (c ∷ cs) (length (c ∷ cs)) c (omega arith)
    (λ k within. not_first (get_or (c ∷ cs) k c).eligible (not (list_any (λ other. other.eligible && better other (get_or (c ∷ cs) k c)) (c ∷ cs))) (none k within (get_or (c ∷ cs) k c) (slice_get-get_or (c ∷ cs) k c within)))
    (λ past. absurd (omega arith)))

-- the best of all is the first that no one is better than
pub best_of_all : (better : Candidate → Candidate → Bool) (cs : List Candidate) (r : Option ℕ) → IsBest better cs (length cs) r → r ≡ first_best better cs
best_of_all better [] None none = refl
best_of_all better (c ∷ cs) None none = nowhere better c cs none
best_of_all better cs (Some place) (y, best) =
    let here = get_or_from_slice_get cs place y y best.there in
    position_at (is_best better cs) cs place
    (position_or_len_is (is_best better cs) cs place y (omega (arith, best.within))
    (λ k below. let within : k < length cs = omega (arith, best.within) in beaten_by better cs place y (get_or cs k y) (get_or cs k y).eligible best.there best.eligible (best.first k below (get_or cs k y) (slice_get-get_or cs k y within)) refl)
    (λ within. ap (is_best better cs) here ∙ best_there better cs place y best))
    best.within

pub best_is_eligible : (better : Candidate → Candidate → Bool) (cs : List Candidate) (r : Option ℕ) → IsBest better cs (length cs) r → IfSome r (λ place. IsEligibleAt cs place)
best_is_eligible better cs None none = tt
best_is_eligible better cs (Some place) (y, best) = (best.within, ap (option_map (λ (c : Candidate). c.eligible)) best.there ∙ ap Some best.eligible)

pub none_is_eligible : (better : Candidate → Candidate → Bool) (cs : List Candidate) (r : Option ℕ) → IsBest better cs (length cs) r → IfNone r (IsNoneEligible cs)
none_is_eligible better cs None none = list_any_none (λ (c : Candidate). c.eligible) cs (λ k d within. none k within (get_or cs k d) (slice_get-get_or cs k d within))
none_is_eligible better cs (Some place) best = tt

-- the same of what stands at a place
pub taken_first_at : (better : Candidate → Candidate → Bool) → Ranks better → (cs : List Candidate) (n : ℕ) (d : Candidate) → n < length cs → (get_or cs n d).eligible ≡ true → IsBest better cs n None → IsBest better cs (n + 1) (Some n)
taken_first_at better ranks cs n d within eligible none = taken_first better ranks cs n (get_or cs n d) (slice_get-get_or cs n d within) eligible none

pub taken_at : (better : Candidate → Candidate → Bool) → Ranks better → (cs : List Candidate) (n place : ℕ) (d : Candidate) → AreWeighed cs → n < length cs → (get_or cs n d).eligible ≡ true → better (get_or cs n d) (get_or cs place d) ≡ true → IsBest better cs n (Some place) → IsBest better cs (n + 1) (Some n)
taken_at better ranks cs n place d all within eligible is_better (y, best) =
    let placed : place < length cs = omega (arith, best.within) in
    taken better ranks cs n place (get_or cs n d) (get_or cs place d) all (slice_get-get_or cs n d within) eligible (slice_get-get_or cs place d placed) is_better (y, best)
