-- Tests that rank candidates of weights above 0.
use Rattle.std.proofs.Common.{◌≡◌, ℕ, ◌<◌, ◌≤◌, ◌+◌, ◌*◌, Bool, true, false, ltb, arith}
use Rattle.std.proofs.Math.Nat.{mul-lt-mul_of_pos_right, mul-le-mul_right, lt_of_mul-lt-mul_right}
use Rattle.std.proofs.lemmas.Bool.{ltb-true, ltb-false}
use Rattle.std.proofs.lemmas.Bool.Decides.{nat_tests}
use Rattle.lvs_types.specs.declared.dest.Candidate.{Candidate}
use Rattle.lvs_model.specs.LeastLoad.{load}
use Rattle.lvs_sched_load.specs.declared.order.Order.{Order}
use Rattle.lvs_sched_load.specs.declared.order.Order.TheVariants.{Load, LoadOverWeight, ExpectedDelay}
use Rattle.lvs_sched_load.specs.Orders.{is_better}

pub record Ranks (better : Candidate → Candidate → Bool) : Type 0 where
  pub same : (a : Candidate) → better a a ≡ false
  pub one_way : (a b : Candidate) → better a b ≡ true → better b a ≡ false
  pub chain : (a b c : Candidate) → 0 < a.weight → 0 < b.weight → 0 < c.weight → better a b ≡ true → better c b ≡ false → better a c ≡ true

less : (m n : ℕ) → m < n → ltb m n ≡ true
less m n below = grind (arith, nat_tests)

not_less : (m n : ℕ) → n ≤ m → ltb m n ≡ false
not_less m n above = grind (arith, nat_tests)

-- the lower number is better
ranks_by_number : (f : Candidate → ℕ) → Ranks (λ a b. ltb (f a) (f b))
ranks_by_number f = record {
  same = λ a. not_less (f a) (f a) (omega arith);
  one_way = λ a b below. let is = ltb-true (f a) (f b) below in not_less (f b) (f a) (omega arith);
  chain = λ a b c wa wb wc below above. let is = ltb-true (f a) (f b) below in let isnt = ltb-false (f c) (f b) above in less (f a) (f c) (omega arith);
}

-- three fractions x/u, y/v and z/w: where the first is below the second and the third isn't, the first is below the third
fractions : (x u y v z w : ℕ) → 0 < u → 0 < w → x * v < y * u → y * w ≤ z * v → x * w < z * u
fractions x u y v z w above_u above_w below above =
    let first : (x * v) * w < (y * u) * w = mul-lt-mul_of_pos_right below above_w in
    let second : (y * w) * u ≤ (z * v) * u = mul-le-mul_right u above in
    lt_of_mul-lt-mul_right v (omega arith)

-- the lower number over weight is better
ranks_by_fraction : (f : Candidate → ℕ) → Ranks (λ a b. ltb (f a * b.weight) (f b * a.weight))
ranks_by_fraction f = record {
  same = λ a. not_less (f a * a.weight) (f a * a.weight) (omega arith);
  one_way = λ a b below. let is = ltb-true (f a * b.weight) (f b * a.weight) below in not_less (f b * a.weight) (f a * b.weight) (omega arith);
  chain = λ a b c wa wb wc below above.
      let is = ltb-true (f a * b.weight) (f b * a.weight) below in
      let isnt = ltb-false (f c * b.weight) (f b * c.weight) above in
      less (f a * c.weight) (f c * a.weight) (fractions (f a) a.weight (f b) b.weight (f c) c.weight wa wc is isnt);
}

pub ranks : (order : Order) → Ranks (is_better order)
ranks Load = ranks_by_number load
ranks LoadOverWeight = ranks_by_fraction load
ranks ExpectedDelay = ranks_by_fraction (λ c. c.active + 1)
