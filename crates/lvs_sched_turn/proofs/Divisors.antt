-- The greatest common divisor of a list, met one number after another.
use Prim.Native.Nat.{◌∣◌}
use Rattle.std.proofs.Common.{◌≡◌, ℕ, zero, suc, ◌<◌, ◌≤◌, ◌+◌, ◌%◌, max, Bool, true, false, cond, eqb, ◌&&◌, inl, inr, ◌⊎◌, List, [], ◌∷◌, map, length, drop, get_or, add-one, refl, sym, ◌∙◌, ap, subst, eq-eqb, arith}
use Rattle.std.specs.Int.{IsGcd}
use Rattle.std.specs.List.{AllByRecursion, filter}
use Rattle.std.proofs.Math.Nat.{le-suc_iff}
use Rattle.std.proofs.Math.ListN.{drop_of_length-le}
use Rattle.std.proofs.Math.Seq.{drop-cons}
use Rattle.std.proofs.lemmas.Bool.{cases_lt}
use Rattle.std.proofs.lemmas.Nat.Gcd.{dvd_refl, dvd-zero, dvd_trans, dvd_antisymm, le_of_dvd, dvd_of_mod-eq-zero, mod-eq-zero_of_dvd}
use Rattle.lvs_types.specs.declared.dest.Candidate.{Candidate}
use Rattle.lvs_model.specs.RoundRobin.{eligible_weights, greatest, divides_all, greatest_divisor, greatest_common_divisor}

-- the number divides each one of the list
abbrev pub AllDivided : ℕ → List ℕ → Type 0
AllDivided d ns = AllByRecursion (λ n. d ∣ n) ns

-- what divides all numbers is what divides g and the rest
pub record Covers (g : ℕ) (rest all : List ℕ) : Type 0 where
  pub down : (d : ℕ) → AllDivided d all → (d ∣ g) × AllDivided d rest
  pub up : (d : ℕ) → d ∣ g → AllDivided d rest → AllDivided d all

pub covers_start : (all : List ℕ) → Covers 0 all all
covers_start all = record {
  down = λ d each. (dvd-zero d, each);
  up = λ d none each. each;
}

pub covers_step : (g h w : ℕ) (rest all : List ℕ) → IsGcd g w h → Covers g (w ∷ rest) all → Covers h rest all
covers_step g h w rest all gcd covers = record {
  down = λ d each. let now = covers.down d each in (gcd.2 d now.0 now.1.0, now.1.1);
  up = λ d divides each. covers.up d (dvd_trans d divides gcd.0) (dvd_trans d divides gcd.1, each);
}

both : (a b : Bool) → (a && b) ≡ true → (a ≡ true) × (b ≡ true)
both true b is = (refl, is)
both false b is = absurd (cc)

divided : (d : ℕ) (ns : List ℕ) → divides_all d ns ≡ true → AllDivided d ns
divided d [] is = tt
divided d (n ∷ ns) is =
    let parts = both (eqb (n % d) 0) (divides_all d ns) is in
    let none : n % d ≡ 0 = grind (arith, parts.0) in
    (dvd_of_mod-eq-zero d none, divided d ns parts.1)

divides : (d : ℕ) (ns : List ℕ) → AllDivided d ns → divides_all d ns ≡ true
divides d [] each = refl
divides d (n ∷ ns) each =
    let first : eqb (n % d) 0 ≡ true = eq-eqb (n % d) 0 (mod-eq-zero_of_dvd d each.0) in
    let later = divides d ns each.1 in
    cc

greater_is : (a b : ℕ) → (a < b) ⊎ (b ≤ a) → (max a b ≡ a) ⊎ (max a b ≡ b)
greater_is a b (inl below) = inr (omega arith)
greater_is a b (inr above) = inl (omega arith)

divides_greater : (d a b : ℕ) → d ∣ a → d ∣ b → d ∣ max a b
divides_greater d a b da db = elim (greater_is a b (cases_lt a b)) [ inl first ↦ subst (λ k. d ∣ k) (sym first) da | inr second ↦ subst (λ k. d ∣ k) (sym second) db ]

divides_greatest : (d : ℕ) (ns : List ℕ) → AllDivided d ns → d ∣ greatest ns
divides_greatest d [] each = dvd-zero d
divides_greatest d (n ∷ ns) each = divides_greater d n (greatest ns) each.0 (divides_greatest d ns each.1)

all_zero : (d : ℕ) (ns : List ℕ) → greatest ns ≡ 0 → AllDivided d ns
all_zero d [] none = tt
all_zero d (n ∷ ns) none =
    let first : n ≡ 0 = omega arith in
    let later : greatest ns ≡ 0 = omega arith in
    (subst (λ k. d ∣ k) (sym first) (dvd-zero d), all_zero d ns later)

divisor_step : (b : Bool) (n g r : ℕ) → (b ≡ true → suc n ≤ g) → (b ≡ false → r ≡ g) → g ≤ suc n → cond b (suc n) r ≡ g
divisor_step true n g r most less limit =
    let above = most refl in
    omega arith
divisor_step false n g r most less limit = less refl

divisor_below : (ns : List ℕ) (n g : ℕ) → divides_all g ns ≡ true → divides_all (suc n) ns ≡ false → (g ≤ n) ⊎ (g ≡ suc n) → g ≤ n
divisor_below ns n g passes fails (inl below) = below
divisor_below ns n g passes fails (inr equal) = absurd (cc (ap (λ k. divides_all k ns) equal))

greatest_divisor_is : (ns : List ℕ) (g : ℕ) → divides_all g ns ≡ true → ((d : ℕ) → divides_all d ns ≡ true → d ≤ g) → 0 < g → (limit : ℕ) → g ≤ limit → greatest_divisor limit ns ≡ g
greatest_divisor_is ns g all most some zero limit = absurd (omega arith)
greatest_divisor_is ns g all most some (suc n) limit =
    divisor_step (divides_all (suc n) ns) n g (greatest_divisor n ns) (λ is. most (suc n) is) (λ fails. greatest_divisor_is ns g all most some n (divisor_below ns n g all fails (le-suc_iff.0 limit))) limit

positive : (g n : ℕ) → g ∣ suc n → 0 < g
positive zero n there = absurd (cc (dvd_antisymm there (dvd-zero (suc n))))
positive (suc g) n there = omega arith

covered_zero : (g : ℕ) → suc g ∣ g → g ≡ 0
covered_zero zero there = refl
covered_zero (suc g) there = absurd (omega (arith, le_of_dvd (omega arith) there))

common_at : (g : ℕ) (ns : List ℕ) (n : ℕ) → greatest ns ≡ n → Covers g [] ns → greatest_divisor n ns ≡ g
common_at g ns zero none covers = sym (covered_zero g (covers.down (suc g) (all_zero (suc g) ns none)).0)
common_at g ns (suc n) is covers =
    let each = covers.up g (dvd_refl g) tt in
    let there : g ∣ suc n = subst (λ k. g ∣ k) is (divides_greatest g ns each) in
    let some = positive g n there in
    greatest_divisor_is ns g (divides g ns each) (λ d is. le_of_dvd some (covers.down d (divided d ns is)).0) some (suc n) (le_of_dvd (omega arith) there)

-- the greatest common divisor is what all common divisors divide
pub common_is : (g : ℕ) (ns : List ℕ) → Covers g [] ns → g ≡ greatest_common_divisor ns
common_is g ns covers = sym (common_at g ns (greatest ns) refl covers)

pub weights_first : (b : Bool) (c : Candidate) (cs : List Candidate) → c.eligible ≡ b → eligible_weights (c ∷ cs) ≡ cond b (c.weight ∷ eligible_weights cs) (eligible_weights cs)
weights_first true c cs is = ap (λ b. map (λ (x : Candidate). x.weight) (cond b (c ∷ filter (λ (x : Candidate). x.eligible) cs) (filter (λ (x : Candidate). x.eligible) cs))) is
weights_first false c cs is = ap (λ b. map (λ (x : Candidate). x.weight) (cond b (c ∷ filter (λ (x : Candidate). x.eligible) cs) (filter (λ (x : Candidate). x.eligible) cs))) is

weights_at : (b : Bool) (cs : List Candidate) (i : ℕ) (d : Candidate) → i < length cs → (get_or cs i d).eligible ≡ b → eligible_weights (drop i cs) ≡ cond b ((get_or cs i d).weight ∷ eligible_weights (drop (i + 1) cs)) (eligible_weights (drop (i + 1) cs))
weights_at b cs i d within is =
    ap eligible_weights (drop-cons cs i d within ∙ sym (ap (λ k. get_or cs i d ∷ drop k cs) (add-one i))) ∙ weights_first b (get_or cs i d) (drop (i + 1) cs) is

-- an eligible candidate is met
covers_taken : (g h : ℕ) (cs : List Candidate) (i : ℕ) (d : Candidate) (all : List ℕ) → i < length cs → (get_or cs i d).eligible ≡ true → IsGcd g (get_or cs i d).weight h → Covers g (eligible_weights (drop i cs)) all → Covers h (eligible_weights (drop (i + 1) cs)) all
covers_taken g h cs i d all within is gcd covers =
    covers_step g h (get_or cs i d).weight (eligible_weights (drop (i + 1) cs)) all gcd (subst (λ ws. Covers g ws all) (weights_at true cs i d within is) covers)

-- one that isn't eligible is passed over
covers_passed : (g : ℕ) (cs : List Candidate) (i : ℕ) (d : Candidate) (all : List ℕ) → i < length cs → (get_or cs i d).eligible ≡ false → Covers g (eligible_weights (drop i cs)) all → Covers g (eligible_weights (drop (i + 1) cs)) all
covers_passed g cs i d all within is covers = subst (λ ws. Covers g ws all) (weights_at false cs i d within is) covers

met : (e : Bool) (g h : ℕ) (cs : List Candidate) (i : ℕ) (d : Candidate) (all : List ℕ) → i < length cs → (get_or cs i d).eligible ≡ e → ((get_or cs i d).eligible ≡ true → IsGcd g (get_or cs i d).weight h) → ((get_or cs i d).eligible ≡ false → h ≡ g) → Covers g (eligible_weights (drop i cs)) all → Covers h (eligible_weights (drop (i + 1) cs)) all
met true g h cs i d all within is taken passed covers = covers_taken g h cs i d all within is (taken is) covers
met false g h cs i d all within is taken passed covers = subst (λ k. Covers k (eligible_weights (drop (i + 1) cs)) all) (sym (passed is)) (covers_passed g cs i d all within is covers)

-- a candidate is met
pub covers_met : (g h : ℕ) (cs : List Candidate) (i : ℕ) (d : Candidate) (all : List ℕ) → i < length cs → ((get_or cs i d).eligible ≡ true → IsGcd g (get_or cs i d).weight h) → ((get_or cs i d).eligible ≡ false → h ≡ g) → Covers g (eligible_weights (drop i cs)) all → Covers h (eligible_weights (drop (i + 1) cs)) all
covers_met g h cs i d all within taken passed covers = met (get_or cs i d).eligible g h cs i d all within refl taken passed covers

-- all have been met
pub covers_all : (g : ℕ) (cs : List Candidate) (i : ℕ) → length cs ≤ i → Covers g (eligible_weights (drop i cs)) (eligible_weights cs) → g ≡ greatest_common_divisor (eligible_weights cs)
covers_all g cs i past covers = common_is g (eligible_weights cs) (subst (λ rest. Covers g (eligible_weights rest) (eligible_weights cs)) (drop_of_length-le cs past) covers)
