-- Buckets by their numbers: one of them, and one of them changed.
use Rattle.std.proofs.Common.{◌≡◌, ◌≢◌, ℕ, ◌+◌, ◌<◌, ◌≤◌, zero, suc, List, [], ◌∷◌, ◌++◌, length, get_or, set, sym, ◌∙◌, subst, arith}
use Rattle.lvs_model.specs.State.{State}
use Rattle.lvs_model.specs.Buckets.{entries_of}
use Rattle.lvs_bucket.specs.Seen.{BucketSeen}
use Rattle.lvs_core.specs.Agree.{AreBuckets, IsBucket}

-- in two states, a bucket has the same entries
abbrev pub IsSame : State → State → ℕ → Type 0
IsSame s t at = entries_of at t ≡ entries_of at s

pub bucket_at : (s : State) (at : ℕ) (bs : List BucketSeen) (i : ℕ) (d : BucketSeen) → i < length bs → AreBuckets s at bs → IsBucket s (at + i) (get_or bs i d)
bucket_at s at [] i d within each = absurd (omega arith)
bucket_at s at (b ∷ bs) zero d within each = let here : at + 0 ≡ at = omega arith in subst (λ (n : ℕ). IsBucket s n b) (sym here) each.0
bucket_at s at (b ∷ bs) (suc i) d within each =
    let later : at + suc i ≡ at + 1 + i = omega arith in
    subst (λ (n : ℕ). IsBucket s n (get_or bs i d)) (sym later) (bucket_at s (at + 1) bs i d (omega arith) each.1)

pub bucket_stays : (s t : State) (at : ℕ) (b : BucketSeen) → t.buckets ≡ s.buckets → IsSame s t at → IsBucket s at b → IsBucket t at b
bucket_stays s t at b whole same is = record { number = is.number; buckets = is.buckets ∙ sym whole; entries = is.entries ∙ sym same }

pub all_stay : (s t : State) (at : ℕ) (bs : List BucketSeen) → t.buckets ≡ s.buckets → ((k : ℕ) → at ≤ k → IsSame s t k) → AreBuckets s at bs → AreBuckets t at bs
all_stay s t at [] whole same each = tt
all_stay s t at (b ∷ bs) whole same each = (bucket_stays s t at b whole (same at (omega arith)) each.0, all_stay s t (at + 1) bs whole (λ k above. same k (omega arith)) each.1)

-- one bucket is changed, and all others are as before
pub one_changes : (s t : State) (at : ℕ) (bs : List BucketSeen) (i : ℕ) (b : BucketSeen) → t.buckets ≡ s.buckets → ((k : ℕ) → k ≢ at + i → IsSame s t k) → IsBucket t (at + i) b → AreBuckets s at bs → AreBuckets t at (set bs i b)
one_changes s t at [] i b whole same is each = tt
one_changes s t at (x ∷ bs) zero b whole same is each =
    let here : at + 0 ≡ at = omega arith in
    (subst (λ (n : ℕ). IsBucket t n b) here is, all_stay s t (at + 1) bs whole (λ k above. same k (λ e. omega (arith, e))) each.1)
one_changes s t at (x ∷ bs) (suc i) b whole same is each =
    let later : at + suc i ≡ at + 1 + i = omega arith in
    (bucket_stays s t at x whole (same at (λ e. omega (arith, e))) each.0, one_changes s t (at + 1) bs i b whole (λ k apart. same k (λ e. apart (omega (arith, e)))) (subst (λ (n : ℕ). IsBucket t n b) later is) each.1)

-- one more bucket
pub one_more : (s : State) (at : ℕ) (bs : List BucketSeen) (b : BucketSeen) → IsBucket s (at + length bs) b → AreBuckets s at bs → AreBuckets s at (bs ++ b ∷ [])
one_more s at [] b is each = let here : at + 0 ≡ at = omega arith in (subst (λ (n : ℕ). IsBucket s n b) here is, tt)
one_more s at (x ∷ bs) b is each =
    let later : at + length (x ∷ bs) ≡ at + 1 + length bs = omega arith in
    (each.0, one_more s (at + 1) bs b (subst (λ (n : ℕ). IsBucket s n b) later is) each.1)

-- the bucket of a number, counted from 0
pub bucket_here : (s : State) (bs : List BucketSeen) (i : ℕ) (d : BucketSeen) → i < length bs → AreBuckets s 0 bs → IsBucket s i (get_or bs i d)
bucket_here s bs i d within each = let here : 0 + i ≡ i = omega arith in subst (λ (n : ℕ). IsBucket s n (get_or bs i d)) here (bucket_at s 0 bs i d within each)

pub one_changes_here : (s t : State) (bs : List BucketSeen) (i : ℕ) (b : BucketSeen) → t.buckets ≡ s.buckets → ((k : ℕ) → k ≢ i → IsSame s t k) → IsBucket t i b → AreBuckets s 0 bs → AreBuckets t 0 (set bs i b)
one_changes_here s t bs i b whole same is each =
    let here : 0 + i ≡ i = omega arith in
    one_changes s t 0 bs i b whole (λ k apart. same k (λ e. apart (e ∙ sym here))) (subst (λ (n : ℕ). IsBucket t n b) (sym here) is) each

-- it has its number
pub own_number : (s : State) (n : ℕ) (b : BucketSeen) → IsBucket s n b → IsBucket s b.number b
own_number s n b is = subst (λ (m : ℕ). IsBucket s m b) (sym is.number) is
