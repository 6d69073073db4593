-- A director at its beginning, and a board and buckets that agree about the state that they make.
use Rattle.std.proofs.Common.{◌≡◌, ℕ, ◌+◌, ◌<◌, ◌≤◌, ◌==◌, Bool, true, false, cond, List, [], ◌∷◌, ◌++◌, length, length-append, count_by, refl, sym, ◌∙◌, ap, subst, arith}
use Rattle.std.proofs.lemmas.Bool.{eqb-true}
use Rattle.std.proofs.lemmas.Bool.Decides.{nat_tests}
use Rattle.std.proofs.lemmas.List.Sums.{sum_by-cons}
use Rattle.std.specs.List.{AllByRecursion}
use Rattle.lvs_types.specs.declared.addr.Addr.{Addr}
use Rattle.lvs_types.specs.declared.entry.Entry.{Entry}
use Rattle.lvs_types.specs.declared.snapshot.Snapshot.{Snapshot}
use Rattle.lvs_model.specs.State.{State, initial}
use Rattle.lvs_model.specs.Lists.{sorted_by}
use Rattle.lvs_model.specs.Snapshots.{snapshot_of}
use Rattle.lvs_model.proofs.CountedLemmas.{counted_initial}
use Rattle.lvs_model.proofs.OrderLemmas.{IsStrict, all_weaker, count_zero, count_sorted}
use Rattle.lvs_well_formed.proofs.BucketLists.{rising_of}
use Rattle.lvs_well_formed.proofs.BucketLooks.{sorted_rising}
use Rattle.lvs_well_formed.proofs.BucketSteps.{rising_run}
use Rattle.lvs_well_formed.proofs.Steps.{initial_well_formed}
use Rattle.lvs_bucket.specs.Seen.{BucketSeen}
use Rattle.lvs_board.specs.Seen.{BoardSeen}
use Rattle.lvs_board.specs.Stands.{StandsFor, shown_tables}
use Rattle.lvs_core.specs.Agree.{Agree, AreBuckets, all_of, state_of}
use Rattle.lvs_core.proofs.Joined.{entries_are, state_is}
use Rattle.lvs_core.proofs.Numbered.{one_more}

pub one_longer : (n : ℕ) (bs : List BucketSeen) (b : BucketSeen) → length bs ≡ n → length (bs ++ b ∷ []) ≡ n + 1
one_longer n bs b long = let whole = length-append bs (b ∷ []) in omega (arith, whole, long)

-- one more bucket without entries
pub one_more_empty : (count n : ℕ) (bs : List BucketSeen) (b : BucketSeen) → length bs ≡ n → b.number ≡ n → b.buckets ≡ count → b.entries ≡ [] → ((local : Addr) → AreBuckets (initial local count) 0 bs) → (local : Addr) → AreBuckets (initial local count) 0 (bs ++ b ∷ [])
one_more_empty count n bs b long number whole entries each local =
    let at : b.number ≡ 0 + length bs = omega (arith, number, long) in
    one_more (initial local count) 0 bs b (record { number = at; buckets = whole; entries = entries }) (each local)

pub agree_initial : (local : Addr) (n : ℕ) (board : BoardSeen) (bs : List BucketSeen) → 0 < n → n ≤ 256 → StandsFor board (initial local n) → board.book ≡ [] → board.steps ≡ 0 → AreBuckets (initial local n) 0 bs → length bs ≡ n → Agree board bs (initial local n)
agree_initial local n board bs some few stands book steps each long = record {
  book = book;
  stands = stands;
  well_formed = initial_well_formed local n;
  counted = rw steps (counted_initial local n some);
  rising = rising_run local n [];
  whole = long;
  few = few;
  each = each;
}

-- they agree about the state that they make
pub own_state : (board : BoardSeen) (bs : List BucketSeen) (s : State) → Agree board bs s → Agree board bs (state_of board bs)
own_state board bs s agree = subst (λ (t : State). Agree board bs t) (sym (state_is board bs s agree)) agree

-- SNAPSHOTS

above_apart : (n : ℕ) (e : Entry) → n < e.id → (e.id == n) ≡ false
above_apart n e above = grind (arith, nat_tests, above)

once_step : (n : ℕ) (e : Entry) (es : List Entry) (b : Bool) → (e.id == n) ≡ b → AllByRecursion (λ (y : Entry). e.id < y.id) es → count_by (λ (y : Entry). y.id == n) es ≤ 1 → cond b 1 0 + count_by (λ (y : Entry). y.id == n) es ≤ 1
once_step n e es true is above later =
    let here : e.id ≡ n = eqb-true e.id n is in
    let none = count_zero (λ (y : Entry). y.id == n) es (all_weaker (λ (y : Entry). e.id < y.id) (λ (y : Entry). (y.id == n) ≡ false) (λ y up. above_apart n y (omega (arith, here, up))) es above) in
    omega (arith, none)
once_step n e es false is above later = omega (arith, later)

strict_once : (n : ℕ) (es : List Entry) → IsStrict (λ (e : Entry). e.id) es → count_by (λ (y : Entry). y.id == n) es ≤ 1
strict_once n [] strict = omega arith
strict_once n (e ∷ es) strict =
    let whole = sum_by-cons (λ (y : Entry). cond (y.id == n) 1 0) e es in
    let step = once_step n e es (e.id == n) refl strict.0 (strict_once n es strict.1) in
    omega (arith, whole, step)

-- no two entries of the buckets have one id
pub ids_once : (board : BoardSeen) (bs : List BucketSeen) (s : State) → Agree board bs s → (n : ℕ) → count_by (λ (e : Entry). e.id == n) (all_of bs) ≤ 1
ids_once board bs s agree n =
    let same = count_sorted (λ (e : Entry). e.id) (λ (e : Entry). e.id == n) (all_of bs) in
    let are : count_by (λ (e : Entry). e.id == n) (sorted_by (λ (e : Entry). e.id) (all_of bs)) ≡ count_by (λ (e : Entry). e.id == n) s.entries = ap (count_by (λ (e : Entry). e.id == n)) (entries_are board bs s agree) in
    let once = strict_once n s.entries (rising_of s.entries agree.rising) in
    omega (arith, same, are, once)

-- the tables with the entries of all buckets are the snapshot
pub snapshot_is : (board : BoardSeen) (bs : List BucketSeen) (s : State) (shown : Snapshot) → Agree board bs s → shown ≡ shown_tables s → record shown { entries = sorted_by (λ (e : Entry). e.id) (all_of bs) } ≡ snapshot_of s
snapshot_is board bs s shown agree is =
    ap (λ (t : Snapshot). record t { entries = sorted_by (λ (e : Entry). e.id) (all_of bs) }) is
    ∙ ap (λ (es : List Entry). record (snapshot_of s) { entries = es }) (entries_are board bs s agree ∙ sym (sorted_rising (λ (e : Entry). e.id) s.entries (rising_of s.entries agree.rising)))
