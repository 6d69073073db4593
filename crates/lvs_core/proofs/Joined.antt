-- The entries of all buckets, by id, are the state's.
use Rattle.std.proofs.Common.{◌≡◌, ℕ, ◌+◌, ◌/◌, ◌^◌, ◌<◌, ◌≤◌, ◌==◌, zero, suc, Bool, true, false, cond, nat_le, List, [], ◌∷◌, ◌++◌, length, refl, ◌∙◌, ap, arith}
use Rattle.std.proofs.Math.Nat.{mod-lt}
use Rattle.std.proofs.lemmas.Bool.{eqb-true, eqb-false}
use Rattle.std.proofs.lemmas.Bool.Decides.{nat_tests}
use Rattle.std.specs.List.{AllByRecursion, filter}
use Rattle.lvs_types.specs.declared.entry.Entry.{Entry}
use Rattle.lvs_types.specs.Protocols.{proto_code}
use Rattle.lvs_model.specs.State.{State}
use Rattle.lvs_model.specs.Lists.{insert_by, sorted_by}
use Rattle.lvs_model.specs.Clock.{entry_bucket}
use Rattle.lvs_model.specs.Numbers.{mix}
use Rattle.lvs_model.specs.Buckets.{entries_of, is_in_bucket}
use Rattle.lvs_model.proofs.OrderLemmas.{all_join, all_filter, all_sorted}
use Rattle.lvs_well_formed.proofs.BucketLists.{AreRising, rising_of}
use Rattle.lvs_bucket.specs.Seen.{BucketSeen}
use Rattle.lvs_board.specs.Seen.{BoardSeen}
use Rattle.lvs_board.specs.Stands.{state_in}
use Rattle.lvs_core.specs.Agree.{Agree, AreBuckets, all_of, state_of}

abbrev id_of : Entry → ℕ
id_of e = e.id

-- the entries of so many buckets, from a number on, one bucket after the other
abbrev parts : ℕ → List Entry → ℕ → ℕ → List Entry
parts buckets es at zero = []
parts buckets es at (suc n) = filter (is_in_bucket buckets at) es ++ parts buckets es (at + 1) n

all_parts : (s : State) (at : ℕ) (bs : List BucketSeen) → AreBuckets s at bs → all_of bs ≡ parts s.buckets s.entries at (length bs)
all_parts s at [] each = refl
all_parts s at (b ∷ bs) each = ap (λ (es : List Entry). es ++ all_of bs) each.0.entries ∙ ap (λ (es : List Entry). entries_of at s ++ es) (all_parts s (at + 1) bs each.1)

parts_none : (buckets at n : ℕ) → parts buckets [] at n ≡ []
parts_none buckets at zero = refl
parts_none buckets at (suc n) = parts_none buckets (at + 1) n

parts_all : (P : Entry → Type 0) (buckets : ℕ) (es : List Entry) (at n : ℕ) → AllByRecursion P es → AllByRecursion P (parts buckets es at n)
parts_all P buckets es at zero all = tt
parts_all P buckets es at (suc n) all = all_join P (filter (is_in_bucket buckets at) es) (parts buckets es (at + 1) n) (all_filter P (is_in_bucket buckets at) es all) (parts_all P buckets es (at + 1) n all)

below_apart : (a b : ℕ) → a < b → (a == b) ≡ false
below_apart a b below = grind (arith, nat_tests)

-- an entry of a lower bucket isn't there
missed : (buckets : ℕ) (e : Entry) (es : List Entry) (at n : ℕ) → entry_bucket buckets e < at → parts buckets (e ∷ es) at n ≡ parts buckets es at n
missed buckets e es at zero below = refl
missed buckets e es at (suc n) below =
    let here = below_apart (entry_bucket buckets e) at below in
    ap (λ (b : Bool). cond b (e ∷ filter (is_in_bucket buckets at) es) (filter (is_in_bucket buckets at) es) ++ parts buckets (e ∷ es) (at + 1) n) here
    ∙ ap (λ (later : List Entry). filter (is_in_bucket buckets at) es ++ later) (missed buckets e es (at + 1) n (omega arith))

abbrev IsAbove : Entry → List Entry → Type 0
IsAbove e es = AllByRecursion (λ (y : Entry). e.id < y.id) es

insert_first : (e : Entry) (es : List Entry) → IsAbove e es → insert_by id_of e es ≡ e ∷ es
insert_first e [] above = refl
insert_first e (y ∷ ys) above =
    let before : nat_le e.id y.id ≡ true = grind (arith, nat_tests, above.0) in
    ap (λ (b : Bool). cond b (e ∷ y ∷ ys) (y ∷ insert_by id_of e ys)) before

insert_past : (x e : Entry) (es : List Entry) → e.id < x.id → insert_by id_of x (e ∷ es) ≡ e ∷ insert_by id_of x es
insert_past x e es below =
    let past : nat_le x.id e.id ≡ false = grind (arith, nat_tests, below) in
    ap (λ (b : Bool). cond b (x ∷ e ∷ es) (e ∷ insert_by id_of x es)) past

sorted_first : (e : Entry) (es : List Entry) → IsAbove e es → sorted_by id_of (e ∷ es) ≡ e ∷ sorted_by id_of es
sorted_first e es above = insert_first e (sorted_by id_of es) (all_sorted (λ (y : Entry). e.id < y.id) id_of es above)

sorted_past : (e : Entry) (front q p : List Entry) → IsAbove e front → sorted_by id_of q ≡ e ∷ sorted_by id_of p → sorted_by id_of (front ++ q) ≡ e ∷ sorted_by id_of (front ++ p)
sorted_past e [] q p above is = is
sorted_past e (x ∷ front) q p above is = ap (insert_by id_of x) (sorted_past e front q p above.1 is) ∙ insert_past x e (sorted_by id_of (front ++ p)) above.0

-- an entry below all others stands first, in whichever bucket it is
first_here : (buckets : ℕ) (e : Entry) (es : List Entry) (at n : ℕ) (b : Bool) → is_in_bucket buckets at e ≡ b → at ≤ entry_bucket buckets e → IsAbove e es
    → (at + 1 ≤ entry_bucket buckets e → sorted_by id_of (parts buckets (e ∷ es) (at + 1) n) ≡ e ∷ sorted_by id_of (parts buckets es (at + 1) n))
    → sorted_by id_of (cond b (e ∷ filter (is_in_bucket buckets at) es) (filter (is_in_bucket buckets at) es) ++ parts buckets (e ∷ es) (at + 1) n) ≡ e ∷ sorted_by id_of (filter (is_in_bucket buckets at) es ++ parts buckets es (at + 1) n)
first_here buckets e es at n true is low above later =
    let here : entry_bucket buckets e ≡ at = eqb-true (entry_bucket buckets e) at is in
    let front : List Entry = filter (is_in_bucket buckets at) es in
    let back : List Entry = parts buckets es (at + 1) n in
    let each : IsAbove e (front ++ back) = all_join (λ (y : Entry). e.id < y.id) front back (all_filter (λ (y : Entry). e.id < y.id) (is_in_bucket buckets at) es above) (parts_all (λ (y : Entry). e.id < y.id) buckets es (at + 1) n above) in
    ap (λ (l : List Entry). sorted_by id_of (e ∷ (front ++ l))) (missed buckets e es (at + 1) n (omega (arith, here))) ∙ sorted_first e (front ++ back) each
first_here buckets e es at n false is low above later =
    let apart = eqb-false (entry_bucket buckets e) at is in
    sorted_past e (filter (is_in_bucket buckets at) es) (parts buckets (e ∷ es) (at + 1) n) (parts buckets es (at + 1) n) (all_filter (λ (y : Entry). e.id < y.id) (is_in_bucket buckets at) es above) (later (omega (arith, apart)))

first : (buckets : ℕ) (e : Entry) (es : List Entry) (at n : ℕ) → at ≤ entry_bucket buckets e → entry_bucket buckets e < at + n → IsAbove e es → sorted_by id_of (parts buckets (e ∷ es) at n) ≡ e ∷ sorted_by id_of (parts buckets es at n)
first buckets e es at zero low high above = absurd (omega arith)
first buckets e es at (suc n) low high above =
    first_here buckets e es at n (is_in_bucket buckets at e) refl low above (λ past. first buckets e es (at + 1) n past (omega arith) above)

pub bucket_below : (buckets : ℕ) (e : Entry) → 0 < buckets → entry_bucket buckets e < buckets
bucket_below buckets e some = mod-lt (mix (proto_code e.key.proto) e.key.caddr e.key.cport / 2 ^ 24) some

in_order : (buckets : ℕ) (es : List Entry) → 0 < buckets → AreRising es → sorted_by id_of (parts buckets es 0 buckets) ≡ es
in_order buckets [] some rising = ap (sorted_by id_of) (parts_none buckets 0 buckets)
in_order buckets (e ∷ es) some rising =
    let below = bucket_below buckets e some in
    first buckets e es 0 buckets (omega arith) (omega (arith, below)) rising.0 ∙ ap (λ (l : List Entry). e ∷ l) (in_order buckets es some rising.1)

pub entries_are : (board : BoardSeen) (bs : List BucketSeen) (s : State) → Agree board bs s → sorted_by id_of (all_of bs) ≡ s.entries
entries_are board bs s agree =
    ap (sorted_by id_of) (all_parts s 0 bs agree.each ∙ ap (λ (n : ℕ). parts s.buckets s.entries 0 n) agree.whole)
    ∙ in_order s.buckets s.entries agree.counted.numbers.buckets (rising_of s.entries agree.rising)

-- a board and buckets agree with one state alone
pub state_is : (board : BoardSeen) (bs : List BucketSeen) (s : State) → Agree board bs s → state_of board bs ≡ s
state_is board bs s agree =
    ap (λ (es : List Entry). state_in board.tables es (length bs)) (entries_are board bs s agree)
    ∙ ap (λ (n : ℕ). state_in board.tables s.entries n) agree.whole
    ∙ agree.stands.tables
