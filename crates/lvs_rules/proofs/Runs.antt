-- Runs of 40 records, one after the other.
use Rattle.std.proofs.Common.{◌≡◌, ℕ, ◌<◌, ◌≤◌, zero, suc, List, [], ◌∷◌, length, take, drop, map, ◌++◌, ◌==◌, true, false, refl, ap, sym, ◌∙◌, arith, length-drop}
use Rattle.std.specs.List.{AllByRecursion}
use Rattle.std.proofs.lemmas.List.{append_assoc, append-nil}
use Rattle.std.proofs.lemmas.Bool.Decides.{nat_tests}
use Rattle.lvs_types.specs.declared.sync.SyncRecord.{SyncRecord}
use Rattle.lvs_model.specs.Messages.{written, HasOldFlags}
use Rattle.lvs_model.specs.Sending.{runs_within, runs_of_40, messages_of}

-- more runs than there are records change nothing
enough : (n m : ℕ) (rs : List SyncRecord) → length rs ≤ n → length rs ≤ m → runs_within n rs ≡ runs_within m rs
enough n m [] a b = refl
enough zero m (r ∷ rs) a b = absurd (omega arith)
enough (suc n) zero (r ∷ rs) a b = absurd (omega arith)
enough (suc n) (suc m) (r ∷ rs) a b =
    let shorter : length (drop 40 (r ∷ rs)) ≤ length rs = omega (arith, length-drop 40 (r ∷ rs)) in
    ap (λ (more : List (List SyncRecord)). take 40 (r ∷ rs) ∷ more) (enough n m (drop 40 (r ∷ rs)) (omega arith) (omega arith))

one_run : (r : SyncRecord) (rs : List SyncRecord) → runs_of_40 (r ∷ rs) ≡ take 40 (r ∷ rs) ∷ runs_of_40 (drop 40 (r ∷ rs))
one_run r rs =
    let shorter : length (drop 40 (r ∷ rs)) ≤ length rs = omega (arith, length-drop 40 (r ∷ rs)) in
    ap (λ (more : List (List SyncRecord)). take 40 (r ∷ rs) ∷ more) (enough (length rs) (length (drop 40 (r ∷ rs))) (drop 40 (r ∷ rs)) shorter (omega arith))

-- a message of the first 40, and those of the rest
pub first_message : (version id : ℕ) (rs : List SyncRecord) → 0 < length rs → messages_of version id rs ≡ written version id (take 40 rs) ∷ messages_of version id (drop 40 rs)
first_message version id [] some = absurd (omega arith)
first_message version id (r ∷ rs) some = ap (map (written version id)) (one_run r rs)

take_all : (n : ℕ) (rs : List SyncRecord) → length rs ≤ n → take n rs ≡ rs
take_all zero [] few = refl
take_all zero (r ∷ rs) few = absurd (omega arith)
take_all (suc n) [] few = refl
take_all (suc n) (r ∷ rs) few = ap (λ (more : List SyncRecord). r ∷ more) (take_all n rs (omega arith))

drop_all : (n : ℕ) (rs : List SyncRecord) → length rs ≤ n → drop n rs ≡ []
drop_all zero [] few = refl
drop_all zero (r ∷ rs) few = absurd (omega arith)
drop_all (suc n) [] few = refl
drop_all (suc n) (r ∷ rs) few = drop_all n rs (omega arith)

-- one message of all, where they are few
pub last_message : (version id : ℕ) (rs : List SyncRecord) → 0 < length rs → length rs ≤ 40 → messages_of version id rs ≡ written version id rs ∷ []
last_message version id rs some few =
    first_message version id rs some ∙ ap (λ (xs : List SyncRecord). written version id xs ∷ messages_of version id (drop 40 rs)) (take_all 40 rs few) ∙ ap (λ (xs : List SyncRecord). written version id rs ∷ messages_of version id xs) (drop_all 40 rs few)

pub no_message : (version id : ℕ) (rs : List SyncRecord) → length rs ≡ 0 → messages_of version id rs ≡ []
no_message version id [] none = refl
no_message version id (r ∷ rs) none = absurd (omega arith)

pub flags_take : (n : ℕ) (rs : List SyncRecord) → AllByRecursion HasOldFlags rs → AllByRecursion HasOldFlags (take n rs)
flags_take zero rs each = tt
flags_take (suc n) [] each = tt
flags_take (suc n) (r ∷ rs) each = (each.0, flags_take n rs each.1)

pub flags_drop : (n : ℕ) (rs : List SyncRecord) → AllByRecursion HasOldFlags rs → AllByRecursion HasOldFlags (drop n rs)
flags_drop zero rs each = each
flags_drop (suc n) [] each = tt
flags_drop (suc n) (r ∷ rs) each = flags_drop n rs each.1

-- a message of the first 40 was written, and the others follow
pub goes_on : (version id : ℕ) (rs front back : List SyncRecord) (before after : List (List ℕ)) (message : List ℕ) (all : List (List ℕ)) → 0 < length rs → front ≡ take 40 rs → back ≡ drop 40 rs → message ≡ written version id front → after ≡ before ++ message ∷ [] → before ++ messages_of version id rs ≡ all → after ++ messages_of version id back ≡ all
goes_on version id rs front back before after message all some first second is pushed so_far =
    ap (λ (xs : List (List ℕ)). xs ++ messages_of version id back) pushed
    ∙ append_assoc before (message ∷ []) (messages_of version id back)
    ∙ ap (λ (x : List ℕ). before ++ (x ∷ messages_of version id back)) is
    ∙ ap (λ (xs : List SyncRecord). before ++ (written version id xs ∷ messages_of version id back)) first
    ∙ ap (λ (xs : List SyncRecord). before ++ (written version id (take 40 rs) ∷ messages_of version id xs)) second
    ∙ ap (λ (xs : List (List ℕ)). before ++ xs) (sym (first_message version id rs some))
    ∙ so_far

-- a message of the last ones was written
pub ends_with : (version id : ℕ) (rs : List SyncRecord) (before after : List (List ℕ)) (message : List ℕ) (all : List (List ℕ)) → 0 < length rs → length rs ≤ 40 → message ≡ written version id rs → after ≡ before ++ message ∷ [] → before ++ messages_of version id rs ≡ all → after ≡ all
ends_with version id rs before after message all some few is pushed so_far =
    pushed
    ∙ ap (λ (x : List ℕ). before ++ x ∷ []) is
    ∙ ap (λ (xs : List (List ℕ)). before ++ xs) (sym (last_message version id rs some few))
    ∙ so_far

-- none is left to write
pub ends_without : (version id : ℕ) (rs : List SyncRecord) (before : List (List ℕ)) (all : List (List ℕ)) → length rs ≡ 0 → before ++ messages_of version id rs ≡ all → before ≡ all
ends_without version id rs before all none so_far =
    sym (append-nil before) ∙ ap (λ (xs : List (List ℕ)). before ++ xs) (sym (no_message version id rs none)) ∙ so_far

pub some_left : (n : ℕ) → false ≡ (n == 0) → 0 < n
some_left zero is = absurd cc
some_left (suc n) is = omega arith

pub none_left : (n : ℕ) → true ≡ (n == 0) → n ≡ 0
none_left n is = grind (arith, nat_tests)
