-- Cutting at the first byte that passes a test, and splitting at all of them.
use Rattle.std.proofs.Common.{◌≡◌, ℕ, ◌+◌, ◌≤◌, Bool, true, false, cond, not, suc, List, [], ◌∷◌, length, Option, Some, None, refl, sym, ◌∙◌, ap, arith, nat_lt}
use borrow.Author.Tests.{ltb-true, ltb-false}
use Rattle.std.specs.List.{position_or_len, before_first, after_first, slice_split, onto_first}
use Rattle.std.proofs.lemmas.List.Splits.{slice_split_first}
use Rattle.lvs_model.specs.Lines.{cut_by}

abbrev pub cut_pair : List ℕ → List ℕ → Option (List ℕ × List ℕ)
cut_pair prefix after = Some (prefix, after)

first_part : (List ℕ → List (List ℕ)) → Option (List ℕ × List ℕ) → List (List ℕ)
first_part more None = []
first_part more (Some cut) = cut.0 ∷ more cut.1

found_by : (b : Bool) (prefix after p q : List ℕ) (parts : List (List ℕ)) (more : List ℕ → List (List ℕ)) → (b ≡ true → parts ≡ p ∷ more q) → cut_pair prefix after ≡ cond b (cut_pair p q) None → parts ≡ prefix ∷ more after
unfolding first_part
found_by true prefix after p q parts more shown cut = shown refl ∙ sym (ap (first_part more) cut)
found_by false prefix after p q parts more shown cut = cc

pub split_found : (test : ℕ → Bool) (text prefix after : List ℕ) → cut_pair prefix after ≡ cut_by test text → slice_split test text ≡ prefix ∷ slice_split test after
split_found test text prefix after cut =
    found_by (nat_lt (position_or_len test text) (length text)) prefix after (before_first test text) (after_first test text) (slice_split test text) (slice_split test) (λ is. slice_split_first test text 0 (ltb-true _ _ is)) cut

unsplit_cons : (b : Bool) (c : ℕ) (cs : List ℕ) (parts : List (List ℕ)) (n : ℕ) → (length cs ≤ n → parts ≡ cs ∷ []) → suc (length cs) ≤ cond (not b) (suc n) 0 → cond b ([] ∷ parts) (onto_first c parts) ≡ (c ∷ cs) ∷ []
unsplit_cons true c cs parts n later past = absurd (omega arith)
unsplit_cons false c cs parts n later past = ap (onto_first c) (later (omega arith))

unsplit : (test : ℕ → Bool) (text : List ℕ) → length text ≤ position_or_len test text → slice_split test text ≡ text ∷ []
unsplit test [] past = refl
unsplit test (c ∷ cs) past =
    let n = position_or_len test cs in
    let one : (1 + n) ≡ suc n = omega arith in
    let shown : suc (length cs) ≤ cond (not (test c)) (suc n) 0 = rw (← one) past in
    unsplit_cons (test c) c cs (slice_split test cs) n (unsplit test cs) shown

missed_by : (b : Bool) (p q text : List ℕ) (parts : List (List ℕ)) → (b ≡ false → parts ≡ text ∷ []) → None ≡ cond b (cut_pair p q) None → parts ≡ text ∷ []
missed_by true p q text parts shown cut = cc
missed_by false p q text parts shown cut = shown refl

pub split_missed : (test : ℕ → Bool) (text : List ℕ) → None ≡ cut_by test text → slice_split test text ≡ text ∷ []
split_missed test text cut =
    missed_by (nat_lt (position_or_len test text) (length text)) (before_first test text) (after_first test text) text (slice_split test text) (λ is. unsplit test text (ltb-false _ _ is)) cut
