-- The tunnel's outer header has a right checksum.
use Rattle.std.proofs.Common.{◌≡◌, ℕ, ◌+◌, true, arith}
use Rattle.lvs_types.specs.declared.addr.Addr.{Addr}
use Rattle.lvs_types.specs.declared.head.Head.{Head}
use Rattle.lvs_sum.specs.Sums.{folded, word_sum, complement, is_valid_header}
use Rattle.lvs_sum.proofs.Folding.{folded_small, folded_split, full_of, full_test}
use Rattle.lvs_model.specs.Rewriting.{outer_bytes, outer_with}

-- the words of the header are those without the checksum, and the checksum
sum_apart : (sum : ℕ) (head : Head) (local daddr : Addr) → word_sum (outer_with sum head local daddr) ≡ word_sum (outer_with 0 head local daddr) + sum
sum_apart sum head local daddr = omega arith

pub outer_valid : (head : Head) (local daddr : Addr) → is_valid_header (outer_bytes head local daddr) ≡ true
outer_valid head local daddr =
    let words : ℕ = word_sum (outer_with 0 head local daddr) in
    let split = folded_split words in
    let small = folded_small words in
    let apart = sum_apart (complement (folded words)) head local daddr in
    full_test (word_sum (outer_bytes head local daddr)) (full_of (word_sum (outer_bytes head local daddr)) (split.0 + 1) (omega (arith, split.1, small, apart)) (omega (arith, split.1, small, apart)))
