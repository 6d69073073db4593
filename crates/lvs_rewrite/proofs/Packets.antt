-- A whole packet after masquerade: it is the packet with four fields replaced, and its checksums stay right.
use Rattle.std.proofs.Common.{◌≡◌, ◌≢◌, ℕ, ◌+◌, ◌-◌, ◌*◌, ◌/◌, ◌%◌, ◌<◌, ◌≤◌, Bool, true, false, if◌then◌else◌, ◌==◌, List, length, get_or, take, drop, take_all, refl, sym, ap, arith, ◌∙◌}
use Rattle.std.proofs.lemmas.Bool.Decides.{nat_tests}
use Rattle.lvs_types.specs.declared.addr.Addr.{Addr}
use Rattle.lvs_types.specs.declared.head.Head.{Head}
use Rattle.lvs_sum.specs.Sums.{folded, word_sum, update32, is_valid_header}
use Rattle.lvs_sum.proofs.Folding.{test_full, full_test}
use Rattle.lvs_sum.proofs.Keeping.{AreBytes}
use Rattle.lvs_model.specs.Fields.{word_at, number_at}
use Rattle.lvs_model.specs.Rewriting.{with_word, with_number, with_header_sum, with_part_sum, moved_sum, part_sum, udp_sum, checksum_place}
use Rattle.lvs_rewrite.proofs.Changes.{Places, changed, other_word, other_number, length_word, length_number, last_word, stays, length_changed, address_changed}
use Rattle.lvs_rewrite.specs.Validity.{has_valid_header, has_valid_part, udp_field}
use Rattle.lvs_rewrite.proofs.Kept.{header_kept, part_kept}
use Rattle.lvs_rewrite.proofs.Reading.{Seen}
use Rattle.lvs_model.specs.Reading.{header_len_of, total_of, code_of, payload_len, payload_of}

-- where the checksum stands in the part
abbrev pub check_of : Head → ℕ
check_of head = if head.code == 6 then 16 else 6

-- the packet with its address and port replaced, and then its sums
abbrev pub rewritten : Head → Addr → Addr → ℕ → ℕ → (address port : ℕ) → List ℕ → List ℕ
rewritten head old new old_port new_port address port bytes =
    with_part_sum head old new old_port new_port (with_header_sum old new (with_word (head.header_len + port) new_port (with_number address new.number bytes)))

-- the sums of a rewriting, told from the fields of the packet before it
abbrev pub header_sum_of : Addr → Addr → List ℕ → ℕ
header_sum_of old new bytes = update32 (word_at bytes 10) old.number new.number

abbrev pub part_sum_of : Head → Addr → Addr → ℕ → ℕ → List ℕ → ℕ
part_sum_of head old new old_port new_port bytes = part_sum (head.code == 6) (word_at bytes (head.header_len + check_of head)) (moved_sum old new old_port new_port (word_at bytes (head.header_len + check_of head)))

-- no field is written over by an earlier one
pub as_changed : (head : Head) (old new : Addr) (old_port new_port address port : ℕ) (bytes : List ℕ) → Places (length bytes) head.header_len address port (check_of head)
    → rewritten head old new old_port new_port address port bytes
    ≡ changed head.header_len address port (check_of head) new.number new_port (header_sum_of old new bytes) (part_sum_of head old new old_port new_port bytes) bytes
as_changed head old new old_port new_port address port bytes places =
    let end : ℕ = head.header_len in
    let check : ℕ = check_of head in
    let one : List ℕ = with_number address new.number bytes in
    let two : List ℕ = with_word (end + port) new_port one in
    let three : List ℕ = with_header_sum old new two in
    let e1 = length_number address new.number bytes (omega arith) in
    let e2 = length_word (end + port) new_port one (omega arith) in
    let to_two = (λ (i : ℕ) (past_address : address ≤ i → address + 4 ≤ i) (past_port : end + port ≤ i → end + port + 2 ≤ i).
    other_word (end + port) new_port one i (omega arith) past_port ∙ other_number address new.number bytes i (omega arith) past_address) in
    let high : get_or two 10 0 ≡ get_or bytes 10 0 = to_two 10 (λ h. omega arith) (λ h. omega arith) in
    let low : get_or two 11 0 ≡ get_or bytes 11 0 = to_two 11 (λ h. omega arith) (λ h. omega arith) in
    let header_field : word_at two 10 ≡ word_at bytes 10 = omega (arith, high, low) in
    let to_three = (λ (i : ℕ) (past_address : address ≤ i → address + 4 ≤ i) (past_port : end + port ≤ i → end + port + 2 ≤ i) (past_sum : 10 ≤ i → 12 ≤ i).
    other_word 10 (update32 (word_at two 10) old.number new.number) two i (omega arith) past_sum ∙ to_two i past_address past_port) in
    let high_too : get_or three (end + check) 0 ≡ get_or bytes (end + check) 0 = to_three (end + check) (λ h. omega arith) (λ h. omega arith) (λ h. omega arith) in
    let low_too : get_or three (end + check + 1) 0 ≡ get_or bytes (end + check + 1) 0 = to_three (end + check + 1) (λ h. omega arith) (λ h. omega arith) (λ h. omega arith) in
    let part_field : word_at three (end + check) ≡ word_at bytes (end + check) = omega (arith, high_too, low_too) in
    ap (λ (n : ℕ). with_word (end + check) (part_sum (head.code == 6) n (moved_sum old new old_port new_port n)) three) part_field
    ∙ ap (λ (n : ℕ). with_word (end + check) (part_sum_of head old new old_port new_port bytes) (with_word 10 (update32 n old.number new.number) two)) header_field

abbrev pub check_at : Bool → ℕ
check_at t = if t then 16 else 6

check_cases : (t : Bool) → (6 ≤ check_at t) × (check_at t % 2 ≡ 0) × (check_at t ≢ 12)
check_cases true = (omega arith, omega arith, omega arith)
check_cases false = (omega arith, omega arith, omega arith)

-- the places fit a packet that was read
pub places_of : (bytes : List ℕ) (head : Head) (address port : ℕ) → Seen bytes head → (20 ≤ head.header_len) × (checksum_place head + 2 ≤ length bytes) × (head.header_len + 8 ≤ length bytes)
    → 12 ≤ address → address ≤ 16 → address % 4 ≡ 0 → port ≤ 2 → port % 2 ≡ 0 → Places (length bytes) head.header_len address port (check_of head)
places_of bytes head address port seen room after before apart first even =
    let check = check_cases (head.code == 6) in
    record {
      long = room.0;
      even = seen.even;
      after = after;
      before = before;
      apart = apart;
      first = first;
      port_even = even;
      later = check.0;
      check_even = check.1;
      other = check.2;
      fits = room.1;
    }

same_sum : (s s' d d' code code' size size' w w' : ℕ) → s ≡ s' → d ≡ d' → code ≡ code' → size ≡ size' → w ≡ w'
    → s / 65536 + s % 65536 + d / 65536 + d % 65536 + code + size + w ≡ s' / 65536 + s' % 65536 + d' / 65536 + d' % 65536 + code' + size' + w'
same_sum s s' d d' code code' size size' w w' e1 e2 e3 e4 e5 = cc

-- the sum of the part and its pseudo header, told by the numbers that stand in the header
part_sum_is : (bytes : List ℕ) (end s d code : ℕ) → header_len_of bytes ≡ end → total_of bytes ≡ length bytes → number_at bytes 12 ≡ s → number_at bytes 16 ≡ d → code_of bytes ≡ code
    → number_at bytes 12 / 65536 + number_at bytes 12 % 65536 + number_at bytes 16 / 65536 + number_at bytes 16 % 65536 + code_of bytes + payload_len bytes + word_sum (payload_of bytes)
    ≡ s / 65536 + s % 65536 + d / 65536 + d % 65536 + code + (length bytes - end) + word_sum (drop end bytes)
part_sum_is bytes end s d code is_end is_total is_s is_d is_code =
    let whole : take (total_of bytes) bytes ≡ bytes = take_all (total_of bytes) bytes (omega arith) in
    let payload : payload_of bytes ≡ drop end bytes = ap (λ (n : ℕ). drop n (take (total_of bytes) bytes)) is_end ∙ ap (drop end) whole in
    let size : payload_len bytes ≡ length bytes - end = ap (λ (n : ℕ). n - header_len_of bytes) is_total ∙ ap (λ (n : ℕ). length bytes - n) is_end in
    same_sum (number_at bytes 12) s (number_at bytes 16) d (code_of bytes) code (payload_len bytes) (length bytes - end) (word_sum (payload_of bytes)) (word_sum (drop end bytes)) is_s is_d is_code size (ap word_sum payload)

-- the fields of the header that stay
record Stayed (bytes now : List ℕ) : Type 0 where
  size : length now ≡ length bytes
  len : header_len_of now ≡ header_len_of bytes
  total : total_of now ≡ total_of bytes
  code : code_of now ≡ code_of bytes

stayed : (end address port check number new_port header_sum sum : ℕ) (bytes : List ℕ) → Places (length bytes) end address port check
    → Stayed bytes (changed end address port check number new_port header_sum sum bytes)
stayed end address port check number new_port header_sum sum bytes places =
    let same = (λ (i : ℕ) (low : i < 10). stays end address port check number new_port header_sum sum bytes places i (λ h. omega arith) (λ h. omega arith) (λ h. omega arith) (λ h. omega arith)) in
    let second : 256 * get_or (changed end address port check number new_port header_sum sum bytes) 2 0 + get_or (changed end address port check number new_port header_sum sum bytes) 3 0 ≡ 256 * get_or bytes 2 0 + get_or bytes 3 0 = omega (arith, same 2 (omega arith), same 3 (omega arith)) in
    record {
      size = length_changed end address port check number new_port header_sum sum bytes places;
      len = ap (λ (n : ℕ). 4 * (n % 16)) (same 0 (omega arith));
      total = second;
      code = same 9 (omega arith);
    }

-- the other address, of 12 and 16, stays
other_address : (kept end address port check number new_port header_sum sum : ℕ) (bytes : List ℕ) → Places (length bytes) end address port check → kept + address ≡ 28
    → number_at (changed end address port check number new_port header_sum sum bytes) kept ≡ number_at bytes kept
other_address kept end address port check number new_port header_sum sum bytes places apart =
    let same = (λ (i : ℕ) (from : kept ≤ i) (to : i < kept + 4). stays end address port check number new_port header_sum sum bytes places i (λ h. omega arith) (λ h. omega arith) (λ h. omega arith) (λ h. omega arith)) in
    omega (arith, same kept (omega arith) (omega arith), same (kept + 1) (omega arith) (omega arith), same (kept + 2) (omega arith) (omega arith), same (kept + 2 + 1) (omega arith) (omega arith))

-- the places of a rewriting of a packet that was read, and what is known of the packet
pub record Rewriting (bytes : List ℕ) (head : Head) (old : Addr) (old_port address port : ℕ) : Type 0 where
  pub seen : Seen bytes head
  pub places : Places (length bytes) head.header_len address port (check_of head)
  pub are : AreBytes bytes
  pub old_here : number_at bytes address ≡ old.number
  pub port_here : word_at bytes (head.header_len + port) ≡ old_port

pub header_valid : (head : Head) (old new : Addr) (old_port new_port address port : ℕ) (bytes : List ℕ) → Rewriting bytes head old old_port address port
    → has_valid_header (rewritten head old new old_port new_port address port bytes) ≡ true
header_valid head old new old_port new_port address port bytes r =
    let sum : ℕ = part_sum_of head old new old_port new_port bytes in
    let now : List ℕ = changed head.header_len address port (check_of head) new.number new_port (header_sum_of old new bytes) sum bytes in
    let kept : is_valid_header (take head.header_len now) ≡ true = header_kept head.header_len address port (check_of head) old.number new.number new_port sum bytes r.places r.are r.seen.begins r.old_here r.seen.valid in
    let same : Stayed bytes now = stayed head.header_len address port (check_of head) new.number new_port (header_sum_of old new bytes) sum bytes r.places in
    let len : header_len_of now ≡ head.header_len = same.len ∙ r.seen.len in
    let here : has_valid_header now ≡ true = ap (λ (n : ℕ). is_valid_header (take n now)) len ∙ kept in
    ap has_valid_header (as_changed head old new old_port new_port address port bytes r.places) ∙ here

-- the sum of the part and its pseudo header, with the address that changes apart
beside_in : (s d code size w : ℕ) → s / 65536 + s % 65536 + d / 65536 + d % 65536 + code + size + w ≡ s / 65536 + s % 65536 + code + size + (d / 65536 + d % 65536) + w
beside_in s d code size w = omega arith

beside_out : (s d code size w : ℕ) → s / 65536 + s % 65536 + d / 65536 + d % 65536 + code + size + w ≡ d / 65536 + d % 65536 + code + size + (s / 65536 + s % 65536) + w
beside_out s d code size w = omega arith

small_number : (bytes : List ℕ) (at : ℕ) → AreBytes bytes → number_at bytes at < 4294967296
small_number bytes at are =
    let b0 = are at in
    let b1 = are (at + 1) in
    let b2 = are (at + 2) in
    let b3 = are (at + 2 + 1) in
    omega arith

-- what the two directions share: the part beside anything that isn't 0
part_full : (head : Head) (old new : Addr) (old_port new_port address port beside : ℕ) (bytes : List ℕ) → Rewriting bytes head old old_port address port
    → ((head.code == 6) ≡ false → word_at bytes (head.header_len + check_of head) ≢ 0) → 0 < beside
    → folded (beside + (old.number / 65536 + old.number % 65536) + word_sum (drop head.header_len bytes)) ≡ 65535
    → folded (beside + (new.number / 65536 + new.number % 65536) + word_sum (drop head.header_len (changed head.header_len address port (check_of head) new.number new_port (header_sum_of old new bytes) (part_sum_of head old new old_port new_port bytes) bytes))) ≡ 65535
part_full head old new old_port new_port address port beside bytes r field some full =
    let small : old.number < 4294967296 = omega (arith, small_number bytes address r.are, r.old_here) in
    part_kept (head.code == 6) head.header_len address port (check_of head) old.number new.number old_port new_port (header_sum_of old new bytes) beside bytes r.places r.are some small r.port_here field full

-- the part stays valid where the destination changes
pub part_valid_in : (head : Head) (old new : Addr) (old_port new_port port : ℕ) (bytes : List ℕ) → Rewriting bytes head old old_port 16 port
    → ((head.code == 6) ≡ false → word_at bytes (head.header_len + check_of head) ≢ 0)
    → has_valid_part bytes ≡ true → has_valid_part (rewritten head old new old_port new_port 16 port bytes) ≡ true
part_valid_in head old new old_port new_port port bytes r field valid =
    let end : ℕ = head.header_len in
    let s : ℕ = number_at bytes 12 in
    let beside : ℕ = s / 65536 + s % 65536 + head.code + (length bytes - end) in
    let now : List ℕ = changed end 16 port (check_of head) new.number new_port (header_sum_of old new bytes) (part_sum_of head old new old_port new_port bytes) bytes in
    let same : Stayed bytes now = stayed end 16 port (check_of head) new.number new_port (header_sum_of old new bytes) (part_sum_of head old new old_port new_port bytes) bytes r.places in
    let before = part_sum_is bytes end s old.number head.code r.seen.len r.seen.total refl r.old_here r.seen.code ∙ beside_in s old.number head.code (length bytes - end) (word_sum (drop end bytes)) in
    let full : folded (beside + (old.number / 65536 + old.number % 65536) + word_sum (drop end bytes)) ≡ 65535 = ap folded (sym before) ∙ test_full _ valid in
    let kept = part_full head old new old_port new_port 16 port beside bytes r field (omega (arith, r.seen.some_code)) full in
    let source : number_at now 12 ≡ s = other_address 12 end 16 port (check_of head) new.number new_port (header_sum_of old new bytes) (part_sum_of head old new old_port new_port bytes) bytes r.places refl in
    let destination : number_at now 16 ≡ new.number = address_changed end 16 port (check_of head) new.number new_port (header_sum_of old new bytes) (part_sum_of head old new old_port new_port bytes) bytes r.places in
    let after = part_sum_is now end s new.number head.code (same.len ∙ r.seen.len) (same.total ∙ r.seen.total ∙ sym same.size) source destination (same.code ∙ r.seen.code)
    ∙ beside_in s new.number head.code (length now - end) (word_sum (drop end now))
    ∙ ap (λ (n : ℕ). s / 65536 + s % 65536 + head.code + (n - end) + (new.number / 65536 + new.number % 65536) + word_sum (drop end now)) same.size in
    let here : has_valid_part now ≡ true = full_test _ (ap folded after ∙ kept) in
    ap has_valid_part (as_changed head old new old_port new_port 16 port bytes r.places) ∙ here

-- the part stays valid where the source changes
pub part_valid_out : (head : Head) (old new : Addr) (old_port new_port port : ℕ) (bytes : List ℕ) → Rewriting bytes head old old_port 12 port
    → ((head.code == 6) ≡ false → word_at bytes (head.header_len + check_of head) ≢ 0)
    → has_valid_part bytes ≡ true → has_valid_part (rewritten head old new old_port new_port 12 port bytes) ≡ true
part_valid_out head old new old_port new_port port bytes r field valid =
    let end : ℕ = head.header_len in
    let d : ℕ = number_at bytes 16 in
    let beside : ℕ = d / 65536 + d % 65536 + head.code + (length bytes - end) in
    let now : List ℕ = changed end 12 port (check_of head) new.number new_port (header_sum_of old new bytes) (part_sum_of head old new old_port new_port bytes) bytes in
    let same : Stayed bytes now = stayed end 12 port (check_of head) new.number new_port (header_sum_of old new bytes) (part_sum_of head old new old_port new_port bytes) bytes r.places in
    let before = part_sum_is bytes end old.number d head.code r.seen.len r.seen.total r.old_here refl r.seen.code ∙ beside_out old.number d head.code (length bytes - end) (word_sum (drop end bytes)) in
    let full : folded (beside + (old.number / 65536 + old.number % 65536) + word_sum (drop end bytes)) ≡ 65535 = ap folded (sym before) ∙ test_full _ valid in
    let kept = part_full head old new old_port new_port 12 port beside bytes r field (omega (arith, r.seen.some_code)) full in
    let destination : number_at now 16 ≡ d = other_address 16 end 12 port (check_of head) new.number new_port (header_sum_of old new bytes) (part_sum_of head old new old_port new_port bytes) bytes r.places refl in
    let source : number_at now 12 ≡ new.number = address_changed end 12 port (check_of head) new.number new_port (header_sum_of old new bytes) (part_sum_of head old new old_port new_port bytes) bytes r.places in
    let after = part_sum_is now end new.number d head.code (same.len ∙ r.seen.len) (same.total ∙ r.seen.total ∙ sym same.size) source destination (same.code ∙ r.seen.code)
    ∙ beside_out new.number d head.code (length now - end) (word_sum (drop end now))
    ∙ ap (λ (n : ℕ). d / 65536 + d % 65536 + head.code + (n - end) + (new.number / 65536 + new.number % 65536) + word_sum (drop end now)) same.size in
    let here : has_valid_part now ≡ true = full_test _ (ap folded after ∙ kept) in
    ap has_valid_part (as_changed head old new old_port new_port 12 port bytes r.places) ∙ here

udp_none : (field updated : ℕ) → field ≡ 0 → udp_sum field updated ≡ 0
udp_none field updated is = grind (arith, nat_tests)

udp_some : (field updated : ℕ) → field ≢ 0 → udp_sum field updated ≢ 0
udp_some field updated some = grind (arith, nat_tests)

-- the UDP checksum field afterwards
field_after : (head : Head) (old new : Addr) (old_port new_port address port : ℕ) (bytes : List ℕ) → Rewriting bytes head old old_port address port → (head.code == 6) ≡ false
    → (updated : ℕ) × (udp_field (rewritten head old new old_port new_port address port bytes) ≡ udp_sum (udp_field bytes) updated)
field_after head old new old_port new_port address port bytes r udp =
    let end : ℕ = head.header_len in
    let updated : ℕ = moved_sum old new old_port new_port (udp_field bytes) in
    let now : List ℕ = changed end address port (check_of head) new.number new_port (header_sum_of old new bytes) (part_sum_of head old new old_port new_port bytes) bytes in
    let same : Stayed bytes now = stayed end address port (check_of head) new.number new_port (header_sum_of old new bytes) (part_sum_of head old new old_port new_port bytes) bytes r.places in
    let place : check_of head ≡ 6 = ap check_at udp in
    let written : word_at now (end + check_of head) ≡ part_sum_of head old new old_port new_port bytes = last_word end address port (check_of head) new.number new_port (header_sum_of old new bytes) (part_sum_of head old new old_port new_port bytes) bytes r.places in
    let is_udp : part_sum_of head old new old_port new_port bytes ≡ udp_sum (word_at bytes (end + check_of head)) (moved_sum old new old_port new_port (word_at bytes (end + check_of head))) =
    ap (λ (t : Bool). part_sum t (word_at bytes (end + check_of head)) (moved_sum old new old_port new_port (word_at bytes (end + check_of head)))) udp in
    let before : word_at bytes (end + check_of head) ≡ udp_field bytes = ap (λ (n : ℕ). word_at bytes (end + n)) place ∙ ap (λ (n : ℕ). word_at bytes (n + 6)) (sym r.seen.len) in
    let here : udp_field now ≡ word_at now (end + check_of head) = ap (λ (n : ℕ). word_at now (n + 6)) (same.len ∙ r.seen.len) ∙ ap (λ (n : ℕ). word_at now (end + n)) (sym place) in
    (updated, ap udp_field (as_changed head old new old_port new_port address port bytes r.places) ∙ here ∙ written ∙ is_udp ∙ ap (λ (n : ℕ). udp_sum n (moved_sum old new old_port new_port n)) before)

-- a field of 0 stays 0, and another doesn't become 0
pub field_none : (head : Head) (old new : Addr) (old_port new_port address port : ℕ) (bytes : List ℕ) → Rewriting bytes head old old_port address port → (head.code == 6) ≡ false
    → udp_field bytes ≡ 0 → udp_field (rewritten head old new old_port new_port address port bytes) ≡ 0
field_none head old new old_port new_port address port bytes r udp none =
    let after = field_after head old new old_port new_port address port bytes r udp in
    after.1 ∙ udp_none (udp_field bytes) after.0 none

pub field_some : (head : Head) (old new : Addr) (old_port new_port address port : ℕ) (bytes : List ℕ) → Rewriting bytes head old old_port address port → (head.code == 6) ≡ false
    → udp_field bytes ≢ 0 → udp_field (rewritten head old new old_port new_port address port bytes) ≢ 0
field_some head old new old_port new_port address port bytes r udp some is =
    let after = field_after head old new old_port new_port address port bytes r udp in
    udp_some (udp_field bytes) after.0 some (sym after.1 ∙ is)
