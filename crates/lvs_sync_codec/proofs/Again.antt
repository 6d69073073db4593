-- What was written is read again.
use Rattle.std.proofs.Common.{◌≡◌, ◌∙◌, ℕ, suc, ◌+◌, ◌*◌, ◌/◌, ◌%◌, ◌<◌, ◌≤◌, ◌==◌, nat_lt, true, false, List, [], ◌∷◌, ◌++◌, length, drop, map, flat_map, slice_index, refl, ap, sym, arith, Result, Ok, length-append, bit_and, All}
use Rattle.std.proofs.lemmas.Bool.Decides.{nat_tests}
use Rattle.lvs_types.specs.declared.sync.SyncRecord.{SyncRecord}
use Rattle.lvs_types.specs.declared.sync.SyncItem.{SyncItem}
use Rattle.lvs_types.specs.declared.sync.SyncItem.TheVariants.{V4}
use Rattle.lvs_types.specs.declared.sync.Message.{Message}
use Rattle.lvs_types.specs.declared.sync.BadSync.{BadSync}
use Rattle.lvs_model.specs.Fields.{word_at}
use Rattle.lvs_model.specs.Messages.{record_bytes, header_bytes, old_record_bytes, old_header_bytes, HasOldFlags}
use Rattle.lvs_model.specs.MessageReading.{◌>>=◌, RecordRead, records_by, read_record, record_of, record_size, record_version, is_v6, read_old_record, old_record_of, read_sync, message_with}
use Rattle.lvs_sync_codec.specs.RoundTrip.{NewReadsBack, OldReadsBack, without_mark}
use Rattle.lvs_sync_codec.proofs.OneByOne.{Records, ok_record, ok_records}

-- tests of lengths
not_below : (n k : ℕ) → k ≤ n → nat_lt n k ≡ false
not_below n k h = grind (arith, nat_tests)

not_zero : (n : ℕ) → 0 < n → (n == 0) ≡ false
not_zero n h = grind (arith, nat_tests)

same_number : (n m : ℕ) → n ≡ m → (n == m) ≡ true
same_number n m h = grind (arith, nat_tests)

-- the bytes of a number make it again
byte_pair : (n : ℕ) → 256 * (n / 256) + n % 256 ≡ n
byte_pair n = omega arith

word_pair : (n : ℕ) → 65536 * (n / 65536) + n % 65536 ≡ n
word_pair n = omega arith

-- a record of version 1 without options
plain_record : (bytes : List ℕ) → 36 ≤ length bytes → record_version bytes ≡ 0 → record_size bytes ≡ 36 → is_v6 bytes ≡ false → read_record bytes ≡ ok_record (V4 (record_of bytes)) (drop 36 bytes)
plain_record bytes long version size four =
    let some : (length bytes == 0) ≡ false = not_zero (length bytes) (omega arith) in
    let front : nat_lt (length bytes) 4 ≡ false = not_below (length bytes) 4 (omega arith) in
    let whole : nat_lt (length bytes) 36 ≡ false = not_below (length bytes) 36 long in
    rw (some, front, version, size, whole, four) refl

same_fields : (r : SyncRecord) (rest : List ℕ) → record_of (record_bytes r ++ rest) ≡ r
same_fields r rest = simp (byte_pair, word_pair)

length_record : (r : SyncRecord) (rest : List ℕ) → length (record_bytes r ++ rest) ≡ 36 + length rest
length_record r rest = omega arith

one_record : (r : SyncRecord) (rest : List ℕ) → read_record (record_bytes r ++ rest) ≡ ok_record (V4 r) rest
one_record r rest =
    let long : 36 ≤ length (record_bytes r ++ rest) = omega (arith, length_record r rest) in
    plain_record (record_bytes r ++ rest) long refl refl refl ∙ ap (λ (x : SyncRecord). ok_record (V4 x) rest) (same_fields r rest)

-- records, each of which reads as told, one after the other
all_records : (read : List ℕ → RecordRead) (spell : SyncRecord → List ℕ) (told : SyncRecord → SyncItem) (fits : SyncRecord → Type 0) → ((r : SyncRecord) (rest : List ℕ) → fits r → read (spell r ++ rest) ≡ ok_record (told r) rest) → (records : List SyncRecord) → All fits records → records_by read (length records) (flat_map spell records) ≡ ok_records (map told records)
all_records read spell told fits one [] each = refl
all_records read spell told fits one (r ∷ records) each =
    let rest : List ℕ = flat_map spell records in
    let first : read (spell r ++ rest) ≡ ok_record (told r) rest = one r rest (each 0 r (omega arith)) in
    let later : All fits records = λ k d within. each (suc k) d (omega arith) in
    let others : records_by read (length records) rest ≡ ok_records (map told records) = all_records read spell told fits one records later in
    rw (first, others) refl

length_all : (spell : SyncRecord → List ℕ) (size : ℕ) → ((r : SyncRecord) → length (spell r) ≡ size) → (records : List SyncRecord) → length (flat_map spell records) ≡ size * length records
length_all spell size one [] = omega arith
length_all spell size one (r ∷ records) =
    let parts : length (spell r ++ flat_map spell records) ≡ length (spell r) + length (flat_map spell records) = length-append (spell r) (flat_map spell records) in
    let times : size * suc (length records) ≡ size + size * length records = omega arith in
    parts ∙ (rw (one r, length_all spell size one records) (sym times))

-- a message whose header is right
abbrev with_id : ℕ → Records → Result Message BadSync
with_id id read = read >>= (λ items. Ok (message_with id items))

new_message : (bytes : List ℕ) → 8 ≤ length bytes → slice_index bytes 0 ≡ 0 → slice_index bytes 5 ≡ 1 → word_at bytes 6 ≡ 0 → word_at bytes 2 ≡ length bytes → read_sync bytes ≡ with_id (slice_index bytes 1) (records_by read_record (slice_index bytes 4) (drop 8 bytes))
new_message bytes long reserved version spare size =
    let some : (length bytes == 0) ≡ false = not_zero (length bytes) (omega arith) in
    let front : nat_lt (length bytes) 8 ≡ false = not_below (length bytes) 8 long in
    let whole : (word_at bytes 2 == length bytes) ≡ true = same_number _ _ size in
    rw (some, reserved, front, version, spare, whole) refl

old_message : (bytes : List ℕ) → 4 ≤ length bytes → 0 < slice_index bytes 0 → word_at bytes 2 ≡ length bytes → read_sync bytes ≡ with_id (slice_index bytes 1) (records_by read_old_record (slice_index bytes 0) (drop 4 bytes))
old_message bytes long first size =
    let some : (length bytes == 0) ≡ false = not_zero (length bytes) (omega arith) in
    let old : (slice_index bytes 0 == 0) ≡ false = not_zero (slice_index bytes 0) first in
    let front : nat_lt (length bytes) 4 ≡ false = not_below (length bytes) 4 long in
    let whole : (word_at bytes 2 == length bytes) ≡ true = same_number _ _ size in
    rw (some, old, front, whole) refl

pub new_again : (id : ℕ) (records : List SyncRecord) → NewReadsBack id records
new_again id records =
    let body : List ℕ = flat_map record_bytes records in
    let size : length body ≡ 36 * length records = length_all record_bytes 36 (λ r. refl) records in
    let bytes : List ℕ = header_bytes id (length records) ++ body in
    let long : 8 ≤ length bytes = omega arith in
    let told : word_at bytes 2 ≡ length bytes = omega arith in
    let each : All (λ r. Unit {0}) records = λ k d within. tt in
    let read : records_by read_record (length records) body ≡ ok_records (map V4 records) = all_records read_record record_bytes V4 (λ r. Unit {0}) (λ r rest fits. one_record r rest) records each in
    new_message bytes long refl refl refl told ∙ ap (with_id id) read

-- a record of version 0
short_record : (bytes : List ℕ) → 24 ≤ length bytes → bit_and (word_at bytes 20) 0x600 ≡ 0 → read_old_record bytes ≡ ok_record (V4 (old_record_of bytes)) (drop 24 bytes)
short_record bytes long flags =
    let some : (length bytes == 0) ≡ false = not_zero (length bytes) (omega arith) in
    let whole : nat_lt (length bytes) 24 ≡ false = not_below (length bytes) 24 long in
    rw (some, flags, whole) refl

same_old_fields : (r : SyncRecord) (rest : List ℕ) → old_record_of (old_record_bytes r ++ rest) ≡ without_mark r
same_old_fields r rest = simp (byte_pair, word_pair)

one_old_record : (r : SyncRecord) (rest : List ℕ) → HasOldFlags r → read_old_record (old_record_bytes r ++ rest) ≡ ok_record (V4 (without_mark r)) rest
one_old_record r rest fits =
    let long : 24 ≤ length (old_record_bytes r ++ rest) = omega arith in
    let flags : bit_and (256 * (r.flags / 256) + r.flags % 256) 0x600 ≡ 0 = rw byte_pair fits.1 in
    short_record (old_record_bytes r ++ rest) long flags ∙ ap (λ (x : SyncRecord). ok_record (V4 x) rest) (same_old_fields r rest)

pub old_again : (id : ℕ) (records : List SyncRecord) → OldReadsBack id records
old_again id records some fits =
    let body : List ℕ = flat_map old_record_bytes records in
    let size : length body ≡ 24 * length records = length_all old_record_bytes 24 (λ r. refl) records in
    let bytes : List ℕ = old_header_bytes id (length records) ++ body in
    let long : 4 ≤ length bytes = omega arith in
    let told : word_at bytes 2 ≡ length bytes = omega arith in
    let read : records_by read_old_record (length records) body ≡ ok_records (map (λ r. V4 (without_mark r)) records) = all_records read_old_record old_record_bytes (λ r. V4 (without_mark r)) HasOldFlags one_old_record records fits in
    old_message bytes long some told ∙ ap (with_id id) read
