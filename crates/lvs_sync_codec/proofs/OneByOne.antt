-- Records that are read one after the other.
use Rattle.std.proofs.Common.{◌≡◌, ◌∙◌, ℕ, suc, ◌+◌, ◌-◌, ◌<◌, ◌≤◌, List, [], ◌∷◌, ◌++◌, length, refl, ap, sym, append_assoc, append-nil, arith, Result, Ok, Err}
use Rattle.lvs_types.specs.declared.sync.SyncItem.{SyncItem}
use Rattle.lvs_types.specs.declared.sync.BadSync.{BadSync}
use Rattle.lvs_types.specs.declared.sync.BadSync.TheVariants.{Count}
use Rattle.lvs_model.specs.MessageReading.{RecordRead, records_by, ◌>>=◌}

abbrev pub Records : Type 0
Records = Result (List SyncItem) BadSync

-- these records, and then those of an answer
abbrev pub onto : List SyncItem → Records → Records
onto front (Ok items) = Ok (front ++ items)
onto front (Err cause) = Err cause

abbrev pub ok_record : SyncItem → List ℕ → RecordRead
ok_record item rest = Ok (item, rest)

abbrev pub err_record : BadSync → RecordRead
err_record cause = Err cause

abbrev pub ok_records : List SyncItem → Records
ok_records items = Ok items

abbrev pub err_records : BadSync → Records
err_records cause = Err cause

onto_none : (r : Records) → onto [] r ≡ r
onto_none (Ok items) = refl
onto_none (Err cause) = refl

onto_next : (front : List SyncItem) (item : SyncItem) (r : Records) → onto front (r >>= (λ more. ok_records (item ∷ more))) ≡ onto (front ++ item ∷ []) r
onto_next front item (Ok items) = ap ok_records (sym (append_assoc front (item ∷ []) items))
onto_next front item (Err cause) = refl

-- before the first record
pub begin_records : (read : List ℕ → RecordRead) (count : ℕ) (bytes : List ℕ) → onto [] (records_by read (count - 0) bytes) ≡ records_by read count bytes
begin_records read count bytes =
    let e : count - 0 ≡ count = omega arith in
    rw e (onto_none (records_by read count bytes))

-- a record that was read
pub next_record : (read : List ℕ → RecordRead) (front : List SyncItem) (item : SyncItem) (rest after : List ℕ) (count i : ℕ) (whole : Records) → i < count → read rest ≡ ok_record item after → onto front (records_by read (count - i) rest) ≡ whole → onto (front ++ item ∷ []) (records_by read (count - (i + 1)) after) ≡ whole
next_record read front item rest after count i whole within reads so_far =
    let left : count - i ≡ suc (count - (i + 1)) = omega arith in
    let step : onto front (read rest >>= (λ first. records_by read (count - (i + 1)) first.1 >>= (λ more. ok_records (first.0 ∷ more)))) ≡ whole = rw left at so_far in
    let read_now : onto front (records_by read (count - (i + 1)) after >>= (λ more. ok_records (item ∷ more))) ≡ whole = rw reads at step in
    sym (onto_next front item (records_by read (count - (i + 1)) after)) ∙ read_now

-- a record that can't be read
pub bad_record : (read : List ℕ → RecordRead) (front : List SyncItem) (cause : BadSync) (rest : List ℕ) (count i : ℕ) (whole : Records) → i < count → read rest ≡ err_record cause → onto front (records_by read (count - i) rest) ≡ whole → whole ≡ err_records cause
bad_record read front cause rest count i whole within reads so_far =
    let left : count - i ≡ suc (count - (i + 1)) = omega arith in
    let step : onto front (read rest >>= (λ first. records_by read (count - (i + 1)) first.1 >>= (λ more. ok_records (first.0 ∷ more)))) ≡ whole = rw left at so_far in
    let read_now : err_records cause ≡ whole = rw reads at step in
    sym read_now

-- nothing is left after the last record
end_at : (read : List ℕ → RecordRead) (front : List SyncItem) (rest : List ℕ) → length rest ≡ 0 → onto front (records_by read 0 rest) ≡ ok_records front
end_at read front [] none = ap ok_records (append-nil front)
end_at read front (byte ∷ bytes) none = absurd (omega arith)

pub end_records : (read : List ℕ → RecordRead) (front : List SyncItem) (rest : List ℕ) (count i : ℕ) (whole : Records) → count ≤ i → length rest ≡ 0 → onto front (records_by read (count - i) rest) ≡ whole → whole ≡ ok_records front
end_records read front rest count i whole past none so_far =
    let left : count - i ≡ 0 = omega arith in
    let last : onto front (records_by read 0 rest) ≡ whole = rw left at so_far in
    sym last ∙ end_at read front rest none

-- bytes are left after the last record
more_at : (read : List ℕ → RecordRead) (front : List SyncItem) (rest : List ℕ) → 0 < length rest → onto front (records_by read 0 rest) ≡ err_records Count
more_at read front [] some = absurd (omega arith)
more_at read front (byte ∷ bytes) some = refl

pub more_bytes : (read : List ℕ → RecordRead) (front : List SyncItem) (rest : List ℕ) (count i : ℕ) (whole : Records) → count ≤ i → 0 < length rest → onto front (records_by read (count - i) rest) ≡ whole → whole ≡ err_records Count
more_bytes read front rest count i whole past some so_far =
    let left : count - i ≡ 0 = omega arith in
    let last : onto front (records_by read 0 rest) ≡ whole = rw left at so_far in
    sym last ∙ more_at read front rest some
