-- Reading a sync message, with the first cause for which bytes are none (version 1: the layout of Linux IPVS; version 0, the causes and their order: this project's profile).
use Rattle.std.specs.Prelude.{ℕ, zero, suc, ◌/◌, ◌%◌, Bool, true, false, not, ◌&&◌, ◌||◌, ◌==◌, nat_lt, List, [], ◌∷◌, length, drop, slice_index, slice_range, Result, Ok, Err, if◌then◌else◌, bit_and}
use Rattle.std.specs.Int.{next_multiple_of}
use Rattle.lvs_types.specs.declared.sync.SyncRecord.{SyncRecord}
use Rattle.lvs_types.specs.declared.sync.SyncItem.{SyncItem}
use Rattle.lvs_types.specs.declared.sync.SyncItem.TheVariants.{V4, V6}
use Rattle.lvs_types.specs.declared.sync.Message.{Message}
use Rattle.lvs_types.specs.declared.sync.BadSync.{BadSync}
use Rattle.lvs_types.specs.declared.sync.BadSync.TheVariants.{Short, Version, Size, RecordShort, RecordVersion, Options, Count}
use Rattle.lvs_model.specs.Fields.{word_at, number_at, addr_at}

infixl 10 ◌>>=◌
-- go on with what was read, or keep the cause
abbrev pub ◌>>=◌ : {A B : Type 0} → Result A BadSync → (A → Result B BadSync) → Result B BadSync
(Ok x) >>= f = f x
(Err cause) >>= f = Err cause

-- what one record reads as: the record, and the bytes after it
abbrev pub RecordRead : Type 0
RecordRead = Result (SyncItem × List ℕ) BadSync

-- so many records, one after the other, each read by the given rule, and nothing after them
abbrev pub records_by : (List ℕ → RecordRead) → ℕ → List ℕ → Result (List SyncItem) BadSync
records_by read zero [] = Ok []
records_by read zero (byte ∷ bytes) = Err Count
records_by read (suc count) bytes = do
  first ← read bytes
  more ← records_by read count first.1
  Ok (first.0 ∷ more)

-- options of a record: a type, a length above 0 and that many bytes, each; behind the first so many bytes, which aren't looked at
abbrev pub are_options : ℕ → List ℕ → Bool
are_options zero [] = true
are_options zero (kind ∷ []) = false
are_options zero (kind ∷ zero ∷ rest) = false
are_options zero (kind ∷ suc size ∷ rest) = are_options (suc size) rest
are_options (suc skipped) [] = false
are_options (suc skipped) (byte ∷ rest) = are_options skipped rest

-- bit 0 of the type is set: an IPv6 record
abbrev pub is_v6 : List ℕ → Bool
is_v6 bytes = slice_index bytes 0 % 2 == 1

-- the low twelve bits of the third and fourth byte: the size of a record with its options
abbrev pub record_size : List ℕ → ℕ
record_size bytes = word_at bytes 2 % 4096

-- the top four bits of the third byte
abbrev pub record_version : List ℕ → ℕ
record_version bytes = slice_index bytes 2 / 16

-- the least size of a record: 36 for IPv4; of an IPv6 record only the first four bytes are asked for
abbrev pub least_size : List ℕ → ℕ
least_size bytes = if is_v6 bytes then 4 else 36

-- the fields of an IPv4 record of version 1
abbrev pub record_of : List ℕ → SyncRecord
record_of bytes = record {
  code = slice_index bytes 1;
  flags = number_at bytes 4;
  state = word_at bytes 8;
  cport = word_at bytes 10;
  vport = word_at bytes 12;
  dport = word_at bytes 14;
  mark = number_at bytes 16;
  timeout = number_at bytes 20;
  caddr = addr_at bytes 24;
  vaddr = addr_at bytes 28;
  daddr = addr_at bytes 32;
}

-- an IPv6 record isn't looked into
abbrev pub item_of : List ℕ → SyncItem
item_of bytes = if is_v6 bytes then V6 else V4 (record_of bytes)

-- a record of version 1; the bytes after it begin behind its padding, at the next multiple of 4, and the padding may be cut off where the message ends
abbrev pub read_record : List ℕ → RecordRead
read_record bytes =
    if length bytes == 0 then Err Count
    else (if nat_lt (length bytes) 4 then Err RecordShort
    else (if not (record_version bytes == 0) then Err RecordVersion
    else (if nat_lt (length bytes) (record_size bytes) || nat_lt (record_size bytes) (least_size bytes) then Err RecordShort
    else (if not (is_v6 bytes) && not (are_options 0 (slice_range bytes 36 (record_size bytes))) then Err Options
    else Ok (item_of bytes, drop (next_multiple_of (record_size bytes) 4) bytes)))))

-- the fields of a record of version 0, which has no mark and no timeout
abbrev pub old_record_of : List ℕ → SyncRecord
old_record_of bytes = record {
  code = slice_index bytes 1;
  flags = word_at bytes 20;
  state = word_at bytes 22;
  cport = word_at bytes 2;
  vport = word_at bytes 4;
  dport = word_at bytes 6;
  mark = 0;
  timeout = 0;
  caddr = addr_at bytes 8;
  vaddr = addr_at bytes 12;
  daddr = addr_at bytes 16;
}

-- 24 bytes, and 24 more that aren't looked at where the flags have a bit of 0x600
abbrev pub old_record_size : List ℕ → ℕ
old_record_size bytes = if bit_and (word_at bytes 20) 0x600 == 0 then 24 else 48

-- a record of version 0
abbrev pub read_old_record : List ℕ → RecordRead
read_old_record bytes =
    if length bytes == 0 then Err Count
    else (if nat_lt (length bytes) 24 || nat_lt (length bytes) (old_record_size bytes) then Err RecordShort
    else Ok (V4 (old_record_of bytes), drop (old_record_size bytes) bytes))

abbrev pub message_with : ℕ → List SyncItem → Message
message_with id items = record { sync_id = id; items = items }

-- a message of version 1: its header, and then its records
abbrev pub read_new_message : List ℕ → Result Message BadSync
read_new_message bytes =
    if nat_lt (length bytes) 8 then Err Short
    else (if not (slice_index bytes 5 == 1) || not (word_at bytes 6 == 0) then Err Version
    else (if not (word_at bytes 2 == length bytes) then Err Size
    else (do
      items ← records_by read_record (slice_index bytes 4) (drop 8 bytes)
      Ok (message_with (slice_index bytes 1) items))))

-- a message of version 0: its header, and then its records
abbrev pub read_old_message : List ℕ → Result Message BadSync
read_old_message bytes =
    if nat_lt (length bytes) 4 then Err Short
    else (if not (word_at bytes 2 == length bytes) then Err Size
    else (do
      items ← records_by read_old_record (slice_index bytes 0) (drop 4 bytes)
      Ok (message_with (slice_index bytes 1) items)))

-- the message that bytes are, or the first cause for which they are none; a first byte of 0 tells version 1 from version 0
abbrev pub read_sync : List ℕ → Result Message BadSync
read_sync bytes =
    if length bytes == 0 then Err Short
    else (if slice_index bytes 0 == 0 then read_new_message bytes
    else read_old_message bytes)
