-- What a loop that appends the bytes of each record has still to append.
use Rattle.std.proofs.Common.{◌≡◌, ◌∙◌, ℕ, ◌+◌, ◌<◌, List, ◌∷◌, ◌++◌, length, drop, flat_map, slice_index_or, append_assoc, add-one, drop-cons}
use Rattle.lvs_types.specs.declared.sync.SyncRecord.{SyncRecord}

-- the record that stands for none past a list's end
abbrev pub blank : SyncRecord
blank = record {
  code = 0;
  flags = 0;
  state = 0;
  cport = 0;
  vport = 0;
  dport = 0;
  mark = 0;
  timeout = 0;
  caddr = record { number = 0 };
  vaddr = record { number = 0 };
  daddr = record { number = 0 };
}

pub append_one : (f : SyncRecord → List ℕ) (out more whole : List ℕ) (i : ℕ) (records : List SyncRecord) → i < length records → more ≡ out ++ f (slice_index_or records i blank) → out ++ flat_map f (drop i records) ≡ whole → more ++ flat_map f (drop (i + 1) records) ≡ whole
append_one f out more whole i records within added so_far =
    let r : SyncRecord = slice_index_or records i blank in
    let here : drop i records ≡ r ∷ drop (i + 1) records = rw add-one (drop-cons records i blank within) in
    let parts : out ++ flat_map f (r ∷ drop (i + 1) records) ≡ whole = rw here at so_far in
    rw added (append_assoc out (f r) (flat_map f (drop (i + 1) records)) ∙ parts)
