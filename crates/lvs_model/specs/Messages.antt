-- Sync messages as a director sends them, all numbers with the high byte first: version 1 of the connection synchronisation protocol of Linux IPVS, and this project's version 0.
--
--   header of version 1, 8 bytes     reserved 1, sync id 1, size of the message 2, number of records 1, version 1, spare 2
--   record of version 1, 36 bytes    type 1, protocol 1, version and size of the record 2, flags 4, state 2,
--                                    cport 2, vport 2, dport 2, mark 4, timeout 4, caddr 4, vaddr 4, daddr 4
--   header of version 0, 4 bytes     number of records 1, sync id 1, size of the message 2
--   record of version 0, 24 bytes    reserved 1, protocol 1, cport 2, vport 2, dport 2, caddr 4, vaddr 4, daddr 4, flags 2, state 2
use Rattle.std.specs.Prelude.{◌≡◌, ℕ, ◌+◌, ◌*◌, ◌<◌, ◌==◌, List, [], ◌∷◌, ◌++◌, length, flat_map, if◌then◌else◌, bit_and}
use Rattle.lvs_types.specs.declared.sync.SyncRecord.{SyncRecord}
use Rattle.lvs_model.specs.Fields.{word_bytes, number_bytes, addr_bytes}

-- the ports of a record, in either version
abbrev pub port_bytes : SyncRecord → List ℕ
port_bytes r = word_bytes r.cport ++ word_bytes r.vport ++ word_bytes r.dport

-- the addresses of a record, in either version
abbrev pub address_bytes : SyncRecord → List ℕ
address_bytes r = addr_bytes r.caddr ++ addr_bytes r.vaddr ++ addr_bytes r.daddr

-- the bytes of a record of version 1, without options (the layout of Linux IPVS)
abbrev pub record_bytes : SyncRecord → List ℕ
record_bytes r =
    0 ∷ r.code ∷ [] ++ word_bytes 36 ++ number_bytes r.flags ++ word_bytes r.state ++ port_bytes r ++ number_bytes r.mark ++ number_bytes r.timeout ++ address_bytes r

-- the header of a message of version 1 (the layout of Linux IPVS)
abbrev pub header_bytes : ℕ → ℕ → List ℕ
header_bytes id count = 0 ∷ id ∷ [] ++ word_bytes (8 + 36 * count) ++ count ∷ 1 ∷ 0 ∷ 0 ∷ []

-- the bytes of a record of version 0, which has no mark and no timeout (this project's profile)
abbrev pub old_record_bytes : SyncRecord → List ℕ
old_record_bytes r = 0 ∷ r.code ∷ [] ++ port_bytes r ++ address_bytes r ++ word_bytes r.flags ++ word_bytes r.state

-- the header of a message of version 0 (this project's profile)
abbrev pub old_header_bytes : ℕ → ℕ → List ℕ
old_header_bytes id count = count ∷ id ∷ [] ++ word_bytes (4 + 24 * count)

-- the message that a director sends, by version (0, or else 1), sync id and records
abbrev pub written : ℕ → ℕ → List SyncRecord → List ℕ
written version id records =
    if version == 0 then old_header_bytes id (length records) ++ flat_map old_record_bytes records
    else header_bytes id (length records) ++ flat_map record_bytes records

-- a record whose flags a message of version 0 can tell: they are below 2 ^ 16, without the bits of 0x600, which announce 24 more bytes
abbrev pub HasOldFlags : SyncRecord → Type 0
HasOldFlags r = (r.flags < 0x10000) × (bit_and r.flags 0x600 ≡ 0)
