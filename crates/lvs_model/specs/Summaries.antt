-- The summary of a demonstration: what its rounds did, and the servers at its end (this project's profile).
use Rattle.std.specs.Prelude.{ℕ, ◌+◌, Bool, true, false, List, [], ◌∷◌, ◌++◌, length, count_by, codes, decimal}
use Rattle.lvs_types.specs.declared.item.Item.{Item}
use Rattle.lvs_types.specs.declared.item.Item.TheVariants as item
use Rattle.lvs_types.specs.declared.reply.Reply.{Reply}
use Rattle.lvs_types.specs.declared.reply.Reply.TheVariants as reply
use Rattle.lvs_types.specs.declared.book.Noted.{Noted}
use Rattle.lvs_types.specs.declared.book.RoundBook.{RoundBook}
use Rattle.lvs_types.specs.declared.dest.DestRow.{DestRow}
use Rattle.lvs_types.specs.declared.snapshot.Snapshot.{Snapshot}
use Rattle.lvs_model.specs.Listings.{endpoint_text}

-- the act is of an incoming packet
abbrev pub is_incoming : Item → Bool
is_incoming (item.Incoming mark bytes) = true
is_incoming other = false

-- the act sent a packet on to a server
abbrev pub is_forward : Reply → Bool
is_forward (reply.Forward how to bytes) = true
is_forward other = false

-- how many acts of all rounds pass
abbrev pub count_acts : (Noted → Bool) → List RoundBook → ℕ
count_acts passes [] = 0
count_acts passes (book ∷ books) = count_by passes book.acts + count_acts passes books

abbrev pub packets_of : List RoundBook → ℕ
packets_of books = count_acts (λ (act : Noted). is_incoming act.item) books

abbrev pub forwarded_of : List RoundBook → ℕ
forwarded_of books = count_acts (λ (act : Noted). is_forward act.reply) books

-- a word, a blank and a number
abbrev pub number_line : List ℕ → ℕ → List ℕ
number_line name number = name ++ 32 ∷ [] ++ decimal number ++ 10 ∷ []

-- server ADDR:PORT active A inactive I
abbrev pub counts_line : DestRow → List ℕ
counts_line row =
    codes "server " ++ endpoint_text row.dest.spec.addr row.dest.spec.port ++ codes " active " ++ decimal row.active ++ codes " inactive " ++ decimal row.inactive ++ 10 ∷ []

abbrev pub counts_lines : List DestRow → List ℕ
counts_lines [] = []
counts_lines (row ∷ rows) = counts_line row ++ counts_lines rows

-- the numbers of rounds, of incoming packets, of packets that were forwarded and of entries, and then the servers
abbrev pub summary_with : ℕ → ℕ → ℕ → ℕ → List DestRow → List ℕ
summary_with rounds packets forwarded entries servers =
    number_line (codes "rounds") rounds ++ number_line (codes "packets") packets ++ number_line (codes "forwarded") forwarded ++ number_line (codes "entries") entries ++ counts_lines servers

-- of the books of all rounds, and of the tables that the last one left
abbrev pub summary_text : List RoundBook → Snapshot → List ℕ
summary_text books tables = summary_with (length books) (packets_of books) (forwarded_of books) (length tables.entries) tables.dests
