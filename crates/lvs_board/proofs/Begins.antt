-- A board with nothing on it.
use Rattle.std.proofs.Common.{◌≡◌, ℕ, List, refl, sym, subst}
use Rattle.lvs_types.specs.declared.addr.Addr.{Addr}
use Rattle.lvs_types.specs.declared.book.Noted.{Noted}
use Rattle.lvs_model.specs.State.{initial}
use Rattle.lvs_board.specs.Seen.{TablesSeen, BoardSeen, begun}
use Rattle.lvs_board.specs.Stands.{StandsFor}

abbrev at_first : List Noted → TablesSeen → BoardSeen
at_first book t = record { tables = t; book = book; steps = 0 }

begun_stands : (book : List Noted) (local : Addr) (buckets : ℕ) → StandsFor (at_first book (begun local)) (initial local buckets)
begun_stands book local buckets = record { tables = refl; totals = record { servers = refl; controls = refl } }

pub begins : (book : List Noted) (local : Addr) (t : TablesSeen) → t ≡ begun local → (buckets : ℕ) → StandsFor (at_first book t) (initial local buckets)
begins book local t is buckets = subst (λ (u : TablesSeen). StandsFor (at_first book u) (initial local buckets)) (sym is) (begun_stands book local buckets)
