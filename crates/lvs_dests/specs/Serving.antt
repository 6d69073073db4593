-- The servers of some candidates, each looked up by its id, and the first that serves at an address and a port.
use Rattle.std.specs.Prelude.{ℕ, List, [], ◌∷◌, Option, Some, None, filter_map, if◌then◌else◌}
use Rattle.std.specs.Option.{option_or}
use Rattle.lvs_types.specs.declared.addr.Addr.{Addr}
use Rattle.lvs_types.specs.declared.addr.DestId.{DestId}
use Rattle.lvs_types.specs.declared.dest.Dest.{Dest}
use Rattle.lvs_types.specs.declared.dest.DestRow.{DestRow}
use Rattle.lvs_types.specs.declared.dest.Candidate.{Candidate}
use Rattle.lvs_model.specs.Binding.{serves_at}
use Rattle.lvs_dests.specs.Rows.{row_at}

abbrev pub serving_row : Addr → ℕ → ℕ → Option DestRow → Option Dest
serving_row daddr dport vport None = None
serving_row daddr dport vport (Some row) = if serves_at daddr dport vport row.dest then Some row.dest else None

-- the server of the id, where it serves there
abbrev pub serving_id : Addr → ℕ → ℕ → List DestRow → DestId → Option Dest
serving_id daddr dport vport rows id = serving_row daddr dport vport (row_at id rows)

abbrev pub first_serving : Addr → ℕ → ℕ → List DestRow → List Candidate → Option Dest
first_serving daddr dport vport rows [] = None
first_serving daddr dport vport rows (c ∷ candidates) = option_or (serving_id daddr dport vport rows c.id) (first_serving daddr dport vport rows candidates)

abbrev pub rows_at : List DestRow → List Candidate → List DestRow
rows_at rows candidates = filter_map (λ (c : Candidate). row_at c.id rows) candidates
