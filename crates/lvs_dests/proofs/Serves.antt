-- The first of a service's live servers that serves is the first of all servers that does.
use Rattle.std.proofs.Common.{◌≡◌, ℕ, Bool, true, false, ◌&&◌, cond, refl, ap, ◌∙◌, List, [], ◌∷◌, Option, Some, None, map}
use Rattle.std.specs.List.{AllByRecursion, cons_option, find, filter}
use Rattle.std.specs.Option.{option_map, option_or}
use Rattle.lvs_types.specs.declared.addr.Addr.{Addr}
use Rattle.lvs_types.specs.declared.service.ServiceKey.{ServiceKey}
use Rattle.lvs_types.specs.declared.dest.Dest.{Dest}
use Rattle.lvs_types.specs.declared.dest.DestRow.{DestRow}
use Rattle.lvs_model.specs.Binding.{serves_at}
use Rattle.lvs_dests.specs.Rows.{row_at, is_row_of, candidate_of_row, candidates_of, is_row_serving, serving}
use Rattle.lvs_dests.specs.Pool.{DifferInId}
use Rattle.lvs_dests.specs.Serving.{serving_row, first_serving, rows_at}
use Rattle.lvs_dests.proofs.Listed.{each_found}

module _ (key : ServiceKey) (daddr : Addr) (dport vport : ℕ) (rows : List DestRow) where
  here_by : (row : DestRow) (o : Option Dest) (p : Option DestRow) (b : Bool) → o ≡ option_map (λ (r : DestRow). r.dest) p → option_or (cond b (Some row.dest) None) o ≡ option_map (λ (r : DestRow). r.dest) (cond b (Some row) p)
  here_by row o p true rest = refl
  here_by row o p false rest = rest

  serves_by : (row : DestRow) (some : List DestRow) (a : Bool) → row_at row.dest.id rows ≡ Some row → first_serving daddr dport vport rows (candidates_of key some) ≡ serving key daddr dport vport some
      → first_serving daddr dport vport rows (map candidate_of_row (cond a (row ∷ filter (is_row_of key) some) (filter (is_row_of key) some))) ≡ option_map (λ (r : DestRow). r.dest) (cond (a && serves_at daddr dport vport row.dest) (Some row) (find (is_row_serving key daddr dport vport) some))
  serves_by row some true found rest =
      ap (λ (o : Option DestRow). option_or (serving_row daddr dport vport o) (first_serving daddr dport vport rows (candidates_of key some))) found
      ∙ here_by row (first_serving daddr dport vport rows (candidates_of key some)) (find (is_row_serving key daddr dport vport) some) (serves_at daddr dport vport row.dest) rest
  serves_by row some false found rest = rest

  first_by : (some : List DestRow) → AllByRecursion (λ (row : DestRow). row_at row.dest.id rows ≡ Some row) some → first_serving daddr dport vport rows (candidates_of key some) ≡ serving key daddr dport vport some
  first_by [] all = refl
  first_by (row ∷ some) all = serves_by row some (is_row_of key row) all.0 (first_by some all.1)

  pub first_is : DifferInId rows → first_serving daddr dport vport rows (candidates_of key rows) ≡ serving key daddr dport vport rows
  first_is apart = first_by rows (each_found rows apart)

-- ---- the servers of some candidates

here_at : (key : ServiceKey) (rows : List DestRow) (row : DestRow) (some : List DestRow) (b : Bool) → row_at row.dest.id rows ≡ Some row → rows_at rows (candidates_of key some) ≡ filter (is_row_of key) some
    → rows_at rows (map candidate_of_row (cond b (row ∷ filter (is_row_of key) some) (filter (is_row_of key) some))) ≡ cond b (row ∷ filter (is_row_of key) some) (filter (is_row_of key) some)
here_at key rows row some true found rest = ap (λ (o : Option DestRow). cons_option o (rows_at rows (candidates_of key some))) found ∙ ap (λ (rs : List DestRow). row ∷ rs) rest
here_at key rows row some false found rest = rest

each_at : (key : ServiceKey) (rows some : List DestRow) → AllByRecursion (λ (row : DestRow). row_at row.dest.id rows ≡ Some row) some → rows_at rows (candidates_of key some) ≡ filter (is_row_of key) some
each_at key rows [] all = refl
each_at key rows (row ∷ some) all = here_at key rows row some (is_row_of key row) all.0 (each_at key rows some all.1)

-- those of a service's candidates are its live servers
pub served_at : (key : ServiceKey) (rows : List DestRow) → DifferInId rows → rows_at rows (candidates_of key rows) ≡ filter (is_row_of key) rows
served_at key rows apart = each_at key rows rows (each_found rows apart)
