-- A new template stands last, and a scheduler sees the counts.
use Rattle.std.proofs.Common.{◌≡◌, ◌+◌, ◌<◌, ◌≤◌, ℕ, Bool, true, false, cond, List, [], ◌∷◌, ◌++◌, refl, ap, map, arith, nat_lt, length}
use Rattle.lvs_dests.specs.Rows.{dests_of}
use Rattle.std.proofs.lemmas.Bool.Decides.{nat_tests}
use Rattle.std.specs.List.{AllByRecursion, filter}
use Rattle.lvs_types.specs.declared.service.ServiceKey.{ServiceKey}
use Rattle.lvs_types.specs.declared.dest.Dest.{Dest}
use Rattle.lvs_types.specs.declared.dest.DestRow.{DestRow}
use Rattle.lvs_types.specs.declared.dest.Candidate.{Candidate}
use Rattle.lvs_types.specs.declared.entry.Entry.{Entry}
use Rattle.lvs_types.specs.declared.template.Template.{Template}
use Rattle.lvs_model.specs.Counts.{row_of, candidates, candidate_of}
use Rattle.lvs_model.specs.Lookups.{is_server_of, servers_of}
use Rattle.lvs_dests.specs.Rows.{candidates_of, candidate_of_row, is_row_of}
use Rattle.lvs_templates.specs.declared.row.TemplateRow.{TemplateRow}
use Rattle.lvs_templates.specs.Rows.{template_row}
use Rattle.lvs_templates.specs.Rows as store

-- A NEW TEMPLATE

last_step : (b : Bool) (row other : TemplateRow) (rows inserted : List TemplateRow) → b ≡ false → inserted ≡ rows ++ row ∷ [] → cond b (row ∷ other ∷ rows) (other ∷ inserted) ≡ other ∷ (rows ++ row ∷ [])
last_step true row other rows inserted is rest = absurd cc
last_step false row other rows inserted is rest = ap (λ (zs : List TemplateRow). other ∷ zs) rest

above : (m n : ℕ) → n < m → nat_lt m n ≡ false
above m n is = grind (arith, nat_tests)

-- a template with a new id stands last
pub insert_last : (row : TemplateRow) (rows : List TemplateRow) → AllByRecursion (λ (other : TemplateRow). other.template.id.0 < row.template.id.0) rows → store.insert_row row rows ≡ rows ++ row ∷ []
insert_last row [] below = refl
insert_last row (other ∷ rows) below = last_step (nat_lt row.template.id.0 other.template.id.0) row other rows (store.insert_row row rows) (above row.template.id.0 other.template.id.0 below.0) (insert_last row rows below.1)

-- CANDIDATES

candidate_step : (es : List Entry) (ts : List Template) (b : Bool) (d : Dest) (rows : List DestRow) (ds : List Dest) → map candidate_of_row rows ≡ map (candidate_of es) ds
    → map candidate_of_row (cond b (row_of es ts d ∷ rows) rows) ≡ map (candidate_of es) (cond b (d ∷ ds) ds)
candidate_step es ts true d rows ds rest = ap (λ (cs : List Candidate). candidate_of es d ∷ cs) rest
candidate_step es ts false d rows ds rest = rest

-- the table's candidates are those of the definition
pub candidates_same : (es : List Entry) (ts : List Template) (key : ServiceKey) (ds : List Dest) → candidates_of key (map (row_of es ts) ds) ≡ candidates key ds es
candidates_same es ts key [] = refl
candidates_same es ts key (d ∷ ds) = candidate_step es ts (is_server_of key d) d (filter (is_row_of key) (map (row_of es ts) ds)) (servers_of key ds) (candidates_same es ts key ds)

len_step : (b : Bool) (row : DestRow) (rows : List DestRow) (n : ℕ) → length (map candidate_of_row rows) ≤ n → length (map candidate_of_row (cond b (row ∷ rows) rows)) ≤ n + 1
len_step true row rows n fewer = omega (arith, fewer)
len_step false row rows n fewer = omega (arith, fewer)

-- there are no more candidates than servers
pub candidates_fewer : (key : ServiceKey) (rows : List DestRow) → length (candidates_of key rows) ≤ length (dests_of rows)
candidates_fewer key [] = omega arith
candidates_fewer key (row ∷ rows) = omega (arith, len_step (is_row_of key row) row (filter (is_row_of key) rows) (length (dests_of rows)) (candidates_fewer key rows))
