-- The two maps of a store, and what ties them: the rows by id, read in order of id, and the ids by key.
use Rattle.std.specs.Prelude.{◌≡◌, ◌≤◌, ℕ, nat_eq, Bool, cond, List, Option, Some}
use Rattle.std.specs.Ordering.{nat_cmp}
use Rattle.std.specs.BTreeMap.{is_at}
use Rattle.std.specs.HashMap.{spare}
use Rattle.std.specs.List.{IsDistinct}
use Rattle.std.specs.List.Sorted.{IsStrictlySortedBy}
use Rattle.std.specs.Map.{keys_of, values_of, lookup}
use Rattle.lvs_types.specs.declared.template.TemplateKey.{TemplateKey}
use Rattle.lvs_types.specs.contracts.template.TemplateKeyPartialEq.TheImpl as key_eq
use Rattle.lvs_model.specs.Lists.{sorted_by}
use Rattle.lvs_templates.specs.declared.row.TemplateRow.{TemplateRow}
use Rattle.lvs_templates.specs.declared.maps.Maps.{Maps}

-- whether two keys are the same, as the map of ids asks
abbrev pub key_same : TemplateKey → TemplateKey → Bool
key_same = (key_eq.ghosts).eq

-- the row under an id
abbrev pub row_at : List (ℕ × TemplateRow) → ℕ → Option TemplateRow
row_at rows id = lookup (is_at (nat_cmp id)) rows

-- the id under a key
abbrev pub id_at : List (TemplateKey × ℕ) → TemplateKey → Option ℕ
id_at ids key = lookup (key_same key) ids

-- the look-ups after one is set, or taken away by None
abbrev pub row_put : (ℕ → Option TemplateRow) → ℕ → Option TemplateRow → ℕ → Option TemplateRow
row_put row_of id w q = cond (is_at (nat_cmp id) q) w (row_of q)

abbrev pub id_put : (TemplateKey → Option ℕ) → TemplateKey → Option ℕ → TemplateKey → Option ℕ
id_put id_of key w q = cond (key_same key q) w (id_of q)

-- each row stands under its id, and its key leads to that id; each key leads to a row that has it
pub record AreTied (row_of : ℕ → Option TemplateRow) (id_of : TemplateKey → Option ℕ) : Type 0 where
  pub ids : (id : ℕ) (row : TemplateRow) → row_of id ≡ Some row → row.template.id.0 ≡ id
  pub rows : (id : ℕ) (row : TemplateRow) → row_of id ≡ Some row → id_of row.template.key ≡ Some id
  pub keys : (key : TemplateKey) (id : ℕ) → id_of key ≡ Some id → (row : TemplateRow) × (row_of id ≡ Some row) × (row.template.key ≡ key)

pub record IsStore (rows : List (ℕ × TemplateRow)) (ids : List (TemplateKey × ℕ)) : Type 0 where
  pub ordered : IsStrictlySortedBy nat_cmp (keys_of rows)
  pub tied : AreTied (row_at rows) (id_at ids)

-- the entries in order of id
abbrev pub in_order : List (ℕ × TemplateRow) → List (ℕ × TemplateRow)
in_order entries = sorted_by (λ (e : ℕ × TemplateRow). e.0) entries

-- both maps have the room that is promised
pub record HasRoom (maps : Maps) : Type 0 where
  pub rows : maps.room ≤ spare maps.rows
  pub ids : maps.room ≤ spare maps.ids

pub record IsWhole (maps : Maps) : Type 0 where
  pub unique : IsDistinct nat_eq (keys_of maps.rows.entries)
  pub store : IsStore (in_order maps.rows.entries) maps.ids.entries
  pub room : HasRoom maps

-- the rows, in order of id
abbrev pub rows_of : Maps → List TemplateRow
rows_of maps = values_of (in_order maps.rows.entries)
