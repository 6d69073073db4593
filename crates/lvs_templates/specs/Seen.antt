-- What contracts see of a store of templates.
use Rattle.std.specs.Prelude.{ℕ, List}
use Rattle.lvs_templates.specs.declared.row.TemplateRow.{TemplateRow}

pub record TemplatesSeen : Type 0 where
  -- in order of id, each id and each key once
  pub rows : List TemplateRow
  -- how many new ones can be put in without memory
  pub spare : ℕ
