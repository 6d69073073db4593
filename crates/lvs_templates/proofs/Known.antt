-- A template whose id is there, where no template of another key has it, is the one of its key.
use Rattle.std.proofs.Common.{◌≡◌, ℕ, false, ◌==◌, refl, sym, ap, ◌∙◌, subst, eq-eqb, List, Option, Some, None, IfSome, IsSome}
use Rattle.std.specs.List.{find}
use Rattle.std.specs.Map.{values_of}
use Rattle.std.specs.Option.{option_map}
use Rattle.lvs_types.specs.declared.template.TemplateKey.{TemplateKey}
use Rattle.lvs_types.specs.declared.template.Template.{Template}
use Rattle.lvs_model.specs.Lookups.{template_of_id}
use Rattle.lvs_templates.specs.declared.row.TemplateRow.{TemplateRow}
use Rattle.lvs_templates.specs.Rows.{has_key, has_id, templates_of}
use Rattle.lvs_templates.specs.Maps.{row_at, IsStore}
use Rattle.lvs_templates.proofs.Store.{find_id}
use Rattle.lvs_templates.proofs.Changes.{known_id}
use Rattle.lvs_templates.proofs.Put.{of_id}

some_row : (o : Option TemplateRow) → IsSome (option_map (λ (r : TemplateRow). r.template) o) → IsSome o
some_row None some = some
some_row (Some row) some = some

module _ (template : Template) (es : List (ℕ × TemplateRow)) (ids : List (TemplateKey × ℕ)) (store : IsStore es ids) (free : IfSome (find (has_id template.id) (values_of es)) (λ row. row.template.key ≡ template.key)) (there : IsSome (template_of_id template.id (templates_of (values_of es)))) where
  its_row : (row : TemplateRow) × (find (has_key template.key) (values_of es) ≡ Some row) × (row.template.id.0 ≡ template.id.0)
  its_row =
      known_id template.id template.key es ids store (row_at es template.id.0) refl
      (subst (λ (o : Option TemplateRow). IfSome o (λ row. row.template.key ≡ template.key)) (sym (find_id template.id es ids store)) free)
      (some_row (row_at es template.id.0) (subst (λ (o : Option Template). IsSome o) (sym (of_id template.id (values_of es) (row_at es template.id.0) (find_id template.id es ids store))) there))

  -- so that one is found
  pub never_none : find (has_key template.key) (values_of es) ≡ None → ⊥
  never_none none = let found = its_row.1 in cc

  -- and has its id
  pub never_other : (old : TemplateRow) → find (has_key template.key) (values_of es) ≡ Some old → (template.id.0 == old.template.id.0) ≡ false → ⊥
  never_other old found differs =
      let same : its_row.0 ≡ old = (let its = its_row.1 in cc) in
      let number : template.id.0 ≡ old.template.id.0 = sym its_row.2 ∙ ap (λ (row : TemplateRow). row.template.id.0) same in
      let tie = eq-eqb template.id.0 old.template.id.0 number in
      cc
