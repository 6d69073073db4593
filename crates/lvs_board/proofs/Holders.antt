-- Entries that leave, one after the other, count at the templates that made them.
use Rattle.std.proofs.Common.{◌≡◌, ◌+◌, ◌-◌, ◌<◌, ◌≤◌, ℕ, Bool, true, false, cond, List, [], ◌∷◌, Option, Some, refl, sym, ap, subst, ◌∙◌, map, arith, nat_eq}
use Rattle.std.proofs.lemmas.Bool.Decides.{nat_tests}
use Rattle.std.specs.Option.{IfSome}
use Rattle.std.specs.List.{find, filter}
use Rattle.lvs_types.specs.declared.addr.TemplateId.{TemplateId}
use Rattle.lvs_types.specs.declared.entry.Entry.{Entry}
use Rattle.lvs_types.specs.declared.template.Template.{Template}
use Rattle.lvs_model.specs.Same.{template_id_eq}
use Rattle.lvs_model.specs.Counts.{controls, is_made_by}
use Rattle.lvs_templates.specs.declared.row.TemplateRow.{TemplateRow}
use Rattle.lvs_templates.specs.Rows.{template_row, has_id}
use Rattle.lvs_board.specs.Endings.{less_one, CanLessen}
use Rattle.lvs_board.proofs.Counts.{one_if, count_cons, count_parts}
use Rattle.lvs_board.proofs.Ends.{map_twice}

abbrev makes : TemplateId → Entry → Bool
makes id e = is_made_by id e.template

abbrev HasControls : TemplateRow → Type 0
HasControls row = 0 < row.controls

-- the row of a template has its id, and at least these controls
record Covers (due : List Entry) (g : Template → TemplateRow) : Type 0 where
  ids : (t : Template) → (g t).template.id ≡ t.id
  enough : (t : Template) → controls t.id due ≤ (g t).controls

flip : (m n : ℕ) → nat_eq m n ≡ nat_eq n m
flip m n = grind (arith, nat_tests)

makes_here : (e : Entry) (id : TemplateId) (t : Template) (row : TemplateRow) → e.template ≡ Some id → row.template.id ≡ t.id → has_id id row ≡ true → makes t.id e ≡ true
makes_here e id t row names same here =
    ap (is_made_by t.id) names ∙ flip id.0 t.id.0 ∙ subst (λ (named : TemplateId). template_id_eq named id ≡ true) same here

head_step : (e : Entry) (due : List Entry) (t : Template) (row : TemplateRow) (b : Bool) (o : Option TemplateRow) → (b ≡ true → makes t.id e ≡ true) → controls t.id (e ∷ due) ≤ row.controls → IfSome o HasControls → IfSome (cond b (Some row) o) HasControls
head_step e due t row true o made has rest = omega (arith, has, count_cons (makes t.id) e due, ap one_if (made refl))
head_step e due t row false o made has rest = rest

head_controlled : (e : Entry) (due : List Entry) (g : Template → TemplateRow) (ts : List Template) (id : TemplateId) → Covers (e ∷ due) g → e.template ≡ Some id → IfSome (find (has_id id) (map g ts)) HasControls
head_controlled e due g [] id covers names = tt
head_controlled e due g (t ∷ ts) id covers names =
    head_step e due t (g t) (has_id id (g t)) (find (has_id id) (map g ts)) (makes_here e id t (g t) names (covers.ids t)) (covers.enough t) (head_controlled e due g ts id covers names)

id_kept : (b : Bool) (row : TemplateRow) → (cond b (record row { controls = row.controls - 1 }) row).template.id ≡ row.template.id
id_kept true row = refl
id_kept false row = refl

enough_left : (b : Bool) (row : TemplateRow) (n : ℕ) → one_if b + n ≤ row.controls → n ≤ (cond b (record row { controls = row.controls - 1 }) row).controls
enough_left true row n has = omega (arith, has)
enough_left false row n has = omega (arith, has)

covers_rest : (e : Entry) (due : List Entry) (g : Template → TemplateRow) → Covers (e ∷ due) g → Covers due (λ t. less_one e (g t))
covers_rest e due g covers = record {
  ids = λ t. id_kept (is_made_by (g t).template.id e.template) (g t) ∙ covers.ids t;
  enough = λ t. enough_left (is_made_by (g t).template.id e.template) (g t) (controls t.id due)
      (subst (λ (id : TemplateId). one_if (is_made_by id e.template) + controls t.id due ≤ (g t).controls) (sym (covers.ids t)) (omega (arith, covers.enough t, count_cons (makes t.id) e due)));
}

lessen_by : (due : List Entry) (g : Template → TemplateRow) (ts : List Template) → Covers due g → CanLessen due (map g ts)
lessen_by [] g ts covers = tt
lessen_by (e ∷ due) g ts covers =
    ((λ id names. head_controlled e due g ts id covers names), subst (CanLessen due) (sym (map_twice (less_one e) g ts)) (lessen_by due (λ t. less_one e (g t)) ts (covers_rest e due g covers)))

-- those that pass a test can leave their templates, one after the other
pub can_lessen_all : (p : Entry → Bool) (es : List Entry) (ts : List Template) → CanLessen (filter p es) (map (template_row es) ts)
can_lessen_all p es ts = lessen_by (filter p es) (template_row es) ts
    (record {
      ids = λ t. refl;
      enough = λ t. omega (arith, count_parts (makes t.id) p es);
    })
