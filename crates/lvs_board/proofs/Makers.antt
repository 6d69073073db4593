-- The controls of the templates follow each change of the entries.
use Rattle.std.proofs.Common.{◌≡◌, ◌+◌, ◌-◌, ◌<◌, ◌≤◌, ◌^◌, ℕ, Bool, true, false, cond, List, [], ◌∷◌, ◌++◌, Option, Some, None, refl, sym, ap, subst, ◌∙◌, map, arith, nat_eq, length}
use Rattle.std.proofs.lemmas.Bool.Decides.{nat_tests}
use Rattle.std.proofs.lemmas.List.Sums.{count_by-le-length}
use Rattle.std.specs.Prelude.{IfSome}
use Rattle.std.specs.Option.{option_map}
use Rattle.std.specs.List.{IsDistinct, find, filter}
use Rattle.lvs_types.specs.declared.addr.TemplateId.{TemplateId}
use Rattle.lvs_types.specs.declared.entry.Entry.{Entry}
use Rattle.lvs_types.specs.declared.template.Template.{Template}
use Rattle.lvs_model.specs.Lists.{without}
use Rattle.lvs_model.specs.Counts.{controls, is_made_by}
use Rattle.lvs_model.specs.Binding.{put_entry}
use Rattle.lvs_model.specs.Lookups.{has_entry_id, has_template_id, template_of_id}
use Rattle.lvs_model.specs.WellFormed.{entry_ids}
use Rattle.lvs_templates.specs.declared.row.TemplateRow.{TemplateRow}
use Rattle.lvs_templates.specs.Rows.{template_row, has_id}
use Rattle.lvs_well_formed.proofs.Lists.{find_passes}
use Rattle.lvs_board.specs.Endings.{less_one, more_one, lessens_row, IsControlledAt, CanControl}
use Rattle.lvs_board.proofs.Counts.{one_if, count_cons, count_put, count_push, count_parts}
use Rattle.lvs_board.proofs.Ends.{left_by, count_left}

abbrev made : Template → ℕ → TemplateRow
made t n = record { template = t; controls = n }

abbrev makes : TemplateId → Entry → Bool
makes id e = is_made_by id e.template

pub templates_changed : (f : TemplateRow → TemplateRow) (g h : Template → TemplateRow) (ts : List Template) → ((t : Template) → f (g t) ≡ h t) → map f (map g ts) ≡ map h ts
templates_changed f g h [] same = refl
templates_changed f g h (t ∷ ts) same = rw (same t) (ap (λ (rest : List TemplateRow). h t ∷ rest) (templates_changed f g h ts same))

pub templates_same : (g h : Template → TemplateRow) (ts : List Template) → ((t : Template) → g t ≡ h t) → map g ts ≡ map h ts
templates_same g h [] same = refl
templates_same g h (t ∷ ts) same = rw (same t) (ap (λ (rest : List TemplateRow). h t ∷ rest) (templates_same g h ts same))

more_step : (t : Template) (here : Bool) (n k : ℕ) → k ≡ n + one_if here → cond here (made t (n + 1)) (made t n) ≡ made t k
more_step t true n k is = ap (made t) (sym is)
more_step t false n k is = ap (made t) (let same : n ≡ k = omega (arith, is) in same)

less_step : (t : Template) (here : Bool) (n k : ℕ) → k + one_if here ≡ n → cond here (made t (n - 1)) (made t n) ≡ made t k
less_step t true n k is = ap (made t) (let same : n - 1 ≡ k = omega (arith, is) in same)
less_step t false n k is = ap (made t) (let same : n ≡ k = omega (arith, is) in same)

-- an entry comes last
pub more_rows : (es : List Entry) (e : Entry) (ts : List Template) → map (more_one e) (map (template_row es) ts) ≡ map (template_row (es ++ e ∷ [])) ts
more_rows es e ts = templates_changed (more_one e) (template_row es) (template_row (es ++ e ∷ [])) ts (λ t.
    more_step t (makes t.id e) (controls t.id es) (controls t.id (es ++ e ∷ [])) (count_push (makes t.id) es e))

-- an entry leaves
pub less_rows : (es : List Entry) (e : Entry) (ts : List Template) → IsDistinct nat_eq (entry_ids es) → find (has_entry_id e.id) es ≡ Some e → map (less_one e) (map (template_row es) ts) ≡ map (template_row (left_by e es)) ts
less_rows es e ts apart found = templates_changed (less_one e) (template_row es) (template_row (left_by e es)) ts (λ t.
    less_step t (makes t.id e) (controls t.id es) (controls t.id (left_by e es)) (count_left (makes t.id) es e apart found))

kept_step : (es : List Entry) (x v : Entry) (t : Template) → find (has_entry_id v.id) es ≡ Some x → v.template ≡ x.template → controls t.id es ≡ controls t.id (put_entry v es)
kept_step es x v t found same =
    let puts = count_put (makes t.id) (has_entry_id v.id) v x es found in
    omega (arith, puts, ap (λ o. one_if (is_made_by t.id o)) same)

-- an entry becomes another one that the same template made
pub kept_controls : (es : List Entry) (x v : Entry) (ts : List Template) → find (has_entry_id v.id) es ≡ Some x → v.template ≡ x.template → map (template_row es) ts ≡ map (template_row (put_entry v es)) ts
kept_controls es x v ts found same = templates_same (template_row es) (template_row (put_entry v es)) ts (λ t. ap (made t) (kept_step es x v t found same))

-- WHAT THE CALLS ASK

row_step : (g : Template → TemplateRow) (b : Bool) (t : Template) (r : Option TemplateRow) (o : Option Template) → r ≡ option_map g o → cond b (Some (g t)) r ≡ option_map g (cond b (Some t) o)
row_step g true t r o rest = refl
row_step g false t r o rest = rest

pub template_row_found : (es : List Entry) (id : TemplateId) (ts : List Template) → find (has_id id) (map (template_row es) ts) ≡ option_map (template_row es) (template_of_id id ts)
template_row_found es id [] = refl
template_row_found es id (t ∷ ts) = row_step (template_row es) (has_template_id id t) t (find (has_id id) (map (template_row es) ts)) (template_of_id id ts) (template_row_found es id ts)

if_at : (P : TemplateRow → Type 0) (es : List Entry) (id : TemplateId) (ts : List Template) (o : Option Template) → template_of_id id ts ≡ o → ((t : Template) → o ≡ Some t → P (template_row es t)) → IfSome (find (has_id id) (map (template_row es) ts)) P
if_at P es id ts None is each = subst (λ (r : Option TemplateRow). IfSome r P) (sym (template_row_found es id ts ∙ ap (option_map (template_row es)) is)) tt
if_at P es id ts (Some t) is each = subst (λ (r : Option TemplateRow). IfSome r P) (sym (template_row_found es id ts ∙ ap (option_map (template_row es)) is)) (each t refl)

pub template_with : (P : TemplateRow → Type 0) (es : List Entry) (id : TemplateId) (ts : List Template) → ((t : Template) → template_of_id id ts ≡ Some t → P (template_row es t)) → IfSome (find (has_id id) (map (template_row es) ts)) P
template_with P es id ts each = if_at P es id ts (template_of_id id ts) refl each

pub can_control : (es : List Entry) (e : Entry) (ts : List Template) → length es < 2 ^ 62 → CanControl e (map (template_row es) ts)
can_control es e ts few = λ id names. template_with (λ row. row.controls < 2 ^ 63) es id ts (λ t is. omega (arith, few, count_by-le-length (makes t.id) es))

flip : (m n : ℕ) → nat_eq m n ≡ nat_eq n m
flip m n = grind (arith, nat_tests)

made_here : (e : Entry) (id : TemplateId) (t : Template) → e.template ≡ Some id → has_template_id id t ≡ true → makes t.id e ≡ true
made_here e id t names here = ap (is_made_by t.id) names ∙ flip id.0 t.id.0 ∙ here

pub is_controlled : (es : List Entry) (e : Entry) (ts : List Template) → IsDistinct nat_eq (entry_ids es) → find (has_entry_id e.id) es ≡ Some e → IsControlledAt e (map (template_row es) ts)
is_controlled es e ts apart found = λ id names. template_with (λ row. 0 < row.controls) es id ts (λ t is.
    omega (arith, count_left (makes t.id) es e apart found, ap one_if (made_here e id t names (find_passes (has_template_id id) ts t is))))

-- MANY ENTRIES LEAVE

abbrev Lessens : List Entry → Type 0
Lessens due = (t : Template) (n : ℕ) → controls t.id due ≤ n → lessens_row due (made t n) ≡ made t (n - controls t.id due)

lessened_step : (e : Entry) (due : List Entry) (t : Template) (n : ℕ) (here : Bool) → Lessens due → makes t.id e ≡ here → controls t.id (e ∷ due) ≤ n → lessens_row due (cond here (made t (n - 1)) (made t n)) ≡ made t (n - controls t.id (e ∷ due))
lessened_step e due t n true rest is has =
    let counts = count_cons (makes t.id) e due in
    let one = ap one_if is in
    rest t (n - 1) (omega (arith, counts, one, has)) ∙ ap (made t) (let same : n - 1 - controls t.id due ≡ n - controls t.id (e ∷ due) = omega (arith, counts, one) in same)
lessened_step e due t n false rest is has =
    let counts = count_cons (makes t.id) e due in
    let one = ap one_if is in
    rest t n (omega (arith, counts, one, has)) ∙ ap (made t) (let same : n - controls t.id due ≡ n - controls t.id (e ∷ due) = omega (arith, counts, one) in same)

all_lessened : (due : List Entry) → Lessens due
all_lessened [] = λ t n has. ap (made t) (let same : n ≡ n - controls t.id [] = omega arith in same)
all_lessened (e ∷ due) = λ t n has. lessened_step e due t n (makes t.id e) (all_lessened due) refl has

pub lessened_rows : (p : Entry → Bool) (es : List Entry) (ts : List Template) → map (lessens_row (filter p es)) (map (template_row es) ts) ≡ map (template_row (without p es)) ts
lessened_rows p es ts = templates_changed (lessens_row (filter p es)) (template_row es) (template_row (without p es)) ts (λ t.
    let parts = count_parts (makes t.id) p es in
    all_lessened (filter p es) t (controls t.id es) (omega (arith, parts)) ∙ ap (made t) (let same : controls t.id es - controls t.id (filter p es) ≡ controls t.id (without p es) = omega (arith, parts) in same))
