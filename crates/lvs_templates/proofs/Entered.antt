-- A map that a new row was put in, and an empty one.
use Rattle.std.proofs.Common.{◌≡◌, ℕ, nat_eq, List, [], ◌∷◌, Option, Some, None, IfOk, OnOk, Result, Ok, Err, IsSomeAnd, subst}
use Rattle.std.specs.Option.{MatchOption, option_map}
use Rattle.std.specs.List.Sorted.{IsPermutation, IsStrictlySortedBy}
use Rattle.std.specs.Map.{set_value}
use Rattle.lvs_types.specs.declared.template.TemplateKey.{TemplateKey}
use Rattle.lvs_templates.specs.declared.row.TemplateRow.{TemplateRow}
use Rattle.lvs_templates.specs.Maps.{in_order, IsStore}

-- what is said of an answer holds of the value that it is
pub ok_holds : {A B : Type 0} (r : Result A B) (x : A) (P : A → Type 0) → r ≡ Ok x → IfOk r P → P x
ok_holds (Ok y) x P is holds = let same : y ≡ x = cc in subst P same holds
ok_holds (Err y) x P is holds = absurd (cc)

pub ok_on : {A B : Type 0} (r : Result A B) (x : A) (P : Type 0) → r ≡ Ok x → OnOk r P → P
ok_on (Ok y) x P is holds = holds
ok_on (Err y) x P is holds = absurd (cc)

pub moved_by : (n : ℕ) (v : TemplateRow) (es es' : List (ℕ × TemplateRow)) (o : Option TemplateRow) → o ≡ None → MatchOption o (IsPermutation ((n, v) ∷ es) es') (λ _. es' ≡ set_value (nat_eq n) es v) → IsPermutation ((n, v) ∷ es) es'
moved_by n v es es' None none put = put
moved_by n v es es' (Some old) none put = absurd (cc)

-- a row that is there has a template
pub has_template : (o : Option TemplateRow) (P : TemplateRow → Type 0) → IsSomeAnd o P → option_map (λ (r : TemplateRow). r.template) o ≡ None → ⊥
has_template None P there none = absurd there
has_template (Some row) P there none = cc

store_empty : IsStore [] []
unfolding IsStrictlySortedBy
store_empty = record {
  ordered = tt;
  tied = record {
    ids = λ id row e. absurd (cc);
    rows = λ id row e. absurd (cc);
    keys = λ key id e. absurd (cc);
  };
}

pub store_none : (es : List (ℕ × TemplateRow)) (ids : List (TemplateKey × ℕ)) → es ≡ [] → ids ≡ [] → IsStore (in_order es) ids
store_none [] [] is is_ids = store_empty
store_none (e ∷ es) ids is is_ids = absurd (cc)
store_none [] (i ∷ ids) is is_ids = absurd (cc)
