-- What ties the two maps, through each change.
use Rattle.std.proofs.Common.{◌≡◌, ℕ, ◌⊎◌, inl, inr, Bool, true, false, cond, refl, sym, ap, ◌∙◌, subst, Option, Some, None}
use Rattle.std.specs.Ordering.{nat_cmp, is_eq}
use Rattle.std.specs.Option.{option_map}
use Rattle.lvs_types.specs.declared.template.TemplateKey.{TemplateKey}
use Rattle.lvs_templates.specs.declared.row.TemplateRow.{TemplateRow}
use Rattle.lvs_templates.specs.Maps.{key_same, row_put, id_put, AreTied}
use Rattle.lvs_templates.proofs.Keys.{nat_at_is, nat_at_own, key_at_is, key_at_own}

-- a look-up after a change at one key finds what was written there, or what was there before
updated : {X : Type 0} (b : Bool) (w old : Option X) (x : X) → cond b w old ≡ Some x → ((b ≡ true) × (w ≡ Some x)) ⊎ ((b ≡ false) × (old ≡ Some x))
updated true w old x e = inl (refl, e)
updated false w old x e = inr (refl, e)

tested : (b : Bool) → (b ≡ true) ⊎ (b ≡ false)
tested true = inl refl
tested false = inr refl

at_true : {X : Type 0} (b : Bool) (w old : X) → b ≡ true → cond b w old ≡ w
at_true true w old e = refl
at_true false w old e = absurd (cc)

at_false : {X : Type 0} (b : Bool) (w old : X) → b ≡ false → cond b w old ≡ old
at_false false w old e = refl
at_false true w old e = absurd (cc)

row_here : (f : ℕ → Option TemplateRow) (id : ℕ) (w : Option TemplateRow) → row_put f id w id ≡ w
row_here f id w = at_true _ w (f id) (nat_at_own id)

pub id_here : (g : TemplateKey → Option ℕ) (key : TemplateKey) (w : Option ℕ) → id_put g key w key ≡ w
id_here g key w = at_true _ w (g key) (key_at_own key)

-- the same at each key
pub tied_same : (f f' : ℕ → Option TemplateRow) (g g' : TemplateKey → Option ℕ) → ((q : ℕ) → f' q ≡ f q) → ((q : TemplateKey) → g' q ≡ g q) → AreTied f g → AreTied f' g'
tied_same f f' g g' fu gu t = record {
  ids = λ id row e. t.ids id row (sym (fu id) ∙ e);
  rows = λ id row e. gu row.template.key ∙ t.rows id row (sym (fu id) ∙ e);
  keys = λ key id e. let was = t.keys key id (sym (gu key) ∙ e) in (was.0, fu id ∙ was.1, was.2);
}

module _ (f : ℕ → Option TemplateRow) (g : TemplateKey → Option ℕ) (t : AreTied f g) where
  -- a row with a new id and a new key
  module _ (row : TemplateRow) (no_id : f row.template.id.0 ≡ None) (no_key : g row.template.key ≡ None) where
    insert_rows : (id : ℕ) (r : TemplateRow) → row_put f row.template.id.0 (Some row) id ≡ Some r → id_put g row.template.key (Some row.template.id.0) r.template.key ≡ Some id
    insert_rows id r e = elim (updated (is_eq (nat_cmp row.template.id.0 id)) (Some row) (f id) r e) [
      | inl new ↦
          let same : row ≡ r = cc in
          let place = nat_at_is row.template.id.0 id new.0 in
          let here = id_here g row.template.key (Some row.template.id.0) in
          subst (λ (x : TemplateRow). id_put g row.template.key (Some row.template.id.0) x.template.key ≡ Some id) same (here ∙ ap (λ n. Some n) place)
      | inr old ↦ elim (tested (key_same row.template.key r.template.key)) [
        | inl tie ↦
            let same = key_at_is row.template.key r.template.key tie in
            let was = t.rows id r old.1 in
            let not_new : g r.template.key ≡ None = subst (λ (k : TemplateKey). g k ≡ None) same no_key in
            absurd (cc)
        | inr other ↦ at_false _ (Some row.template.id.0) (g r.template.key) other ∙ t.rows id r old.1
      ]
    ]

    insert_keys : (key : TemplateKey) (id : ℕ) → id_put g row.template.key (Some row.template.id.0) key ≡ Some id → (r : TemplateRow) × (row_put f row.template.id.0 (Some row) id ≡ Some r) × (r.template.key ≡ key)
    insert_keys key id e = elim (updated (key_same row.template.key key) (Some row.template.id.0) (g key) id e) [
      | inl new ↦
          let place : row.template.id.0 ≡ id = cc in
          (row, subst (λ (n : ℕ). row_put f row.template.id.0 (Some row) n ≡ Some row) place (row_here f row.template.id.0 (Some row)), key_at_is row.template.key key new.0)
      | inr old ↦
          let was = t.keys key id old.1 in
          elim (tested (is_eq (nat_cmp row.template.id.0 id))) [
            | inl tie ↦
                let same = nat_at_is row.template.id.0 id tie in
                let not_new : f id ≡ None = subst (λ (n : ℕ). f n ≡ None) same no_id in
                let found = was.1 in
                absurd (cc)
            | inr other ↦ (was.0, at_false _ (Some row) (f id) other ∙ was.1, was.2)
          ]
    ]

    insert_ids : (id : ℕ) (r : TemplateRow) → row_put f row.template.id.0 (Some row) id ≡ Some r → r.template.id.0 ≡ id
    insert_ids id r e = elim (updated (is_eq (nat_cmp row.template.id.0 id)) (Some row) (f id) r e) [
      | inl new ↦
          let same : row ≡ r = cc in
          let place = nat_at_is row.template.id.0 id new.0 in
          subst (λ (x : TemplateRow). x.template.id.0 ≡ id) same place
      | inr old ↦ t.ids id r old.1
    ]

    pub tied_insert : AreTied (row_put f row.template.id.0 (Some row)) (id_put g row.template.key (Some row.template.id.0))
    tied_insert = record { ids = insert_ids; rows = insert_rows; keys = insert_keys }

  -- a row in the place of one of the same id and key
  module _ (old row : TemplateRow) (was : f row.template.id.0 ≡ Some old) (same_key : old.template.key ≡ row.template.key) where
    over_ids : (id : ℕ) (r : TemplateRow) → row_put f row.template.id.0 (Some row) id ≡ Some r → r.template.id.0 ≡ id
    over_ids id r e = elim (updated (is_eq (nat_cmp row.template.id.0 id)) (Some row) (f id) r e) [
      | inl new ↦
          let same : row ≡ r = cc in
          subst (λ (x : TemplateRow). x.template.id.0 ≡ id) same (nat_at_is row.template.id.0 id new.0)
      | inr before ↦ t.ids id r before.1
    ]

    over_rows : (id : ℕ) (r : TemplateRow) → row_put f row.template.id.0 (Some row) id ≡ Some r → g r.template.key ≡ Some id
    over_rows id r e = elim (updated (is_eq (nat_cmp row.template.id.0 id)) (Some row) (f id) r e) [
      | inl new ↦
          let same : row ≡ r = cc in
          let place = nat_at_is row.template.id.0 id new.0 in
          let led = t.rows row.template.id.0 old was in
          let led_by_new = subst (λ (k : TemplateKey). g k ≡ Some row.template.id.0) same_key led in
          subst (λ (x : TemplateRow). g x.template.key ≡ Some id) same (led_by_new ∙ ap (λ n. Some n) place)
      | inr before ↦ t.rows id r before.1
    ]

    over_keys : (key : TemplateKey) (id : ℕ) → g key ≡ Some id → (r : TemplateRow) × (row_put f row.template.id.0 (Some row) id ≡ Some r) × (r.template.key ≡ key)
    over_keys key id e =
        let led = t.keys key id e in
        elim (tested (is_eq (nat_cmp row.template.id.0 id))) [
          | inl tie ↦
              let place = nat_at_is row.template.id.0 id tie in
              let found = led.1 in
              let there : f id ≡ Some old = subst (λ (n : ℕ). f n ≡ Some old) place was in
              let same : led.0 ≡ old = cc in
              (row, at_true _ (Some row) (f id) tie, sym same_key ∙ ap (λ (x : TemplateRow). x.template.key) (sym same) ∙ led.2)
          | inr other ↦ (led.0, at_false _ (Some row) (f id) other ∙ led.1, led.2)
        ]

    pub tied_over : AreTied (row_put f row.template.id.0 (Some row)) g
    tied_over = record { ids = over_ids; rows = over_rows; keys = over_keys }

  -- without the row of a key
  module _ (key : TemplateKey) (id : ℕ) (led : g key ≡ Some id) where
    leave_ids : (q : ℕ) (r : TemplateRow) → row_put f id None q ≡ Some r → r.template.id.0 ≡ q
    leave_ids q r e = elim (updated (is_eq (nat_cmp id q)) None (f q) r e) [
      | inl gone ↦ let no = gone.1 in absurd (cc)
      | inr old ↦ t.ids q r old.1
    ]

    leave_rows : (q : ℕ) (r : TemplateRow) → row_put f id None q ≡ Some r → id_put g key None r.template.key ≡ Some q
    leave_rows q r e = elim (updated (is_eq (nat_cmp id q)) None (f q) r e) [
      | inl gone ↦ let no = gone.1 in absurd (cc)
      | inr old ↦ elim (tested (key_same key r.template.key)) [
        | inl tie ↦
            let same = key_at_is key r.template.key tie in
            let mine = t.rows q r old.1 in
            let its : g r.template.key ≡ Some id = subst (λ (k : TemplateKey). g k ≡ Some id) same led in
            let place : id ≡ q = cc in
            let hit = subst (λ (n : ℕ). is_eq (nat_cmp id n) ≡ true) place (nat_at_own id) in
            let missed = old.0 in
            absurd (cc)
        | inr other ↦ at_false _ None (g r.template.key) other ∙ t.rows q r old.1
      ]
    ]

    leave_keys : (k : TemplateKey) (q : ℕ) → id_put g key None k ≡ Some q → (r : TemplateRow) × (row_put f id None q ≡ Some r) × (r.template.key ≡ k)
    leave_keys k q e = elim (updated (key_same key k) None (g k) q e) [
      | inl gone ↦ let no = gone.1 in absurd (cc)
      | inr old ↦
          let mine = t.keys k q old.1 in
          elim (tested (is_eq (nat_cmp id q))) [
            | inl tie ↦
                let place = nat_at_is id q tie in
                let its = t.keys key id led in
                let found : f q ≡ Some its.0 = subst (λ (n : ℕ). f n ≡ Some its.0) place its.1 in
                let there = mine.1 in
                let same : its.0 ≡ mine.0 = cc in
                let keys : key ≡ k = sym its.2 ∙ ap (λ (x : TemplateRow). x.template.key) same ∙ mine.2 in
                let hit = subst (λ (x : TemplateKey). key_same key x ≡ true) keys (key_at_own key) in
                let missed = old.0 in
                absurd (cc)
            | inr other ↦ (mine.0, at_false _ None (f q) other ∙ mine.1, mine.2)
          ]
    ]

    pub tied_leave : AreTied (row_put f id None) (id_put g key None)
    tied_leave = record { ids = leave_ids; rows = leave_rows; keys = leave_keys }

  -- a change of each row that keeps its id and its key
  module _ (h : TemplateRow → TemplateRow) (keeps_id : (r : TemplateRow) → (h r).template.id ≡ r.template.id) (keeps_key : (r : TemplateRow) → (h r).template.key ≡ r.template.key) where
    mapped : (o : Option TemplateRow) (r : TemplateRow) → option_map h o ≡ Some r → (x : TemplateRow) × (o ≡ Some x) × (h x ≡ r)
    mapped None r e = absurd (cc)
    mapped (Some x) r e = let same : h x ≡ r = cc in (x, refl, same)

    each_ids : (id : ℕ) (r : TemplateRow) → option_map h (f id) ≡ Some r → r.template.id.0 ≡ id
    each_ids id r e = let was = mapped (f id) r e in
        ap (λ (x : TemplateRow). x.template.id.0) (sym was.2) ∙ ap (λ i. i.0) (keeps_id was.0) ∙ t.ids id was.0 was.1

    each_rows : (id : ℕ) (r : TemplateRow) → option_map h (f id) ≡ Some r → g r.template.key ≡ Some id
    each_rows id r e = let was = mapped (f id) r e in
        ap (λ (x : TemplateRow). g x.template.key) (sym was.2) ∙ ap g (keeps_key was.0) ∙ t.rows id was.0 was.1

    each_keys : (key : TemplateKey) (id : ℕ) → g key ≡ Some id → (r : TemplateRow) × (option_map h (f id) ≡ Some r) × (r.template.key ≡ key)
    each_keys key id e = let was = t.keys key id e in (h was.0, ap (option_map h) was.1, keeps_key was.0 ∙ was.2)

    pub tied_each : AreTied (λ id. option_map h (f id)) g
    tied_each = record { ids = each_ids; rows = each_rows; keys = each_keys }
