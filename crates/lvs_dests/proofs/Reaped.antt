-- The release of the servers in the trash that nothing names, one after another.
use Rattle.std.proofs.Common.{◌≡◌, ◌≢◌, ℕ, ◌<◌, ◌≤◌, ◌+◌, inl, inr, Bool, true, false, not, cond, refl, sym, ap, ◌∙◌, subst, List, [], ◌∷◌, Option, Some, None, count_by, arith, length, zero-add}
use Rattle.std.specs.List.{AllByRecursion, list_any, cons_option}
use Rattle.std.proofs.lemmas.Bool.{cases_lt, cases_eq}
use Rattle.std.proofs.lemmas.List.{get_or_past}
use Rattle.std.proofs.lemmas.Option.{none-some, same_Some}
use Rattle.std.proofs.lemmas.List.Sums.{sum_by-cons}
use Rattle.lvs_types.specs.declared.addr.DestId.{DestId}
use Rattle.lvs_types.specs.declared.dest.DestRow.{DestRow}
use Rattle.lvs_model.specs.Lists.{without}
use Rattle.lvs_dests.specs.declared.slots.Slot.{Slot}
use Rattle.lvs_dests.specs.declared.pool.Pool.{Pool}
use Rattle.lvs_dests.specs.Rows.{has_row_id, row_at, replaced, is_row_released}
use Rattle.lvs_dests.specs.Pool.{DifferInId, IsWhole, rows_of, slot_at, is_over_at}
use Rattle.lvs_dests.proofs.Same.{id_is}
use Rattle.lvs_dests.proofs.Found.{rows_all}
use Rattle.lvs_dests.proofs.Listed.{IsOnly, only_found, neither}
use Rattle.lvs_dests.proofs.Narrow.{untouched}
use Rattle.lvs_dests.proofs.Whole.{id_found, pool_apart}

pub over_there : (o : Option Slot) → is_over_at o ≡ true → (slot : Slot) × (o ≡ Some slot) × (is_row_released slot.row ≡ true)
over_there None over = absurd (cc)
over_there (Some slot) over = (slot, refl, over)

module _ (id : DestId) (x : DestRow) where
  kept_by : (row : DestRow) (left rows : List DestRow) (b : Bool) → (b ≡ true → is_row_released row ≡ true) → without is_row_released left ≡ without is_row_released rows → without is_row_released (cons_option (cond b None (Some row)) left) ≡ without is_row_released (row ∷ rows)
  kept_by row left rows true over rest = rest ∙ sym (ap (λ t. cond (not t) (row ∷ without is_row_released rows) (without is_row_released rows)) (over refl))
  kept_by row left rows false over rest = ap (λ rs. cond (not (is_row_released row)) (row ∷ rs) rs) rest

  -- the others stay
  pub rest_kept : (rows : List DestRow) → IsOnly id x rows → is_row_released x ≡ true → without is_row_released (replaced (has_row_id id) None rows) ≡ without is_row_released rows
  rest_kept [] only over = refl
  rest_kept (row ∷ rows) only over =
      kept_by row (replaced (has_row_id id) None rows) rows (has_row_id id row) (λ holds. ap is_row_released (only.0 holds) ∙ over) (rest_kept rows only.1 over)

none_has : (p : DestRow → Bool) (rows : List DestRow) → list_any p rows ≡ false → AllByRecursion (λ row. p row ≡ false) rows
none_has p [] none = tt
none_has p (row ∷ rows) none = let parts = neither (p row) (list_any p rows) none in (parts.0, none_has p rows parts.1)

count_cons : (row : DestRow) (rows : List DestRow) → count_by is_row_released (row ∷ rows) ≡ cond {A = ℕ} (is_row_released row) 1 0 + count_by is_row_released rows
count_cons row rows = sum_by-cons (λ r. cond (is_row_released r) 1 0) row rows

count_gone : (row : DestRow) (rows : List DestRow) → is_row_released row ≡ true → 1 + count_by is_row_released rows ≡ count_by is_row_released (row ∷ rows)
count_gone row rows over = let counted = count_cons row rows in let one : cond {A = ℕ} (is_row_released row) 1 0 ≡ 1 = ap (λ (t : Bool). cond {A = ℕ} t 1 0) over in omega arith

count_kept : (row : DestRow) (left rows : List DestRow) → 1 + count_by is_row_released left ≡ count_by is_row_released rows → 1 + count_by is_row_released (row ∷ left) ≡ count_by is_row_released (row ∷ rows)
count_kept row left rows rest = let a = count_cons row left in let b = count_cons row rows in omega arith

count_step : (id : DestId) (x row : DestRow) (rows : List DestRow) (b : Bool) → has_row_id id row ≡ b → cond b (Some row) (row_at id rows) ≡ Some x → list_any (has_row_id row.dest.id) rows ≡ false → is_row_released x ≡ true → (row_at id rows ≡ Some x → 1 + count_by is_row_released (replaced (has_row_id id) None rows) ≡ count_by is_row_released rows)
    → 1 + count_by is_row_released (cons_option (cond b None (Some row)) (replaced (has_row_id id) None rows)) ≡ count_by is_row_released (row ∷ rows)
count_step id x row rows true is found apart over rest =
    let same : row.dest.id ≡ id = id_is row.dest.id id is in
    let none = subst (λ (i : DestId). list_any (has_row_id i) rows ≡ false) same apart in
    let left : replaced (has_row_id id) None rows ≡ rows = untouched (has_row_id id) None rows (none_has (has_row_id id) rows none) in
    ap (λ rs. 1 + count_by is_row_released rs) left ∙ count_gone row rows (ap is_row_released (same_Some row x found) ∙ over)
count_step id x row rows false is found apart over rest = count_kept row (replaced (has_row_id id) None rows) rows (rest found)

-- one less is to be released
pub count_less : (id : DestId) (x : DestRow) (rows : List DestRow) → row_at id rows ≡ Some x → DifferInId rows → is_row_released x ≡ true → 1 + count_by is_row_released (replaced (has_row_id id) None rows) ≡ count_by is_row_released rows
count_less id x [] found apart over = absurd (none-some x found)
count_less id x (row ∷ rows) found apart over =
    count_step id x row rows (has_row_id id row) refl found apart.0 over (λ later. count_less id x rows later apart.1 over)

-- ---- once every key was looked at

over_by : (pool : Pool) (key : ℕ) (slot : Slot) → slot_at pool key ≡ Some slot → is_over_at (slot_at pool key) ≡ false → is_row_released slot.row ≡ false
over_by pool key slot there off = sym (ap is_over_at there) ∙ off

pub none_left : (pool : Pool) (end : ℕ) → ((key : ℕ) → key < end → is_over_at (slot_at pool key) ≡ false) → ((key : ℕ) → end ≤ key → slot_at pool key ≡ None) → AllByRecursion (λ row. is_row_released row ≡ false) (rows_of pool)
none_left pool end done past =
    rows_all (λ (row : DestRow). is_row_released row ≡ false) pool.slab.slots
    (λ key slot there. elim (cases_lt key end) [
      | inl less ↦ over_by pool key slot there (done key less)
      | inr more ↦ absurd (none-some slot (sym (past key more) ∙ there))
    ])

pub none_counted : (rows : List DestRow) → AllByRecursion (λ row. is_row_released row ≡ false) rows → count_by is_row_released rows ≡ 0
none_counted [] all = refl
none_counted (row ∷ rows) all =
    let counted = count_cons row rows in
    let none : cond {A = ℕ} (is_row_released row) 1 0 ≡ 0 = ap (λ (t : Bool). cond {A = ℕ} t 1 0) all.0 in
    let rest = none_counted rows all.1 in
    omega arith

pub none_without : (rows : List DestRow) → AllByRecursion (λ row. is_row_released row ≡ false) rows → without is_row_released rows ≡ rows
none_without [] all = refl
none_without (row ∷ rows) all = rw (all.0, none_without rows all.1) refl

-- ---- the walk

-- what the walk has done when it comes to a key
pub record IsReaping (start now : Pool) (gone key end : ℕ) : Type 0 where
  pub whole : IsWhole now
  pub rest : without is_row_released (rows_of now) ≡ without is_row_released (rows_of start)
  pub count : gone + count_by is_row_released (rows_of now) ≡ count_by is_row_released (rows_of start)
  pub done : (other : ℕ) → other < key → is_over_at (slot_at now other) ≡ false
  pub past : (other : ℕ) → end ≤ other → slot_at now other ≡ None
  pub few : gone ≤ key

pub reaping_is : (start a b : Pool) (gone other key end : ℕ) → a ≡ b → gone ≡ other → IsReaping start b other key end → IsReaping start a gone key end
reaping_is start a b gone other key end same count r =
    subst (λ (p : Pool). IsReaping start p gone key end) (sym same) (subst (λ (n : ℕ). IsReaping start b n key end) (sym count) r)

pub reaping_begins : (start : Pool) (end : ℕ) → IsWhole start → length start.slab.slots ≤ end → IsReaping start start 0 0 end
reaping_begins start end whole long = record {
  whole = whole;
  rest = refl;
  count = zero-add (count_by is_row_released (rows_of start));
  done = λ other less. absurd (omega arith);
  past = λ other more. get_or_past start.slab.slots other None (omega arith);
  few = omega arith;
}

module _ (start now : Pool) (gone key end : ℕ) (r : IsReaping start now gone key end) where
  pub reaping_skips : is_over_at (slot_at now key) ≡ false → IsReaping start now gone (key + 1) end
  reaping_skips off = record {
    whole = r.whole;
    rest = r.rest;
    count = r.count;
    done = λ other less. elim (cases_lt other key) [
      | inl below ↦ r.done other below
      | inr more ↦ let same : key ≡ other = omega arith in subst (λ (n : ℕ). is_over_at (slot_at now n) ≡ false) same off
    ];
    past = r.past;
    few = let few = r.few in omega arith;
  }

  module _ (after : Pool) (slot : Slot) (there : slot_at now key ≡ Some slot) (over : is_row_released slot.row ≡ true) (whole : IsWhole after) (rows : rows_of after ≡ replaced (has_row_id slot.row.dest.id) None (rows_of now))
      (others : (other : ℕ) → other ≢ key → slot_at after other ≡ slot_at now other) (empty : slot_at after key ≡ None) where
    found : row_at slot.row.dest.id (rows_of now) ≡ Some slot.row
    found = (id_found now r.whole slot.row.dest.id key slot (r.whole.ids.found key slot there) there).1

    less : 1 + count_by is_row_released (rows_of after) ≡ count_by is_row_released (rows_of now)
    less = ap (λ rs. 1 + count_by is_row_released rs) rows ∙ count_less slot.row.dest.id slot.row (rows_of now) found (pool_apart now r.whole) over

    at_end : (other : ℕ) → end ≤ other → slot_at after other ≡ None
    at_end other more = elim (cases_eq other key) [
      | inl same ↦ subst (λ (n : ℕ). slot_at after n ≡ None) (sym same) empty
      | inr away ↦ others other away ∙ r.past other more
    ]

    pub reaping_takes : IsReaping start after (gone + 1) (key + 1) end
    reaping_takes = record {
      whole = whole;
      rest = ap (without is_row_released) rows
          ∙ rest_kept slot.row.dest.id slot.row (rows_of now) (only_found slot.row.dest.id slot.row (rows_of now) found (pool_apart now r.whole)) over ∙ r.rest;
      count = let count = r.count in let one = less in omega arith;
      done = λ other below. elim (cases_eq other key) [
        | inl same ↦ ap is_over_at (subst (λ (n : ℕ). slot_at after n ≡ None) (sym same) empty)
        | inr away ↦ ap is_over_at (others other away) ∙ r.done other (omega arith)
      ];
      past = λ other more. at_end other more;
      few = let few = r.few in omega arith;
    }

  module _ (ended : end ≤ key) where
    ended_none : AllByRecursion (λ row. is_row_released row ≡ false) (rows_of now)
    ended_none = none_left now end (λ other below. r.done other (omega arith)) r.past

    pub reaped_count : gone ≡ count_by is_row_released (rows_of start)
    reaped_count = let count = r.count in let none = none_counted (rows_of now) ended_none in omega arith

    pub reaped_rows : rows_of now ≡ without is_row_released (rows_of start)
    reaped_rows = sym (none_without (rows_of now) ended_none) ∙ r.rest
