-- What ties the pool, the lists and the next id, through each move of a server.
use Rattle.std.proofs.Common.{◌≡◌, ℕ, ◌<◌, ◌+◌, Bool, true, false, ◌&&◌, cond, refl, sym, ap, ◌∙◌, subst, List, [], ◌∷◌, ◌++◌, Option, Some, None, IsSomeAnd, arith, not, map}
use Rattle.std.specs.List.{AllByRecursion, find, filter}
use Rattle.std.proofs.lemmas.Option.{none-some, same_Some}
use Rattle.lvs_types.specs.declared.addr.DestId.{DestId}
use Rattle.lvs_types.specs.declared.service.ServiceKey.{ServiceKey}
use Rattle.lvs_types.specs.declared.dest.DestRow.{DestRow}
use Rattle.lvs_types.specs.declared.dest.Candidate.{Candidate}
use Rattle.lvs_model.specs.Same.{service_key_eq}
use Rattle.lvs_model.specs.Lists.{without}
use Rattle.lvs_dests.specs.declared.place.ServiceName.{ServiceName}
use Rattle.lvs_dests.specs.declared.lists.Lists.{Lists}
use Rattle.lvs_dests.specs.declared.pool.Pool.{Pool}
use Rattle.lvs_dests.specs.Rows.{DestsSeen, has_row_id, row_at, replaced, changed, change, bound, ended, shifted, held, unheld, is_row_of, is_row_released, is_unnamed, candidate_of_row, candidates_of}
use Rattle.lvs_dests.specs.Places.{name_of}
use Rattle.lvs_dests.specs.Lists.{has_candidate_id, list_at, list_put}
use Rattle.lvs_dests.specs.Pool.{IsWhole, rows_of, DifferInId}
use Rattle.lvs_dests.specs.Dests.{IsTied, IsRevision}
use Rattle.lvs_dests.proofs.Same.{at_true, id_is, key_own}
use Rattle.lvs_dests.proofs.Found.{find_passes}
use Rattle.lvs_dests.proofs.Whole.{pool_apart}
use Rattle.lvs_dests.proofs.Listed.{AreServed, shown, only_found, served_replaced, served_still, served_pushed, and_on, and_off, off_and, hidden_by}
use Rattle.lvs_dests.proofs.Narrow.{of_found, replaced_some, changed_one, all_replaced, all_push, weaker_below}

-- the ids of some rows were drawn before this one
abbrev pub AreBelow : ℕ → List DestRow → Type 0
AreBelow next rows = AllByRecursion (λ (row : DestRow). row.dest.id.0 < next) rows

abbrev pub seen_of : List DestRow → ℕ → DestsSeen
seen_of rows next = record { rows = rows; next = next }

below_by : (next : ℕ) (row : DestRow) (rows : List DestRow) (b : Bool) → row.dest.id.0 < next → AreBelow next rows → AreBelow next (cond b (row ∷ rows) rows)
below_by next row rows true here all = (here, all)
below_by next row rows false here all = all

pub below_reaped : (next : ℕ) (rows : List DestRow) → AreBelow next rows → AreBelow next (without is_row_released rows)
below_reaped next [] all = tt
below_reaped next (row ∷ rows) all = below_by next row (without is_row_released rows) (not (is_row_released row)) all.0 (below_reaped next rows all.1)

-- a server in the trash is in no list
reaped_by : (key : ServiceKey) (row : DestRow) (left rows : List DestRow) (live unnamed : Bool) → row.dest.live ≡ live → candidates_of key left ≡ candidates_of key rows → candidates_of key (cond (not (not live && unnamed)) (row ∷ left) left) ≡ candidates_of key (row ∷ rows)
reaped_by key row left rows true unnamed is rest = next_by (is_row_of key row) rest
  where
    next_by : (b : Bool) → candidates_of key left ≡ candidates_of key rows → map candidate_of_row (cond b (row ∷ filter (is_row_of key) left) (filter (is_row_of key) left)) ≡ map candidate_of_row (cond b (row ∷ filter (is_row_of key) rows) (filter (is_row_of key) rows))
    next_by true same = ap (λ cs. candidate_of_row row ∷ cs) same
    next_by false same = same
reaped_by key row left rows false true is rest =
    rest ∙ sym (ap (λ b. map candidate_of_row (cond b (row ∷ filter (is_row_of key) rows) (filter (is_row_of key) rows))) (off_and row.dest.live (service_key_eq row.dest.service key) is))
reaped_by key row left rows false false is rest = next_by (is_row_of key row) rest
  where
    next_by : (b : Bool) → candidates_of key left ≡ candidates_of key rows → map candidate_of_row (cond b (row ∷ filter (is_row_of key) left) (filter (is_row_of key) left)) ≡ map candidate_of_row (cond b (row ∷ filter (is_row_of key) rows) (filter (is_row_of key) rows))
    next_by true same = ap (λ cs. candidate_of_row row ∷ cs) same
    next_by false same = same

pub listed_reaped : (key : ServiceKey) (rows : List DestRow) → candidates_of key (without is_row_released rows) ≡ candidates_of key rows
listed_reaped key [] = refl
listed_reaped key (row ∷ rows) = reaped_by key row (without is_row_released rows) rows row.dest.live (is_unnamed row) refl (listed_reaped key rows)

pub tied_by : (pool : Pool) (lists : Lists) (next : ℕ) (rows : List DestRow) → IsWhole pool → rows_of pool ≡ rows → AreServed (list_at lists) rows → AreBelow next rows → IsTied pool lists next
tied_by pool lists next rows whole is served below = record {
  whole = whole;
  served = subst (λ (rs : List DestRow). AreServed (list_at lists) rs) (sym is) served;
  below = subst (λ (rs : List DestRow). AreBelow next rs) (sym is) below;
}

module _ (pool : Pool) (lists : Lists) (next : ℕ) (tied : IsTied pool lists next) where
  -- the same but for memory
  pub tied_same : (pool' : Pool) (lists' : Lists) → IsWhole pool' → rows_of pool' ≡ rows_of pool → ((n : ServiceName) → list_at lists' n ≡ list_at lists n) → IsTied pool' lists' next
  tied_same pool' lists' whole is same = tied_by pool' lists' next (rows_of pool) whole is (λ key. same (name_of key) ∙ tied.served key) tied.below

  pub id_below : (id : DestId) (x : DestRow) → row_at id (rows_of pool) ≡ Some x → x.dest.id.0 < next
  id_below id x found = of_found (λ (row : DestRow). row.dest.id.0 < next) (has_row_id id) x (rows_of pool) found tied.below

  -- ---- another content

  module _ (row old : DestRow) (found : row_at row.dest.id (rows_of pool) ≡ Some old) (r : IsRevision old row) where
    abbrev other_list : List Candidate → List Candidate
    other_list cs = changed (has_candidate_id row.dest.id) (λ _. candidate_of_row row) cs

    same_id : old.dest.id ≡ row.dest.id
    same_id = id_is old.dest.id row.dest.id (find_passes (has_row_id row.dest.id) old (rows_of pool) found)

    revised_below : AreBelow next (replaced (has_row_id row.dest.id) (Some row) (rows_of pool))
    revised_below =
        all_replaced (λ (x : DestRow). x.dest.id.0 < next) (has_row_id row.dest.id) (Some row) (rows_of pool)
        (λ x is. subst (λ (y : DestRow). y.dest.id.0 < next) (same_Some row x is) (subst (λ (id : DestId). id.0 < next) same_id (id_below row.dest.id old found))) tied.below

    revised_served : (lists' : Lists) (b : Bool) → row.dest.live ≡ b → ((n : ServiceName) → list_at lists' n ≡ cond b (list_put (list_at lists) (name_of row.dest.service) (other_list (list_at lists (name_of row.dest.service))) n) (list_at lists n)) → AreServed (list_at lists') (replaced (has_row_id row.dest.id) (Some row) (rows_of pool))
    revised_served lists' true live put =
        let only = only_found row.dest.id old (rows_of pool) found (pool_apart pool tied.whole) in
        let is_shown : shown old.dest.service (Some row) ≡ Some (candidate_of_row row) =
        at_true (is_row_of old.dest.service row) (Some (candidate_of_row row)) None
        (and_on row.dest.live (service_key_eq row.dest.service old.dest.service) live (ap (λ (k : ServiceKey). service_key_eq k old.dest.service) (sym r.service) ∙ key_own old.dest.service)) in
        let list_is : (cs : List Candidate) → other_list cs ≡ replaced (has_candidate_id row.dest.id) (shown old.dest.service (Some row)) cs =
        λ cs. sym (replaced_some (has_candidate_id row.dest.id) (candidate_of_row row) cs) ∙ ap (λ (o : Option Candidate). replaced (has_candidate_id row.dest.id) o cs) (sym is_shown) in
        served_replaced (list_at lists) (list_at lists') row.dest.id old (rows_of pool) tied.served only (r.live ∙ live) (Some row)
        (λ key away. hidden_by key row (and_off row.dest.live (service_key_eq row.dest.service key) (ap (λ (k : ServiceKey). service_key_eq k key) (sym r.service) ∙ away)))
        (λ n. put n
        ∙ ap (λ (k : ServiceKey). list_put (list_at lists) (name_of k) (other_list (list_at lists (name_of k))) n) (sym r.service)
        ∙ ap (λ (cs : List Candidate). list_put (list_at lists) (name_of old.dest.service) cs n) (list_is (list_at lists (name_of old.dest.service))))
    revised_served lists' false live put =
        let only = only_found row.dest.id old (rows_of pool) found (pool_apart pool tied.whole) in
        served_still (list_at lists) (list_at lists') row.dest.id old (rows_of pool) tied.served only (r.live ∙ live) (Some row)
        (λ key. hidden_by key row (off_and row.dest.live (service_key_eq row.dest.service key) live)) put

    pub tied_revise : (pool' : Pool) (lists' : Lists) → IsWhole pool' → rows_of pool' ≡ replaced (has_row_id row.dest.id) (Some row) (rows_of pool)
        → ((n : ServiceName) → list_at lists' n ≡ cond row.dest.live (list_put (list_at lists) (name_of row.dest.service) (other_list (list_at lists (name_of row.dest.service))) n) (list_at lists n)) → IsTied pool' lists' next
    tied_revise pool' lists' whole is put =
        tied_by pool' lists' next (replaced (has_row_id row.dest.id) (Some row) (rows_of pool)) whole is (revised_served lists' row.dest.live refl put) revised_below

  -- ---- a server leaves its service

  module _ (x : DestRow) (found : row_at x.dest.id (rows_of pool) ≡ Some x) (live : x.dest.live ≡ true) (w : Option DestRow) (hidden : (key : ServiceKey) → shown key w ≡ None) (same : (y : DestRow) → w ≡ Some y → y.dest.id ≡ x.dest.id) where
    pub tied_leave : (pool' : Pool) (lists' : Lists) → IsWhole pool' → rows_of pool' ≡ replaced (has_row_id x.dest.id) w (rows_of pool)
        → ((n : ServiceName) → list_at lists' n ≡ list_put (list_at lists) (name_of x.dest.service) (replaced (has_candidate_id x.dest.id) None (list_at lists (name_of x.dest.service))) n) → IsTied pool' lists' next
    tied_leave pool' lists' whole is put =
        tied_by pool' lists' next (replaced (has_row_id x.dest.id) w (rows_of pool)) whole is
        (served_replaced (list_at lists) (list_at lists') x.dest.id x (rows_of pool) tied.served (only_found x.dest.id x (rows_of pool) found (pool_apart pool tied.whole)) live w (λ key away. hidden key)
        (λ n. put n ∙ ap (λ (o : Option Candidate). list_put (list_at lists) (name_of x.dest.service) (replaced (has_candidate_id x.dest.id) o (list_at lists (name_of x.dest.service))) n) (sym (hidden x.dest.service))))
        (all_replaced (λ (y : DestRow). y.dest.id.0 < next) (has_row_id x.dest.id) w (rows_of pool) (λ y at. subst (λ (id : DestId). id.0 < next) (sym (same y at)) (id_below x.dest.id x found)) tied.below)

  -- ---- a server comes back from the trash

  pub tied_return : (x y : DestRow) → row_at y.dest.id (rows_of pool) ≡ Some x → x.dest.live ≡ false → y.dest.live ≡ true → (pool' : Pool) (roomy lists' : Lists) → IsWhole pool' → rows_of pool' ≡ replaced (has_row_id y.dest.id) None (rows_of pool) ++ y ∷ []
      → ((n : ServiceName) → list_at roomy n ≡ list_at lists n) → ((n : ServiceName) → list_at lists' n ≡ list_put (list_at roomy) (name_of y.dest.service) (list_at roomy (name_of y.dest.service) ++ candidate_of_row y ∷ []) n) → IsTied pool' lists' next
  tied_return x y found trashed live pool' roomy lists' whole is same put =
      let left = replaced (has_row_id y.dest.id) None (rows_of pool) in
      let only = only_found y.dest.id x (rows_of pool) found (pool_apart pool tied.whole) in
      let served = served_still (list_at lists) (list_at roomy) y.dest.id x (rows_of pool) tied.served only trashed None (λ key. refl) same in
      let same_id : x.dest.id ≡ y.dest.id = id_is x.dest.id y.dest.id (find_passes (has_row_id y.dest.id) x (rows_of pool) found) in
      let below = all_replaced (λ (z : DestRow). z.dest.id.0 < next) (has_row_id y.dest.id) None (rows_of pool) (λ z at. absurd (none-some z at)) tied.below in
      let here : y.dest.id.0 < next = subst (λ (id : DestId). id.0 < next) same_id (id_below y.dest.id x found) in
      tied_by pool' lists' next (left ++ y ∷ []) whole is (served_pushed (list_at roomy) (list_at lists') y left served live put) (all_push (λ (z : DestRow). z.dest.id.0 < next) y left here below)

  -- ---- a new server

  pub tied_enter : (y : DestRow) → y.dest.id.0 ≡ next → y.dest.live ≡ true → (pool' : Pool) (roomy lists' : Lists) → IsWhole pool' → rows_of pool' ≡ rows_of pool ++ y ∷ []
      → ((n : ServiceName) → list_at roomy n ≡ list_at lists n) → ((n : ServiceName) → list_at lists' n ≡ list_put (list_at roomy) (name_of y.dest.service) (list_at roomy (name_of y.dest.service) ++ candidate_of_row y ∷ []) n) → IsTied pool' lists' (next + 1)
  tied_enter y drawn live pool' roomy lists' whole is same put =
      let served : AreServed (list_at roomy) (rows_of pool) = λ key. same (name_of key) ∙ tied.served key in
      tied_by pool' lists' (next + 1) (rows_of pool ++ y ∷ []) whole is (served_pushed (list_at roomy) (list_at lists') y (rows_of pool) served live put)
      (all_push (λ (z : DestRow). z.dest.id.0 < next + 1) y (rows_of pool) (omega (arith, drawn)) (weaker_below next (rows_of pool) tied.below))

  -- ---- servers in the trash are released

  pub tied_reap : (pool' : Pool) → IsWhole pool' → rows_of pool' ≡ without is_row_released (rows_of pool) → IsTied pool' lists next
  tied_reap pool' whole is =
      tied_by pool' lists next (without is_row_released (rows_of pool)) whole is (λ key. tied.served key ∙ sym (listed_reaped key (rows_of pool))) (below_reaped next (rows_of pool) tied.below)

-- ---- what was found

pub some_get : {X : Type 0} (P : X → Type 0) (o : Option X) → IsSomeAnd o P → (x : X) × (o ≡ Some x) × P x
some_get P None it = absurd it
some_get P (Some x) it = (x, refl, it)

missed_by : (p : DestRow → Bool) (f : DestRow → DestRow) (row : DestRow) (rows : List DestRow) (b : Bool) → (find p rows ≡ None → rows ≡ changed p f rows) → cond b (Some row) (find p rows) ≡ None → row ∷ rows ≡ cond b (f row) row ∷ changed p f rows
missed_by p f row rows true rest none = absurd (none-some row (sym none))
missed_by p f row rows false rest none = ap (λ rs. row ∷ rs) (rest none)

unchanged : (p : DestRow → Bool) (f : DestRow → DestRow) (rows : List DestRow) → find p rows ≡ None → rows ≡ changed p f rows
unchanged p f [] none = refl
unchanged p f (row ∷ rows) none = missed_by p f row rows (p row) (unchanged p f rows) none

-- an id that isn't there changes nothing
pub change_missed : (id : DestId) (f : DestRow → DestRow) (seen : DestsSeen) → row_at id seen.rows ≡ None → seen ≡ change id f seen
change_missed id f seen none = ap (λ (rows : List DestRow). seen_of rows seen.next) (unchanged (has_row_id id) f seen.rows none)

-- a server with another content is changed in the list of all
pub revise_changed : (pool pool' : Pool) (next : ℕ) (seen : DestsSeen) (row : DestRow) → record { rows = rows_of pool; next = next } ≡ seen → DifferInId (rows_of pool) → rows_of pool' ≡ replaced (has_row_id row.dest.id) (Some row) (rows_of pool)
    → (f : DestRow → DestRow) (old : DestRow) → row_at row.dest.id seen.rows ≡ Some old → f old ≡ row → record { rows = rows_of pool'; next = next } ≡ change row.dest.id f seen
revise_changed pool pool' next seen row view apart rows f old found is =
    let p = has_row_id row.dest.id in
    let here : row_at row.dest.id (rows_of pool) ≡ Some old = ap (λ (s : DestsSeen). row_at row.dest.id s.rows) view ∙ found in
    let passes = find_passes p old (rows_of pool) here in
    let only = only_found row.dest.id old (rows_of pool) here apart in
    let after : rows_of pool' ≡ changed p f (rows_of pool) =
    rows ∙ ap (λ (r : DestRow). replaced p (Some r) (rows_of pool)) (sym is) ∙ sym (changed_one p p f old (rows_of pool) passes passes only only) in
    ap (λ (rs : List DestRow). seen_of rs next) after ∙ ap (change row.dest.id f) view

module _ (f : DestRow → DestRow) (keeps : (z : DestRow) → IsRevision z (f z)) (same : (z : DestRow) → (f z).dest.id ≡ z.dest.id) (id : DestId) (seen : DestsSeen) (x y : DestRow) (found : Some x ≡ row_at id seen.rows) (is : y ≡ f x) where
  the_id : y.dest.id ≡ id
  the_id = ap (λ (r : DestRow). r.dest.id) is ∙ same x ∙ id_is x.dest.id id (find_passes (has_row_id id) x seen.rows (sym found))

  found_here : row_at y.dest.id seen.rows ≡ Some x
  found_here = ap (λ (i : DestId). row_at i seen.rows) the_id ∙ sym found

  -- the condition of a revision
  pub counted_there : IsSomeAnd (row_at y.dest.id seen.rows) (λ old. IsRevision old y)
  counted_there =
      subst (λ (o : Option DestRow). IsSomeAnd o (λ old. IsRevision old y)) (sym found_here) (subst (λ (r : DestRow). IsRevision x r) (sym is) (keeps x))

  -- what is said of each change that makes this of the server is said of its own
  pub counted_for : (P : DestsSeen → Type 0) → ((g : DestRow → DestRow) (old : DestRow) → row_at y.dest.id seen.rows ≡ Some old → g old ≡ y → P (change y.dest.id g seen)) → P (change id f seen)
  counted_for P changes = subst (λ (i : DestId). P (change i f seen)) the_id (changes f x found_here (sym is))

  -- and what it leaves
  pub counted_change : (new : DestsSeen) → ((g : DestRow → DestRow) (old : DestRow) → row_at y.dest.id seen.rows ≡ Some old → g old ≡ y → new ≡ change y.dest.id g seen) → new ≡ change id f seen
  counted_change new changes = changes f x found_here (sym is) ∙ ap (λ (i : DestId). change i f seen) the_id

-- ---- each event keeps the id, the place and the service

pub bound_keeps : (active : Bool) (z : DestRow) → IsRevision z (bound active z)
bound_keeps true z = record { place = refl; service = refl; live = refl }
bound_keeps false z = record { place = refl; service = refl; live = refl }

pub bound_id : (active : Bool) (z : DestRow) → (bound active z).dest.id ≡ z.dest.id
bound_id true z = refl
bound_id false z = refl

pub ended_keeps : (active : Bool) (z : DestRow) → IsRevision z (ended active z)
ended_keeps true z = record { place = refl; service = refl; live = refl }
ended_keeps false z = record { place = refl; service = refl; live = refl }

pub ended_id : (active : Bool) (z : DestRow) → (ended active z).dest.id ≡ z.dest.id
ended_id true z = refl
ended_id false z = refl

pub shifted_keeps : (active : Bool) (z : DestRow) → IsRevision z (shifted active z)
shifted_keeps true z = record { place = refl; service = refl; live = refl }
shifted_keeps false z = record { place = refl; service = refl; live = refl }

pub shifted_id : (active : Bool) (z : DestRow) → (shifted active z).dest.id ≡ z.dest.id
shifted_id true z = refl
shifted_id false z = refl

pub held_keeps : (z : DestRow) → IsRevision z (held z)
held_keeps z = record { place = refl; service = refl; live = refl }

pub unheld_keeps : (z : DestRow) → IsRevision z (unheld z)
unheld_keeps z = record { place = refl; service = refl; live = refl }
