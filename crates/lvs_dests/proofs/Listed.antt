-- The list of a service through each change of the rows.
use Rattle.std.proofs.Common.{◌≡◌, ◌≢◌, Bool, true, false, ◌&&◌, ◌||◌, cond, refl, sym, ap, ◌∙◌, subst, List, [], ◌∷◌, ◌++◌, Option, Some, None, map}
use Rattle.std.specs.List.{AllByRecursion, list_any, filter, cons_option}
use Rattle.std.proofs.lemmas.Option.{same_Some}
use Rattle.lvs_types.specs.declared.addr.DestId.{DestId}
use Rattle.lvs_types.specs.declared.service.ServiceKey.{ServiceKey}
use Rattle.lvs_types.specs.declared.dest.DestRow.{DestRow}
use Rattle.lvs_types.specs.declared.dest.Candidate.{Candidate}
use Rattle.lvs_model.specs.Same.{service_key_eq}
use Rattle.lvs_dests.specs.declared.place.ServiceName.{ServiceName}
use Rattle.lvs_dests.specs.Rows.{has_row_id, row_at, replaced, is_row_of, candidate_of_row, candidates_of}
use Rattle.lvs_dests.specs.Places.{name_of}
use Rattle.lvs_dests.specs.Lists.{has_candidate_id, list_put}
use Rattle.lvs_dests.specs.Pool.{DifferInId}
use Rattle.lvs_dests.proofs.Same.{at_true, at_false, id_is, id_own, apart_ids, key_is, key_own, name_same_key}

pub neither : (a b : Bool) → (a || b) ≡ false → (a ≡ false) × (b ≡ false)
neither true b e = absurd (cc)
neither false b e = (refl, e)

-- ---- the row of an id is the only one that has it

-- every other row has another id
abbrev pub IsOnly : DestId → DestRow → List DestRow → Type 0
IsOnly id x rows = AllByRecursion (λ (row : DestRow). has_row_id id row ≡ true → row ≡ x) rows

no_row : (id : DestId) (x row : DestRow) → has_row_id id row ≡ false → has_row_id id row ≡ true → row ≡ x
no_row id x row fails holds = absurd (cc)

none_only : (id : DestId) (x : DestRow) (rows : List DestRow) → list_any (has_row_id id) rows ≡ false → IsOnly id x rows
none_only id x [] none = tt
none_only id x (row ∷ rows) none =
    let parts = neither (has_row_id id row) (list_any (has_row_id id) rows) none in
    (no_row id x row parts.0, none_only id x rows parts.1)

only_by : (id : DestId) (x row : DestRow) (rows : List DestRow) (b : Bool) → has_row_id id row ≡ b → cond b (Some row) (row_at id rows) ≡ Some x → list_any (has_row_id row.dest.id) rows ≡ false → (row_at id rows ≡ Some x → IsOnly id x rows) → IsOnly id x (row ∷ rows)
only_by id x row rows true is found apart rest =
    let same : row.dest.id ≡ id = id_is row.dest.id id is in
    (λ holds. same_Some row x found, none_only id x rows (subst (λ (i : DestId). list_any (has_row_id i) rows ≡ false) same apart))
only_by id x row rows false is found apart rest = (no_row id x row is, rest found)

pub only_found : (id : DestId) (x : DestRow) (rows : List DestRow) → row_at id rows ≡ Some x → DifferInId rows → IsOnly id x rows
only_found id x [] found apart = tt
only_found id x (row ∷ rows) found apart = only_by id x row rows (has_row_id id row) refl found apart.0 (λ later. only_found id x rows later apart.1)

-- each row is found by its id
later_found : (row : DestRow) (rows some : List DestRow) → list_any (has_row_id row.dest.id) some ≡ false → AllByRecursion (λ (other : DestRow). row_at other.dest.id rows ≡ Some other) some → AllByRecursion (λ (other : DestRow). row_at other.dest.id (row ∷ rows) ≡ Some other) some
later_found row rows [] none all = tt
later_found row rows (other ∷ some) none all =
    let parts = neither (has_row_id row.dest.id other) (list_any (has_row_id row.dest.id) some) none in
    let away : row.dest.id ≢ other.dest.id = λ same. subst (λ (i : DestId). has_row_id i other ≡ false → ⊥) (sym same) (λ fails. let own = id_own other.dest.id in absurd (cc)) parts.0 in
    let not_here : has_row_id other.dest.id row ≡ false = apart_ids row.dest.id other.dest.id away in
    (at_false (has_row_id other.dest.id row) (Some row) (row_at other.dest.id rows) not_here ∙ all.0, later_found row rows some parts.1 all.1)

pub each_found : (rows : List DestRow) → DifferInId rows → AllByRecursion (λ (row : DestRow). row_at row.dest.id rows ≡ Some row) rows
each_found [] apart = tt
each_found (row ∷ rows) apart =
    (at_true (has_row_id row.dest.id row) (Some row) (row_at row.dest.id rows) (id_own row.dest.id), later_found row rows rows apart.0 (each_found rows apart.1))

-- ---- the live servers of a service

-- what a service shows of a row
abbrev pub shown : ServiceKey → Option DestRow → Option Candidate
shown key None = None
shown key (Some row) = cond (is_row_of key row) (Some (candidate_of_row row)) None

listed_by : (row : DestRow) (rows : List DestRow) (key : ServiceKey) (b : Bool) → map candidate_of_row (cond b (row ∷ filter (is_row_of key) rows) (filter (is_row_of key) rows)) ≡ cons_option (cond b (Some (candidate_of_row row)) None) (candidates_of key rows)
listed_by row rows key true = refl
listed_by row rows key false = refl

listed_cons : (key : ServiceKey) (row : DestRow) (rows : List DestRow) → candidates_of key (row ∷ rows) ≡ cons_option (shown key (Some row)) (candidates_of key rows)
listed_cons key row rows = listed_by row rows key (is_row_of key row)

listed_option : (key : ServiceKey) (w : Option DestRow) (rows : List DestRow) → candidates_of key (cons_option w rows) ≡ cons_option (shown key w) (candidates_of key rows)
listed_option key None rows = refl
listed_option key (Some row) rows = listed_cons key row rows

module _ (key : ServiceKey) (id : DestId) (w : Option DestRow) where
  kept_by : (row : DestRow) (cs : List Candidate) (b : Bool) → has_row_id id row ≡ false → cons_option (cond b (Some (candidate_of_row row)) None) (replaced (has_candidate_id id) (shown key w) cs) ≡ replaced (has_candidate_id id) (shown key w) (cons_option (cond b (Some (candidate_of_row row)) None) cs)
  kept_by row cs true fails = sym (ap (λ t. cons_option (cond t (shown key w) (Some (candidate_of_row row))) (replaced (has_candidate_id id) (shown key w) cs)) fails)
  kept_by row cs false fails = refl

  here_by : (row : DestRow) (cs : List Candidate) (b : Bool) → b ≡ true → has_row_id id row ≡ true → cons_option (shown key w) (replaced (has_candidate_id id) (shown key w) cs) ≡ replaced (has_candidate_id id) (shown key w) (cons_option (cond b (Some (candidate_of_row row)) None) cs)
  here_by row cs true is holds = sym (ap (λ t. cons_option (cond t (shown key w) (Some (candidate_of_row row))) (replaced (has_candidate_id id) (shown key w) cs)) holds)
  here_by row cs false is holds = absurd (cc)

  in_by : (x row : DestRow) (rows left : List DestRow) (b : Bool) → has_row_id id row ≡ b → is_row_of key x ≡ true → (has_row_id id row ≡ true → row ≡ x) → candidates_of key left ≡ replaced (has_candidate_id id) (shown key w) (candidates_of key rows)
      → candidates_of key (cons_option (cond b w (Some row)) left) ≡ replaced (has_candidate_id id) (shown key w) (candidates_of key (row ∷ rows))
  in_by x row rows left true is of_key same rest =
      listed_option key w left ∙ ap (cons_option (shown key w)) rest
      ∙ here_by row (candidates_of key rows) (is_row_of key row) (ap (is_row_of key) (same is) ∙ of_key) is
      ∙ sym (ap (replaced (has_candidate_id id) (shown key w)) (listed_cons key row rows))
  in_by x row rows left false is of_key same rest =
      listed_cons key row left ∙ ap (cons_option (shown key (Some row))) rest
      ∙ kept_by row (candidates_of key rows) (is_row_of key row) is
      ∙ sym (ap (replaced (has_candidate_id id) (shown key w)) (listed_cons key row rows))

  -- a live server of the service is replaced
  pub listed_in : (x : DestRow) (rows : List DestRow) → IsOnly id x rows → is_row_of key x ≡ true → candidates_of key (replaced (has_row_id id) w rows) ≡ replaced (has_candidate_id id) (shown key w) (candidates_of key rows)
  listed_in x [] only of_key = refl
  listed_in x (row ∷ rows) only of_key = in_by x row rows (replaced (has_row_id id) w rows) (has_row_id id row) refl of_key only.0 (listed_in x rows only.1 of_key)

  out_by : (x row : DestRow) (rows left : List DestRow) (b : Bool) → has_row_id id row ≡ b → is_row_of key x ≡ false → shown key w ≡ None → (has_row_id id row ≡ true → row ≡ x) → candidates_of key left ≡ candidates_of key rows
      → candidates_of key (cons_option (cond b w (Some row)) left) ≡ candidates_of key (row ∷ rows)
  out_by x row rows left true is not_key hidden same rest =
      let row_not : is_row_of key row ≡ false = ap (is_row_of key) (same is) ∙ not_key in
      listed_option key w left ∙ ap (λ o. cons_option o (candidates_of key left)) hidden ∙ rest
      ∙ sym (listed_cons key row rows ∙ ap (λ t. cons_option (cond t (Some (candidate_of_row row)) None) (candidates_of key rows)) row_not)
  out_by x row rows left false is not_key hidden same rest =
      listed_cons key row left ∙ ap (cons_option (shown key (Some row))) rest ∙ sym (listed_cons key row rows)

  -- a server that isn't one of the service's is replaced by one that isn't
  pub listed_out : (x : DestRow) (rows : List DestRow) → IsOnly id x rows → is_row_of key x ≡ false → shown key w ≡ None → candidates_of key (replaced (has_row_id id) w rows) ≡ candidates_of key rows
  listed_out x [] only not_key hidden = refl
  listed_out x (row ∷ rows) only not_key hidden = out_by x row rows (replaced (has_row_id id) w rows) (has_row_id id row) refl not_key hidden only.0 (listed_out x rows only.1 not_key hidden)

push_option : (o p : Option Candidate) (cs : List Candidate) (ds : List Candidate) → ds ≡ cs ++ cons_option p [] → cons_option o ds ≡ cons_option o cs ++ cons_option p []
push_option None p cs ds is = is
push_option (Some c) p cs ds is = ap (λ es. c ∷ es) is

-- a server is put last
pub listed_push : (key : ServiceKey) (x : DestRow) (rows : List DestRow) → candidates_of key (rows ++ x ∷ []) ≡ candidates_of key rows ++ cons_option (shown key (Some x)) []
listed_push key x [] = listed_cons key x []
listed_push key x (row ∷ rows) =
    listed_cons key row (rows ++ x ∷ [])
    ∙ push_option (shown key (Some row)) (shown key (Some x)) (candidates_of key rows) (candidates_of key (rows ++ x ∷ [])) (listed_push key x rows)
    ∙ sym (ap (λ cs. cs ++ cons_option (shown key (Some x)) []) (listed_cons key row rows))

-- ---- the lists of all services

-- each service's list is that of its live servers
abbrev pub AreServed : (ServiceName → List Candidate) → List DestRow → Type 0
AreServed lists rows = (key : ServiceKey) → lists (name_of key) ≡ candidates_of key rows

pub and_off : (a b : Bool) → b ≡ false → (a && b) ≡ false
and_off true b off = off
and_off false b off = refl

pub and_on : (a b : Bool) → a ≡ true → b ≡ true → (a && b) ≡ true
and_on true b on also = also
and_on false b on also = absurd (cc)

pub off_and : (a b : Bool) → a ≡ false → (a && b) ≡ false
off_and true b off = absurd (cc)
off_and false b off = refl

pub hidden_by : (key : ServiceKey) (row : DestRow) → is_row_of key row ≡ false → shown key (Some row) ≡ None
hidden_by key row off = at_false (is_row_of key row) (Some (candidate_of_row row)) None off

module _ (lists lists' : ServiceName → List Candidate) (id : DestId) (x : DestRow) (rows : List DestRow) (served : AreServed lists rows) (only : IsOnly id x rows) where
  -- a live server is replaced in the list of its service
  module _ (live : x.dest.live ≡ true) (w : Option DestRow) (hidden : (key : ServiceKey) → service_key_eq x.dest.service key ≡ false → shown key w ≡ None)
      (put : (n : ServiceName) → lists' n ≡ list_put lists (name_of x.dest.service) (replaced (has_candidate_id id) (shown x.dest.service w) (lists (name_of x.dest.service))) n) where
    served_at : (key : ServiceKey) (b : Bool) → service_key_eq x.dest.service key ≡ b → cond b (replaced (has_candidate_id id) (shown x.dest.service w) (lists (name_of x.dest.service))) (lists (name_of key)) ≡ candidates_of key (replaced (has_row_id id) w rows)
    served_at key true is =
        let same : x.dest.service ≡ key = key_is x.dest.service key is in
        subst (λ (k : ServiceKey). replaced (has_candidate_id id) (shown x.dest.service w) (lists (name_of x.dest.service)) ≡ candidates_of k (replaced (has_row_id id) w rows)) same
        (ap (replaced (has_candidate_id id) (shown x.dest.service w)) (served x.dest.service)
        ∙ sym (listed_in x.dest.service id w x rows only (and_on x.dest.live (service_key_eq x.dest.service x.dest.service) live (key_own x.dest.service))))
    served_at key false is =
        served key ∙ sym (listed_out key id w x rows only (and_off x.dest.live (service_key_eq x.dest.service key) is) (hidden key is))

    pub served_replaced : AreServed lists' (replaced (has_row_id id) w rows)
    served_replaced key =
        put (name_of key)
        ∙ ap (λ t. cond t (replaced (has_candidate_id id) (shown x.dest.service w) (lists (name_of x.dest.service))) (lists (name_of key))) (name_same_key x.dest.service key)
        ∙ served_at key (service_key_eq x.dest.service key) refl

  -- a server in the trash is replaced
  pub served_still : x.dest.live ≡ false → (w : Option DestRow) → ((key : ServiceKey) → shown key w ≡ None) → ((n : ServiceName) → lists' n ≡ lists n) → AreServed lists' (replaced (has_row_id id) w rows)
  served_still trashed w hidden same key =
      same (name_of key) ∙ served key ∙ sym (listed_out key id w x rows only (off_and x.dest.live (service_key_eq x.dest.service key) trashed) (hidden key))

-- a live server is put last
module _ (lists lists' : ServiceName → List Candidate) (x : DestRow) (rows : List DestRow) (served : AreServed lists rows) (live : x.dest.live ≡ true)
    (put : (n : ServiceName) → lists' n ≡ list_put lists (name_of x.dest.service) (lists (name_of x.dest.service) ++ candidate_of_row x ∷ []) n) where
  pushed_at : (key : ServiceKey) (b : Bool) → service_key_eq x.dest.service key ≡ b → cond b (lists (name_of x.dest.service) ++ candidate_of_row x ∷ []) (lists (name_of key)) ≡ candidates_of key (rows ++ x ∷ [])
  pushed_at key true is =
      let same : x.dest.service ≡ key = key_is x.dest.service key is in
      let of_key : is_row_of x.dest.service x ≡ true = and_on x.dest.live (service_key_eq x.dest.service x.dest.service) live (key_own x.dest.service) in
      subst (λ (k : ServiceKey). lists (name_of x.dest.service) ++ candidate_of_row x ∷ [] ≡ candidates_of k (rows ++ x ∷ [])) same
      (ap (λ cs. cs ++ candidate_of_row x ∷ []) (served x.dest.service)
      ∙ sym (listed_push x.dest.service x rows ∙ ap (λ t. candidates_of x.dest.service rows ++ cons_option (cond t (Some (candidate_of_row x)) None) []) of_key))
  pushed_at key false is =
      let not_key : is_row_of key x ≡ false = and_off x.dest.live (service_key_eq x.dest.service key) is in
      served key ∙ sym (listed_push key x rows ∙ ap (λ t. candidates_of key rows ++ cons_option (cond t (Some (candidate_of_row x)) None) []) not_key ∙ nil (candidates_of key rows))
    where
      nil : (cs : List Candidate) → cs ++ [] ≡ cs
      nil [] = refl
      nil (c ∷ cs) = ap (λ ds. c ∷ ds) (nil cs)

  pub served_pushed : AreServed lists' (rows ++ x ∷ [])
  served_pushed key =
      put (name_of key)
      ∙ ap (λ t. cond t (lists (name_of x.dest.service) ++ candidate_of_row x ∷ []) (lists (name_of key))) (name_same_key x.dest.service key)
      ∙ pushed_at key (service_key_eq x.dest.service key) refl
