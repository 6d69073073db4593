-- All servers of a service leave it, one after the other.
use Rattle.std.proofs.Common.{◌≡◌, ◌+◌, ◌≤◌, ◌&&◌, ℕ, Bool, true, false, cond, List, [], ◌∷◌, Option, Some, None, refl, sym, ap, subst, ◌∙◌, map, filter_map, length, slice_get, arith, nat_eq, if◌then◌else◌}
use Rattle.std.proofs.lemmas.Bool.{and_from, and_parts, both_ways}
use Rattle.std.specs.Option.{option_map}
use Rattle.std.specs.List.{AllByRecursion, IsDistinct, find, filter, cons_option}
use Rattle.lvs_types.specs.declared.addr.DestId.{DestId}
use Rattle.lvs_types.specs.declared.service.ServiceKey.{ServiceKey}
use Rattle.lvs_types.specs.declared.dest.Dest.{Dest}
use Rattle.lvs_types.specs.declared.dest.DestRow.{DestRow}
use Rattle.lvs_types.specs.declared.dest.Candidate.{Candidate}
use Rattle.lvs_types.specs.declared.entry.Entry.{Entry}
use Rattle.lvs_types.specs.declared.template.Template.{Template}
use Rattle.lvs_model.specs.Same.{addr_eq}
use Rattle.lvs_model.specs.Lookups.{has_dest_id, dest_at, is_server_of}
use Rattle.lvs_model.specs.WellFormed.{dest_ids}
use Rattle.lvs_well_formed.proofs.Keys.{addr_same, dest_id_true, nat_same}
use Rattle.lvs_well_formed.proofs.Lists.{all_find, all_weaker, find_none, find_passes}
use Rattle.lvs_well_formed.proofs.Distinct.{each_found}
use Rattle.lvs_model.specs.State.{State}
use Rattle.lvs_model.specs.Counts.{row_of, refs}
use Rattle.lvs_model.specs.Edits.{leaving, remove_dests, trashed}
use Rattle.lvs_dests.specs.Rows.{DestsSeen, dests_of, candidates_of, candidate_of_row, has_row_id, is_row_at, is_row_of, left_row, out_of_service, is_unnamed, left_live, all_left, replaced, removed_by, row_at}
use Rattle.lvs_board.specs.Removals.{left_of, left_in}
use Rattle.lvs_board.specs.declared.desk.Desk.{Desk}
use Rattle.lvs_board.specs.Desks.{state_of, IsSound}
use Rattle.lvs_board.proofs.Gone.{kept_rows, left_same}
use Rattle.lvs_board.proofs.Placed.{rows_at, with_dests, with_servers, replaced_state, replaced_sound}
use Rattle.lvs_board.proofs.Ends.{map_twice}
use Rattle.lvs_board.proofs.Rowed.{dest_found}

abbrev IsOne : DestRow → DestRow → Type 0
IsOne row x = has_row_id row.dest.id x ≡ true → x ≡ row

-- ONE STEP LEAVES THE END THE SAME

-- a server of the service that left it stays as it is when all leave
again_by : (key : ServiceKey) (b : Bool) (row : DestRow) (rest : List DestRow) → filter_map (left_of key) (cons_option (if b then None else Some (out_of_service row)) rest) ≡ cons_option (if b then None else Some (out_of_service row)) (filter_map (left_of key) rest)
again_by key true row rest = refl
again_by key false row rest = refl

of_service : (key : ServiceKey) (row : DestRow) (b : Bool) → b ≡ true → (if b then left_row row else Some row) ≡ left_row row
of_service key row true is = refl
of_service key row false is = absurd cc

step_by : (key : ServiceKey) (row x : DestRow) (b : Bool) (rest kept : List DestRow) → is_row_of key row ≡ true → (b ≡ true → x ≡ row) → filter_map (left_of key) kept ≡ filter_map (left_of key) rest
    → filter_map (left_of key) (cons_option (if b then left_row row else Some x) kept) ≡ filter_map (left_of key) (x ∷ rest)
step_by key row x true rest kept served same later =
    again_by key (is_unnamed row) row kept
    ∙ ap (cons_option (left_row row)) later
    ∙ sym (ap (λ (o : Option DestRow). cons_option o (filter_map (left_of key) rest)) (of_service key row (is_row_of key row) served))
    ∙ ap (λ (y : DestRow). filter_map (left_of key) (y ∷ rest)) (sym (same refl))
step_by key row x false rest kept served same later = ap (cons_option (left_of key x)) later

pub step_same : (key : ServiceKey) (row : DestRow) (rows : List DestRow) → is_row_of key row ≡ true → AllByRecursion (IsOne row) rows → left_in key (replaced (has_row_id row.dest.id) (left_row row) rows) ≡ left_in key rows
step_same key row [] served one = refl
step_same key row (x ∷ rows) served one =
    step_by key row x (has_row_id row.dest.id x) rows (replaced (has_row_id row.dest.id) (left_row row) rows) served one.0 (step_same key row rows served one.1)

-- AND ONE LESS IS THERE

abbrev many : List DestRow → ℕ
many rows = length (map candidate_of_row rows)

cons_more : (b : Bool) (x : DestRow) (fs gs : List DestRow) → many fs ≤ many gs → many (cond b (x ∷ fs) fs) ≤ many (cond b (x ∷ gs) gs)
cons_more true x fs gs fewer = omega (arith, fewer)
cons_more false x fs gs fewer = fewer

cons_less : (b : Bool) (x : DestRow) (fs gs : List DestRow) → many fs + 1 ≤ many gs → many (cond b (x ∷ fs) fs) + 1 ≤ many (cond b (x ∷ gs) gs)
cons_less true x fs gs fewer = omega (arith, fewer)
cons_less false x fs gs fewer = fewer

cons_keeps : (b : Bool) (x : DestRow) (gs : List DestRow) → many gs ≤ many (cond b (x ∷ gs) gs)
cons_keeps true x gs = omega arith
cons_keeps false x gs = omega arith

cons_counts : (b : Bool) (x : DestRow) (gs : List DestRow) → b ≡ true → many (cond b (x ∷ gs) gs) ≡ many gs + 1
cons_counts true x gs is = omega arith
cons_counts false x gs is = absurd cc

gone_none : (key : ServiceKey) (b : Bool) (row : DestRow) (kept : List DestRow) → many (filter (is_row_of key) (cons_option (if b then None else Some (out_of_service row)) kept)) ≡ many (filter (is_row_of key) kept)
gone_none key true row kept = refl
gone_none key false row kept = refl

weak_by : (key : ServiceKey) (row x : DestRow) (b : Bool) (kept rows : List DestRow) → many (filter (is_row_of key) kept) ≤ many (filter (is_row_of key) rows)
    → many (filter (is_row_of key) (cons_option (if b then left_row row else Some x) kept)) ≤ many (filter (is_row_of key) (x ∷ rows))
weak_by key row x true kept rows fewer = omega (arith, gone_none key (is_unnamed row) row kept, fewer, cons_keeps (is_row_of key x) x (filter (is_row_of key) rows))
weak_by key row x false kept rows fewer = cons_more (is_row_of key x) x (filter (is_row_of key) kept) (filter (is_row_of key) rows) fewer

weak : (key : ServiceKey) (row : DestRow) (rows : List DestRow) → many (filter (is_row_of key) (replaced (has_row_id row.dest.id) (left_row row) rows)) ≤ many (filter (is_row_of key) rows)
weak key row [] = omega arith
weak key row (x ∷ rows) = weak_by key row x (has_row_id row.dest.id x) (replaced (has_row_id row.dest.id) (left_row row) rows) rows (weak key row rows)

less_by : (key : ServiceKey) (row x : DestRow) (b : Bool) (kept rows : List DestRow) (o : Option DestRow) → is_row_of key row ≡ true → cond b (Some x) o ≡ Some row → many (filter (is_row_of key) kept) ≤ many (filter (is_row_of key) rows)
    → (o ≡ Some row → many (filter (is_row_of key) kept) + 1 ≤ many (filter (is_row_of key) rows))
    → many (filter (is_row_of key) (cons_option (if b then left_row row else Some x) kept)) + 1 ≤ many (filter (is_row_of key) (x ∷ rows))
less_by key row x true kept rows o served found fewer less =
    let here : x ≡ row = cc in
    omega (arith, gone_none key (is_unnamed row) row kept, fewer, cons_counts (is_row_of key x) x (filter (is_row_of key) rows) (ap (is_row_of key) here ∙ served))
less_by key row x false kept rows o served found fewer less = cons_less (is_row_of key x) x (filter (is_row_of key) kept) (filter (is_row_of key) rows) (less found)

pub step_less : (key : ServiceKey) (row : DestRow) (rows : List DestRow) → is_row_of key row ≡ true → row_at row.dest.id rows ≡ Some row
    → many (filter (is_row_of key) (replaced (has_row_id row.dest.id) (left_row row) rows)) + 1 ≤ many (filter (is_row_of key) rows)
step_less key row [] served found = absurd cc
step_less key row (x ∷ rows) served found =
    less_by key row x (has_row_id row.dest.id x) (replaced (has_row_id row.dest.id) (left_row row) rows) rows (row_at row.dest.id rows) served found (weak key row rows) (λ later. step_less key row rows served later)

-- ONE CALL

own_rows : (rows : List DestRow) → IsDistinct nat_eq (dest_ids (dests_of rows)) → AllByRecursion (λ (x : DestRow). row_at x.dest.id rows ≡ Some x) rows
own_rows rows apart = each_found nat_eq (λ (x : DestRow). x.dest.id.0) rows nat_same (subst (IsDistinct nat_eq) (map_twice (λ (d : Dest). d.id.0) (λ (x : DestRow). x.dest) rows) apart)

one_row : (rows : List DestRow) (row x : DestRow) → row_at row.dest.id rows ≡ Some row → row_at x.dest.id rows ≡ Some x → IsOne row x
one_row rows row x found own = λ same.
    let here : Some x ≡ Some row = sym own ∙ ap (λ (id : DestId). row_at id rows) (dest_id_true x.dest.id row.dest.id same) ∙ found in
    cc

pub record Takes (key : ServiceKey) (seen later : DestsSeen) : Type 0 where
  pub same : left_in key later.rows ≡ left_in key seen.rows
  pub fewer : length (candidates_of key later.rows) + 1 ≤ length (candidates_of key seen.rows)
  pub next : later.next ≡ seen.next

taken_by : (key : ServiceKey) (seen : DestsSeen) (p : DestRow → Bool) (o : Option DestRow) (row : DestRow) → IsDistinct nat_eq (dest_ids (dests_of seen.rows)) → find p seen.rows ≡ o → ((x : DestRow) → p x ≡ true → is_row_of key x ≡ true)
    → p row ≡ true → find (is_row_of key) seen.rows ≡ Some row → Takes key seen (removed_by seen o)
taken_by key seen p None row apart is served passes found =
    absurd (both_ways (p row) (all_find (λ (x : DestRow). p x ≡ false) (is_row_of key) seen.rows row (find_none p seen.rows is) found) passes)
taken_by key seen p (Some one) row apart is served passes found =
    let own = all_find (λ (x : DestRow). row_at x.dest.id seen.rows ≡ Some x) p seen.rows one (own_rows seen.rows apart) is in
    let here = served one (find_passes p seen.rows one is) in
    record {
      same = step_same key one seen.rows here (all_weaker (λ (x : DestRow). row_at x.dest.id seen.rows ≡ Some x) (IsOne one) seen.rows (λ x its. one_row seen.rows one x own its) (own_rows seen.rows apart));
      fewer = step_less key one seen.rows here own;
      next = refl;
    }

at_itself : (key : ServiceKey) (row : DestRow) → is_row_of key row ≡ true → is_row_at key row.dest.spec.addr row.dest.spec.port row ≡ true
at_itself key row served = and_from (is_row_of key row) (addr_eq row.dest.spec.addr row.dest.spec.addr && nat_eq row.dest.spec.port row.dest.spec.port) served (and_from (addr_eq row.dest.spec.addr row.dest.spec.addr) (nat_eq row.dest.spec.port row.dest.spec.port) (addr_same row.dest.spec.addr) (nat_same row.dest.spec.port))

first_step : (b : Bool) (x : DestRow) (rows : List DestRow) (o : Option DestRow) → slice_get (map candidate_of_row rows) 0 ≡ option_map candidate_of_row o → slice_get (map candidate_of_row (cond b (x ∷ rows) rows)) 0 ≡ option_map candidate_of_row (cond b (Some x) o)
first_step true x rows o rest = refl
first_step false x rows o rest = rest

pub first_found : (key : ServiceKey) (rows : List DestRow) → slice_get (candidates_of key rows) 0 ≡ option_map candidate_of_row (find (is_row_of key) rows)
first_found key [] = refl
first_found key (row ∷ rows) = first_step (is_row_of key row) row (filter (is_row_of key) rows) (find (is_row_of key) rows) (first_found key rows)

-- the first candidate's server leaves
taken_first : (key : ServiceKey) (seen : DestsSeen) (c : Candidate) (o : Option DestRow) (r : Option Dest) → IsDistinct nat_eq (dest_ids (dests_of seen.rows)) → find (is_row_of key) seen.rows ≡ o → Some c ≡ option_map candidate_of_row o → r ≡ dest_at c.id (dests_of seen.rows)
    → (row : DestRow) × (find (is_row_of key) seen.rows ≡ Some row) × (r ≡ Some row.dest)
taken_first key seen c None r apart is first served = absurd cc
taken_first key seen c (Some row) r apart is first served =
    let same : c ≡ candidate_of_row row = cc in
    let own = all_find (λ (x : DestRow). row_at x.dest.id seen.rows ≡ Some x) (is_row_of key) seen.rows row (own_rows seen.rows apart) is in
    (row, is, served ∙ ap (λ (x : Candidate). dest_at x.id (dests_of seen.rows)) same ∙ sym (dest_found (has_dest_id row.dest.id) seen.rows) ∙ ap (option_map (λ (x : DestRow). x.dest)) own)

pub first_taken : (key : ServiceKey) (seen : DestsSeen) (c : Candidate) (d : Dest) (r : Option Dest) → IsDistinct nat_eq (dest_ids (dests_of seen.rows)) → slice_get (candidates_of key seen.rows) 0 ≡ Some c → r ≡ dest_at c.id (dests_of seen.rows) → r ≡ Some d
    → Takes key seen (removed_by seen (find (is_row_at key d.spec.addr d.spec.port) seen.rows))
first_taken key seen c d r apart first served there =
    let all = taken_first key seen c (find (is_row_of key) seen.rows) r apart refl (sym first ∙ first_found key seen.rows) served in
    let same : d ≡ all.0.dest = (let both : Some d ≡ Some all.0.dest = sym there ∙ all.2 in cc) in
    let of : is_row_of key all.0 ≡ true = find_passes (is_row_of key) seen.rows all.0 all.1 in
    taken_by key seen (is_row_at key d.spec.addr d.spec.port) (find (is_row_at key d.spec.addr d.spec.port) seen.rows) all.0 apart refl (λ x passes. (and_parts (is_row_of key x) (addr_eq x.dest.spec.addr d.spec.addr && nat_eq x.dest.spec.port d.spec.port) passes).0)
    (subst (λ (e : Dest). is_row_at key e.spec.addr e.spec.port all.0 ≡ true) (sym same) (at_itself key all.0 of)) all.1

pub first_there : (key : ServiceKey) (seen : DestsSeen) (c : Candidate) (r : Option Dest) → IsDistinct nat_eq (dest_ids (dests_of seen.rows)) → slice_get (candidates_of key seen.rows) 0 ≡ Some c → r ≡ dest_at c.id (dests_of seen.rows) → r ≡ None → false ≡ true
first_there key seen c r apart first served none =
    let all = taken_first key seen c (find (is_row_of key) seen.rows) r apart refl (sym first ∙ first_found key seen.rows) served in
    absurd (let both : None ≡ Some all.0.dest = sym none ∙ all.2 in cc)

-- ALL OF THEM

stays_by : (key : ServiceKey) (b : Bool) (x : DestRow) (rows : List DestRow) → many (cond b (x ∷ filter (is_row_of key) rows) (filter (is_row_of key) rows)) ≡ 0 → (many (filter (is_row_of key) rows) ≡ 0 → left_in key rows ≡ rows)
    → cons_option (if b then left_row x else Some x) (left_in key rows) ≡ x ∷ rows
stays_by key true x rows none rest = absurd (omega (arith, none))
stays_by key false x rows none rest = ap (λ (others : List DestRow). x ∷ others) (rest none)

-- without a server of the service all stay
pub all_stay : (key : ServiceKey) (rows : List DestRow) → length (candidates_of key rows) ≡ 0 → left_in key rows ≡ rows
all_stay key [] none = refl
all_stay key (x ∷ rows) none = stays_by key (is_row_of key x) x rows none (λ later. all_stay key rows later)

-- THE DESK

leave_point : (es : List Entry) (ts : List Template) (d : Dest) (b : Bool) → (if b then left_row (row_of es ts d) else Some (row_of es ts d)) ≡ option_map (row_of es ts) (if b then trashed d (refs d.id es ts) else Some d)
leave_point es ts d true = left_same es ts d
leave_point es ts d false = refl

leave_rows : (es : List Entry) (ts : List Template) (key : ServiceKey) (ds : List Dest) → AllByRecursion (λ (d : Dest). left_of key (row_of es ts d) ≡ option_map (row_of es ts) (leaving (is_server_of key) es ts d)) ds
leave_rows es ts key [] = tt
leave_rows es ts key (d ∷ ds) = (leave_point es ts d (is_server_of key d), leave_rows es ts key ds)

abbrev without_service : State → ServiceKey → List Dest
without_service s key = remove_dests (is_server_of key) s.entries s.templates s.dests

abbrev with_rows : DestsSeen → List DestRow → DestsSeen
with_rows seen rows = record seen { rows = rows }

gone_seen : (whole : State) (d : Desk) (key : ServiceKey) (seen : DestsSeen) → IsSound whole d → seen ≡ with_rows d.dests (left_in key d.dests.rows)
    → seen ≡ rows_at (map (row_of (state_of whole d).entries (state_of whole d).templates) (without_service (state_of whole d) key)) d.dests.next
gone_seen whole d key seen sound is =
    let s = state_of whole d in
    is ∙ ap (λ (rows : List DestRow). rows_at rows d.dests.next)
    (ap (left_in key) sound.totals.servers ∙ kept_rows (row_of s.entries s.templates) (left_of key) (leaving (is_server_of key) s.entries s.templates) s.dests (leave_rows s.entries s.templates key s.dests))

pub gone_state : (whole : State) (d : Desk) (key : ServiceKey) (seen : DestsSeen) → IsSound whole d → seen ≡ with_rows d.dests (left_in key d.dests.rows) → state_of whole (with_dests seen d) ≡ with_servers (without_service (state_of whole d) key) d.dests.next (state_of whole d)
gone_state whole d key seen sound is = replaced_state whole d seen (without_service (state_of whole d) key) d.dests.next (gone_seen whole d key seen sound is)

pub gone_sound : (whole : State) (d : Desk) (key : ServiceKey) (seen : DestsSeen) → IsSound whole d → seen ≡ with_rows d.dests (left_in key d.dests.rows) → IsDistinct nat_eq (dest_ids (dests_of seen.rows)) → IsSound whole (with_dests seen d)
gone_sound whole d key seen sound is apart = replaced_sound whole d seen (without_service (state_of whole d) key) d.dests.next sound (gone_seen whole d key seen sound is) apart

-- once none is left, the rest is what was left at first
pub each_left : (key : ServiceKey) (first later : DestsSeen) → length (candidates_of key later.rows) ≡ 0 → left_in key later.rows ≡ left_in key first.rows → later.next ≡ first.next → later ≡ with_rows first (left_in key first.rows)
each_left key first later none same next =
    ap (λ (rows : List DestRow). rows_at rows later.next) (sym (all_stay key later.rows none) ∙ same) ∙ ap (rows_at (left_in key first.rows)) next

-- ALL SERVERS OF ALL SERVICES

all_rows : (es : List Entry) (ts : List Template) (ds : List Dest) → AllByRecursion (λ (d : Dest). left_live (row_of es ts d) ≡ option_map (row_of es ts) (leaving (λ (x : Dest). x.live) es ts d)) ds
all_rows es ts [] = tt
all_rows es ts (d ∷ ds) = (leave_point es ts d d.live, all_rows es ts ds)

abbrev without_live : State → List Dest
without_live s = remove_dests (λ (d : Dest). d.live) s.entries s.templates s.dests

cleared_seen : (whole : State) (d : Desk) (seen : DestsSeen) → IsSound whole d → seen ≡ with_rows d.dests (all_left d.dests.rows)
    → seen ≡ rows_at (map (row_of (state_of whole d).entries (state_of whole d).templates) (without_live (state_of whole d))) d.dests.next
cleared_seen whole d seen sound is =
    let s = state_of whole d in
    is ∙ ap (λ (rows : List DestRow). rows_at rows d.dests.next)
    (ap all_left sound.totals.servers ∙ kept_rows (row_of s.entries s.templates) left_live (leaving (λ (x : Dest). x.live) s.entries s.templates) s.dests (all_rows s.entries s.templates s.dests))

pub cleared_state : (whole : State) (d : Desk) (seen : DestsSeen) → IsSound whole d → seen ≡ with_rows d.dests (all_left d.dests.rows) → state_of whole (with_dests seen d) ≡ with_servers (without_live (state_of whole d)) d.dests.next (state_of whole d)
cleared_state whole d seen sound is = replaced_state whole d seen (without_live (state_of whole d)) d.dests.next (cleared_seen whole d seen sound is)

pub cleared_sound : (whole : State) (d : Desk) (seen : DestsSeen) → IsSound whole d → seen ≡ with_rows d.dests (all_left d.dests.rows) → IsDistinct nat_eq (dest_ids (dests_of seen.rows)) → IsSound whole (with_dests seen d)
cleared_sound whole d seen sound is apart = replaced_sound whole d seen (without_live (state_of whole d)) d.dests.next sound (cleared_seen whole d seen sound is) apart
