-- The servers of a service, as the table lists them and as the definition does.
use Rattle.std.proofs.Common.{◌≡◌, ◌-◌, ℕ, Bool, true, false, cond, not, ◌&&◌, List, [], ◌∷◌, Option, Some, None, refl, sym, ap, ◌∙◌, map, filter_map, slice_get, arith, nat_eq, nat_lt, if◌then◌else◌}
use Rattle.std.specs.Option.{IfSome, option_map}
use Rattle.std.specs.List.{AllByRecursion, IsDistinct, find}
use Rattle.std.proofs.lemmas.Option.{slice_get-map}
use Rattle.lvs_types.specs.declared.addr.Addr.{Addr}
use Rattle.lvs_types.specs.declared.service.ServiceKey.{ServiceKey}
use Rattle.lvs_types.specs.declared.dest.Dest.{Dest}
use Rattle.lvs_types.specs.declared.dest.Candidate.{Candidate}
use Rattle.lvs_types.specs.declared.entry.Entry.{Entry}
use Rattle.lvs_model.specs.Same.{dest_eq, dest_id_eq, service_key_eq}
use Rattle.lvs_model.specs.Timeouts.{is_active}
use Rattle.lvs_model.specs.Counts.{counts_active, counts_inactive, active, inactive, candidate_of, candidates, is_eligible}
use Rattle.lvs_model.specs.Lookups.{dest_at, has_entry_id, is_server_of, servers_of}
use Rattle.lvs_model.specs.WellFormed.{entry_ids, dest_ids}
use Rattle.lvs_well_formed.proofs.Keys.{nat_same}
use Rattle.lvs_well_formed.proofs.Lists.{all_filter, all_get}
use Rattle.lvs_well_formed.proofs.Distinct.{each_found}
use Rattle.lvs_rules.specs.declared.view.Overload.{Overload}
use Rattle.lvs_rules.specs.declared.view.View.{View}
use Rattle.lvs_rules.specs.Views.{dest_in, dests_in, entries_in}
use Rattle.lvs_board.specs.Candidates.{ended_in, looked_in, candidate_in, addr_in}
use Rattle.lvs_board.proofs.Rows.{one_both}
use Rattle.lvs_board.proofs.Ends.{left_by, count_left}

-- EACH IS THE SERVER OF ITS ID

abbrev IsFoundIn : List Dest → Dest → Type 0
IsFoundIn ds d = dest_at d.id ds ≡ Some d

all_served : (key : ServiceKey) (ds : List Dest) → IsDistinct nat_eq (dest_ids ds) → AllByRecursion (IsFoundIn ds) (servers_of key ds)
all_served key ds apart = all_filter (IsFoundIn ds) (is_server_of key) ds (each_found nat_eq (λ (d : Dest). d.id.0) ds nat_same apart)

-- THE ONE AT A PLACE

none_by : (es : List Entry) (o : Option Dest) → option_map (candidate_of es) o ≡ None → o ≡ None
none_by es None is = refl
none_by es (Some d) is = absurd cc

-- no candidate is at a place where no server is
pub nth_none : (es : List Entry) (key : ServiceKey) (ds : List Dest) (n : ℕ) → slice_get (candidates key ds es) n ≡ None → slice_get (servers_of key ds) n ≡ None
nth_none es key ds n is = none_by es (slice_get (servers_of key ds) n) (sym (slice_get-map (candidate_of es) (servers_of key ds) n) ∙ is)

some_by : (es : List Entry) (all : List Dest) (o : Option Dest) (c : Candidate) → ((d : Dest) → o ≡ Some d → IsFoundIn all d) → option_map (candidate_of es) o ≡ Some c → dest_at c.id all ≡ o
some_by es all None c each is = absurd cc
some_by es all (Some d) c each is = ap (λ (x : Candidate). dest_at x.id all) (sym (let same : candidate_of es d ≡ c = cc in same)) ∙ each d refl

-- the server of the candidate at a place is the one at that place
pub nth_some : (es : List Entry) (key : ServiceKey) (ds : List Dest) (n : ℕ) (c : Candidate) → IsDistinct nat_eq (dest_ids ds) → slice_get (candidates key ds es) n ≡ Some c → dest_at c.id ds ≡ slice_get (servers_of key ds) n
nth_some es key ds n c apart is =
    some_by es ds (slice_get (servers_of key ds) n) c (λ d here. all_get (IsFoundIn ds) (servers_of key ds) n d (all_served key ds apart) here) (sym (slice_get-map (candidate_of es) (servers_of key ds) n) ∙ is)

-- THEIR ADDRESSES

abbrev addr_of : Dest → Addr
addr_of d = d.spec.addr

addrs_by : (es : List Entry) (all xs : List Dest) → AllByRecursion (IsFoundIn all) xs → filter_map (addr_in all) (map (candidate_of es) xs) ≡ map addr_of xs
addrs_by es all [] each = refl
addrs_by es all (d ∷ xs) each = rw each.0 (ap (λ (rest : List Addr). addr_of d ∷ rest) (addrs_by es all xs each.1))

pub addrs_same : (es : List Entry) (key : ServiceKey) (ds : List Dest) → IsDistinct nat_eq (dest_ids ds) → filter_map (addr_in ds) (candidates key ds es) ≡ map (λ (d : Dest). d.spec.addr) (servers_of key ds)
addrs_same es key ds apart = addrs_by es ds (servers_of key ds) (all_served key ds apart)

-- IN A VIEW

abbrev made : Dest → ℕ → ℕ → Candidate
made d a i = record { id = d.id; weight = d.spec.weight; active = a; inactive = i; eligible = is_eligible d }

made_same : (d : Dest) (a b i j : ℕ) → a ≡ b → i ≡ j → made d a i ≡ made d b j
made_same d a b i j same_active same_inactive = ap (λ n. made d n i) same_active ∙ ap (made d b) same_inactive

abbrev lessened : Bool → Bool → Candidate → Candidate
lessened here b c = if here then (if b then record c { active = c.active - 1 } else record c { inactive = c.inactive - 1 }) else c

less_point : (es : List Entry) (x : Entry) (d : Dest) (here b : Bool) → IsDistinct nat_eq (entry_ids es) → find (has_entry_id x.id) es ≡ Some x → dest_eq x.server d.id ≡ here → is_active x.state ≡ b
    → lessened here b (candidate_of es d) ≡ candidate_of (left_by x es) d
less_point es x d true true apart found old is =
    let a = count_left (counts_active d.id) es x apart found in
    let i = count_left (counts_inactive d.id) es x apart found in
    let ax = one_both (dest_eq x.server d.id) (is_active x.state) true true old is in
    let ix = one_both (dest_eq x.server d.id) (not (is_active x.state)) true false old (ap not is) in
    made_same d (active d.id es - 1) (active d.id (left_by x es)) (inactive d.id es) (inactive d.id (left_by x es)) (omega (arith, a, ax)) (omega (arith, i, ix))
less_point es x d true false apart found old is =
    let a = count_left (counts_active d.id) es x apart found in
    let i = count_left (counts_inactive d.id) es x apart found in
    let ax = one_both (dest_eq x.server d.id) (is_active x.state) true false old is in
    let ix = one_both (dest_eq x.server d.id) (not (is_active x.state)) true true old (ap not is) in
    made_same d (active d.id es) (active d.id (left_by x es)) (inactive d.id es - 1) (inactive d.id (left_by x es)) (omega (arith, a, ax)) (omega (arith, i, ix))
less_point es x d false b apart found old is =
    let a = count_left (counts_active d.id) es x apart found in
    let i = count_left (counts_inactive d.id) es x apart found in
    let ax = one_both (dest_eq x.server d.id) (is_active x.state) false b old is in
    let ix = one_both (dest_eq x.server d.id) (not (is_active x.state)) false (not b) old (ap not is) in
    made_same d (active d.id es) (active d.id (left_by x es)) (inactive d.id es) (inactive d.id (left_by x es)) (omega (arith, a, ax)) (omega (arith, i, ix))

abbrev IsThere : List Entry → Entry → Type 0
IsThere es e = find (has_entry_id e.id) es ≡ Some e

ended_point : (es : List Entry) (o : Option Entry) (d : Dest) → IsDistinct nat_eq (entry_ids es) → IfSome o (IsThere es) → ended_in o (candidate_of es d) ≡ candidate_of (entries_in o es) d
ended_point es None d apart there = refl
ended_point es (Some e) d apart there = less_point es e d (dest_eq e.server d.id) (is_active e.state) apart there refl refl

looked_by : (es : List Entry) (overloaded here : Bool) (d : Dest) → d.live ≡ true
    → (if here then record (candidate_of es d) { eligible = nat_lt 0 d.spec.weight && not overloaded } else candidate_of es d) ≡ candidate_of es (if here then record d { overloaded = overloaded } else d)
looked_by es overloaded true d live = ap (λ (b : Bool). record (candidate_of es d) { eligible = (b && nat_lt 0 d.spec.weight) && not overloaded }) (sym live)
looked_by es overloaded false d live = refl

looked_point : (es : List Entry) (o : Option Overload) (d : Dest) → d.live ≡ true → looked_in o (candidate_of es d) ≡ candidate_of es (dest_in o d)
looked_point es None d live = refl
looked_point es (Some o) d live = looked_by es o.overloaded (dest_id_eq d.id o.server) d live

served_by : (key : ServiceKey) (overloaded here : Bool) (d : Dest) → is_server_of key (if here then record d { overloaded = overloaded } else d) ≡ is_server_of key d
served_by key overloaded true d = refl
served_by key overloaded false d = refl

served_point : (key : ServiceKey) (o : Option Overload) (d : Dest) → is_server_of key (dest_in o d) ≡ is_server_of key d
served_point key None d = refl
served_point key (Some o) d = served_by key o.overloaded (dest_id_eq d.id o.server) d

live_by : (a b : Bool) → (a && b) ≡ true → a ≡ true
live_by true b is = refl
live_by false b is = absurd cc

seen_step : (f : Candidate → Candidate) (g h : Dest → Candidate) (b : Bool) (d e : Dest) (xs ys : List Dest) → (b ≡ true → f (g d) ≡ h e) → map f (map g xs) ≡ map h ys
    → map f (map g (cond b (d ∷ xs) xs)) ≡ map h (cond b (e ∷ ys) ys)
seen_step f g h true d e xs ys here rest = rw (here refl) (ap (λ (cs : List Candidate). h e ∷ cs) rest)
seen_step f g h false d e xs ys here rest = rest

-- the candidates in a view are those of the state in the view
pub seen_same : (es : List Entry) (view : View) (key : ServiceKey) (ds : List Dest) → IsDistinct nat_eq (entry_ids es) → IfSome view.ended (IsThere es)
    → map (candidate_in view) (candidates key ds es) ≡ candidates key (dests_in view.overload ds) (entries_in view.ended es)
seen_same es view key [] apart there = refl
seen_same es view key (d ∷ ds) apart there =
    seen_step (candidate_in view) (candidate_of es) (candidate_of (entries_in view.ended es)) (is_server_of key d) d (dest_in view.overload d) (servers_of key ds) (servers_of key (dests_in view.overload ds))
    (λ served. ap (looked_in view.overload) (ended_point es view.ended d apart there) ∙ looked_point (entries_in view.ended es) view.overload d (live_by d.live (service_key_eq d.service key) served))
    (seen_same es view key ds apart there)
    ∙ ap (λ (b : Bool). map (candidate_of (entries_in view.ended es)) (cond b (dest_in view.overload d ∷ servers_of key (dests_in view.overload ds)) (servers_of key (dests_in view.overload ds)))) (sym (served_point key view.overload d))
