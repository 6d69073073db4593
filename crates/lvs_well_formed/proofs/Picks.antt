-- The cursor that a pick leaves is the old one, or names one of the candidates.
use Rattle.std.proofs.Common.{◌≡◌, ℕ, ◌+◌, List, [], ◌∷◌, ◌++◌, Option, Some, None, refl, subst, map, take, drop}
use Rattle.std.specs.Option.{option_map}
use Rattle.std.specs.List.{AllByRecursion, find, enumerate_from, position_or_len}
use Rattle.std.proofs.lemmas.List.Elements.{All-from_recursion, recursion_from_All, All-take, All-drop}
use Rattle.lvs_types.specs.declared.addr.Addr.{Addr}
use Rattle.lvs_types.specs.declared.addr.DestId.{DestId}
use Rattle.lvs_types.specs.declared.service.Scheduler.{Scheduler}
use Rattle.lvs_types.specs.declared.service.Scheduler.TheVariants.{Rr, Wrr, Lc, Wlc, Sed, Nq, Sh, Dh, Fo, Ovf, Mh}
use Rattle.lvs_types.specs.declared.service.Cursor.{Cursor}
use Rattle.lvs_types.specs.declared.dest.Candidate.{Candidate}
use Rattle.lvs_model.specs.RoundRobin.{pick_rr, pick_wrr, turn_of, offer_turn, is_taken, is_last, offer, Offer, placed, after_last, through_last, offers, next_current_weight, eligible_weights}
use Rattle.lvs_model.specs.LeastLoad.{pick_lc, pick_wlc, pick_sed, pick_nq}
use Rattle.lvs_model.specs.AddressHash.{pick_sh, pick_dh}
use Rattle.lvs_model.specs.MorePicks.{pick_fo, pick_ovf, pick_mh}
use Rattle.lvs_model.specs.Pick.{pick, and_cursor}
use Rattle.lvs_well_formed.proofs.Lists.{all_map, all_append, all_find}

mapped : {X Y : Type 0} (P : Y → Type 0) (f : X → Y) (o : Option X) (y : Y) → ((x : X) → o ≡ Some x → P (f x)) → option_map f o ≡ Some y → P y
mapped P f None y each is = absurd cc
mapped P f (Some x) y each is = let same : f x ≡ y = cc in subst P same (each x refl)

kept_cursor : (P : Option DestId → Type 0) (cursor : Cursor) (o : Option ℕ) (choice : ℕ × Cursor) → P cursor.last → and_cursor cursor o ≡ Some choice → P choice.1.last
kept_cursor P cursor None choice last is = absurd cc
kept_cursor P cursor (Some place) choice last is =
    let whole : (ℕ × Cursor) → Type 0 = λ turn. P turn.1.last in
    let turn : ℕ × Cursor = (place, cursor) in
    let same : turn ≡ choice = cc in
    subst whole same last

all_enumerated : (P : Candidate → Type 0) (n : ℕ) (cs : List Candidate) → AllByRecursion P cs → AllByRecursion (λ (p : ℕ × Candidate). P p.1) (enumerate_from n cs)
all_enumerated P n [] each = tt
all_enumerated P n (c ∷ cs) each = (each.0, all_enumerated P (n + 1) cs each.1)

all_take : {X : Type 0} (P : X → Type 0) (n : ℕ) (xs : List X) → AllByRecursion P xs → AllByRecursion P (take n xs)
all_take P n xs each = recursion_from_All P (take n xs) (All-take P n xs (All-from_recursion P xs each))

all_drop : {X : Type 0} (P : X → Type 0) (n : ℕ) (xs : List X) → AllByRecursion P xs → AllByRecursion P (drop n xs)
all_drop P n xs each = recursion_from_All P (drop n xs) (All-drop P n xs (All-from_recursion P xs each))

rr_last : (P : Option DestId → Type 0) (cs : List Candidate) (cursor : Cursor) (choice : ℕ × Cursor) → AllByRecursion (λ (c : Candidate). P (Some c.id)) cs → pick_rr cs cursor ≡ Some choice → P choice.1.last
rr_last P cs cursor choice each is =
    let Q : (ℕ × Candidate) → Type 0 = λ p. P (Some p.1.id) in
    let all : AllByRecursion Q (placed cs) = all_enumerated (λ (c : Candidate). P (Some c.id)) 0 cs each in
    let turned : AllByRecursion Q (after_last cs cursor ++ through_last cs cursor) =
    all_append Q (after_last cs cursor) (through_last cs cursor) (all_drop Q (position_or_len (is_last cursor) (placed cs) + 1) (placed cs) all) (all_take Q (position_or_len (is_last cursor) (placed cs) + 1) (placed cs) all) in
    mapped (λ (turn : ℕ × Cursor). P turn.1.last) (turn_of cursor) (find (λ (p : ℕ × Candidate). p.1.eligible) (after_last cs cursor ++ through_last cs cursor)) choice
    (λ p found. all_find Q (λ (q : ℕ × Candidate). q.1.eligible) (after_last cs cursor ++ through_last cs cursor) p turned found) is

wrr_last : (P : Option DestId → Type 0) (cs : List Candidate) (cursor : Cursor) (choice : ℕ × Cursor) → AllByRecursion (λ (c : Candidate). P (Some c.id)) cs → pick_wrr cs cursor ≡ Some choice → P choice.1.last
wrr_last P cs cursor choice each is =
    let Q : (ℕ × Candidate) → Type 0 = λ p. P (Some p.1.id) in
    let R : Offer → Type 0 = λ o. P (Some o.server.id) in
    let all : AllByRecursion Q (placed cs) = all_enumerated (λ (c : Candidate). P (Some c.id)) 0 cs each in
    let number = next_current_weight (eligible_weights cs) cursor.cw in
    let offered : AllByRecursion R (offers cs cursor) =
    all_append R (map (offer cursor.cw) (after_last cs cursor)) (map (offer number) (placed cs))
    (all_map R (offer cursor.cw) (after_last cs cursor) (all_drop Q (position_or_len (is_last cursor) (placed cs) + 1) (placed cs) all))
    (all_map R (offer number) (placed cs) all) in
    mapped (λ (turn : ℕ × Cursor). P turn.1.last) offer_turn (find is_taken (offers cs cursor)) choice
    (λ o found. all_find R is_taken (offers cs cursor) o offered found) is

pub pick_last : (P : Option DestId → Type 0) (scheduler : Scheduler) (cs : List Candidate) (addrs : List Addr) (cursor : Cursor) (source destination : Addr) (choice : ℕ × Cursor)
    → P cursor.last → AllByRecursion (λ (c : Candidate). P (Some c.id)) cs → pick scheduler cs addrs cursor source destination ≡ Some choice → P choice.1.last
pick_last P Rr cs addrs cursor source destination choice last each is = rr_last P cs cursor choice each is
pick_last P Wrr cs addrs cursor source destination choice last each is = wrr_last P cs cursor choice each is
pick_last P Lc cs addrs cursor source destination choice last each is = kept_cursor P cursor (pick_lc cs) choice last is
pick_last P Wlc cs addrs cursor source destination choice last each is = kept_cursor P cursor (pick_wlc cs) choice last is
pick_last P Sed cs addrs cursor source destination choice last each is = kept_cursor P cursor (pick_sed cs) choice last is
pick_last P Nq cs addrs cursor source destination choice last each is = kept_cursor P cursor (pick_nq cs) choice last is
pick_last P Sh cs addrs cursor source destination choice last each is = kept_cursor P cursor (pick_sh cs source) choice last is
pick_last P Dh cs addrs cursor source destination choice last each is = kept_cursor P cursor (pick_dh cs destination) choice last is
pick_last P Fo cs addrs cursor source destination choice last each is = kept_cursor P cursor (pick_fo cs) choice last is
pick_last P Ovf cs addrs cursor source destination choice last each is = kept_cursor P cursor (pick_ovf cs) choice last is
pick_last P Mh cs addrs cursor source destination choice last each is = kept_cursor P cursor (pick_mh cs addrs source) choice last is
