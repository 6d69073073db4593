-- Groups without rows, with one row more, and the rows of a service, all of which stand in its group.
use Rattle.std.proofs.Common.{◌≡◌, ◌≢◌, ◌⊎◌, inl, inr, ℕ, ◌<◌, ◌==◌, ◌&&◌, Bool, true, false, cond, List, [], ◌∷◌, ◌++◌, length, Some, refl, sym, ◌∙◌, ap, arith, set, slice_get, append-nil, length-set, zero, suc}
use Rattle.std.specs.List.{filter}
use Rattle.std.proofs.lemmas.List.Elements.{filter-append}
use Rattle.std.proofs.lemmas.Option.{gets}
use Rattle.std.proofs.lemmas.Grind.{common_steps}
use Rattle.std.proofs.lemmas.Bool.{and_parts, both_ways, cases_eq, eqb-true, eq-eqb, false_from_ne_true}
use Rattle.std.proofs.lemmas.Bool.Decides.{nat_tests}
use Rattle.lvs_types.specs.declared.addr.Addr.{Addr}
use Rattle.lvs_types.specs.declared.service.Proto.{Proto}
use Rattle.lvs_types.specs.declared.service.Proto.TheVariants.{Tcp, Udp}
use Rattle.lvs_types.specs.declared.service.ServiceKey.{ServiceKey}
use Rattle.lvs_types.specs.declared.service.ServiceKey.TheVariants.{Net, Mark}
use Rattle.lvs_types.specs.declared.dest.DestRow.{DestRow}
use Rattle.lvs_model.specs.Same.{addr_eq, proto_eq, service_key_eq}
use Rattle.lvs_model.specs.Lookups.{is_server_of}
use Rattle.lvs_model.specs.Listings.{rows_of}
use Rattle.lvs_listing.specs.Grouped.{group_of, falls_to, AreGrouped}

get_same : {X : Type 0} (xs : List X) (i : ℕ) (x y : X) → i < length xs → slice_get (set xs i x) i ≡ Some y → y ≡ x
get_same xs i x y within is = grind (arith, common_steps, gets)

get_other : {X : Type 0} (xs : List X) (i k : ℕ) (x y : X) → k ≢ i → slice_get (set xs i x) k ≡ Some y → slice_get xs k ≡ Some y
get_other xs i k x y ne is = grind (arith, common_steps, gets)

filter_yes : {X : Type 0} (p : X → Bool) (xs : List X) (x : X) → p x ≡ true → filter p (xs ++ x ∷ []) ≡ filter p xs ++ x ∷ []
filter_yes p xs x is = filter-append p xs (x ∷ []) ∙ ap (λ (b : Bool). filter p xs ++ cond b (x ∷ []) []) is

filter_no : {X : Type 0} (p : X → Bool) (xs : List X) (x : X) → p x ≡ false → filter p (xs ++ x ∷ []) ≡ filter p xs
filter_no p xs x is = filter-append p xs (x ∷ []) ∙ ap (λ (b : Bool). filter p xs ++ cond b (x ∷ []) []) is ∙ append-nil (filter p xs)

-- the groups, where their number is known by another name
Fall : ℕ → List (List DestRow) → List DestRow → Type 0
Fall count groups rows = (at : ℕ) (group : List DestRow) → slice_get groups at ≡ Some group → group ≡ filter (falls_to count at) rows

put_here : (count at : ℕ) (rows : List DestRow) (row : DestRow) (groups : List (List DestRow)) (old new group : List DestRow) → Fall count groups rows → at < length groups → slice_get groups at ≡ Some old → new ≡ old ++ row ∷ [] → at ≡ group_of count row.dest.service → slice_get (set groups at new) at ≡ Some group → group ≡ filter (falls_to count at) (rows ++ row ∷ [])
unfolding Fall
put_here count at rows row groups old new group grouped within there added falls is =
    let same : group ≡ new = get_same groups at new group within is in
    let passes : falls_to count at row ≡ true = grind (arith, nat_tests) in
    let before = grouped at old there in
    same ∙ added ∙ ap (λ (l : List DestRow). l ++ row ∷ []) before ∙ sym (filter_yes (falls_to count at) rows row passes)

put_by : (count k at : ℕ) (rows : List DestRow) (row : DestRow) (groups : List (List DestRow)) (old new group : List DestRow) → Fall count groups rows → at < length groups → slice_get groups at ≡ Some old → new ≡ old ++ row ∷ [] → at ≡ group_of count row.dest.service → slice_get (set groups at new) k ≡ Some group → (k ≡ at) ⊎ (k ≡ at → ⊥) → group ≡ filter (falls_to count k) (rows ++ row ∷ [])
unfolding Fall
put_by count k at rows row groups old new group grouped within there added falls is (inl here) =
    rw here (put_here count at rows row groups old new group grouped within there added falls (rw here at is))
put_by count k at rows row groups old new group grouped within there added falls is (inr elsewhere) =
    let no : falls_to count k row ≡ false = grind (arith, nat_tests) in
    grouped k group (get_other groups at k new group elsewhere is) ∙ sym (filter_no (falls_to count k) rows row no)

pub grouped_put : (groups : List (List DestRow)) (rows : List DestRow) (row : DestRow) (at : ℕ) (old new : List DestRow) → AreGrouped groups rows → at < length groups → slice_get groups at ≡ Some old → new ≡ old ++ row ∷ [] → at ≡ group_of (length groups) row.dest.service → AreGrouped (set groups at new) (rows ++ row ∷ [])
unfolding Fall
grouped_put groups rows row at old new grouped within there added falls k group is =
    rw length-set (put_by (length groups) k at rows row groups old new group grouped within there added falls is (cases_eq k at))

pub grouped_none : AreGrouped [] []
grouped_none at group is = absurd cc

-- one more group without rows
pub grouped_more : (groups : List (List DestRow)) → AreGrouped groups [] → AreGrouped (groups ++ [] ∷ []) []
grouped_more [] grouped zero group is = cc
grouped_more [] grouped (suc at) group is = absurd cc
grouped_more (x ∷ groups) grouped zero group is = grouped zero group is
grouped_more (x ∷ groups) grouped (suc at) group is = grouped_more groups (λ k found there. grouped (suc k) found there) at group is

proto_true : (a b : Proto) → proto_eq a b ≡ true → a ≡ b
proto_true Tcp Tcp is = refl
proto_true Tcp Udp is = absurd cc
proto_true Udp Tcp is = absurd cc
proto_true Udp Udp is = refl

addr_true : (a b : Addr) → addr_eq a b ≡ true → a ≡ b
addr_true a b is = let numbers = eqb-true a.number b.number is in ap (λ n. let addr : Addr = record { number = n } in addr) numbers

-- keys that the test finds equal are one
key_true : (a b : ServiceKey) → service_key_eq a b ≡ true → a ≡ b
key_true (Net proto addr port) (Net proto_b addr_b port_b) is =
    let last = and_parts (proto_eq proto proto_b && addr_eq addr addr_b) (port == port_b) is in
    let first = and_parts (proto_eq proto proto_b) (addr_eq addr addr_b) last.0 in
    let protos = proto_true proto proto_b first.0 in
    let addrs = addr_true addr addr_b first.1 in
    let ports = eqb-true port port_b last.1 in
    ap (λ (x : Proto). Net x addr port) protos ∙ ap (λ (x : Addr). Net proto_b x port) addrs ∙ ap (λ (x : ℕ). Net proto_b addr_b x) ports
key_true (Net proto addr port) (Mark mark) is = absurd cc
key_true (Mark mark) (Net proto addr port) is = absurd cc
key_true (Mark mark) (Mark other) is = ap (λ (x : ℕ). Mark x) (eqb-true mark other is)

-- a row of a service falls to the group of the service
own_group : (count at : ℕ) (key : ServiceKey) (row : DestRow) → at ≡ group_of count key → is_server_of key row.dest ≡ true → falls_to count at row ≡ true
own_group count at key row falls is =
    let same = key_true row.dest.service key (and_parts row.dest.live (service_key_eq row.dest.service key) is).1 in
    eq-eqb (group_of count row.dest.service) at (ap (λ (k : ServiceKey). group_of count k) same ∙ sym falls)

within_by : {X : Type 0} (p q : X → Bool) (x : X) (xs : List X) (b : Bool) → q x ≡ b → (p x ≡ true → q x ≡ true) → filter p (filter q xs) ≡ filter p xs → filter p (cond b (x ∷ filter q xs) (filter q xs)) ≡ cond (p x) (x ∷ filter p xs) (filter p xs)
within_by p q x xs true is within rest = ap (λ l. cond (p x) (x ∷ l) l) rest
within_by p q x xs false is within rest =
    rest ∙ sym (ap (λ (b : Bool). cond b (x ∷ filter p xs) (filter p xs)) (false_from_ne_true (p x) (λ passes. both_ways (q x) is (within passes))))

-- of those that pass a weaker test the same pass
filter_within : {X : Type 0} (p q : X → Bool) → ((x : X) → p x ≡ true → q x ≡ true) → (xs : List X) → filter p (filter q xs) ≡ filter p xs
filter_within p q within [] = refl
filter_within p q within (x ∷ xs) = within_by p q x xs (q x) refl (within x) (filter_within p q within xs)

pub rows_around : (groups : List (List DestRow)) (rows : List DestRow) (key : ServiceKey) (at : ℕ) (group : List DestRow) → AreGrouped groups rows → slice_get groups at ≡ Some group → at ≡ group_of (length groups) key → rows_of key group ≡ rows_of key rows
rows_around groups rows key at group grouped there falls =
    ap (rows_of key) (grouped at group there)
    ∙ filter_within (λ (row : DestRow). is_server_of key row.dest) (falls_to (length groups) at) (λ row is. own_group (length groups) at key row falls is) rows
