-- An entry that is bound and ended: what it leaves is what the view shows.
use Rattle.std.proofs.Common.{◌≡◌, ℕ, ◌+◌, List, [], ◌∷◌, Bool, true, false, cond, not, ◌&&◌, Option, Some, None, refl, sym, ap, subst, ◌∙◌, map, arith, nat_eq}
use Rattle.std.proofs.lemmas.Bool.Decides.{nat_tests}
use Rattle.std.specs.List.{AllByRecursion, IsDistinct, find}
use Rattle.lvs_types.specs.declared.addr.DestId.{DestId}
use Rattle.lvs_types.specs.declared.service.Service.{Service}
use Rattle.lvs_types.specs.declared.dest.Dest.{Dest}
use Rattle.lvs_types.specs.declared.entry.Entry.{Entry}
use Rattle.lvs_types.specs.declared.entry.Key.{Key}
use Rattle.lvs_model.specs.Same.{dest_eq}
use Rattle.lvs_model.specs.Lists.{update_first, without}
use Rattle.lvs_model.specs.Overload.{overload_bound, overload_ended}
use Rattle.lvs_model.specs.Counts.{total}
use Rattle.lvs_model.specs.Binding.{put_entry, count_bound, count_ended, binding_in, server_for_entry, serves_at}
use Rattle.lvs_model.specs.Lookups.{entry_at, dest_at, has_dest_id, has_entry_id, has_key, is_server_of, find_service}
use Rattle.lvs_model.specs.WellFormed.{entry_ids, dest_ids}
use Rattle.lvs_model.proofs.ListLemmas.{update_none}
use Rattle.lvs_well_formed.proofs.Lists.{all_find, all_unmap, all_weaker, find_passes}
use Rattle.lvs_well_formed.proofs.Distinct.{distinct_parts, each_found, keys_update}
use Rattle.lvs_well_formed.proofs.Keys.{nat_same, dest_id_true}
use Rattle.lvs_well_formed.proofs.Counting.{total_cons, dest_same}
use Rattle.lvs_rules.specs.declared.view.Overload.{Overload}
use Rattle.lvs_rules.specs.Views.{dest_in, dests_in}
use Rattle.lvs_rules.specs.TooLong.{overload_left}
use Rattle.lvs_rules.proofs.Leaving.{as_they_are}

-- WHAT IS FOUND BY ITS ID

pub found_by_id : (key : Key) (es : List Entry) (e : Entry) → IsDistinct nat_eq (entry_ids es) → entry_at key es ≡ Some e → find (has_entry_id e.id) es ≡ Some e
found_by_id key es e apart found =
    all_find (λ (x : Entry). find (has_entry_id x.id) es ≡ Some x) (has_key key) es e (each_found nat_eq (λ (x : Entry). x.id) es nat_same apart) found

bound_by_id : (o : Option Service) (e : Entry) (ds : List Dest) (d : Dest) → IsDistinct nat_eq (dest_ids ds) → binding_in o e.daddr e.dport e.key.vport ds ≡ Some d → dest_at d.id ds ≡ Some d
bound_by_id None e ds d apart found = absurd cc
bound_by_id (Some service) e ds d apart found =
    all_find (λ (x : Dest). dest_at x.id ds ≡ Some x) (λ x. is_server_of service.key x && serves_at e.daddr e.dport e.key.vport x) ds d (each_found nat_eq (λ (x : Dest). x.id.0) ds nat_same apart) found

pub server_by_id : (services : List Service) (e : Entry) (ds : List Dest) (d : Dest) → IsDistinct nat_eq (dest_ids ds) → server_for_entry services ds e ≡ Some d → dest_at d.id ds ≡ Some d
server_by_id services e ds d apart found = bound_by_id (find_service e.key.proto e.key.vaddr e.key.vport e.mark services) e ds d apart found

-- once one has an id, no later one has it
others_differ : {X : Type 0} (n : X → ℕ) (x : X) (xs : List X) (id : ℕ) → nat_eq (n x) id ≡ true → AllByRecursion (λ k. nat_eq (n x) k ≡ false) (map n xs) → AllByRecursion (λ y. nat_eq (n y) id ≡ false) xs
others_differ n x xs id same apart =
    all_weaker (λ y. nat_eq (n x) (n y) ≡ false) (λ y. nat_eq (n y) id ≡ false) xs (λ y differs. grind (arith, nat_tests)) (all_unmap (λ k. nat_eq (n x) k ≡ false) n xs apart)

-- ENTRIES

none_leaves : {X : Type 0} (p : X → Bool) (xs : List X) → AllByRecursion (λ x. p x ≡ false) xs → without p xs ≡ xs
none_leaves p [] none = refl
none_leaves p (x ∷ xs) none = rw none.0 (ap (λ rest. x ∷ rest) (none_leaves p xs none.1))

put_step : {X : Type 0} (p : X → Bool) (v x : X) (b : Bool) (xs put : List X) → p x ≡ b → p v ≡ true → without p put ≡ without p xs → without p (cond b (v ∷ xs) (x ∷ put)) ≡ without p (x ∷ xs)
put_step p v x true xs put is passes rest = rw is (rw passes refl)
put_step p v x false xs put is passes rest = rw is (ap (λ others. x ∷ others) rest)

-- the one that is put leaves in place of the other
pub put_leaves : {X : Type 0} (p : X → Bool) (v : X) (xs : List X) → p v ≡ true → without p (update_first p (λ _. v) xs) ≡ without p xs
put_leaves p v [] passes = refl
put_leaves p v (x ∷ xs) passes = put_step p v x (p x) xs (update_first p (λ _. v) xs) refl passes (put_leaves p v xs passes)

abbrev one_if : Bool → ℕ
one_if b = cond b 1 0

total_step : (id : DestId) (b e x : Entry) (passes : Bool) (xs : List Entry) → has_entry_id b.id x ≡ passes → b.server ≡ Some id → cond passes (Some x) (find (has_entry_id b.id) xs) ≡ Some e
    → AllByRecursion (λ k. nat_eq x.id k ≡ false) (entry_ids xs) → (find (has_entry_id b.id) xs ≡ Some e → total id (put_entry b xs) ≡ total id (without (has_entry_id b.id) xs) + 1)
    → total id (cond passes (b ∷ xs) (x ∷ put_entry b xs)) ≡ total id (cond (not passes) (x ∷ without (has_entry_id b.id) xs) (without (has_entry_id b.id) xs)) + 1
total_step id b e x true xs is names found apart rest =
    let none : without (has_entry_id b.id) xs ≡ xs = none_leaves (has_entry_id b.id) xs (others_differ (λ (y : Entry). y.id) x xs b.id is apart) in
    let counts : one_if (dest_eq b.server id) ≡ one_if true = ap one_if (dest_same b.server id names) in
    let same : total id (without (has_entry_id b.id) xs) ≡ total id xs = ap (total id) none in
    omega (arith, total_cons id b xs, counts, same)
total_step id b e x false xs is names found apart rest =
    omega (arith, total_cons id x (put_entry b xs), total_cons id x (without (has_entry_id b.id) xs), rest found)

-- an entry that is put in place of another and names the server counts as one more than those that are left
pub bound_total : (id : DestId) (b e : Entry) (es : List Entry) → IsDistinct nat_eq (entry_ids es) → b.server ≡ Some id → find (has_entry_id b.id) es ≡ Some e → total id (put_entry b es) ≡ total id (without (has_entry_id b.id) es) + 1
bound_total id b e [] apart names found = absurd cc
bound_total id b e (x ∷ xs) apart names found =
    let parts = distinct_parts nat_eq x.id (entry_ids xs) apart in
    total_step id b e x (has_entry_id b.id x) xs refl names found parts.0 (λ later. bound_total id b e xs parts.1 names later)

-- SERVERS

abbrev overload_at : DestId → Bool → Overload
overload_at id overloaded = record { server = id; overloaded = overloaded }

others_stay : (id : DestId) (overloaded : Bool) (ds : List Dest) → AllByRecursion (λ (d : Dest). nat_eq d.id.0 id.0 ≡ false) ds → dests_in (Some (overload_at id overloaded)) ds ≡ ds
others_stay id overloaded [] none = refl
others_stay id overloaded (d ∷ ds) none = rw none.0 (ap (λ (rest : List Dest). d ∷ rest) (others_stay id overloaded ds none.1))

set_step : (id : DestId) (f : Dest → Bool) (x d : Dest) (passes : Bool) (xs : List Dest) → has_dest_id id x ≡ passes → cond passes (Some x) (dest_at id xs) ≡ Some d → AllByRecursion (λ k. nat_eq x.id.0 k ≡ false) (dest_ids xs)
    → (dest_at id xs ≡ Some d → update_first (has_dest_id id) (λ (y : Dest). record y { overloaded = f y }) xs ≡ dests_in (Some (overload_at id (f d))) xs)
    → cond passes (record x { overloaded = f x } ∷ xs) (x ∷ update_first (has_dest_id id) (λ (y : Dest). record y { overloaded = f y }) xs) ≡ cond passes (record x { overloaded = f d }) x ∷ dests_in (Some (overload_at id (f d))) xs
set_step id f x d true xs is found apart rest =
    let same : x ≡ d = cc in
    ap (λ (y : Dest). record x { overloaded = f y } ∷ xs) same ∙ ap (λ (others : List Dest). record x { overloaded = f d } ∷ others) (sym (others_stay id (f d) xs (others_differ (λ (y : Dest). y.id.0) x xs id.0 is apart)))
set_step id f x d false xs is found apart rest = ap (λ (others : List Dest). x ∷ others) (rest found)

set_in : (id : DestId) (f : Dest → Bool) (ds : List Dest) (d : Dest) → IsDistinct nat_eq (dest_ids ds) → dest_at id ds ≡ Some d → update_first (has_dest_id id) (λ (y : Dest). record y { overloaded = f y }) ds ≡ dests_in (Some (overload_at id (f d))) ds
set_in id f [] d apart found = absurd cc
set_in id f (x ∷ xs) d apart found =
    let parts = distinct_parts nat_eq x.id.0 (dest_ids xs) apart in
    set_step id f x d (has_dest_id id x) xs refl found parts.0 (λ later. set_in id f xs d parts.1 later)

ended_by : (id : DestId) (left : List Entry) (ds : List Dest) (o : Option Dest) → IsDistinct nat_eq (dest_ids ds) → dest_at id ds ≡ o → count_ended (Some id) left ds ≡ dests_in (overload_left left o) ds
ended_by id left ds None apart is = update_none (has_dest_id id) (λ (d : Dest). record d { overloaded = overload_ended d.spec (total id left) d.overloaded }) ds is ∙ sym (as_they_are ds)
ended_by id left ds (Some d) apart is =
    let same : d.id ≡ id = dest_id_true d.id id (find_passes (has_dest_id id) ds d is) in
    set_in id (λ (x : Dest). overload_ended x.spec (total id left) x.overloaded) ds d apart is
    ∙ ap (λ (named : DestId). dests_in (Some (overload_at named (overload_ended d.spec (total named left) d.overloaded))) ds) (sym same)

-- the end of an entry leaves the servers as the view shows them
pub ended_in : (id : DestId) (left : List Entry) (ds : List Dest) → IsDistinct nat_eq (dest_ids ds) → count_ended (Some id) left ds ≡ dests_in (overload_left left (dest_at id ds)) ds
ended_in id left ds apart = ended_by id left ds (dest_at id ds) apart refl

again_step : (id : DestId) (overloaded set passes : Bool) (x : Dest) (xs changed : List Dest) → has_dest_id id x ≡ passes → dests_in (Some (overload_at id overloaded)) changed ≡ dests_in (Some (overload_at id overloaded)) xs
    → dests_in (Some (overload_at id overloaded)) (cond passes (record x { overloaded = set } ∷ xs) (x ∷ changed)) ≡ dests_in (Some (overload_at id overloaded)) (x ∷ xs)
again_step id overloaded set true x xs changed is rest = rw is refl
again_step id overloaded set false x xs changed is rest = ap (λ (others : List Dest). dest_in (Some (overload_at id overloaded)) x ∷ others) rest

-- what the view sets may be set to anything before
set_again : (id : DestId) (overloaded : Bool) (f : Dest → Bool) (ds : List Dest) → dests_in (Some (overload_at id overloaded)) (update_first (has_dest_id id) (λ (x : Dest). record x { overloaded = f x }) ds) ≡ dests_in (Some (overload_at id overloaded)) ds
set_again id overloaded f [] = refl
set_again id overloaded f (x ∷ xs) = again_step id overloaded (f x) (has_dest_id id x) x xs (update_first (has_dest_id id) (λ (y : Dest). record y { overloaded = f y }) xs) refl (set_again id overloaded f xs)

found_step : (passes : Bool) (f : Dest → Dest) (x d : Dest) (o later : Option Dest) → cond passes (Some x) o ≡ Some d → (o ≡ Some d → later ≡ Some (f d)) → cond passes (Some (f x)) later ≡ Some (f d)
found_step true f x d o later found rest = let same : x ≡ d = cc in ap (λ (y : Dest). Some (f y)) same
found_step false f x d o later found rest = rest found

found_by : (passes : Bool) (p : Dest → Bool) (f : Dest → Dest) (x d : Dest) (xs changed : List Dest) → p x ≡ passes → p (f x) ≡ p x → cond passes (Some (f x)) (find p changed) ≡ Some (f d) → find p (cond passes (f x ∷ xs) (x ∷ changed)) ≡ Some (f d)
found_by true p f x d xs changed is same found = rw same (rw is found)
found_by false p f x d xs changed is same found = rw is found

-- the server that was bound, found again
bound_found : (id : DestId) (es : List Entry) (ds : List Dest) (d : Dest) → dest_at id ds ≡ Some d → dest_at id (count_bound id es ds) ≡ Some (record d { overloaded = overload_bound d.spec (total id es) d.overloaded })
bound_found id es [] d found = absurd cc
bound_found id es (x ∷ xs) d found =
    let f : Dest → Dest = λ (y : Dest). record y { overloaded = overload_bound y.spec (total id es) y.overloaded } in
    found_by (has_dest_id id x) (has_dest_id id) f x d xs (count_bound id es xs) refl refl (found_step (has_dest_id id x) f x d (dest_at id xs) (dest_at id (count_bound id es xs)) found (bound_found id es xs d))

pub bound_is_found : (d : Dest) (es left : List Entry) (ds : List Dest) → dest_at d.id ds ≡ Some d → total d.id es ≡ total d.id left + 1
    → dest_at d.id (count_bound d.id es ds) ≡ Some (record d { overloaded = overload_bound d.spec (total d.id left + 1) d.overloaded })
bound_is_found d es left ds found counts = bound_found d.id es ds d found ∙ ap (λ (n : ℕ). Some (record d { overloaded = overload_bound d.spec n d.overloaded })) counts

-- an entry that was bound to the server and ended leaves the servers as the view shows them
pub bound_ended_in : (d later : Dest) (es left : List Entry) (ds : List Dest) → IsDistinct nat_eq (dest_ids ds) → later.id ≡ d.id → dest_at d.id (count_bound d.id es ds) ≡ Some later
    → count_ended (Some d.id) left (count_bound d.id es ds) ≡ dests_in (overload_left left (Some later)) ds
bound_ended_in d later es left ds apart same found =
    let set : Dest → Bool = λ (x : Dest). overload_bound x.spec (total d.id es) x.overloaded in
    let ids : dest_ids (count_bound d.id es ds) ≡ dest_ids ds = keys_update (λ (x : Dest). x.id.0) (has_dest_id d.id) (λ (x : Dest). record x { overloaded = set x }) ds (λ x here. refl) in
    let overload : Bool = overload_ended later.spec (total later.id left) later.overloaded in
    ended_by d.id left (count_bound d.id es ds) (Some later) (subst (λ (l : List ℕ). IsDistinct nat_eq l) (sym ids) apart) found
    ∙ ap (λ (id : DestId). dests_in (Some (overload_at id overload)) (count_bound d.id es ds)) same
    ∙ set_again d.id overload set ds
    ∙ ap (λ (id : DestId). dests_in (Some (overload_at id overload)) ds) (sym same)
