-- A server that is removed from its service keeps the state well formed: its cursor steps back.
use Rattle.std.proofs.Common.{◌≡◌, ℕ, Bool, true, false, cond, List, [], ◌∷◌, Option, Some, None, refl, sym, subst, ◌∙◌, map}
use Rattle.std.proofs.lemmas.Bool.{and_parts, false_from_ne_true, both_ways}
use Rattle.std.specs.List.{AllByRecursion, IsDistinct, find}
use Rattle.lvs_types.specs.declared.addr.Addr.{Addr}
use Rattle.lvs_types.specs.declared.addr.DestId.{DestId}
use Rattle.lvs_types.specs.declared.service.ServiceKey.{ServiceKey}
use Rattle.lvs_types.specs.declared.service.Service.{Service}
use Rattle.lvs_types.specs.declared.dest.Dest.{Dest}
use Rattle.lvs_model.specs.State.{State}
use Rattle.lvs_model.specs.Same.{service_key_eq, dest_id_eq, dest_eq}
use Rattle.lvs_model.specs.Lists.{update_first}
use Rattle.lvs_model.specs.Lookups.{dest_at, has_dest_id, has_service_key, is_server_of, servers_of, stands_at, is_server_at}
use Rattle.lvs_model.specs.Edits.{server_before, step_back, remove_dest, remove_dests, remove_server_at, remove_server_by}
use Rattle.lvs_model.specs.WellFormed.{HasCursor, IsLastOf, is_live_server, service_keys}
use Rattle.lvs_well_formed.proofs.Lists.{all_both, all_passing, all_find, all_unmap, find_passes}
use Rattle.lvs_well_formed.proofs.Distinct.{distinct_parts, keys_update}
use Rattle.lvs_well_formed.proofs.Keys.{service_key_true, service_key_flip, dest_id_true}
use Rattle.lvs_well_formed.proofs.Parts.{Parts, After, stays}
use Rattle.lvs_well_formed.proofs.Entries.{dests_found}
use Rattle.lvs_well_formed.proofs.Removals.{removed_after, last_left, dest_stays}
use Rattle.lvs_well_formed.proofs.Services.{other_server}
use Rattle.lvs_well_formed.proofs.Schedules.{has_service_same}

-- of services with keys apart, one changes, and each of the others has another key
pub all_update_one : {X K : Type 0} (P Q : X → Type 0) (eq : K → K → Bool) (key : X → K) (p : X → Bool) (f : X → X) (xs : List X) → ((x y : X) → p x ≡ true → eq (key x) (key y) ≡ false → p y ≡ false)
    → ((x : X) → p x ≡ true → P x → Q (f x)) → ((x : X) → p x ≡ false → P x → Q x) → IsDistinct eq (map key xs) → AllByRecursion P xs → AllByRecursion Q (update_first p f xs)
all_update_one P Q eq key p f [] other first rest apart each = tt
all_update_one P Q eq key p f (x ∷ xs) other first rest apart each =
    let parts = distinct_parts eq (key x) (map key xs) apart in
    let differ = all_unmap (λ k. eq (key x) k ≡ false) key xs parts.0 in
    let M : Bool → Type 0 = λ b. p x ≡ b → AllByRecursion Q (cond b (f x ∷ xs) (x ∷ update_first p f xs)) in
    (elim (p x) as M [
      | true ↦ (λ here. (first x here each.0, all_both (λ y. eq (key x) (key y) ≡ false) P Q xs (λ y differs old. rest y (other x y here differs) old) differ each.1))
      | false ↦ (λ here. (rest x here each.0, all_update_one P Q eq key p f xs other first rest parts.1 each.1))
    ]) refl

-- THE SERVER BEFORE

before_step : (P : Option DestId → Type 0) (b : Bool) (previous : Option DestId) (o : Option DestId) → P previous → (b ≡ false → P o) → P (cond b previous o)
before_step P true previous o first later = first
before_step P false previous o first later = later refl

pub before_keeps : (P : Option DestId → Type 0) (id : DestId) (previous : Option DestId) (ds : List Dest) → P None → P previous → AllByRecursion (λ (d : Dest). dest_id_eq d.id id ≡ false → P (Some d.id)) ds → P (server_before id previous ds)
before_keeps P id previous [] none here each = none
before_keeps P id previous (d ∷ ds) none here each =
    before_step P (dest_id_eq d.id id) previous (server_before id (Some d.id) ds) here (λ differs. before_keeps P id (Some d.id) ds none (each.0 differs) each.1)

-- the servers of the service that stay are there, live
others_stay : (s : State) (key : ServiceKey) (id : DestId) → Parts s
    → AllByRecursion (λ (d : Dest). dest_id_eq d.id id ≡ false → IsLastOf (remove_dests (has_dest_id id) s.entries s.templates s.dests) key (Some d.id)) (servers_of key s.dests)
others_stay s key id p =
    let later = remove_dests (has_dest_id id) s.entries s.templates s.dests in
    all_passing (λ (d : Dest). dest_at d.id s.dests ≡ Some d) (λ (d : Dest). dest_id_eq d.id id ≡ false → IsLastOf later key (Some d.id)) (is_server_of key) s.dests
    (λ d live found differs. subst (λ o. is_live_server key o ≡ true) (sym (dest_stays (has_dest_id id) s.entries s.templates s.dests d.id d differs found)) live) (dests_found s p)

step_by : (P : Service → Type 0) (b : Bool) (stepped service : Service) → P stepped → (b ≡ false → P service) → P (cond b stepped service)
step_by P true stepped service first second = first
step_by P false stepped service first second = second refl

-- a cursor that names another server than the one that leaves
another : (id named : DestId) (o : Option DestId) → dest_eq o id ≡ false → o ≡ Some named → dest_id_eq named id ≡ false
another id named None differs is = absurd cc
another id named (Some other) differs is = let same : other ≡ named = cc in subst (λ i. dest_id_eq i id ≡ false) same differs

other_last : (s : State) (key : ServiceKey) (id : DestId) (o : Option DestId) → dest_eq o id ≡ false → IsLastOf s.dests key o → IsLastOf (remove_dests (has_dest_id id) s.entries s.templates s.dests) key o
other_last s key id o differs last =
    last_left (has_dest_id id) s.entries s.templates s.dests key o
    (λ named d is found live. subst (λ i. dest_id_eq i id ≡ false) (sym (dest_id_true d.id named (find_passes (has_dest_id named) s.dests d found))) (another id named o differs is)) last

-- the service of the server: its cursor steps back
own_cursor : (s : State) (key : ServiceKey) (id : DestId) (service : Service) → service.key ≡ key → Parts s → HasCursor s.dests service
    → HasCursor (remove_dests (has_dest_id id) s.entries s.templates s.dests) (step_back id (servers_of key s.dests) service)
own_cursor s key id service is p last =
    let later = remove_dests (has_dest_id id) s.entries s.templates s.dests in
    let before = server_before id None (servers_of key s.dests) in
    let stepped : Service = record service { cursor = record { last = before; cw = service.cursor.cw } } in
    step_by (HasCursor later) (dest_eq service.cursor.last id) stepped service
    (subst (λ k. IsLastOf later k before) (sym is) (before_keeps (IsLastOf later key) id None (servers_of key s.dests) tt tt (others_stay s key id p)))
    (λ differs. other_last s service.key id service.cursor.last differs last)

-- another service: its cursor names no server of this one
other_cursor : (s : State) (key : ServiceKey) (d : Dest) (service : Service) → service_key_eq service.key key ≡ false → dest_at d.id s.dests ≡ Some d → is_server_of key d ≡ true → HasCursor s.dests service
    → HasCursor (remove_dests (has_dest_id d.id) s.entries s.templates s.dests) service
other_cursor s key d service differs found own last =
    last_left (has_dest_id d.id) s.entries s.templates s.dests service.key service.cursor.last
    (λ named other is found_other live.
    false_from_ne_true (has_dest_id d.id other)
    (λ same.
    let ids : other.id ≡ named = dest_id_true other.id named (find_passes (has_dest_id named) s.dests other found_other) in
    let to_d : other.id ≡ d.id = dest_id_true other.id d.id same in
    let at_d : dest_at d.id s.dests ≡ Some other = subst (λ i. dest_at i s.dests ≡ Some other) (sym ids ∙ to_d) found_other in
    let equal : other ≡ d = cc in
    both_ways (is_server_of key d) (other_server key service.key d differs (subst (λ x. is_server_of service.key x ≡ true) equal live)) own)) last

-- REMOVAL

step_key : (b : Bool) (id : DestId) (servers : List Dest) (service : Service) → dest_eq service.cursor.last id ≡ b → (step_back id servers service).key ≡ service.key
step_key b id servers service is =
    step_by (λ (x : Service). x.key ≡ service.key) (dest_eq service.cursor.last id) (record service { cursor = record { last = server_before id None servers; cw = service.cursor.cw } }) service refl (λ _. refl)

pub remove_dest_after : (s : State) (key : ServiceKey) (d : Dest) → dest_at d.id s.dests ≡ Some d → is_server_of key d ≡ true → Parts s → After s (remove_dest s key d)
remove_dest_after s key d found own p =
    let back : Service → Service = step_back d.id (servers_of key s.dests) in
    let services = update_first (has_service_key key) back s.services in
    let same : service_keys services ≡ service_keys s.services = keys_update (λ (x : Service). x.key) (has_service_key key) back s.services (λ x here. step_key (dest_eq x.cursor.last d.id) d.id (servers_of key s.dests) x refl) in
    removed_after s services (has_dest_id d.id) (subst (λ keys. IsDistinct service_key_eq keys) (sym same) p.services.keys)
    (λ x stays has live. has_service_same s.services services x.service same ∙ has live)
    (all_update_one (HasCursor s.dests) (HasCursor (remove_dests (has_dest_id d.id) s.entries s.templates s.dests)) service_key_eq (λ (x : Service). x.key) (has_service_key key) back s.services
    (λ x y here differs. service_key_flip key y.key (subst (λ k. service_key_eq k y.key ≡ false) (service_key_true x.key key here) differs))
    (λ x here last. own_cursor s key d.id x (service_key_true x.key key here) p last)
    (λ x differs last. other_cursor s key d x differs found own last) p.services.keys p.services.cursors) p

remove_at_after : (s : State) (key : ServiceKey) (o : Option Dest) → ((d : Dest) → o ≡ Some d → dest_at d.id s.dests ≡ Some d) → ((d : Dest) → o ≡ Some d → is_server_of key d ≡ true) → Parts s → After s (remove_server_at s key o).1
remove_at_after s key None found own p = stays s p
remove_at_after s key (Some d) found own p = remove_dest_after s key d (found d refl) (own d refl) p

pub remove_server_after : (s : State) (key : ServiceKey) (addr : Addr) (port : ℕ) (b : Bool) → Parts s → After s (remove_server_by s key addr port b).1
remove_server_after s key addr port false p = stays s p
remove_server_after s key addr port true p =
    remove_at_after s key (find (is_server_at key addr port) s.dests)
    (λ d is. all_find (λ (x : Dest). dest_at x.id s.dests ≡ Some x) (is_server_at key addr port) s.dests d (dests_found s p) is)
    (λ d is. (and_parts (is_server_of key d) (stands_at addr port d) (find_passes (is_server_at key addr port) s.dests d is)).0) p
