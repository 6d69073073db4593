-- Edits of services keep the state well formed.
use Rattle.std.proofs.Common.{◌≡◌, Bool, true, false, cond, not, ◌&&◌, ◌||◌, List, [], ◌∷◌, ◌++◌, refl, sym, subst}
use Rattle.std.proofs.lemmas.Bool.{and_parts, false_from_ne_true, both_ways, not-true, not_from_false, or_left, or_right}
use Rattle.std.specs.List.{filter, list_any}
use Rattle.lvs_types.specs.declared.service.ServiceKey.{ServiceKey}
use Rattle.lvs_types.specs.declared.service.Service.{Service}
use Rattle.lvs_types.specs.declared.dest.Dest.{Dest}
use Rattle.lvs_model.specs.State.{State}
use Rattle.lvs_model.specs.Same.{service_key_eq}
use Rattle.lvs_model.specs.Lists.{update_first, without}
use Rattle.lvs_model.specs.Lookups.{has_service_key, is_server_of}
use Rattle.lvs_model.specs.Edits.{with_fresh_cursor, is_service, add_service_by, edit_service_by, remove_service_by, clear, remove_dests}
use Rattle.lvs_model.specs.WellFormed.{HasService, HasCursor}
use Rattle.lvs_well_formed.proofs.Lists.{all_weaker, all_passing, all_push, all_update, any_none}
use Rattle.lvs_well_formed.proofs.Distinct.{distinct_none, distinct_push, distinct_filter, keys_update}
use Rattle.lvs_well_formed.proofs.Keys.{service_key_true}
use Rattle.lvs_well_formed.proofs.Parts.{Parts, After, ids_stay, stays}
use Rattle.lvs_well_formed.proofs.Schedules.{with_services_alike}
use Rattle.lvs_well_formed.proofs.Removals.{removed_after, last_left}

any_push : {X : Type 0} (p : X → Bool) (xs : List X) (y : X) → list_any p xs ≡ true → list_any p (xs ++ y ∷ []) ≡ true
any_push p [] y is = absurd cc
any_push p (x ∷ xs) y is =
    let Q : Bool → Type 0 = λ b. (b || list_any p xs) ≡ true → (b || list_any p (xs ++ y ∷ [])) ≡ true in
    (elim (p x) as Q [ true ↦ (λ here. refl) | false ↦ (λ later. any_push p xs y later) ]) is

pub add_service_after : (s : State) (service : Service) (b : Bool) → is_service s service.key ≡ b → Parts s → After s (add_service_by s service b).1
add_service_after s service true is p = stays s p
add_service_after s service false is p =
    record {
      parts = record {
        services = record {
          keys = distinct_push service_key_eq (λ (x : Service). x.key) s.services (with_fresh_cursor service) (any_none (has_service_key service.key) s.services is) p.services.keys;
          live = all_weaker (HasService s.services) (HasService (s.services ++ with_fresh_cursor service ∷ [])) s.dests (λ d has live. any_push (has_service_key d.service) s.services (with_fresh_cursor service) (has live)) p.services.live;
          cursors = all_push (HasCursor s.dests) s.services (with_fresh_cursor service) p.services.cursors tt;
        };
        dests = p.dests;
        entries = p.entries;
        templates = p.templates;
        pending = p.pending;
      };
      ids = record { entries = (ids_stay s).entries; dests = (ids_stay s).dests; templates = (ids_stay s).templates };
    }

pub edit_service_after : (s : State) (service : Service) (b : Bool) → Parts s → After s (edit_service_by s service b).1
edit_service_after s service false p = stays s p
edit_service_after s service true p =
    with_services_alike s (update_first (has_service_key service.key) (λ _. with_fresh_cursor service) s.services)
    (keys_update (λ (x : Service). x.key) (has_service_key service.key) (λ _. with_fresh_cursor service) s.services (λ x here. sym (service_key_true x.key service.key here)))
    (all_update (HasCursor s.dests) (has_service_key service.key) (λ _. with_fresh_cursor service) s.services (λ x here old. tt) p.services.cursors) p

-- REMOVAL

any_kept : {X : Type 0} (p : X → Bool) (b : Bool) (x : X) (ys : List X) → list_any p ys ≡ true → list_any p (cond b (x ∷ ys) ys) ≡ true
any_kept p true x ys is = or_right (p x) (list_any p ys) is
any_kept p false x ys is = is

any_here : {X : Type 0} (p : X → Bool) (b : Bool) (x : X) (ys : List X) → b ≡ true → p x ≡ true → list_any p (cond b (x ∷ ys) ys) ≡ true
any_here p true x ys stays is = or_left (p x) (list_any p ys) is
any_here p false x ys stays is = absurd cc

any_filter : {X : Type 0} (p q : X → Bool) (xs : List X) → ((x : X) → p x ≡ true → q x ≡ true) → list_any p xs ≡ true → list_any p (filter q xs) ≡ true
any_filter p q [] stays is = is
any_filter p q (x ∷ xs) stays is =
    let M : Bool → Type 0 = λ a. p x ≡ a → (a || list_any p xs) ≡ true → list_any p (cond (q x) (x ∷ filter q xs) (filter q xs)) ≡ true in
    (elim (p x) as M [
      | true ↦ (λ here _. any_here p (q x) x (filter q xs) (stays x here) here)
      | false ↦ (λ here later. any_kept p (q x) x (filter q xs) (any_filter p q xs stays later))
    ]) refl is

-- a live server that doesn't leave with its service is of another service, which stays
other_service : (key : ServiceKey) (services : List Service) (d : Dest) → is_server_of key d ≡ false → HasService services d → HasService (without (has_service_key key) services) d
other_service key services d stays has live =
    let differs : service_key_eq d.service key ≡ false = subst (λ b. (b && service_key_eq d.service key) ≡ false) live stays in
    any_filter (has_service_key d.service) (λ (x : Service). not (has_service_key key x)) services
    (λ x here. not_from_false (service_key_eq x.key key) (subst (λ k. service_key_eq k key ≡ false) (sym (service_key_true x.key d.service here)) differs)) (has live)

-- a live server of one service isn't one of another
pub other_server : (key other : ServiceKey) (d : Dest) → service_key_eq other key ≡ false → is_server_of other d ≡ true → is_server_of key d ≡ false
other_server key other d differs live =
    false_from_ne_true (is_server_of key d)
    (λ is.
    let own = service_key_true d.service other (and_parts d.live (service_key_eq d.service other) live).1 in
    let also = (and_parts d.live (service_key_eq d.service key) is).1 in
    both_ways (service_key_eq other key) differs (subst (λ k. service_key_eq k key ≡ true) own also))

pub remove_service_after : (s : State) (key : ServiceKey) (b : Bool) → Parts s → After s (remove_service_by s key b).1
remove_service_after s key false p = stays s p
remove_service_after s key true p =
    let left = without (has_service_key key) s.services in
    removed_after s left (is_server_of key) (distinct_filter service_key_eq (λ (x : Service). x.key) (λ (x : Service). not (has_service_key key x)) s.services p.services.keys)
    (λ d stays has. other_service key s.services d stays has)
    (all_passing (HasCursor s.dests) (HasCursor (remove_dests (is_server_of key) s.entries s.templates s.dests)) (λ (x : Service). not (has_service_key key x)) s.services
    (λ x differs last. last_left (is_server_of key) s.entries s.templates s.dests x.key x.cursor.last (λ id d _ _ live. other_server key x.key d (not-true (service_key_eq x.key key) differs) live) last) p.services.cursors) p

pub clear_after : (s : State) → Parts s → After s (clear s).1
clear_after s p = removed_after s [] (λ (d : Dest). d.live) (distinct_none service_key_eq) (λ d stays has live. absurd cc) tt p
