-- A live server that an edit takes away is there no more, or goes to the trash.
use Rattle.std.proofs.Common.{◌≡◌, ◌≢◌, ◌==◌, Bool, true, false, cond, ◌&&◌, List, [], ◌∷◌, Option, Some, None, refl, sym, ap, subst}
use Rattle.std.proofs.lemmas.Bool.{and_from, and_parts, false_from_ne_true, both_ways, eq-eqb, ne_eqb}
use Rattle.std.specs.List.{find}
use Rattle.lvs_types.specs.declared.dest.Dest.{Dest}
use Rattle.lvs_types.specs.declared.command.Command.{Command}
use Rattle.lvs_types.specs.declared.command.Command.TheVariants as command
use Rattle.lvs_model.specs.State.{State}
use Rattle.lvs_model.specs.Same.{addr_eq, service_key_eq}
use Rattle.lvs_model.specs.Counts.{refs}
use Rattle.lvs_model.specs.Lookups.{dest_at, has_dest_id, is_server_of, is_server_at, stands_at}
use Rattle.lvs_model.specs.Edits.{edit, is_service, remove_service_by, remove_server_by, remove_server_at, trashed}
use Rattle.lvs_model.specs.WellFormed.{IsWellFormed, HasService, place_eq, place_of}
use Rattle.lvs_well_formed.proofs.Lists.{all_find}
use Rattle.lvs_well_formed.proofs.Distinct.{each_found}
use Rattle.lvs_well_formed.proofs.Finds.{find_cases}
use Rattle.lvs_well_formed.proofs.Keys.{nat_same, addr_same, service_key_same, place_same}
use Rattle.lvs_laws.specs.Releasing.{IsServerOf, IsGone, TakesAway, IsRemovedBy}
use Rattle.lvs_laws.proofs.ReleaseLeft.{left_as}

at_true : {X : Type 0} (b : Bool) (x y : X) (o : Option X) → b ≡ true → y ≡ x → cond b (Some y) o ≡ Some x
at_true true x y o is same = ap (λ z. Some z) same
at_true false x y o is same = absurd cc

at_false : {X : Type 0} (b : Bool) (x y : X) (o : Option X) → b ≡ false → o ≡ Some x → cond b (Some y) o ≡ Some x
at_false true x y o is same = absurd cc
at_false false x y o is same = same

-- one that is found by a weaker test is found by the stricter one that it passes
found_stricter : {X : Type 0} (p q : X → Bool) (xs : List X) (x : X) → ((y : X) → q y ≡ true → p y ≡ true) → q x ≡ true → find p xs ≡ Some x → find q xs ≡ Some x
found_stricter p q [] x weaker passes found = absurd cc
found_stricter p q (z ∷ zs) x weaker passes found =
    find_cases (p z) x z (find p zs) (find q (z ∷ zs) ≡ Some x) found
    (λ is same. at_true (q z) x z (find q zs) (subst (λ y. q y ≡ true) (sym same) passes) same)
    (λ is later. at_false (q z) x z (find q zs) (false_from_ne_true (q z) (λ here. both_ways (p z) is (weaker z here))) (found_stricter p q zs x weaker passes later))

passes_own : (d : Dest) → d.live ≡ true → is_server_of d.service d ≡ true
passes_own d live = and_from d.live (service_key_eq d.service d.service) live (service_key_same d.service)

-- a live server is the one that its service, address and port find
found_at : (s : State) (d : Dest) → IsWellFormed s → IsServerOf s d → d.live ≡ true → find (is_server_at d.service d.spec.addr d.spec.port) s.dests ≡ Some d
found_at s d w found live =
    let by_place = all_find (λ (x : Dest). find (λ (y : Dest). place_eq (place_of y) (place_of x)) s.dests ≡ Some x) (has_dest_id d.id) s.dests d (each_found place_eq place_of s.dests place_same w.places) found in
    found_stricter (λ (y : Dest). place_eq (place_of y) (place_of d)) (is_server_at d.service d.spec.addr d.spec.port) s.dests d
    (λ y passes.
    let parts = and_parts (is_server_of d.service y) (stands_at d.spec.addr d.spec.port y) passes in
    let own = and_parts y.live (service_key_eq y.service d.service) parts.0 in
    let stands = and_parts (addr_eq y.spec.addr d.spec.addr) (y.spec.port == d.spec.port) parts.1 in
    and_from (service_key_eq y.service d.service && addr_eq y.spec.addr d.spec.addr) (y.spec.port == d.spec.port) (and_from (service_key_eq y.service d.service) (addr_eq y.spec.addr d.spec.addr) own.1 stands.0) stands.1)
    (and_from (is_server_of d.service d) (stands_at d.spec.addr d.spec.port d) (passes_own d live)
    (and_from (addr_eq d.spec.addr d.spec.addr) (d.spec.port == d.spec.port) (addr_same d.spec.addr) (nat_same d.spec.port))) by_place

service_there : (s : State) (d : Dest) → IsWellFormed s → IsServerOf s d → d.live ≡ true → is_service s d.service ≡ true
service_there s d w found live = (all_find (HasService s.services) (has_dest_id d.id) s.dests d w.live_dests found) live

-- what the edit makes of it, by what nothing or something that names it makes of it
abbrev Becomes : State → Dest → Command → Type 0
Becomes s d c = dest_at d.id (edit s c).1.dests ≡ trashed d (refs d.id s.entries s.templates)

own_removed : (s : State) (d : Dest) → IsWellFormed s → IsServerOf s d → d.live ≡ true → Becomes s d (command.RemoveServer d.service d.spec.addr d.spec.port)
own_removed s d w found live =
    let left = left_as s (has_dest_id d.id) d (trashed d (refs d.id s.entries s.templates)) w found (nat_same d.id.0) refl in
    let At : Option Dest → Type 0 = λ o. dest_at d.id (remove_server_at s d.service o).1.dests ≡ trashed d (refs d.id s.entries s.templates) in
    let By : Bool → Type 0 = λ b. dest_at d.id (remove_server_by s d.service d.spec.addr d.spec.port b).1.dests ≡ trashed d (refs d.id s.entries s.templates) in
    subst By (sym (service_there s d w found live)) (subst At (sym (found_at s d w found live)) left)

own_service_removed : (s : State) (d : Dest) → IsWellFormed s → IsServerOf s d → d.live ≡ true → Becomes s d (command.RemoveService d.service)
own_service_removed s d w found live =
    let left = left_as s (is_server_of d.service) d (trashed d (refs d.id s.entries s.templates)) w found (passes_own d live) refl in
    let By : Bool → Type 0 = λ b. dest_at d.id (remove_service_by s d.service b).1.dests ≡ trashed d (refs d.id s.entries s.templates) in
    subst By (sym (service_there s d w found live)) left

pub taken_away : (s : State) (c : Command) (d : Dest) → IsWellFormed s → IsServerOf s d → d.live ≡ true → TakesAway d c → Becomes s d c
taken_away s (command.RemoveServer key addr port) d w found live takes =
    subst (λ k. Becomes s d (command.RemoveServer k addr port)) (sym takes.0)
    (subst (λ a. Becomes s d (command.RemoveServer d.service a port)) (sym takes.1)
    (subst (λ n. Becomes s d (command.RemoveServer d.service d.spec.addr n)) (sym takes.2) (own_removed s d w found live)))
taken_away s (command.RemoveService key) d w found live takes = subst (λ k. Becomes s d (command.RemoveService k)) (sym takes) (own_service_removed s d w found live)
taken_away s command.Clear d w found live takes = left_as s (λ (x : Dest). x.live) d (trashed d (refs d.id s.entries s.templates)) w found live refl
taken_away s (command.AddService service) d w found live takes = absurd takes
taken_away s (command.EditService service) d w found live takes = absurd takes
taken_away s (command.AddServer key spec) d w found live takes = absurd takes
taken_away s (command.EditServer key spec) d w found live takes = absurd takes
taken_away s (command.Timeouts established fin_wait udp) d w found live takes = absurd takes
taken_away s (command.StartMaster id) d w found live takes = absurd takes
taken_away s (command.StartBackup id) d w found live takes = absurd takes
taken_away s command.StopMaster d w found live takes = absurd takes
taken_away s command.StopBackup d w found live takes = absurd takes

none_by : (b : Bool) (d : Dest) (o : Option Dest) → b ≡ true → o ≡ cond b None (Some (record d { live = false })) → o ≡ None
none_by true d o is same = same
none_by false d o is same = absurd cc

trash_by : (b : Bool) (d : Dest) (o : Option Dest) → b ≡ false → o ≡ cond b None (Some (record d { live = false })) → o ≡ Some (record d { live = false })
trash_by true d o is same = absurd cc
trash_by false d o is same = same

pub removed_gone : (s : State) (c : Command) (d : Dest) → IsWellFormed s → IsServerOf s d → IsRemovedBy s d c → IsGone (edit s c).1 d.id
removed_gone s c d w found removed =
    none_by (refs d.id s.entries s.templates == 0) d (dest_at d.id (edit s c).1.dests) (eq-eqb (refs d.id s.entries s.templates) 0 removed.unnamed) (taken_away s c d w found removed.live removed.taken)

pub removed_trashed : (s : State) (c : Command) (d : Dest) → IsWellFormed s → IsServerOf s d → d.live ≡ true → TakesAway d c → refs d.id s.entries s.templates ≢ 0 → IsServerOf (edit s c).1 (record d { live = false })
removed_trashed s c d w found live takes named =
    trash_by (refs d.id s.entries s.templates == 0) d (dest_at d.id (edit s c).1.dests) (ne_eqb (refs d.id s.entries s.templates) 0 named) (taken_away s c d w found live takes)
