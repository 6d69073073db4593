-- Servers that stay where the list of servers changes.
use Rattle.std.proofs.Common.{◌≡◌, ◌==◌, Bool, true, false, not, ◌&&◌, List, [], ◌∷◌, ◌++◌, Option, Some, None, refl, sym, ap, subst, ◌∙◌}
use Rattle.std.proofs.lemmas.Bool.{and_from, and_parts, not-true, not_from_false}
use Rattle.lvs_types.specs.declared.addr.DestId.{DestId}
use Rattle.lvs_types.specs.declared.dest.DestSpec.{DestSpec}
use Rattle.lvs_types.specs.declared.dest.Dest.{Dest}
use Rattle.lvs_types.specs.declared.item.Item.{Item}
use Rattle.lvs_model.specs.State.{State}
use Rattle.lvs_model.specs.Same.{addr_eq, service_key_eq, dest_id_eq}
use Rattle.lvs_model.specs.Lists.{without}
use Rattle.lvs_model.specs.Lookups.{dest_at, has_dest_id, stands_at}
use Rattle.lvs_model.specs.WellFormed.{Place, place_of}
use Rattle.lvs_well_formed.proofs.Lists.{all_filtered, find_passes}
use Rattle.lvs_well_formed.proofs.Finds.{find_push, find_filter, find_last}
use Rattle.lvs_well_formed.proofs.Keys.{dest_id_true, nat_same, place_true, service_key_same}
use Rattle.lvs_well_formed.proofs.Alike.{Stays, AreAlike, stays_from, found_stays}
use Rattle.lvs_well_formed.proofs.AlikeStates.{alike_stays}
use Rattle.lvs_well_formed.proofs.Revivals.{moved}
use Rattle.lvs_laws.specs.Releasing.{IsSameServer, IsServerOf, StaysOrIsReleased}

-- each server of the list is found in the later one, at the same place
abbrev pub AreKept : List Dest → List Dest → Type 0
AreKept ds later = (id : DestId) → Stays (dest_at id ds) (dest_at id later)

pub kept_itself : (ds : List Dest) → AreKept ds ds
kept_itself ds = λ id. stays_from (dest_at id ds) (dest_at id ds) (λ d is. found_stays d d (dest_at id ds) is refl)

stays_then : (a b c : Option Dest) → Stays a b → Stays b c → Stays a c
stays_then None b c first then = tt
stays_then (Some d) None c first then = absurd first
stays_then (Some d) (Some mid) None first then = absurd then
stays_then (Some d) (Some mid) (Some last) first then = then ∙ first

pub kept_then : (ds mid later : List Dest) → AreKept ds mid → AreKept mid later → AreKept ds later
kept_then ds mid later first then = λ id. stays_then (dest_at id ds) (dest_at id mid) (dest_at id later) (first id) (then id)

-- where they change in what overloads them, or in a specification at its place
pub kept_alike : (ds later : List Dest) → AreAlike ds later → AreKept ds later
kept_alike ds later alike = λ id. alike_stays ds later alike (Some id)

-- where a new one stands last
pub kept_pushed : (ds : List Dest) (new : Dest) → AreKept ds (ds ++ new ∷ [])
kept_pushed ds new = λ id. stays_from (dest_at id ds) (dest_at id (ds ++ new ∷ [])) (λ d is. found_stays d d (dest_at id (ds ++ new ∷ [])) (find_push (has_dest_id id) ds d new is) refl)

-- where one of them moves to the end

moved_other : (ds : List Dest) (new d : Dest) (id : DestId) → dest_id_eq id new.id ≡ false → dest_at id ds ≡ Some d → dest_at id (moved new ds) ≡ Some d
moved_other ds new d id differs found =
    let same = dest_id_true d.id id (find_passes (has_dest_id id) ds d found) in
    let stays = not_from_false (dest_id_eq d.id new.id) (subst (λ i. dest_id_eq i new.id ≡ false) (sym same) differs) in
    find_push (has_dest_id id) (without (has_dest_id new.id) ds) d new (find_filter (has_dest_id id) (λ (x : Dest). not (has_dest_id new.id x)) ds d found stays)

moved_new : (ds : List Dest) (new : Dest) → dest_at new.id (moved new ds) ≡ Some new
moved_new ds new =
    find_last (has_dest_id new.id) (without (has_dest_id new.id) ds) new
    (all_filtered (λ (x : Dest). has_dest_id new.id x ≡ false) (λ (x : Dest). not (has_dest_id new.id x)) ds (λ x differs. not-true (has_dest_id new.id x) differs))
    (nat_same new.id.0)

moved_by : (b : Bool) (ds : List Dest) (new old : Dest) (id : DestId) → dest_id_eq id new.id ≡ b → dest_at new.id ds ≡ Some old → place_of new ≡ place_of old → Stays (dest_at id ds) (dest_at id (moved new ds))
moved_by true ds new old id same found place =
    stays_from (dest_at id ds) (dest_at id (moved new ds))
    (λ d is.
    let equal = dest_id_true id new.id same in
    let at_new : dest_at new.id ds ≡ Some d = subst (λ i. dest_at i ds ≡ Some d) equal is in
    let is_old : old ≡ d = cc in
    found_stays d new (dest_at id (moved new ds)) (subst (λ i. dest_at i (moved new ds) ≡ Some new) (sym equal) (moved_new ds new)) (place ∙ ap place_of is_old))
moved_by false ds new old id differs found place =
    stays_from (dest_at id ds) (dest_at id (moved new ds)) (λ d is. found_stays d d (dest_at id (moved new ds)) (moved_other ds new d id differs is) refl)

pub kept_moved : (ds : List Dest) (new old : Dest) → dest_at new.id ds ≡ Some old → place_of new ≡ place_of old → AreKept ds (moved new ds)
kept_moved ds new old found place = λ id. moved_by (dest_id_eq id new.id) ds new old id refl found place

-- a specification of its address and port leaves a server at its place
pub respecified_place : (spec : DestSpec) (d : Dest) → stands_at spec.addr spec.port d ≡ true → place_of (record d { spec = spec }) ≡ place_of d
respecified_place spec d stands =
    let parts = and_parts (addr_eq d.spec.addr spec.addr) (d.spec.port == spec.port) stands in
    sym (place_true (place_of d) (place_of (record d { spec = spec }))
    (and_from (service_key_eq d.service d.service && addr_eq d.spec.addr spec.addr) (d.spec.port == spec.port)
    (and_from (service_key_eq d.service d.service) (addr_eq d.spec.addr spec.addr) (service_key_same d.service) parts.0) parts.1))

-- WHAT BECOMES OF A SERVER

pub same_server : (d later : Dest) → later.id ≡ d.id → place_of later ≡ place_of d → IsSameServer d later
same_server d later id place = record {
  id = id;
  service = ap (λ (p : Place). p.service) place;
  addr = ap (λ (p : Place). p.addr) place;
  port = ap (λ (p : Place). p.port) place;
}

kept_becomes : (s : State) (next : Item) (d : Dest) (later : List Dest) (o : Option Dest) → dest_at d.id later ≡ o → Stays (Some d) o → StaysOrIsReleased s next d o
kept_becomes s next d later None is stays = absurd stays
kept_becomes s next d later (Some other) is stays = same_server d other (dest_id_true other.id d.id (find_passes (has_dest_id d.id) later other is)) stays

pub stays_there : (s : State) (next : Item) (d : Dest) (later : List Dest) → IsServerOf s d → AreKept s.dests later → StaysOrIsReleased s next d (dest_at d.id later)
stays_there s next d later found kept = kept_becomes s next d later (dest_at d.id later) refl (subst (λ o. Stays o (dest_at d.id later)) found (kept d.id))
