-- A server that is taken back from the trash keeps the state well formed.
use Rattle.std.proofs.Common.{◌≡◌, Bool, true, false, not, List, [], ◌∷◌, ◌++◌, Option, Some, None, refl, sym, ap, subst, ◌∙◌}
use Rattle.std.proofs.lemmas.Bool.{and_parts, not-true, not_from_false}
use Rattle.std.specs.List.{AllByRecursion}
use Rattle.lvs_types.specs.declared.addr.DestId.{DestId}
use Rattle.lvs_types.specs.declared.service.ServiceKey.{ServiceKey}
use Rattle.lvs_types.specs.declared.dest.Dest.{Dest}
use Rattle.lvs_types.specs.declared.entry.Entry.{Entry}
use Rattle.lvs_types.specs.declared.template.Template.{Template}
use Rattle.lvs_model.specs.State.{State}
use Rattle.lvs_model.specs.Same.{service_key_eq, dest_id_eq}
use Rattle.lvs_model.specs.Lists.{without}
use Rattle.lvs_model.specs.Lookups.{dest_at, has_dest_id}
use Rattle.lvs_model.specs.WellFormed.{HasService, HasCursor, HasGoodThresholds, IsLastOf, is_live_server, place_eq, place_of, dest_ids}
use Rattle.lvs_well_formed.specs.Rising.{is_among}
use Rattle.lvs_well_formed.proofs.Lists.{all_weaker, all_true, all_filtered, all_push, all_filter, all_find, all_unmap, find_passes}
use Rattle.lvs_well_formed.proofs.Distinct.{distinct_push, distinct_filter, others_apart}
use Rattle.lvs_well_formed.proofs.Finds.{find_push, find_filter, find_last}
use Rattle.lvs_well_formed.proofs.Keys.{dest_id_true, nat_same, place_flip}
use Rattle.lvs_well_formed.proofs.Ids.{goes_moved, all_among}
use Rattle.lvs_well_formed.proofs.Parts.{Parts, After, ids_stay}
use Rattle.lvs_well_formed.proofs.Alike.{Stays, StaysNamed, found_stays, stays_from, all_named, entries_stay, templates_stay}

-- the server of this one's id leaves, and this one stands last
abbrev pub moved : Dest → List Dest → List Dest
moved new ds = without (has_dest_id new.id) ds ++ new ∷ []

moved_other : (ds : List Dest) (new d : Dest) (id : DestId) → dest_id_eq id new.id ≡ false → dest_at id ds ≡ Some d → dest_at id (moved new ds) ≡ Some d
moved_other ds new d id differs found =
    let same = dest_id_true d.id id (find_passes (has_dest_id id) ds d found) in
    let stays = not_from_false (dest_id_eq d.id new.id) (subst (λ i. dest_id_eq i new.id ≡ false) (sym same) differs) in
    find_push (has_dest_id id) (without (has_dest_id new.id) ds) d new (find_filter (has_dest_id id) (λ (x : Dest). not (has_dest_id new.id x)) ds d found stays)

moved_new : (ds : List Dest) (new : Dest) → dest_at new.id (moved new ds) ≡ Some new
moved_new ds new =
    find_last (has_dest_id new.id) (without (has_dest_id new.id) ds) new
    (all_filtered (λ (x : Dest). has_dest_id new.id x ≡ false) (λ (x : Dest). not (has_dest_id new.id x)) ds (λ x differs. not-true (has_dest_id new.id x) differs))
    (nat_same new.id.0)

-- by whether the id is that of the server that moved
moved_by : (b : Bool) (ds : List Dest) (new old : Dest) (id : DestId) → dest_id_eq id new.id ≡ b → dest_at new.id ds ≡ Some old → place_of new ≡ place_of old → Stays (dest_at id ds) (dest_at id (moved new ds))
moved_by true ds new old id same found place =
    stays_from (dest_at id ds) (dest_at id (moved new ds))
    (λ d is.
    let equal = dest_id_true id new.id same in
    let at_new : dest_at new.id ds ≡ Some d = subst (λ i. dest_at i ds ≡ Some d) equal is in
    let is_old : old ≡ d = cc in
    found_stays d new (dest_at id (moved new ds)) (subst (λ i. dest_at i (moved new ds) ≡ Some new) (sym equal) (moved_new ds new)) (place ∙ ap place_of is_old))
moved_by false ds new old id differs found place =
    stays_from (dest_at id ds) (dest_at id (moved new ds)) (λ d is. found_stays d d (dest_at id (moved new ds)) (moved_other ds new d id differs is) refl)

moved_stays : (ds : List Dest) (new old : Dest) → dest_at new.id ds ≡ Some old → place_of new ≡ place_of old → (id : DestId) → Stays (dest_at id ds) (dest_at id (moved new ds))
moved_stays ds new old found place id = moved_by (dest_id_eq id new.id) ds new old id refl found place

-- a live server isn't the one that was in the trash
live_by : (b : Bool) (key : ServiceKey) (ds : List Dest) (new old : Dest) (id : DestId) (o : Option Dest) → dest_id_eq id new.id ≡ b → dest_at new.id ds ≡ Some old → old.live ≡ false → dest_at id ds ≡ o → is_live_server key o ≡ true
    → is_live_server key (dest_at id (moved new ds)) ≡ true
live_by b key ds new old id None same found trashed is live = absurd cc
live_by true key ds new old id (Some d) same found trashed is live =
    let at_new : dest_at new.id ds ≡ Some d = subst (λ i. dest_at i ds ≡ Some d) (dest_id_true id new.id same) is in
    let is_old : old ≡ d = cc in
    let lives : d.live ≡ true = (and_parts d.live (service_key_eq d.service key) live).0 in
    let dead : d.live ≡ false = subst (λ (x : Dest). x.live ≡ false) is_old trashed in
    absurd cc
live_by false key ds new old id (Some d) differs found trashed is live = subst (λ o. is_live_server key o ≡ true) (sym (moved_other ds new d id differs is)) live

last_moved : (ds : List Dest) (new old : Dest) (key : ServiceKey) (o : Option DestId) → dest_at new.id ds ≡ Some old → old.live ≡ false → IsLastOf ds key o → IsLastOf (moved new ds) key o
last_moved ds new old key None found trashed last = tt
last_moved ds new old key (Some id) found trashed last = live_by (dest_id_eq id new.id) key ds new old id (dest_at id ds) refl found trashed refl last

pub moved_after : (s : State) (new old : Dest) → dest_at new.id s.dests ≡ Some old → place_of new ≡ place_of old → old.live ≡ false → HasService s.services new → HasGoodThresholds new → Parts s
    → After s (record s { dests = moved new s.dests })
moved_after s new old found place trashed has good p =
    let later = moved new s.dests in
    let test : Dest → Bool = λ x. not (has_dest_id new.id x) in
    let rest = without (has_dest_id new.id) s.dests in
    let ids = dest_ids s.dests in
    let same = dest_id_true old.id new.id (find_passes (has_dest_id new.id) s.dests old found) in
    let old_among : is_among ids old.id.0 ≡ true = all_find (λ (x : Dest). is_among ids x.id.0 ≡ true) (has_dest_id new.id) s.dests old (all_unmap (λ id. is_among ids id ≡ true) (λ (x : Dest). x.id.0) s.dests (all_among ids)) found in
    let among : is_among ids new.id.0 ≡ true = subst (λ (i : DestId). is_among ids i.0 ≡ true) same old_among in
    let goes = goes_moved s.next_dest (λ (d : Dest). d.id.0) s.dests new among p.dests.ids in
    record {
      parts = record {
        services = record {
          keys = p.services.keys;
          live = all_push (HasService s.services) rest new (all_filter (HasService s.services) test s.dests p.services.live) has;
          cursors = all_weaker (HasCursor s.dests) (HasCursor later) s.services (λ x last. last_moved s.dests new old x.key x.cursor.last found trashed last) p.services.cursors;
        };
        dests = record {
          ids = goes.drawn;
          places = distinct_push place_eq place_of rest new
              (subst (λ at. AllByRecursion (λ (x : Dest). place_eq (place_of x) at ≡ false) rest) (sym place) (others_apart place_eq place_of (has_dest_id new.id) s.dests old place_flip p.dests.places found))
              (distinct_filter place_eq place_of test s.dests p.dests.places);
          thresholds = all_push HasGoodThresholds rest new (all_filter HasGoodThresholds test s.dests p.dests.thresholds) good;
        };
        entries = entries_stay s.next_entry s.next_template s.dests later s.entries (all_true (λ (e : Entry). StaysNamed s.dests later e.server) s.entries (λ e. all_named s.dests later (moved_stays s.dests new old found place) e.server)) p.entries;
        templates = templates_stay s.next_template s.dests later s.templates (all_true (λ (t : Template). StaysNamed s.dests later t.server) s.templates (λ t. all_named s.dests later (moved_stays s.dests new old found place) t.server)) p.templates;
        pending = p.pending;
      };
      ids = record { entries = (ids_stay s).entries; dests = goes.rises; templates = (ids_stay s).templates };
    }
