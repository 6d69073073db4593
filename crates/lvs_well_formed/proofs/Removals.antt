-- Servers that leave their services keep the state well formed.
use Rattle.std.proofs.Common.{◌≡◌, ◌==◌, Bool, true, false, cond, List, Option, Some, None, refl, sym, subst}
use Rattle.std.specs.List.{AllByRecursion, IsDistinct}
use Rattle.lvs_types.specs.declared.addr.DestId.{DestId}
use Rattle.lvs_types.specs.declared.service.ServiceKey.{ServiceKey}
use Rattle.lvs_types.specs.declared.service.Service.{Service}
use Rattle.lvs_types.specs.declared.dest.Dest.{Dest}
use Rattle.lvs_types.specs.declared.entry.Entry.{Entry}
use Rattle.lvs_types.specs.declared.template.Template.{Template}
use Rattle.lvs_model.specs.State.{State}
use Rattle.lvs_model.specs.Same.{service_key_eq}
use Rattle.lvs_model.specs.Counts.{refs}
use Rattle.lvs_model.specs.Lookups.{dest_at, has_dest_id, is_server_of}
use Rattle.lvs_model.specs.Edits.{leaving, remove_dests}
use Rattle.lvs_model.specs.WellFormed.{HasService, HasCursor, HasGoodThresholds, IsLastOf, is_live_server, place_eq, place_of, service_keys}
use Rattle.lvs_well_formed.proofs.Lists.{all_weaker, all_filter_map, find_passes}
use Rattle.lvs_well_formed.proofs.Distinct.{distinct_filter_map}
use Rattle.lvs_well_formed.proofs.Finds.{find_filter_map}
use Rattle.lvs_well_formed.proofs.Keys.{dest_id_true}
use Rattle.lvs_well_formed.proofs.Ids.{goes_filter_map}
use Rattle.lvs_well_formed.proofs.Parts.{Parts, After, ids_stay}
use Rattle.lvs_well_formed.proofs.Counting.{IsKept, entries_kept, templates_kept}
use Rattle.lvs_well_formed.proofs.Alike.{Stays, StaysNamed, found_stays, stays_from, entries_stay, templates_stay}

-- what is left of a server: itself, or itself in the trash
left_by : (P : Dest → Type 0) (leaves none : Bool) (d later : Dest) → cond leaves (cond none None (Some (record d { live = false }))) (Some d) ≡ Some later → (leaves ≡ true → P (record d { live = false })) → (leaves ≡ false → P d) → P later
left_by P true true d later is trash stays = absurd cc
left_by P true false d later is trash stays = let trashed : Dest = record d { live = false } in let same : trashed ≡ later = cc in subst P same (trash refl)
left_by P false none d later is trash stays = let same : d ≡ later = cc in subst P same (stays refl)

pub left_keeps : (P : Dest → Type 0) (q : Dest → Bool) (es : List Entry) (ts : List Template) (d later : Dest) → leaving q es ts d ≡ Some later → (q d ≡ true → P (record d { live = false })) → (q d ≡ false → P d) → P later
left_keeps P q es ts d later is trash stays = left_by P (q d) (refs d.id es ts == 0) d later is trash stays

-- one that doesn't pass stays as it is
stays_by : (leaves none : Bool) (d : Dest) → leaves ≡ false → cond leaves (cond none None (Some (record d { live = false }))) (Some d) ≡ Some d
stays_by true none d is = absurd cc
stays_by false none d is = refl

-- one that is named stays, live or in the trash
named_by : (leaves none : Bool) (d : Dest) → none ≡ false → (later : Dest) × (cond leaves (cond none None (Some (record d { live = false }))) (Some d) ≡ Some later) × (place_of later ≡ place_of d)
named_by true true d is = absurd cc
named_by true false d is = (record d { live = false }, refl, refl)
named_by false none d is = (d, refl, refl)

same_id : (q : Dest → Bool) (es : List Entry) (ts : List Template) (id : DestId) (d later : Dest) → leaving q es ts d ≡ Some later → has_dest_id id later ≡ has_dest_id id d
same_id q es ts id d later is = left_keeps (λ (x : Dest). has_dest_id id x ≡ has_dest_id id d) q es ts d later is (λ _. refl) (λ _. refl)

pub dest_stays : (q : Dest → Bool) (es : List Entry) (ts : List Template) (ds : List Dest) (id : DestId) (d : Dest) → q d ≡ false → dest_at id ds ≡ Some d → dest_at id (remove_dests q es ts ds) ≡ Some d
dest_stays q es ts ds id d differs found =
    find_filter_map (has_dest_id id) (leaving q es ts) ds d d (λ a b is. same_id q es ts id a b is) found (stays_by (q d) (refs d.id es ts == 0) d differs)

dest_kept : (q : Dest → Bool) (es : List Entry) (ts : List Template) (ds : List Dest) (id : DestId) (d : Dest) → (refs id es ts == 0) ≡ false → dest_at id ds ≡ Some d → Stays (Some d) (dest_at id (remove_dests q es ts ds))
dest_kept q es ts ds id d named found =
    let same = dest_id_true d.id id (find_passes (has_dest_id id) ds d found) in
    let left = named_by (q d) (refs d.id es ts == 0) d (subst (λ i. (refs i es ts == 0) ≡ false) (sym same) named) in
    found_stays d left.0 (dest_at id (remove_dests q es ts ds)) (find_filter_map (has_dest_id id) (leaving q es ts) ds d left.0 (λ a b is. same_id q es ts id a b is) found left.1) left.2

named_kept : (q : Dest → Bool) (es : List Entry) (ts : List Template) (ds : List Dest) (o : Option DestId) → IsKept es ts o → StaysNamed ds (remove_dests q es ts ds) o
named_kept q es ts ds None kept = tt
named_kept q es ts ds (Some id) kept = stays_from (dest_at id ds) (dest_at id (remove_dests q es ts ds)) (λ d is. dest_kept q es ts ds id d (kept id refl) is)

-- servers leave, and the services change with them
pub removed_after : (s : State) (services : List Service) (q : Dest → Bool) → IsDistinct service_key_eq (service_keys services) → ((d : Dest) → q d ≡ false → HasService s.services d → HasService services d)
    → AllByRecursion (HasCursor (remove_dests q s.entries s.templates s.dests)) services → Parts s → After s (record s { services = services; dests = remove_dests q s.entries s.templates s.dests })
removed_after s services q keys has cursors p =
    let h = leaving q s.entries s.templates in
    let later = remove_dests q s.entries s.templates s.dests in
    let goes = goes_filter_map s.next_dest (λ (d : Dest). d.id.0) h s.dests (λ d other is. left_keeps (λ (x : Dest). x.id.0 ≡ d.id.0) q s.entries s.templates d other is (λ _. refl) (λ _. refl)) p.dests.ids in
    record {
      parts = record {
        services = record {
          keys = keys;
          live = all_filter_map (HasService s.services) (HasService services) h s.dests
              (λ d other is old. left_keeps (HasService services) q s.entries s.templates d other is (λ leaves live. absurd cc) (λ stays. has d stays old)) p.services.live;
          cursors = cursors;
        };
        dests = record {
          ids = goes.drawn;
          places = distinct_filter_map place_eq place_of h s.dests (λ d other is. left_keeps (λ (x : Dest). place_of x ≡ place_of d) q s.entries s.templates d other is (λ _. refl) (λ _. refl)) p.dests.places;
          thresholds = all_filter_map HasGoodThresholds HasGoodThresholds h s.dests (λ d other is good. left_keeps HasGoodThresholds q s.entries s.templates d other is (λ _. good) (λ _. good)) p.dests.thresholds;
        };
        entries = entries_stay s.next_entry s.next_template s.dests later s.entries
            (all_weaker (λ (e : Entry). IsKept s.entries s.templates e.server) (λ (e : Entry). StaysNamed s.dests later e.server) s.entries (λ e kept. named_kept q s.entries s.templates s.dests e.server kept) (entries_kept s.entries s.templates)) p.entries;
        templates = templates_stay s.next_template s.dests later s.templates
            (all_weaker (λ (t : Template). IsKept s.entries s.templates t.server) (λ (t : Template). StaysNamed s.dests later t.server) s.templates (λ t kept. named_kept q s.entries s.templates s.dests t.server kept) (templates_kept s.entries s.templates)) p.templates;
        pending = p.pending;
      };
      ids = record { entries = (ids_stay s).entries; dests = goes.rises; templates = (ids_stay s).templates };
    }

live_left : (key : ServiceKey) (ds later : List Dest) (id : DestId) (o : Option Dest) → ((d : Dest) → dest_at id ds ≡ Some d → is_server_of key d ≡ true → dest_at id later ≡ Some d) → dest_at id ds ≡ o → is_live_server key o ≡ true → is_live_server key (dest_at id later) ≡ true
live_left key ds later id None stays is live = absurd cc
live_left key ds later id (Some d) stays is live = subst (λ other. is_live_server key other ≡ true) (sym (stays d is live)) live

-- the server that was picked last stays where it doesn't pass
pub last_left : (q : Dest → Bool) (es : List Entry) (ts : List Template) (ds : List Dest) (key : ServiceKey) (o : Option DestId) → ((id : DestId) (d : Dest) → o ≡ Some id → dest_at id ds ≡ Some d → is_server_of key d ≡ true → q d ≡ false) → IsLastOf ds key o
    → IsLastOf (remove_dests q es ts ds) key o
last_left q es ts ds key None stays last = tt
last_left q es ts ds key (Some id) stays last =
    live_left key ds (remove_dests q es ts ds) id (dest_at id ds) (λ d is live. dest_stays q es ts ds id d (stays id d refl is live) is) refl last
