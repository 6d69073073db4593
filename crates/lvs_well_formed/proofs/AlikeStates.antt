-- A change of what overloads the servers, or of a specification at its place, keeps the state well formed.
use Rattle.std.proofs.Common.{◌≡◌, ℕ, Bool, true, false, cond, ◌&&◌, List, [], ◌∷◌, Option, Some, None, refl, sym, ap, subst, map}
use Rattle.std.specs.List.{IsDistinct, list_any}
use Rattle.lvs_types.specs.declared.addr.DestId.{DestId}
use Rattle.lvs_types.specs.declared.service.ServiceKey.{ServiceKey}
use Rattle.lvs_types.specs.declared.service.Service.{Service}
use Rattle.lvs_types.specs.declared.dest.Dest.{Dest}
use Rattle.lvs_types.specs.declared.entry.Entry.{Entry}
use Rattle.lvs_types.specs.declared.template.Template.{Template}
use Rattle.lvs_model.specs.State.{State}
use Rattle.lvs_model.specs.Same.{dest_id_eq, service_key_eq}
use Rattle.lvs_model.specs.Lookups.{dest_at, has_dest_id, has_service_key}
use Rattle.lvs_model.specs.Binding.{count_bound, count_ended}
use Rattle.lvs_model.specs.Clock.{after_ends, is_named_in}
use Rattle.lvs_model.specs.Counts.{total}
use Rattle.lvs_model.specs.Overload.{overload_ended}
use Rattle.lvs_model.specs.WellFormed.{AreDrawn, IsLastOf, is_live_server, HasService, HasCursor, HasGoodThresholds, place_of, Place, place_eq, dest_ids}
use Rattle.lvs_well_formed.proofs.Lists.{all_weaker, all_true}
use Rattle.lvs_well_formed.proofs.Ids.{goes_equal}
use Rattle.lvs_well_formed.proofs.Parts.{AreServices, AreDests, Parts, After, ids_stay}
use Rattle.lvs_well_formed.proofs.Alike.{Stays, StaysNamed, IsAlike, AreAlike, ids_alike, places_alike, all_alike, all_alike_itself, all_named, entries_stay, templates_stay, update_alike, map_alike}

-- what is found of alike lists
abbrev FoundAlike : Option Dest → Option Dest → Type 0
FoundAlike None None = Unit {0}
FoundAlike None (Some other) = ⊥
FoundAlike (Some d) None = ⊥
FoundAlike (Some d) (Some other) = IsAlike d other

found_step : (a b : Bool) (d other : Dest) (o later : Option Dest) → b ≡ a → IsAlike d other → FoundAlike o later → FoundAlike (cond a (Some d) o) (cond b (Some other) later)
found_step true true d other o later same alike rest = alike
found_step true false d other o later same alike rest = absurd cc
found_step false true d other o later same alike rest = absurd cc
found_step false false d other o later same alike rest = rest

found_alike : (id : DestId) (ds later : List Dest) → AreAlike ds later → FoundAlike (dest_at id ds) (dest_at id later)
found_alike id [] [] alike = tt
found_alike id [] (other ∷ others) alike = absurd alike
found_alike id (d ∷ ds) [] alike = absurd alike
found_alike id (d ∷ ds) (other ∷ others) alike =
    found_step (has_dest_id id d) (has_dest_id id other) d other (dest_at id ds) (dest_at id others) (ap (λ (i : DestId). dest_id_eq i id) alike.0.id) alike.0 (found_alike id ds others alike.1)

stays_alike : (o later : Option Dest) → FoundAlike o later → Stays o later
stays_alike None later alike = tt
stays_alike (Some d) None alike = alike
stays_alike (Some d) (Some other) alike = alike.place

abbrev lives_at : ServiceKey → Bool → Place → Bool
lives_at key live place = live && service_key_eq place.service key

live_alike : (key : ServiceKey) (o later : Option Dest) → FoundAlike o later → is_live_server key o ≡ true → is_live_server key later ≡ true
live_alike key None later alike is = absurd cc
live_alike key (Some d) None alike is = absurd alike
live_alike key (Some d) (Some other) alike is =
    subst (λ live. lives_at key live (place_of other) ≡ true) (sym alike.live) (subst (λ place. lives_at key d.live place ≡ true) (sym alike.place) is)

last_alike : (ds later : List Dest) (key : ServiceKey) (o : Option DestId) → AreAlike ds later → IsLastOf ds key o → IsLastOf later key o
last_alike ds later key None alike is = tt
last_alike ds later key (Some id) alike is = live_alike key (dest_at id ds) (dest_at id later) (found_alike id ds later alike) is

abbrev has_service_of : List Service → Place → Bool
has_service_of services place = list_any (has_service_key place.service) services

service_alike : (services : List Service) (d other : Dest) → IsAlike d other → HasService services d → HasService services other
service_alike services d other alike has live =
    subst (λ place. has_service_of services place ≡ true) (sym alike.place) (has (subst (λ b. b ≡ true) alike.live live))

pub services_alike : (services : List Service) (ds later : List Dest) → AreAlike ds later → AreServices services ds → AreServices services later
services_alike services ds later alike are = record {
  keys = are.keys;
  live = all_alike (HasService services) (HasService services) ds later (λ d other same has. service_alike services d other same has) alike are.live;
  cursors = all_weaker (HasCursor ds) (HasCursor later) services (λ service is. last_alike ds later service.key service.cursor.last alike is) are.cursors;
}

pub dests_alike : (next : ℕ) (ds later : List Dest) → AreAlike ds later → AreDests next ds → AreDests next later
dests_alike next ds later alike are = record {
  ids = subst (λ ids. AreDrawn next ids) (sym (ids_alike ds later alike)) are.ids;
  places = subst (λ all. IsDistinct place_eq all) (sym (places_alike ds later alike)) are.places;
  thresholds = all_alike HasGoodThresholds HasGoodThresholds ds later (λ d other same good. same.thresholds good) alike are.thresholds;
}

pub alike_stays : (ds later : List Dest) → AreAlike ds later → (o : Option DestId) → StaysNamed ds later o
alike_stays ds later alike = all_named ds later (λ id. stays_alike (dest_at id ds) (dest_at id later) (found_alike id ds later alike))

-- the servers become alike ones
pub with_alike : (s : State) (later : List Dest) → AreAlike s.dests later → Parts s → After s (record s { dests = later })
with_alike s later alike p = record {
  parts = record {
    services = services_alike s.services s.dests later alike p.services;
    dests = dests_alike s.next_dest s.dests later alike p.dests;
    entries = entries_stay s.next_entry s.next_template s.dests later s.entries (all_true (λ (e : Entry). StaysNamed s.dests later e.server) s.entries (λ e. alike_stays s.dests later alike e.server)) p.entries;
    templates = templates_stay s.next_template s.dests later s.templates (all_true (λ (t : Template). StaysNamed s.dests later t.server) s.templates (λ t. alike_stays s.dests later alike t.server)) p.templates;
    pending = p.pending;
  };
  ids = record {
    entries = (ids_stay s).entries;
    dests = (goes_equal s.next_dest (dest_ids s.dests) (dest_ids later) p.dests.ids (ids_alike s.dests later alike)).rises;
    templates = (ids_stay s).templates;
  };
}

-- WHAT OVERLOADS

pub overloaded_alike : (d : Dest) (b : Bool) → IsAlike d (record d { overloaded = b })
overloaded_alike d b = record { id = refl; place = refl; live = refl; thresholds = λ good. good }

pub bound_alike : (id : DestId) (es : List Entry) (ds : List Dest) → AreAlike ds (count_bound id es ds)
bound_alike id es ds = update_alike (has_dest_id id) _ ds (λ d here. overloaded_alike d _)

pub ended_alike : (o : Option DestId) (es : List Entry) (ds : List Dest) → AreAlike ds (count_ended o es ds)
ended_alike None es ds = all_alike_itself ds
ended_alike (Some id) es ds = update_alike (has_dest_id id) _ ds (λ d here. overloaded_alike d _)

after_alike : (b : Bool) (d : Dest) (overloaded : Bool) → IsAlike d (cond b (record d { overloaded = overloaded }) d)
after_alike true d overloaded = overloaded_alike d overloaded
after_alike false d overloaded = overloaded_alike d d.overloaded

pub ends_alike : (ended es : List Entry) (ds : List Dest) → AreAlike ds (map (after_ends ended es) ds)
ends_alike ended es ds = map_alike (after_ends ended es) ds (λ d. after_alike (is_named_in ended d) d (overload_ended d.spec (total d.id es) d.overloaded))
