-- The well formed state by its lists, so that a change of one list leaves the facts of the others.
use Rattle.std.proofs.Common.{◌≡◌, ℕ, List, [], ◌∷◌, None}
use Rattle.std.specs.List.{AllByRecursion, IsDistinct}
use Rattle.lvs_types.specs.declared.service.Service.{Service}
use Rattle.lvs_types.specs.declared.dest.Dest.{Dest}
use Rattle.lvs_types.specs.declared.entry.Entry.{Entry}
use Rattle.lvs_types.specs.declared.template.Template.{Template}
use Rattle.lvs_model.specs.State.{State}
use Rattle.lvs_model.specs.Same.{key_eq, service_key_eq, template_key_eq}
use Rattle.lvs_model.specs.WellFormed.{IsWellFormed, AreDrawn, HasService, HasCursor, HasGoodThresholds, HasServer, TemplateHasServer, GoesToServer, HoldsOlder, HasStateOfProto, place_eq, places, service_keys, entry_keys, template_keys, entry_ids, dest_ids, template_ids}
use Rattle.lvs_well_formed.specs.Rising.{IdsRise}
use Rattle.lvs_well_formed.proofs.Ids.{rises_same, rises_then}

pub record AreServices (services : List Service) (dests : List Dest) : Type 0 where
  pub keys : IsDistinct service_key_eq (service_keys services)
  pub live : AllByRecursion (HasService services) dests
  pub cursors : AllByRecursion (HasCursor dests) services

pub record AreDests (next : ℕ) (dests : List Dest) : Type 0 where
  pub ids : AreDrawn next (dest_ids dests)
  pub places : IsDistinct place_eq (places dests)
  pub thresholds : AllByRecursion HasGoodThresholds dests

-- what holds of one entry
pub record IsSound (next_template : ℕ) (dests : List Dest) (e : Entry) : Type 0 where
  pub server : HasServer dests e
  pub goes : GoesToServer dests e
  pub template : HoldsOlder next_template e
  pub state : HasStateOfProto e

pub record AreEntries (next next_template : ℕ) (dests : List Dest) (entries : List Entry) : Type 0 where
  pub ids : AreDrawn next (entry_ids entries)
  pub keys : IsDistinct key_eq (entry_keys entries)
  pub each : AllByRecursion (IsSound next_template dests) entries

pub record AreTemplates (next : ℕ) (dests : List Dest) (templates : List Template) : Type 0 where
  pub ids : AreDrawn next (template_ids templates)
  pub keys : IsDistinct template_key_eq (template_keys templates)
  pub servers : AllByRecursion (TemplateHasServer dests) templates

pub record Parts (s : State) : Type 0 where
  pub services : AreServices s.services s.dests
  pub dests : AreDests s.next_dest s.dests
  pub entries : AreEntries s.next_entry s.next_template s.dests s.entries
  pub templates : AreTemplates s.next_template s.dests s.templates
  pub pending : s.daemons.master ≡ None → s.pending ≡ []

all_sound : (next : ℕ) (dests : List Dest) (entries : List Entry) → AllByRecursion (HasServer dests) entries → AllByRecursion (GoesToServer dests) entries → AllByRecursion (HoldsOlder next) entries
    → AllByRecursion HasStateOfProto entries → AllByRecursion (IsSound next dests) entries
all_sound next dests [] servers goes older states = tt
all_sound next dests (e ∷ es) servers goes older states =
    (record { server = servers.0; goes = goes.0; template = older.0; state = states.0 }, all_sound next dests es servers.1 goes.1 older.1 states.1)

all_servers : (next : ℕ) (dests : List Dest) (entries : List Entry) → AllByRecursion (IsSound next dests) entries → AllByRecursion (HasServer dests) entries
all_servers next dests [] each = tt
all_servers next dests (e ∷ es) each = (each.0.server, all_servers next dests es each.1)

all_goes : (next : ℕ) (dests : List Dest) (entries : List Entry) → AllByRecursion (IsSound next dests) entries → AllByRecursion (GoesToServer dests) entries
all_goes next dests [] each = tt
all_goes next dests (e ∷ es) each = (each.0.goes, all_goes next dests es each.1)

all_older : (next : ℕ) (dests : List Dest) (entries : List Entry) → AllByRecursion (IsSound next dests) entries → AllByRecursion (HoldsOlder next) entries
all_older next dests [] each = tt
all_older next dests (e ∷ es) each = (each.0.template, all_older next dests es each.1)

all_states : (next : ℕ) (dests : List Dest) (entries : List Entry) → AllByRecursion (IsSound next dests) entries → AllByRecursion HasStateOfProto entries
all_states next dests [] each = tt
all_states next dests (e ∷ es) each = (each.0.state, all_states next dests es each.1)

pub parts_of : (s : State) → IsWellFormed s → Parts s
parts_of s w = record {
  services = record { keys = w.service_keys; live = w.live_dests; cursors = w.cursors };
  dests = record { ids = w.dest_ids; places = w.places; thresholds = w.thresholds };
  entries = record { ids = w.entry_ids; keys = w.entry_keys; each = all_sound s.next_template s.dests s.entries w.entry_servers w.bound_entries w.entry_templates w.entry_states };
  templates = record { ids = w.template_ids; keys = w.template_keys; servers = w.template_servers };
  pending = w.pending;
}

pub whole_of : (s : State) → Parts s → IsWellFormed s
whole_of s p = record {
  service_keys = p.services.keys;
  entry_keys = p.entries.keys;
  template_keys = p.templates.keys;
  entry_ids = p.entries.ids;
  dest_ids = p.dests.ids;
  template_ids = p.templates.ids;
  places = p.dests.places;
  live_dests = p.services.live;
  thresholds = p.dests.thresholds;
  cursors = p.services.cursors;
  entry_servers = all_servers s.next_template s.dests s.entries p.entries.each;
  template_servers = p.templates.servers;
  bound_entries = all_goes s.next_template s.dests s.entries p.entries.each;
  entry_templates = all_older s.next_template s.dests s.entries p.entries.each;
  entry_states = all_states s.next_template s.dests s.entries p.entries.each;
  pending = p.pending;
}

-- a later state that is well formed too, and whose ids have risen
pub record After (s t : State) : Type 0 where
  pub parts : Parts t
  pub ids : IdsRise s t

pub ids_stay : (s : State) → IdsRise s s
ids_stay s = record {
  entries = rises_same s.next_entry (entry_ids s.entries);
  dests = rises_same s.next_dest (dest_ids s.dests);
  templates = rises_same s.next_template (template_ids s.templates);
}

pub ids_then : (s t u : State) → IdsRise s t → IdsRise t u → IdsRise s u
ids_then s t u first then = record {
  entries = rises_then s.next_entry t.next_entry u.next_entry (entry_ids s.entries) (entry_ids t.entries) (entry_ids u.entries) first.entries then.entries;
  dests = rises_then s.next_dest t.next_dest u.next_dest (dest_ids s.dests) (dest_ids t.dests) (dest_ids u.dests) first.dests then.dests;
  templates = rises_then s.next_template t.next_template u.next_template (template_ids s.templates) (template_ids t.templates) (template_ids u.templates) first.templates then.templates;
}

pub stays : (s : State) → Parts s → After s s
stays s p = record { parts = p; ids = ids_stay s }

pub then_after : (s t u : State) → After s t → (Parts t → After t u) → After s u
then_after s t u first then = let later = then first.parts in record { parts = later.parts; ids = ids_then s t u first.ids later.ids }
