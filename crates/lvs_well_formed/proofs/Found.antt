-- In a well formed state whatever is there is found.
use Rattle.std.proofs.Common.{◌≡◌, ◌<◌, ℕ, false, List, Some, nat_eq}
use Rattle.std.proofs.lemmas.Bool.{false_from_ne_true, both_ways}
use Rattle.std.specs.List.{AllByRecursion}
use Rattle.lvs_types.specs.declared.service.Service.{Service}
use Rattle.lvs_types.specs.declared.dest.Dest.{Dest}
use Rattle.lvs_types.specs.declared.entry.Entry.{Entry}
use Rattle.lvs_types.specs.declared.template.Template.{Template}
use Rattle.lvs_model.specs.State.{State}
use Rattle.lvs_model.specs.Same.{key_eq, service_key_eq, template_key_eq}
use Rattle.lvs_model.specs.Lookups.{dest_at, entry_at, service_at, template_at, template_of_id}
use Rattle.lvs_model.specs.WellFormed.{IsWellFormed}
use Rattle.lvs_well_formed.specs.Rising.{Rises, IsNewOrAmong, is_among}
use Rattle.lvs_well_formed.proofs.Distinct.{each_found}
use Rattle.lvs_well_formed.proofs.Ids.{among_all}
use Rattle.lvs_well_formed.proofs.Keys.{nat_same, key_same, service_key_same, template_key_same}

pub services_found : (s : State) → IsWellFormed s → AllByRecursion (λ (service : Service). service_at service.key s.services ≡ Some service) s.services
services_found s w = each_found service_key_eq (λ (service : Service). service.key) s.services service_key_same w.service_keys

pub dests_by_id : (s : State) → IsWellFormed s → AllByRecursion (λ (d : Dest). dest_at d.id s.dests ≡ Some d) s.dests
dests_by_id s w = each_found nat_eq (λ (d : Dest). d.id.0) s.dests nat_same w.dest_ids.apart

pub entries_by_key : (s : State) → IsWellFormed s → AllByRecursion (λ (e : Entry). entry_at e.key s.entries ≡ Some e) s.entries
entries_by_key s w = each_found key_eq (λ (e : Entry). e.key) s.entries key_same w.entry_keys

pub templates_by_key : (s : State) → IsWellFormed s → AllByRecursion (λ (t : Template). template_at t.key s.templates ≡ Some t) s.templates
templates_by_key s w = each_found template_key_eq (λ (t : Template). t.key) s.templates template_key_same w.template_keys

pub templates_by_id : (s : State) → IsWellFormed s → AllByRecursion (λ (t : Template). template_of_id t.id s.templates ≡ Some t) s.templates
templates_by_id s w = each_found nat_eq (λ (t : Template). t.id.0) s.templates nat_same w.template_ids.apart

-- an id that was drawn and is gone stays gone
pub stays_gone : (next : ℕ) (ids : List ℕ) (later_next : ℕ) (later_ids : List ℕ) (id : ℕ) → Rises next ids later_next later_ids → id < next → is_among ids id ≡ false → is_among later_ids id ≡ false
stays_gone next ids later_next later_ids id rises below gone =
    false_from_ne_true (is_among later_ids id) (λ back. both_ways (is_among ids id) gone (among_all (IsNewOrAmong next ids) later_ids id rises.each back below))
