-- Binding an entry or a template keeps the state well formed.
use Rattle.std.proofs.Common.{◌≡◌, ℕ, true, ◌&&◌, Option, Some, None, refl, ap, is_some}
use Rattle.std.proofs.lemmas.Bool.{and_parts}
use Rattle.lvs_types.specs.declared.addr.Addr.{Addr}
use Rattle.lvs_types.specs.declared.addr.DestId.{DestId}
use Rattle.lvs_types.specs.declared.service.Service.{Service}
use Rattle.lvs_types.specs.declared.dest.Dest.{Dest}
use Rattle.lvs_types.specs.declared.entry.Entry.{Entry}
use Rattle.lvs_types.specs.declared.template.Template.{Template}
use Rattle.lvs_model.specs.State.{State}
use Rattle.lvs_model.specs.Lookups.{dest_at, has_entry_id, find_service, is_server_of}
use Rattle.lvs_model.specs.Binding.{put_entry, serves_at, count_bound, bound_to, bind_entry, try_binding, binding_in, server_for_entry, template_service, server_for_template, template_tried, bind_template}
use Rattle.lvs_model.specs.WellFormed.{TemplateHasServer}
use Rattle.lvs_well_formed.proofs.Lists.{all_find, find_passes}
use Rattle.lvs_well_formed.proofs.Finds.{find_put}
use Rattle.lvs_well_formed.proofs.Keys.{nat_same}
use Rattle.lvs_well_formed.proofs.Parts.{Parts, After, stays, then_after}
use Rattle.lvs_well_formed.proofs.AlikeStates.{with_alike, bound_alike}
use Rattle.lvs_well_formed.proofs.Entries.{dests_found, IsEntryOf, entry_sound, sound_at, with_entry_put}

-- a server that is found for a binding is in the list, and serves at the address and port
binding_found : (s : State) (o : Option Service) (daddr : Addr) (dport vport : ℕ) (d : Dest) → Parts s → binding_in o daddr dport vport s.dests ≡ Some d → dest_at d.id s.dests ≡ Some d
binding_found s None daddr dport vport d p is = absurd cc
binding_found s (Some service) daddr dport vport d p is =
    all_find (λ (x : Dest). dest_at x.id s.dests ≡ Some x) (λ x. is_server_of service.key x && serves_at daddr dport vport x) s.dests d (dests_found s p) is

binding_serves : (s : State) (o : Option Service) (daddr : Addr) (dport vport : ℕ) (d : Dest) → binding_in o daddr dport vport s.dests ≡ Some d → serves_at daddr dport vport d ≡ true
binding_serves s None daddr dport vport d is = absurd cc
binding_serves s (Some service) daddr dport vport d is =
    (and_parts (is_server_of service.key d) (serves_at daddr dport vport d) (find_passes (λ x. is_server_of service.key x && serves_at daddr dport vport x) s.dests d is)).1

-- an entry after its binding was tried, in the state that is left
pub record IsTried (s : State) (e : Entry) (t : State) (later : Entry) : Type 0 where
  pub after : After s t
  pub found : IsEntryOf t later
  pub key : later.key ≡ e.key

bind_tried : (s : State) (e : Entry) (o : Option Dest) → ((d : Dest) → o ≡ Some d → dest_at d.id s.dests ≡ Some d) → ((d : Dest) → o ≡ Some d → serves_at e.daddr e.dport e.key.vport d ≡ true) → IsEntryOf s e → Parts s
    → IsTried s e (bind_entry s e o).1 (bind_entry s e o).0
bind_tried s e None found serves is p = record { after = stays s p; found = is; key = refl }
bind_tried s e (Some d) found serves is p =
    let bound : Entry = bound_to d e in
    let entries = put_entry bound s.entries in
    let put : State = record s { entries = entries } in
    let old = entry_sound s e p is in
    let sound = sound_at s.next_template s.dests bound d (found d refl) (serves d refl) refl old.template old.state in
    record {
      after = then_after s put (bind_entry s e (Some d)).1 (with_entry_put s e bound is refl refl sound p)
          (λ q. with_alike put (count_bound d.id entries s.dests) (bound_alike d.id entries s.dests) q);
      found = find_put (has_entry_id e.id) bound s.entries e is (nat_same e.id);
      key = refl;
    }

pub try_tried : (s : State) (e : Entry) (o : Option DestId) → IsEntryOf s e → Parts s → IsTried s e (try_binding s e o).1 (try_binding s e o).0
try_tried s e (Some id) is p = record { after = stays s p; found = is; key = refl }
try_tried s e None is p =
    let service = find_service e.key.proto e.key.vaddr e.key.vport e.mark s.services in
    bind_tried s e (server_for_entry s.services s.dests e)
    (λ d found. binding_found s service e.daddr e.dport e.key.vport d p found)
    (λ d found. binding_serves s service e.daddr e.dport e.key.vport d found) is p

-- A TEMPLATE

bind_template_there : (s : State) (t : Template) (o : Option Dest) → ((d : Dest) → o ≡ Some d → dest_at d.id s.dests ≡ Some d) → TemplateHasServer s.dests t → TemplateHasServer s.dests (bind_template t o)
bind_template_there s t None found there = there
bind_template_there s t (Some d) found there = ap (λ (o : Option Dest). is_some o) (found d refl)

pub tried_there : (s : State) (t : Template) (o : Option DestId) → Parts s → TemplateHasServer s.dests t → TemplateHasServer s.dests (template_tried s t o)
tried_there s t (Some id) p there = there
tried_there s t None p there =
    bind_template_there s t (server_for_template s.services s.dests t)
    (λ d found. binding_found s (template_service t.key s.services) t.daddr t.dport t.key.vport d p found) there

bind_template_id : (t : Template) (o : Option Dest) → (bind_template t o).id ≡ t.id
bind_template_id t None = refl
bind_template_id t (Some d) = refl

bind_template_key : (t : Template) (o : Option Dest) → (bind_template t o).key ≡ t.key
bind_template_key t None = refl
bind_template_key t (Some d) = refl

pub tried_id : (s : State) (t : Template) (o : Option DestId) → (template_tried s t o).id ≡ t.id
tried_id s t (Some id) = refl
tried_id s t None = bind_template_id t (server_for_template s.services s.dests t)

pub tried_key : (s : State) (t : Template) (o : Option DestId) → (template_tried s t o).key ≡ t.key
tried_key s t (Some id) = refl
tried_key s t None = bind_template_key t (server_for_template s.services s.dests t)
