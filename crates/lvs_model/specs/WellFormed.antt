-- The well formed state: what holds of a director before the first step and after each one.
use Rattle.std.specs.Prelude.{◌≡◌, ℕ, ◌<◌, ◌≤◌, Bool, true, false, ◌&&◌, ◌==◌, List, [], map, Option, Some, None, is_none, is_some, nat_eq}
use Rattle.std.specs.List.{AllByRecursion, IsDistinct, list_any}
use Rattle.lvs_types.specs.declared.addr.Addr.{Addr}
use Rattle.lvs_types.specs.declared.addr.DestId.{DestId}
use Rattle.lvs_types.specs.declared.addr.TemplateId.{TemplateId}
use Rattle.lvs_types.specs.declared.service.Proto.TheVariants.{Udp}
use Rattle.lvs_types.specs.declared.service.ServiceKey.{ServiceKey}
use Rattle.lvs_types.specs.declared.service.Service.{Service}
use Rattle.lvs_types.specs.declared.dest.Dest.{Dest}
use Rattle.lvs_types.specs.declared.entry.Key.{Key}
use Rattle.lvs_types.specs.declared.entry.Entry.{Entry}
use Rattle.lvs_types.specs.declared.template.TemplateKey.{TemplateKey}
use Rattle.lvs_types.specs.declared.template.Template.{Template}
use Rattle.lvs_types.specs.Thresholds.{has_bad_thresholds}
use Rattle.lvs_model.specs.State.{State}
use Rattle.lvs_model.specs.Same.{addr_eq, proto_eq, key_eq, service_key_eq, template_key_eq}
use Rattle.lvs_model.specs.Lookups.{has_service_key, is_server_of, dest_at}
use Rattle.lvs_model.specs.Binding.{serves_at}
use Rattle.lvs_model.specs.Incoming.{server_named}

-- KEYS AND IDS

abbrev pub service_keys : List Service → List ServiceKey
service_keys services = map (λ (service : Service). service.key) services

abbrev pub entry_keys : List Entry → List Key
entry_keys entries = map (λ (e : Entry). e.key) entries

abbrev pub template_keys : List Template → List TemplateKey
template_keys templates = map (λ (t : Template). t.key) templates

abbrev pub entry_ids : List Entry → List ℕ
entry_ids entries = map (λ (e : Entry). e.id) entries

abbrev pub dest_ids : List Dest → List ℕ
dest_ids dests = map (λ (d : Dest). d.id.0) dests

abbrev pub template_ids : List Template → List ℕ
template_ids templates = map (λ (t : Template). t.id.0) templates

-- an id that was drawn: from 1 on, and below the next one
abbrev pub IsDrawn : ℕ → ℕ → Type 0
IsDrawn next id = (1 ≤ id) × (id < next)

-- ids that were drawn, each of them there once
pub record AreDrawn (next : ℕ) (ids : List ℕ) : Type 0 where
  pub begins : 1 ≤ next
  pub each : AllByRecursion (IsDrawn next) ids
  pub apart : IsDistinct nat_eq ids

-- SERVERS

-- where a server stands: its service, its address and its port
pub record Place : Type 0 where
  pub service : ServiceKey
  pub addr : Addr
  pub port : ℕ

abbrev pub place_eq : Place → Place → Bool
place_eq a b = service_key_eq a.service b.service && addr_eq a.addr b.addr && (a.port == b.port)

abbrev pub place_of : Dest → Place
place_of d = record { service = d.service; addr = d.spec.addr; port = d.spec.port }

abbrev pub places : List Dest → List Place
places dests = map place_of dests

-- the service of a live server is there
abbrev pub HasService : List Service → Dest → Type 0
HasService services d = d.live ≡ true → list_any (has_service_key d.service) services ≡ true

-- the lower threshold isn't above the upper one
abbrev pub HasGoodThresholds : Dest → Type 0
HasGoodThresholds d = has_bad_thresholds d.spec ≡ false

-- a server, if one is named, is in the list, live or in the trash
abbrev pub IsThere : List Dest → Option DestId → Type 0
IsThere dests None = Unit {0}
IsThere dests (Some id) = is_some (dest_at id dests) ≡ true

abbrev pub is_live_server : ServiceKey → Option Dest → Bool
is_live_server key None = false
is_live_server key (Some d) = is_server_of key d

-- the server that was picked last, if there is one, is a live server of the service
abbrev pub IsLastOf : List Dest → ServiceKey → Option DestId → Type 0
IsLastOf dests key None = Unit {0}
IsLastOf dests key (Some id) = is_live_server key (dest_at id dests) ≡ true

abbrev pub HasCursor : List Dest → Service → Type 0
HasCursor dests service = IsLastOf dests service.key service.cursor.last

-- ENTRIES AND TEMPLATES

abbrev pub HasServer : List Dest → Entry → Type 0
HasServer dests e = IsThere dests e.server

abbrev pub TemplateHasServer : List Dest → Template → Type 0
TemplateHasServer dests t = IsThere dests t.server

-- the entry goes to the server's address, and to its port, or to the virtual port where the server takes every port
abbrev pub GoesTo : Entry → Option Dest → Type 0
GoesTo e None = Unit {0}
GoesTo e (Some d) = serves_at e.daddr e.dport e.key.vport d ≡ true

-- so does a bound entry with the server that it names
abbrev pub GoesToServer : List Dest → Entry → Type 0
GoesToServer dests e = GoesTo e (server_named e.server dests)

-- the template by which an entry was made, there or gone, is an older one than the next
abbrev pub IsOlder : ℕ → Option TemplateId → Type 0
IsOlder next None = Unit {0}
IsOlder next (Some id) = id.0 < next

abbrev pub HoldsOlder : ℕ → Entry → Type 0
HoldsOlder next e = IsOlder next e.template

-- an entry has no state exactly where it is UDP
abbrev pub HasStateOfProto : Entry → Type 0
HasStateOfProto e = is_none e.state ≡ proto_eq e.key.proto Udp

-- THE STATE

pub record IsWellFormed (s : State) : Type 0 where
  -- keys are apart
  pub service_keys : IsDistinct service_key_eq (service_keys s.services)
  pub entry_keys : IsDistinct key_eq (entry_keys s.entries)
  pub template_keys : IsDistinct template_key_eq (template_keys s.templates)
  -- ids are apart, and below the next ones
  pub entry_ids : AreDrawn s.next_entry (entry_ids s.entries)
  pub dest_ids : AreDrawn s.next_dest (dest_ids s.dests)
  pub template_ids : AreDrawn s.next_template (template_ids s.templates)
  -- no two servers, live or in the trash, stand at one place
  pub places : IsDistinct place_eq (places s.dests)
  pub live_dests : AllByRecursion (HasService s.services) s.dests
  pub thresholds : AllByRecursion HasGoodThresholds s.dests
  pub cursors : AllByRecursion (HasCursor s.dests) s.services
  -- whatever is named is there
  pub entry_servers : AllByRecursion (HasServer s.dests) s.entries
  pub template_servers : AllByRecursion (TemplateHasServer s.dests) s.templates
  pub bound_entries : AllByRecursion (GoesToServer s.dests) s.entries
  pub entry_templates : AllByRecursion (HoldsOlder s.next_template) s.entries
  pub entry_states : AllByRecursion HasStateOfProto s.entries
  -- without a master daemon nothing waits to be sent
  pub pending : s.daemons.master ≡ None → s.pending ≡ []
