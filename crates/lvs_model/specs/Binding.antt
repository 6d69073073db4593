-- Binding: an entry or a template finds the server at its address (this project's profile).
use Rattle.std.specs.Prelude.{ℕ, Bool, ◌&&◌, ◌||◌, ◌==◌, List, Option, Some, None, if◌then◌else◌}
use Rattle.std.specs.List.{find}
use Rattle.lvs_types.specs.declared.addr.Addr.{Addr}
use Rattle.lvs_types.specs.declared.addr.DestId.{DestId}
use Rattle.lvs_types.specs.declared.service.ServiceKey.TheVariants.{Net, Mark}
use Rattle.lvs_types.specs.declared.service.Proto.{Proto}
use Rattle.lvs_types.specs.declared.service.Service.{Service}
use Rattle.lvs_types.specs.declared.dest.Dest.{Dest}
use Rattle.lvs_types.specs.declared.entry.Entry.{Entry}
use Rattle.lvs_types.specs.declared.template.TemplateKey.{TemplateKey}
use Rattle.lvs_types.specs.declared.template.Template.{Template}
use Rattle.lvs_types.specs.Protocols.{proto_of_code}
use Rattle.lvs_model.specs.State.{State}
use Rattle.lvs_model.specs.Same.{addr_eq}
use Rattle.lvs_model.specs.Lists.{update_first}
use Rattle.lvs_model.specs.Overload.{overload_bound, overload_ended}
use Rattle.lvs_model.specs.Counts.{total}
use Rattle.lvs_model.specs.Lookups.{find_service, service_at, is_server_of, has_dest_id, has_entry_id, has_template_id}

-- its address is this one, and its port is this one, or it takes every port and this one is the virtual port
abbrev pub serves_at : Addr → ℕ → ℕ → Dest → Bool
serves_at daddr dport vport d = addr_eq d.spec.addr daddr && ((d.spec.port == dport) || ((d.spec.port == 0) && (dport == vport)))

-- the first live server of the service that serves at the address and port
abbrev pub binding_in : Option Service → Addr → ℕ → ℕ → List Dest → Option Dest
binding_in None daddr dport vport dests = None
binding_in (Some service) daddr dport vport dests = find (λ d. is_server_of service.key d && serves_at daddr dport vport d) dests

-- the server for an entry: in the service of its mark, protocol and virtual side
abbrev pub server_for_entry : List Service → List Dest → Entry → Option Dest
server_for_entry services dests e =
    binding_in (find_service e.key.proto e.key.vaddr e.key.vport e.mark services) e.daddr e.dport e.key.vport dests

abbrev pub exact_service : Option Proto → TemplateKey → List Service → Option Service
exact_service None key services = None
exact_service (Some proto) key services = service_at (Net proto key.vaddr key.vport) services

-- the service of a template: the mark service of its number, or the one of exactly its protocol, address and port
abbrev pub template_service : TemplateKey → List Service → Option Service
template_service key services =
    if key.code == 0 then service_at (Mark key.vaddr.number) services else exact_service (proto_of_code key.code) key services

-- the server for a template
abbrev pub server_for_template : List Service → List Dest → Template → Option Dest
server_for_template services dests t = binding_in (template_service t.key services) t.daddr t.dport t.key.vport dests

-- an entry was bound to the server: its overload is looked at with the entries as they then are
abbrev pub count_bound : DestId → List Entry → List Dest → List Dest
count_bound id entries dests =
    update_first (has_dest_id id) (λ (d : Dest). record d { overloaded = overload_bound d.spec (total id entries) d.overloaded }) dests

-- an entry that named the server was ended
abbrev pub count_ended : Option DestId → List Entry → List Dest → List Dest
count_ended None entries dests = dests
count_ended (Some id) entries dests =
    update_first (has_dest_id id) (λ (d : Dest). record d { overloaded = overload_ended d.spec (total id entries) d.overloaded }) dests

-- the entry of that id becomes this one
abbrev pub put_entry : Entry → List Entry → List Entry
put_entry e entries = update_first (has_entry_id e.id) (λ _. e) entries

-- the entry names the server and takes its method
abbrev pub bound_to : Dest → Entry → Entry
bound_to d e = record e { server = Some d.id; method = d.spec.method }

abbrev pub bind_entry : State → Entry → Option Dest → Entry × State
bind_entry s e None = (e, s)
bind_entry s e (Some d) =
    let bound = bound_to d e in
    let entries = put_entry bound s.entries in
    (bound, record s { entries = entries; dests = count_bound d.id entries s.dests })

-- an unbound entry is bound where a server is found; the entry as it then is, and the state
abbrev pub try_binding : State → Entry → Option DestId → Entry × State
try_binding s e (Some id) = (e, s)
try_binding s e None = bind_entry s e (server_for_entry s.services s.dests e)

-- the template of that id becomes this one
abbrev pub put_template : Template → List Template → List Template
put_template t templates = update_first (has_template_id t.id) (λ _. t) templates

abbrev pub template_bound_to : Dest → Template → Template
template_bound_to d t = record t { server = Some d.id; method = d.spec.method }

abbrev pub bind_template : Template → Option Dest → Template
bind_template t None = t
bind_template t (Some d) = template_bound_to d t

-- an unbound template is bound where a server is found
abbrev pub template_tried : State → Template → Option DestId → Template
template_tried s t (Some id) = t
template_tried s t None = bind_template t (server_for_template s.services s.dests t)
