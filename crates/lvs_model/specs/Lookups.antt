-- Searches of the director's lists.
use Rattle.std.specs.Prelude.{ℕ, Bool, ◌&&◌, ◌==◌, List, Option, None, if◌then◌else◌}
use Rattle.std.specs.Option.{option_or}
use Rattle.std.specs.List.{find, filter}
use Rattle.lvs_types.specs.declared.addr.Addr.{Addr}
use Rattle.lvs_types.specs.declared.addr.DestId.{DestId}
use Rattle.lvs_types.specs.declared.addr.TemplateId.{TemplateId}
use Rattle.lvs_types.specs.declared.service.Proto.{Proto}
use Rattle.lvs_types.specs.declared.service.ServiceKey.{ServiceKey}
use Rattle.lvs_types.specs.declared.service.ServiceKey.TheVariants.{Net, Mark}
use Rattle.lvs_types.specs.declared.service.Method.TheVariants.{Masq}
use Rattle.lvs_types.specs.declared.service.Service.{Service}
use Rattle.lvs_types.specs.declared.dest.Dest.{Dest}
use Rattle.lvs_types.specs.declared.entry.Key.{Key}
use Rattle.lvs_types.specs.declared.entry.Entry.{Entry}
use Rattle.lvs_types.specs.declared.template.TemplateKey.{TemplateKey}
use Rattle.lvs_types.specs.declared.template.Template.{Template}
use Rattle.lvs_model.specs.Same.{addr_eq, proto_eq, method_eq, dest_id_eq, template_id_eq, key_eq, service_key_eq, template_key_eq}
use Rattle.lvs_model.specs.Lists.{least_by}

abbrev pub has_service_key : ServiceKey → Service → Bool
has_service_key key s = service_key_eq s.key key

-- the service of a key
abbrev pub service_at : ServiceKey → List Service → Option Service
service_at key services = find (has_service_key key) services

-- the service of a mark; 0 is no mark
abbrev pub marked_service : ℕ → List Service → Option Service
marked_service mark services = if mark == 0 then None else service_at (Mark mark) services

-- the service of a packet: of its mark, else of its address and port, else the one of port 0 (ipvsadm(8), -f and -t)
abbrev pub find_service : Proto → Addr → ℕ → ℕ → List Service → Option Service
find_service proto addr port mark services =
    option_or (marked_service mark services) (option_or (service_at (Net proto addr port) services) (service_at (Net proto addr 0) services))

abbrev pub has_dest_id : DestId → Dest → Bool
has_dest_id id d = dest_id_eq d.id id

-- the server of an id, live or in the trash
abbrev pub dest_at : DestId → List Dest → Option Dest
dest_at id dests = find (has_dest_id id) dests

-- a live server of the service
abbrev pub is_server_of : ServiceKey → Dest → Bool
is_server_of key d = d.live && service_key_eq d.service key

-- the servers of a service, in order of addition
abbrev pub servers_of : ServiceKey → List Dest → List Dest
servers_of key dests = filter (is_server_of key) dests

-- it stands at this address and port
abbrev pub stands_at : Addr → ℕ → Dest → Bool
stands_at addr port d = addr_eq d.spec.addr addr && (d.spec.port == port)

-- a live server of the service at this address and port
abbrev pub is_server_at : ServiceKey → Addr → ℕ → Dest → Bool
is_server_at key addr port d = is_server_of key d && stands_at addr port d

abbrev pub has_key : Key → Entry → Bool
has_key key e = key_eq e.key key

abbrev pub has_entry_id : ℕ → Entry → Bool
has_entry_id id e = e.id == id

-- the entry of a key
abbrev pub entry_at : Key → List Entry → Option Entry
entry_at key entries = find (has_key key) entries

-- a masqueraded connection between this server's side and this client's side
abbrev pub is_reply_of : Proto → Addr → ℕ → Addr → ℕ → Entry → Bool
is_reply_of proto daddr dport caddr cport e =
    method_eq e.method Masq && proto_eq e.key.proto proto && addr_eq e.daddr daddr && (e.dport == dport) && addr_eq e.key.caddr caddr && (e.key.cport == cport)

-- the entry of a reply: of the masqueraded connections between the two sides the one of least id
abbrev pub reply_entry : Proto → Addr → ℕ → Addr → ℕ → List Entry → Option Entry
reply_entry proto daddr dport caddr cport entries =
    least_by (λ (e : Entry). e.id) (filter (is_reply_of proto daddr dport caddr cport) entries)

abbrev pub has_template_key : TemplateKey → Template → Bool
has_template_key key t = template_key_eq t.key key

abbrev pub has_template_id : TemplateId → Template → Bool
has_template_id id t = template_id_eq t.id id

-- the template of a key
abbrev pub template_at : TemplateKey → List Template → Option Template
template_at key templates = find (has_template_key key) templates

-- the template of an id
abbrev pub template_of_id : TemplateId → List Template → Option Template
template_of_id id templates = find (has_template_id id) templates
