-- When two values of the director's types are the same, as tests that compute.
use Rattle.std.specs.Prelude.{Bool, true, false, ◌&&◌, ◌==◌, Option, Some, None}
use Rattle.lvs_types.specs.declared.addr.Addr.{Addr}
use Rattle.lvs_types.specs.declared.addr.DestId.{DestId}
use Rattle.lvs_types.specs.declared.addr.TemplateId.{TemplateId}
use Rattle.lvs_types.specs.declared.service.Proto.{Proto}
use Rattle.lvs_types.specs.declared.service.Proto.TheVariants.{Tcp, Udp}
use Rattle.lvs_types.specs.declared.service.Method.{Method}
use Rattle.lvs_types.specs.declared.service.Method.TheVariants.{Masq, Tunnel, Direct}
use Rattle.lvs_types.specs.declared.service.ServiceKey.{ServiceKey}
use Rattle.lvs_types.specs.declared.service.ServiceKey.TheVariants.{Net, Mark}
use Rattle.lvs_types.specs.declared.entry.Key.{Key}
use Rattle.lvs_types.specs.declared.template.TemplateKey.{TemplateKey}

abbrev pub proto_eq : Proto → Proto → Bool
proto_eq Tcp Tcp = true
proto_eq Tcp Udp = false
proto_eq Udp Tcp = false
proto_eq Udp Udp = true

abbrev pub method_eq : Method → Method → Bool
method_eq Masq Masq = true
method_eq Tunnel Tunnel = true
method_eq Direct Direct = true
method_eq _ _ = false

abbrev pub addr_eq : Addr → Addr → Bool
addr_eq a b = a.number == b.number

abbrev pub dest_id_eq : DestId → DestId → Bool
dest_id_eq a b = a.0 == b.0

abbrev pub template_id_eq : TemplateId → TemplateId → Bool
template_id_eq a b = a.0 == b.0

abbrev pub key_eq : Key → Key → Bool
key_eq a b = proto_eq a.proto b.proto && addr_eq a.caddr b.caddr && (a.cport == b.cport) && addr_eq a.vaddr b.vaddr && (a.vport == b.vport)

abbrev pub service_key_eq : ServiceKey → ServiceKey → Bool
service_key_eq (Net proto addr port) (Net other_proto other_addr other_port) = proto_eq proto other_proto && addr_eq addr other_addr && (port == other_port)
service_key_eq (Net proto addr port) (Mark other) = false
service_key_eq (Mark mark) (Net proto addr port) = false
service_key_eq (Mark mark) (Mark other) = mark == other

abbrev pub template_key_eq : TemplateKey → TemplateKey → Bool
template_key_eq a b = (a.code == b.code) && addr_eq a.client b.client && addr_eq a.vaddr b.vaddr && (a.vport == b.vport)

-- the number names a server
abbrev pub dest_eq : Option DestId → DestId → Bool
dest_eq None id = false
dest_eq (Some named) id = dest_id_eq named id
