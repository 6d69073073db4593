-- Persistence: the template of a client and a service (ipvsadm(8), -p and -M).
use Rattle.std.specs.Prelude.{ℕ, not, ◌-◌, ◌*◌, ◌/◌, ◌^◌, Bool, ◌&&◌, ◌==◌, List, Option, Some, None, if◌then◌else◌, nat_lt}
use Rattle.lvs_types.specs.declared.addr.Addr.{Addr}
use Rattle.lvs_types.specs.declared.addr.DestId.{DestId}
use Rattle.lvs_types.specs.declared.service.ServiceKey.{ServiceKey}
use Rattle.lvs_types.specs.declared.service.ServiceKey.TheVariants.{Net, Mark}
use Rattle.lvs_types.specs.declared.service.Service.{Service}
use Rattle.lvs_types.specs.declared.dest.Dest.{Dest}
use Rattle.lvs_types.specs.declared.settings.Settings.{Settings}
use Rattle.lvs_types.specs.declared.template.TemplateKey.{TemplateKey}
use Rattle.lvs_types.specs.Protocols.{proto_code}
use Rattle.lvs_model.specs.Lookups.{dest_at}

-- the leading bits of an address, the others cleared
abbrev pub masked : ℕ → Addr → Addr
masked bits addr = record { number = addr.number / 2 ^ (32 - bits) * 2 ^ (32 - bits) }

-- the key of the client's template: of a service of an address its protocol, address and port, of a mark service its mark
abbrev pub template_key_in : ServiceKey → Addr → TemplateKey
template_key_in (Net proto addr port) client = record { code = proto_code proto; client = client; vaddr = addr; vport = port }
template_key_in (Mark mark) client = record { code = 0; client = client; vaddr = record { number = mark }; vport = 0 }

abbrev pub template_key : Service → Addr → TemplateKey
template_key service client = template_key_in service.key (masked service.mask_bits client)

-- it is live, and expire_quiescent_template doesn't turn its weight of 0 against it; overload isn't looked at (the Linux ipvs-sysctl document)
abbrev pub takes_templates : Settings → Dest → Bool
takes_templates settings d = d.live && not (nat_lt 0 settings.expire_quiescent && (d.spec.weight == 0))

abbrev pub usable : Settings → Option Dest → Option Dest
usable settings None = None
usable settings (Some d) = if takes_templates settings d then Some d else None

-- the server that a template gives, if it is usable
abbrev pub usable_server : Settings → List Dest → Option DestId → Option Dest
usable_server settings dests None = None
usable_server settings dests (Some id) = usable settings (dest_at id dests)
