-- A new connection: its service, its template, the pick of a server, and its entry.
use Rattle.std.specs.Prelude.{ℕ, ◌+◌, Bool, true, false, ◌==◌, [], ◌∷◌, ◌++◌, Option, Some, None, if◌then◌else◌, map, slice_get}
use Rattle.lvs_types.specs.declared.addr.TemplateId.{TemplateId}
use Rattle.lvs_types.specs.declared.head.Head.{Head}
use Rattle.lvs_types.specs.declared.service.Proto.{Proto}
use Rattle.lvs_types.specs.declared.service.Proto.TheVariants.{Tcp, Udp}
use Rattle.lvs_types.specs.declared.service.ServiceKey.{ServiceKey}
use Rattle.lvs_types.specs.declared.service.ServiceKey.TheVariants.{Net, Mark}
use Rattle.lvs_types.specs.declared.service.Service.{Service}
use Rattle.lvs_types.specs.declared.service.Cursor.{Cursor}
use Rattle.lvs_types.specs.declared.dest.Dest.{Dest}
use Rattle.lvs_types.specs.declared.entry.TcpState.{TcpState}
use Rattle.lvs_types.specs.declared.entry.TcpState.TheVariants.{None0}
use Rattle.lvs_types.specs.declared.entry.Entry.{Entry}
use Rattle.lvs_types.specs.declared.template.TemplateKey.{TemplateKey}
use Rattle.lvs_types.specs.declared.template.Template.{Template}
use Rattle.lvs_types.specs.declared.reply.Reply.{Reply}
use Rattle.lvs_types.specs.declared.reply.Reply.TheVariants as reply
use Rattle.lvs_types.specs.declared.reply.DropCause.TheVariants as drops
use Rattle.lvs_model.specs.State.{State}
use Rattle.lvs_model.specs.Lists.{update_first, without}
use Rattle.lvs_model.specs.Lookups.{find_service, has_service_key, servers_of, template_at, has_template_key}
use Rattle.lvs_model.specs.Counts.{candidates}
use Rattle.lvs_model.specs.Pick.{pick}
use Rattle.lvs_model.specs.Binding.{count_bound, template_tried, put_template}
use Rattle.lvs_model.specs.Persistence.{template_key, usable_server}
use Rattle.lvs_model.specs.Packets.{Packet, key_of, may_connect}
use Rattle.lvs_model.specs.Forwarding.{state_after, direction_in, in_state, records_due, forwarded}

-- the port to which a connection goes: the server's, or the packet's where the server takes every port
abbrev pub connection_port : Dest → Head → ℕ
connection_port d head = if d.spec.port == 0 then head.dport else d.spec.port

abbrev pub mark_of : ServiceKey → ℕ
mark_of (Net proto addr port) = 0
mark_of (Mark mark) = mark

-- the state of a connection before its first packet
abbrev pub state_before : Proto → Option TcpState
state_before Tcp = Some None0
state_before Udp = None

-- the entry of a new connection to the server, made by the template if there is one
abbrev pub new_entry : State → Packet → Service → Dest → Option TemplateId → Entry
new_entry s p service d template =
    in_state s.settings s.now (state_after (state_before p.proto) (direction_in d.spec.method) p.head) (record {
      id = s.next_entry;
      key = key_of p.proto p.head;
      server = Some d.id;
      method = d.spec.method;
      daddr = d.spec.addr;
      dport = connection_port d p.head;
      state = None;
      timeout = 0;
      deadline = 0;
      packets = 1;
      template = template;
      mark = mark_of service.key;
    })

-- the connection gets an entry, which counts at its server
abbrev pub enter : State → Packet → Entry → Dest → Reply × State
enter s p e d =
    let entries = s.entries ++ e ∷ [] in (
      forwarded s p e.method e.daddr e.dport,
      record s {
        entries = entries;
        dests = count_bound d.id entries s.dests;
        pending = s.pending ++ records_due s (state_before p.proto) e;
        next_entry = s.next_entry + 1;
      },
    )

-- one-packet scheduling is of UDP alone (ipvsadm(8), -o)
abbrev pub is_one_packet : Service → Proto → Bool
is_one_packet service Tcp = false
is_one_packet service Udp = service.one_packet

-- the packet goes to the server: with one-packet scheduling it leaves no entry
abbrev pub connect_to : State → Packet → Service → Dest → Option TemplateId → Reply × State
connect_to s p service d template =
    if is_one_packet service p.proto then (forwarded s p d.spec.method d.spec.addr (connection_port d p.head), s)
    else enter s p (new_entry s p service d template) d

-- the cursor of a service becomes this one
abbrev pub with_cursor : ServiceKey → Cursor → State → State
with_cursor key cursor s =
    record s { services = update_first (has_service_key key) (λ (service : Service). record service { cursor = cursor }) s.services }

-- a template of this key that gives the server
abbrev pub new_template : State → TemplateKey → ℕ → Dest → Template
new_template s key seconds d = record {
  id = record { 0 = s.next_template };
  key = key;
  server = Some d.id;
  method = d.spec.method;
  daddr = d.spec.addr;
  dport = d.spec.port;
  timeout = seconds;
  deadline = s.now + seconds;
}

-- the template of that key leaves, if there is one, and a new one with a new id stands last
abbrev pub replace_template : Template → State → State
replace_template t s = record s { templates = without (has_template_key t.key) s.templates ++ t ∷ []; next_template = s.next_template + 1 }

-- the picked server takes the connection; a persistent service keeps it in a new template
abbrev pub take_pick : State → Packet → Service → Dest → Option ℕ → Reply × State
take_pick s p service d None = connect_to s p service d None
take_pick s p service d (Some seconds) =
    let t = new_template s (template_key service p.head.src) seconds d in connect_to (replace_template t s) p service d (Some t.id)

abbrev pub pick_at : State → Packet → Service → Cursor → Option Dest → Reply × State
pick_at s p service cursor None = (reply.Drop drops.NoDest, s)
pick_at s p service cursor (Some d) = take_pick (with_cursor service.key cursor s) p service d service.persist

abbrev pub picked : State → Packet → Service → Option (ℕ × Cursor) → Reply × State
picked s p service None = (reply.Drop drops.NoDest, s)
picked s p service (Some choice) = pick_at s p service choice.1 (slice_get (servers_of service.key s.dests) choice.0)

-- the scheduler picks, on the counts as they are now
abbrev pub schedule : State → Packet → Service → Reply × State
schedule s p service =
    picked s p service (pick
    service.scheduler
    (candidates service.key s.dests s.entries)
    (map (λ (d : Dest). d.spec.addr) (servers_of service.key s.dests))
    service.cursor
    p.head.src
    p.head.dst)

-- the template holds for so many seconds from now
abbrev pub renewed : State → ℕ → Template → Template
renewed s seconds t = record t { timeout = seconds; deadline = s.now + seconds }

-- a template that was tried gives its server, or the scheduler picks
abbrev pub use_template : State → Packet → Service → ℕ → Template → Option Dest → Reply × State
use_template s p service seconds t None = schedule s p service
use_template s p service seconds t (Some d) =
    connect_to (record s { templates = put_template (renewed s seconds t) s.templates }) p service d (Some t.id)

-- the template is tried: it is bound where it can be, and that stays
abbrev pub try_template : State → Packet → Service → ℕ → Template → Reply × State
try_template s p service seconds t =
    use_template (record s { templates = put_template t s.templates }) p service seconds t (usable_server s.settings s.dests t.server)

abbrev pub persist_by : State → Packet → Service → ℕ → Option Template → Reply × State
persist_by s p service seconds None = schedule s p service
persist_by s p service seconds (Some t) = try_template s p service seconds (template_tried s t t.server)

abbrev pub serve_packet : State → Packet → Service → Option ℕ → Reply × State
serve_packet s p service None = schedule s p service
serve_packet s p service (Some seconds) =
    persist_by s p service seconds (template_at (template_key service p.head.src) s.templates)

abbrev pub admit : State → Packet → Option Service → Bool → Reply × State
admit s p None allowed = (reply.Pass, s)
admit s p (Some service) false = (reply.Pass, s)
admit s p (Some service) true = serve_packet s p service service.persist

-- a packet of no connection: it needs a service, and has to be one that may make a connection
abbrev pub connect : State → Packet → Reply × State
connect s p =
    admit s p (find_service p.proto p.head.dst p.head.dport p.mark s.services) (may_connect s.settings p.proto p.head)
