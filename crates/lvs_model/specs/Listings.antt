-- The listings of a director, each line with its line feed: its services and servers, its connections, and its tables as the ipvsadm(8) words that make them again (this project's profile).
use Rattle.std.specs.Prelude.{ℕ, ◌-◌, ◌^◌, ◌==◌, Bool, true, false, List, [], ◌∷◌, ◌++◌, Option, Some, None, if◌then◌else◌, codes, decimal, map}
use Rattle.std.specs.List.{filter}
use Rattle.lvs_types.specs.declared.addr.Addr.{Addr}
use Rattle.lvs_types.specs.declared.service.Proto.{Proto}
use Rattle.lvs_types.specs.declared.service.Proto.TheVariants.{Tcp, Udp}
use Rattle.lvs_types.specs.declared.service.Method.{Method}
use Rattle.lvs_types.specs.declared.service.Method.TheVariants.{Masq, Tunnel, Direct}
use Rattle.lvs_types.specs.declared.service.ServiceKey.{ServiceKey}
use Rattle.lvs_types.specs.declared.service.ServiceKey.TheVariants.{Net, Mark}
use Rattle.lvs_types.specs.declared.service.Service.{Service}
use Rattle.lvs_types.specs.declared.dest.DestSpec.{DestSpec}
use Rattle.lvs_types.specs.declared.dest.DestRow.{DestRow}
use Rattle.lvs_types.specs.declared.entry.TcpState.{TcpState}
use Rattle.lvs_types.specs.declared.entry.TcpState.TheVariants as tcp
use Rattle.lvs_types.specs.declared.entry.Entry.{Entry}
use Rattle.lvs_types.specs.declared.template.Template.{Template}
use Rattle.lvs_types.specs.declared.snapshot.Snapshot.{Snapshot}
use Rattle.lvs_types.specs.declared.book.Shown.{Shown}
use Rattle.lvs_types.specs.declared.book.Shown.TheVariants as shown
use Rattle.lvs_types.specs.declared.book.ShownText.{ShownText}
use Rattle.lvs_types.specs.declared.icmp.Side.TheVariants.{Inward, Outward}
use Rattle.lvs_types.specs.Schedulers.{scheduler_name}
use Rattle.lvs_model.specs.State.{State}
use Rattle.lvs_model.specs.Lookups.{is_server_of}
use Rattle.lvs_model.specs.Snapshots.{snapshot_of}
use Rattle.lvs_model.specs.Report.{addr_text}
use Rattle.lvs_model.specs.IcmpErrors.{icmp_answer, icmp_text}

-- PIECES

-- ADDR:PORT
abbrev pub endpoint_text : Addr → ℕ → List ℕ
endpoint_text addr port = addr_text addr ++ 58 ∷ [] ++ decimal port

-- the address of so many ones and then zeros
abbrev pub mask_addr : ℕ → Addr
mask_addr bits = record { number = 2 ^ 32 - 2 ^ (32 - bits) }

-- a word and an address, where the mask isn't 255.255.255.255
unfoldable pub mask_text : List ℕ → ℕ → List ℕ
mask_text word bits = if (mask_addr bits).number == 4294967295 then [] else word ++ addr_text (mask_addr bits)

-- a word and the seconds of persistence, where there is one
unfoldable pub persist_text : List ℕ → Option ℕ → List ℕ
persist_text word None = []
persist_text word (Some seconds) = word ++ decimal seconds

-- a word where a flag is set
unfoldable pub flag_text : List ℕ → Bool → List ℕ
flag_text word true = word
flag_text word false = []

-- a word and a threshold, where it isn't 0
unfoldable pub threshold_text : List ℕ → ℕ → List ℕ
threshold_text word threshold = if threshold == 0 then [] else word ++ decimal threshold

-- what is written of a service where it isn't the default, each with its word: persistence, mask and one-packet scheduling
unfoldable pub options_text : List ℕ → List ℕ → List ℕ → Service → List ℕ
options_text persistence mask one_packet s = persist_text persistence s.persist ++ mask_text mask s.mask_bits ++ flag_text one_packet s.one_packet

-- the live servers of a service, in order
abbrev pub rows_of : ServiceKey → List DestRow → List DestRow
rows_of key rows = filter (λ (row : DestRow). is_server_of key row.dest) rows

-- SERVICES AND SERVERS

-- TCP ADDR:PORT, UDP ADDR:PORT or FWM MARK
unfoldable pub key_text : ServiceKey → List ℕ
key_text (Net Tcp addr port) = codes "TCP " ++ endpoint_text addr port
key_text (Net Udp addr port) = codes "UDP " ++ endpoint_text addr port
key_text (Mark mark) = codes "FWM " ++ decimal mark

abbrev pub service_line : Service → List ℕ
service_line s =
    key_text s.key ++ 32 ∷ [] ++ scheduler_name s.scheduler ++ options_text (codes " persistent ") (codes " mask ") (codes " ops") s ++ 10 ∷ []

-- how packets are forwarded, as `ipvsadm -L` names it
abbrev pub method_title : Method → List ℕ
method_title Masq = codes "Masq"
method_title Tunnel = codes "Tunnel"
method_title Direct = codes "Route"

-- -> ADDR:PORT METHOD WEIGHT ACTIVE INACTIVE
abbrev pub server_line : DestRow → List ℕ
server_line row =
    codes "  -> " ++ endpoint_text row.dest.spec.addr row.dest.spec.port ++ 32 ∷ [] ++ method_title row.dest.spec.method ++ 32 ∷ [] ++ decimal row.dest.spec.weight ++ 32 ∷ [] ++ decimal row.active ++ 32 ∷ [] ++ decimal row.inactive ++ 10 ∷ []

abbrev pub server_lines : List DestRow → List ℕ
server_lines [] = []
server_lines (row ∷ rows) = server_line row ++ server_lines rows

-- the services in order, each with its live servers under it
abbrev pub service_lines : List DestRow → List Service → List ℕ
service_lines rows [] = []
service_lines rows (service ∷ services) = service_line service ++ server_lines (rows_of service.key rows) ++ service_lines rows services

abbrev pub list_text : Snapshot → List ℕ
list_text tables = service_lines tables.dests tables.services

-- CONNECTIONS

abbrev pub proto_title : Proto → List ℕ
proto_title Tcp = codes "TCP"
proto_title Udp = codes "UDP"

abbrev pub state_title : Option TcpState → List ℕ
state_title None = codes "UDP"
state_title (Some tcp.None0) = codes "NONE"
state_title (Some tcp.Established) = codes "ESTABLISHED"
state_title (Some tcp.SynSent) = codes "SYN_SENT"
state_title (Some tcp.SynRecv) = codes "SYN_RECV"
state_title (Some tcp.FinWait) = codes "FIN_WAIT"
state_title (Some tcp.TimeWait) = codes "TIME_WAIT"
state_title (Some tcp.Close) = codes "CLOSE"
state_title (Some tcp.CloseWait) = codes "CLOSE_WAIT"
state_title (Some tcp.LastAck) = codes "LAST_ACK"
state_title (Some tcp.Listen) = codes "LISTEN"
state_title (Some tcp.SynAck) = codes "SYNACK"

-- the seconds until a deadline, 0 where it is past
abbrev pub left : ℕ → ℕ → ℕ
left now deadline = deadline - now

-- PROTOCOL LEFT STATE, and ADDR:PORT of the client's, the virtual and the server's side
abbrev pub entry_line : ℕ → Entry → List ℕ
entry_line now e =
    proto_title e.key.proto ++ 32 ∷ [] ++ decimal (left now e.deadline) ++ 32 ∷ [] ++ state_title e.state ++ 32 ∷ [] ++ endpoint_text e.key.caddr e.key.cport ++ 32 ∷ [] ++ endpoint_text e.key.vaddr e.key.vport ++ 32 ∷ [] ++ endpoint_text e.daddr e.dport ++ 10 ∷ []

abbrev pub entry_lines : ℕ → List Entry → List ℕ
entry_lines now [] = []
entry_lines now (e ∷ entries) = entry_line now e ++ entry_lines now entries

-- by the code of a template's key: 6, 17, or 0 for a mark
abbrev pub code_title : ℕ → List ℕ
code_title code = if code == 6 then codes "TCP" else if code == 17 then codes "UDP" else codes "IP"

-- TPL LEFT CODE, and ADDR:PORT of the client's side, with port 0, of the virtual and of the server's side
abbrev pub template_line : ℕ → Template → List ℕ
template_line now t =
    codes "TPL " ++ decimal (left now t.deadline) ++ 32 ∷ [] ++ code_title t.key.code ++ 32 ∷ [] ++ endpoint_text t.key.client 0 ++ 32 ∷ [] ++ endpoint_text t.key.vaddr t.key.vport ++ 32 ∷ [] ++ endpoint_text t.daddr t.dport ++ 10 ∷ []

abbrev pub template_lines : ℕ → List Template → List ℕ
template_lines now [] = []
template_lines now (t ∷ templates) = template_line now t ++ template_lines now templates

-- the entries by id, and then the templates by id
abbrev pub conns_text : Snapshot → List ℕ
conns_text tables = entry_lines tables.now tables.entries ++ template_lines tables.now tables.templates

-- TABLES AS WORDS

-- -t ADDR:PORT, -u ADDR:PORT or -f MARK
unfoldable pub key_words : ServiceKey → List ℕ
key_words (Net Tcp addr port) = codes "-t " ++ endpoint_text addr port
key_words (Net Udp addr port) = codes "-u " ++ endpoint_text addr port
key_words (Mark mark) = codes "-f " ++ decimal mark

abbrev pub service_words : Service → List ℕ
service_words s =
    codes "-A " ++ key_words s.key ++ codes " -s " ++ scheduler_name s.scheduler ++ options_text (codes " -p ") (codes " -M ") (codes " -o") s ++ 10 ∷ []

abbrev pub method_word : Method → List ℕ
method_word Masq = codes "-m"
method_word Tunnel = codes "-i"
method_word Direct = codes "-g"

abbrev pub server_words : ServiceKey → DestSpec → List ℕ
server_words key d =
    codes "-a " ++ key_words key ++ codes " -r " ++ endpoint_text d.addr d.port ++ 32 ∷ [] ++ method_word d.method ++ codes " -w " ++ decimal d.weight ++ threshold_text (codes " -x ") d.upper ++ threshold_text (codes " -y ") d.lower ++ 10 ∷ []

abbrev pub saved_servers : ServiceKey → List DestRow → List ℕ
saved_servers key [] = []
saved_servers key (row ∷ rows) = server_words key row.dest.spec ++ saved_servers key rows

-- the services in order, each with its live servers behind it
abbrev pub saved_services : List DestRow → List Service → List ℕ
saved_services rows [] = []
saved_services rows (service ∷ services) = service_words service ++ saved_servers service.key (rows_of service.key rows) ++ saved_services rows services

abbrev pub save_text : Snapshot → List ℕ
save_text tables = saved_services tables.dests tables.services

-- WHAT IS SHOWN

-- the lines of a listing, or the line of the answer to an ICMP error
abbrev pub text_of : Snapshot → Shown → List ℕ
text_of tables shown.List = list_text tables
text_of tables shown.Conns = conns_text tables
text_of tables shown.Save = save_text tables
text_of tables (shown.IcmpIn bytes) = icmp_text (icmp_answer tables Inward bytes)
text_of tables (shown.IcmpOut bytes) = icmp_text (icmp_answer tables Outward bytes)

-- a listing of a director as it is now
abbrev pub shown_listing : State → Shown → ShownText
shown_listing s kind = record { kind = kind; text = text_of (snapshot_of s) kind }

-- the listings that are asked for, in order
abbrev pub shown_of : State → List Shown → List ShownText
shown_of s kinds = map (shown_listing s) kinds
