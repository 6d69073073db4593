-- The tables with which the worked examples begin, as the items that make them.
use Rattle.std.specs.Prelude.{ℕ, true, [], ◌∷◌, ◌++◌, List, Option, Some, None}
use Rattle.lvs_types.specs.declared.service.Method.TheVariants.{Masq, Tunnel}
use Rattle.lvs_types.specs.declared.service.Proto.TheVariants.{Tcp}
use Rattle.lvs_types.specs.declared.service.Scheduler.TheVariants.{Wrr}
use Rattle.lvs_types.specs.declared.service.Service.{Service}
use Rattle.lvs_types.specs.declared.service.ServiceKey.{ServiceKey}
use Rattle.lvs_types.specs.declared.service.ServiceKey.TheVariants.{Net, Mark}
use Rattle.lvs_types.specs.declared.dest.DestSpec.{DestSpec}
use Rattle.lvs_types.specs.declared.command.Command.TheVariants as command
use Rattle.lvs_types.specs.declared.item.Item.{Item}
use Rattle.lvs_types.specs.declared.item.Item.TheVariants as item
use Rattle.lvs_types.specs.declared.settings.Setting.TheVariants as setting
use Rattle.lvs_model.specs.ExampleItems.{virtual_addr, web, names, service_with, direct_server, add_example_service, add_web_server, remove_web_server, syn, ack, web_packet, udp_packet}
use Rattle.lvs_examples.specs.Packets.{other_addr, syn_segment, syn_of_neighbour, syn_of_stranger, syn_elsewhere, syn_to_443, ack_segment, answer_segment}
use Rattle.lvs_examples.specs.Items.{add_service, add_server, server_by, arriving, marked, leaving, start_master, start_backup, learn_from_master}
use Rattle.lvs_examples.specs.Records.{connection_to, template_to}

-- the web service with the servers 192.168.0.1 and 192.168.0.2, by direct routing
abbrev pub two_servers : Option ℕ → List Item
two_servers persist = add_example_service web persist ∷ add_web_server 1 ∷ add_web_server 2 ∷ []

-- a connection of the client to the first of them
abbrev pub one_connection : List Item
one_connection = two_servers None ++ syn 40000 ∷ []

-- eleven bytes of UDP, of 172.16.0.9
abbrev pub datagram : Item
datagram = item.Incoming 0 udp_packet

-- the UDP service 10.0.0.1:53 with the server 192.168.0.1, by direct routing
abbrev pub name_server : List Item
name_server = add_example_service names None ∷ add_server names (direct_server 1 53 1 0) ∷ []

-- SERVICES

-- TCP to every port of 10.0.0.1
abbrev pub every_port : ServiceKey
every_port = Net Tcp virtual_addr 0

-- the service of every port with the server 192.168.0.2, the web service with 192.168.0.1, and last a service of mark 7 with 192.168.0.3
abbrev pub three_services : List Item
three_services =
    add_example_service every_port (Some 300) ∷ add_server every_port (direct_server 2 0 1 0) ∷ add_example_service web None ∷ add_web_server 1 ∷ add_example_service (Mark 7) None ∷ add_server (Mark 7) (direct_server 3 0 1 0) ∷ []

-- a packet of mark 7, one to the web service, whose mark has no service, and one to port 443
abbrev pub packet_for_each : List Item
packet_for_each = marked 7 syn_elsewhere ∷ marked 8 syn_segment ∷ arriving syn_to_443 ∷ []

-- METHODS

-- the web service with the server 192.168.0.1:8080, by masquerade
abbrev pub masquerading : List Item
masquerading = add_example_service web None ∷ add_server web (server_by Masq 1 8080) ∷ []

-- the client's SYN, the server's answer 5 seconds later and the client's ACK after 5 more
abbrev pub handshake : List Item
handshake = arriving syn_segment ∷ item.Tick 5 ∷ leaving answer_segment ∷ item.Tick 10 ∷ arriving ack_segment ∷ []

-- TCP to port 80 of the other address
abbrev pub other_web : ServiceKey
other_web = Net Tcp other_addr 80

-- two services with the same server, by masquerade
abbrev pub one_server_twice : List Item
one_server_twice = masquerading ++ add_example_service other_web None ∷ add_server other_web (server_by Masq 1 8080) ∷ []

-- the web service with the server 192.168.0.7, by tunnel
abbrev pub tunnelling : Option ℕ → List Item
tunnelling persist = add_example_service web persist ∷ add_server web (server_by Tunnel 7 80) ∷ []

-- a tunnelled connection whose client has sent SYN and FIN: it is in TIME_WAIT
abbrev pub waiting_tunnel : List Item
waiting_tunnel = tunnelling None ++ syn 40000 ∷ item.Incoming 0 (web_packet 40000 1) ∷ []

-- PERSISTENCE

-- the web service, persistent for networks of 24 bits
abbrev pub network_service : Service
network_service = record (service_with web (Some 300)) { mask_bits = 24 }

abbrev pub persistent_networks : List Item
persistent_networks = add_service network_service ∷ add_web_server 1 ∷ add_web_server 2 ∷ []

-- the client, and 10 seconds later a client of its network and one of another
abbrev pub three_clients : List Item
three_clients = arriving syn_segment ∷ item.Tick 10 ∷ arriving syn_of_neighbour ∷ arriving syn_of_stranger ∷ []

-- a persistent service of mark 7, whose servers take every port
abbrev pub persistent_mark : List Item
persistent_mark =
    add_example_service (Mark 7) (Some 300) ∷ add_server (Mark 7) (direct_server 1 0 1 0) ∷ add_server (Mark 7) (direct_server 2 0 1 0) ∷ []

-- two packets of one client with that mark, to ports 80 and 443
abbrev pub two_ports : List Item
two_ports = marked 7 syn_segment ∷ marked 7 syn_to_443 ∷ []

-- the client has a template for the first of two servers, and that server is removed
abbrev pub template_of_removed : List Item
template_of_removed = two_servers (Some 300) ++ syn 40000 ∷ remove_web_server 1 ∷ []

-- the client has a template for the first of two servers, and that server's weight becomes 0
abbrev pub template_of_quiescent : List Item
template_of_quiescent = two_servers (Some 300) ++ syn 40000 ∷ item.Edit (command.EditServer web (direct_server 1 80 0 0)) ∷ []

-- the client has a template for the first of two servers, which is overloaded at one connection
abbrev pub template_of_overloaded : List Item
template_of_overloaded =
    add_example_service web (Some 300) ∷ add_server web (direct_server 1 80 1 1) ∷ add_web_server 2 ∷ arriving syn_segment ∷ []

-- ONE-PACKET SCHEDULING

-- a service whose UDP packets leave no entry
abbrev pub one_packet : ServiceKey → Option ℕ → Service
one_packet key persist = record (service_with key persist) { one_packet = true }

-- the UDP service 10.0.0.1:53 with one-packet scheduling and two servers, by direct routing
abbrev pub name_servers : Option ℕ → List Item
name_servers persist =
    add_service (one_packet names persist) ∷ add_server names (direct_server 1 53 1 0) ∷ add_server names (direct_server 2 53 1 0) ∷ []

-- a service of mark 7 with one-packet scheduling
abbrev pub one_packet_mark : List Item
one_packet_mark = add_service (one_packet (Mark 7) None) ∷ add_server (Mark 7) (direct_server 1 0 1 0) ∷ []

-- BINDING

-- the servers 192.168.0.1, by direct routing, and 192.168.0.7, by tunnel
abbrev pub direct_and_tunnel : Option ℕ → List Item
direct_and_tunnel persist = add_example_service web persist ∷ add_web_server 1 ∷ add_server web (server_by Tunnel 7 80) ∷ []

-- the server 192.168.0.7 alone, by tunnel and without weight, with expire_quiescent_template set
abbrev pub quiescent_tunnel : List Item
quiescent_tunnel =
    item.Set (setting.ExpireQuiescent 1) ∷ add_example_service web (Some 300) ∷ add_server web (record (server_by Tunnel 7 80) { weight = 0 }) ∷ []

-- a backup learns a template for 192.168.0.7, and then gets its tables
abbrev pub template_learnt_first : List Item → List Item
template_learnt_first tables = start_backup ∷ learn_from_master (template_to 7) ∷ tables

-- a backup learns a connection to 192.168.0.7, and then gets its tables
abbrev pub connection_learnt_first : List Item → List Item
connection_learnt_first tables = start_backup ∷ learn_from_master (connection_to 7) ∷ tables

-- a backup learns a connection in TIME_WAIT to 192.168.0.1; then that server comes, overloaded at two connections and free again below one, and gets another connection
abbrev pub waiting_learnt_first : List Item
waiting_learnt_first =
    start_backup ∷ learn_from_master (record (connection_to 1) { state = 5 }) ∷ add_example_service web None ∷ add_server web (record (direct_server 1 80 1 2) { lower = 1 }) ∷ syn 40001 ∷ []

-- SYNCHRONISATION

-- a master's tables with one connection, whose client has sent a SYN
abbrev pub on_a_master : Option ℕ → List Item
on_a_master persist = start_master ∷ two_servers persist ++ syn 40000 ∷ []

-- a backup's tables
abbrev pub on_a_backup : Option ℕ → List Item
on_a_backup persist = start_backup ∷ two_servers persist

-- a backup with a connection that overloads the first server
abbrev pub full_server : List Item
full_server = start_backup ∷ add_example_service web None ∷ add_server web (direct_server 1 80 1 1) ∷ add_web_server 2 ∷ syn 40000 ∷ []

-- EDITS

-- the web service by turns and weights, persistent for networks
abbrev pub turned_by_weight : Service
turned_by_weight = record network_service { scheduler = Wrr }

-- a weight of 5 in place of 1
abbrev pub heavier : DestSpec
heavier = direct_server 1 80 5 0

-- the first of two servers leaves under its connection, and comes back heavier
abbrev pub removed : List Item
removed = one_connection ++ remove_web_server 1 ∷ []

abbrev pub revived : List Item
revived = removed ++ add_server web heavier ∷ []

-- an ACK at moment 10, and at moment 20 `--set 1800 0 0`
abbrev pub set_after_ack : List Item
set_after_ack = one_connection ++ item.Tick 10 ∷ ack 40000 ∷ item.Tick 20 ∷ item.Edit (command.Timeouts 1800 0 0) ∷ []
