-- The states of the worked examples of the law Release: one server of the service 10.0.0.1:80, and one connection to it.
use Rattle.std.specs.Prelude.{false, true, List, [], ◌∷◌, ◌++◌, None, Some}
use Rattle.lvs_types.specs.declared.addr.DestId.{DestId}
use Rattle.lvs_types.specs.declared.dest.Dest.{Dest}
use Rattle.lvs_types.specs.declared.item.Item.{Item}
use Rattle.lvs_types.specs.declared.item.Item.TheVariants as item
use Rattle.lvs_model.specs.ExampleItems.{web, direct_server, add_example_service, add_web_server, remove_web_server, syn}

-- the service is added, and one server
abbrev pub one_server : List Item
one_server = add_example_service web None ∷ add_web_server 1 ∷ []

-- then a connection is made
abbrev pub connected : List Item
connected = one_server ++ syn 40000 ∷ []

-- then the server is removed
abbrev pub connected_then_removed : List Item
connected_then_removed = connected ++ remove_web_server 1 ∷ []

-- then the connection's time is over, and it is swept
abbrev pub removed_then_swept : List Item
removed_then_swept = connected_then_removed ++ item.Tick 1000 ∷ item.Sweep 0 ∷ []

-- then the server is reaped
abbrev pub swept_then_reaped : List Item
swept_then_reaped = removed_then_swept ++ item.Reap ∷ []

-- the same, the service being persistent for 300 seconds: a template is left of the connection, and is due
abbrev pub template_left : List Item
template_left = add_example_service web (Some 300) ∷ add_web_server 1 ∷ syn 40000 ∷ remove_web_server 1 ∷ item.Tick 1000 ∷ item.Sweep 0 ∷ []

abbrev pub first_id : DestId
first_id = record { 0 = 1 }

-- the server, live
abbrev pub first_server : Dest
first_server = record { id = first_id; service = web; spec = direct_server 1 80 1 0; overloaded = false; live = true }

-- the server in the trash
abbrev pub trashed_server : Dest
trashed_server = record first_server { live = false }
