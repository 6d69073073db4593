use Rattle.std.proofs.Common.{true, refl, lit<, lit≤}
use Rattle.lvs_listing.specs.Savable.{IsSayableServer}
use Rattle.lvs_model.specs.ExampleItems.{web}
use Rattle.lvs_listing.specs.ExampleState.{web_server}
use Rattle.lvs_listing.proofs.worked_examples.tables_that_come_back.Goals as goal

first_server : IsSayableServer web (web_server 1 2 true).spec
first_server = record { addr = lit< tt; port = lit< tt; port_kept = λ is. cc; weight = lit≤ tt; upper = lit< tt; lower = lit≤ tt }

second_server : IsSayableServer web (web_server 2 1 true).spec
second_server = record { addr = lit< tt; port = lit< tt; port_kept = λ is. cc; weight = lit≤ tt; upper = lit< tt; lower = lit≤ tt }

pub returns : goal.returns
returns c = (record { key = (lit< tt, lit< tt); persistence = (refl, refl); one_packet = refl }, (first_server, refl, (second_server, refl, tt)), refl, tt)
