use Rattle.std.proofs.Common.{[]}
use Rattle.lvs_model.specs.State.{initial}
use Rattle.lvs_model.specs.Step.{run}
use Rattle.lvs_model.specs.Snapshots.{snapshot_of}
use Rattle.lvs_listing.proofs.SavedTexts.{service_commands, services_read}
use Rattle.lvs_listing.proofs.Applied.{tables_made}
use Rattle.lvs_laws.proofs.SaveShown.{ever_savable}
use Rattle.lvs_laws.proofs.save.tables_that_commands_leave_come_back.Goals as goal

pub returns : goal.returns
returns c = λ local buckets items each.
    let tables = snapshot_of (run (initial local buckets) items).1 in
    let are = ever_savable local buckets items each in
    (service_commands tables.dests tables.services, services_read 1 tables.dests [] tables.services are, λ s no_services no_dests. tables_made tables s are no_services no_dests)
