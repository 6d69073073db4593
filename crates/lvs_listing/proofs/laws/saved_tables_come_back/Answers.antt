use Rattle.std.proofs.Common.{[]}
use Rattle.lvs_listing.proofs.SavedTexts.{service_commands, services_read}
use Rattle.lvs_listing.proofs.Applied.{tables_made}
use Rattle.lvs_listing.proofs.laws.saved_tables_come_back.Goals as goal

pub returns : goal.returns
returns c = λ tables are. (service_commands tables.dests tables.services, services_read 1 tables.dests [] tables.services are, λ s no_services no_dests. tables_made tables s are no_services no_dests)
