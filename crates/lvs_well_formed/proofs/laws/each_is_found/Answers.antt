use Rattle.lvs_well_formed.proofs.Found.{services_found, dests_by_id, entries_by_key, templates_by_key, templates_by_id}
use Rattle.lvs_well_formed.proofs.laws.each_is_found.Goals as goal

pub returns-clause-services : goal.returns-clause-services
returns-clause-services c = services_found

pub returns-clause-dests : goal.returns-clause-dests
returns-clause-dests c = dests_by_id

pub returns-clause-entries : goal.returns-clause-entries
returns-clause-entries c = entries_by_key

pub returns-clause-templates : goal.returns-clause-templates
returns-clause-templates c = templates_by_key

pub returns-clause-templates_by_id : goal.returns-clause-templates_by_id
returns-clause-templates_by_id c = templates_by_id
