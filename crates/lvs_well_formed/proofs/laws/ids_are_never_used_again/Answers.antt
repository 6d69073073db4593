use Rattle.lvs_model.specs.Step.{run}
use Rattle.lvs_model.specs.WellFormed.{entry_ids, dest_ids, template_ids}
use Rattle.lvs_well_formed.proofs.Steps.{run_rises}
use Rattle.lvs_well_formed.proofs.Found.{stays_gone}
use Rattle.lvs_well_formed.proofs.laws.ids_are_never_used_again.Goals as goal

pub returns-clause-entries : goal.returns-clause-entries
returns-clause-entries c = λ s items id w. stays_gone s.next_entry (entry_ids s.entries) (run s items).1.next_entry (entry_ids (run s items).1.entries) id (run_rises s items w).entries

pub returns-clause-dests : goal.returns-clause-dests
returns-clause-dests c = λ s items id w. stays_gone s.next_dest (dest_ids s.dests) (run s items).1.next_dest (dest_ids (run s items).1.dests) id (run_rises s items w).dests

pub returns-clause-templates : goal.returns-clause-templates
returns-clause-templates c = λ s items id w. stays_gone s.next_template (template_ids s.templates) (run s items).1.next_template (template_ids (run s items).1.templates) id (run_rises s items w).templates
