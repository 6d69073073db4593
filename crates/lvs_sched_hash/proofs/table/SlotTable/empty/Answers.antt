use Rattle.std.proofs.Common.{rules}
use Rattle.std.proofs.lemmas.List.{get_or-replicate}
use Rattle.lvs_sched_hash.proofs.table.SlotTable.empty.Goals as goal

pub returns : goal.returns
returns c = record { number = search rules; each = λ k within. search (rules, get_or-replicate) }
