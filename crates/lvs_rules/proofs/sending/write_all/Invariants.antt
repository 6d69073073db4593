use Rattle.std.proofs.Common.{◌≡◌, ◌++◌, length}
use Rattle.std.specs.List.{AllByRecursion}
use Rattle.lvs_model.specs.Messages.{HasOldFlags}
use Rattle.lvs_model.specs.Sending.{messages_of}
use Rattle.lvs_rules.proofs.sending.write_all.Given as goal

abbrev pub invariant-loop-rest : goal.invariant-loop-rest
invariant-loop-rest l = record {
  so_far : l.messages.items ++ messages_of l.setting l.sync_id l.rest ≡ messages_of l.setting l.sync_id l.records;
  flags : AllByRecursion HasOldFlags l.rest;
}

abbrev pub decreases-loop-rest : goal.decreases-loop-rest
decreases-loop-rest l = length l.rest
