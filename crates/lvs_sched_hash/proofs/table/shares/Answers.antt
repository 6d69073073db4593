use Rattle.std.proofs.Common.{◌%◌, sum_by, arith}
use Rattle.std.proofs.Math.Nat.{mod-add-mod}
use Rattle.std.proofs.lemmas.Grind.{common_steps}
use Rattle.lvs_model.specs.AddressHash.{share}
use Rattle.lvs_sched_hash.proofs.Elements.{owner_is}
use Rattle.lvs_sched_hash.proofs.table.shares.Goals as goal

pub loop-slot-preserved : goal.loop-slot-preserved
loop-slot-preserved c =
    let owner = owner_is c.args.servers.now _ _ _ c.loop-slot.invariant.element in
    record {
      number = grind (arith, common_steps);
      filled = grind (arith, common_steps);
      element = rw (← mod-add-mod c.loop-slot.slot-index (sum_by share c.args.servers.now) 1) (c.next-element.ensures (c.loop-slot.slot-index % sum_by share c.args.servers.now) c.loop-slot.invariant.element);
    }
