use Rattle.lvs_core.proofs.Begun.{one_longer, one_more_empty}
use Rattle.lvs_core.proofs.buckets.make_buckets.Goals as goal

pub loop-number-preserved : goal.loop-number-preserved
loop-number-preserved c = record {
  each = rw c.in_ok-push.ensures.items (one_more_empty c.args.count c.loop-number.number c.loop-number.buckets.items c.in_ok-new.field-0 c.loop-number.invariant.count c.in_ok-new.ensures.number c.in_ok-new.ensures.buckets c.in_ok-new.ensures.entries c.loop-number.invariant.each);
  count = rw c.in_ok-push.ensures.items (one_longer c.loop-number.number c.loop-number.buckets.items c.in_ok-new.field-0 c.loop-number.invariant.count);
}
