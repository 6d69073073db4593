use Rattle.std.proofs.Common.{rules, not, ◌==◌, ◌&&◌, nat_le}
use Rattle.std.proofs.lemmas.Fn.{filter_same}
use Rattle.lvs_types.specs.declared.entry.Entry.{Entry}
use Rattle.lvs_model.specs.Clock.{entry_bucket}
use Rattle.lvs_flat.proofs.clock.end_swept.Goals as goal

pub returns : goal.returns
returns c =
    filter_same _ (λ (e : Entry). not ((entry_bucket c.args.buckets e == c.args.bucket) && nat_le e.deadline c.args.now)) _ (λ x b q says. search rules) _ _ c.retain.ensures.filtered
