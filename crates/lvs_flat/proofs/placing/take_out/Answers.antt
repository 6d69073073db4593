use Rattle.std.proofs.Common.{rules, not}
use Rattle.std.proofs.lemmas.Fn.{filter_same}
use Rattle.std.proofs.lemmas.Bool.Decides.{nat_tests}
use Rattle.lvs_types.specs.declared.dest.Dest.{Dest}
use Rattle.lvs_model.specs.Lookups.{has_dest_id}
use Rattle.lvs_flat.proofs.placing.take_out.Goals as goal

pub returns-clause-items : goal.returns-clause-items
returns-clause-items c =
    filter_same _ (λ (d : Dest). not (has_dest_id c.args.id d)) _ (λ x b q says. search (rules, nat_tests)) _ _ c.retain.ensures.filtered
