use Rattle.std.proofs.Common.{ap, ◌∙◌}
use Rattle.lvs_types.specs.declared.dest.Dest.{Dest}
use Rattle.lvs_model.specs.Counts.{candidate_of}
use Rattle.lvs_rules.specs.Views.{entries_in}
use Rattle.lvs_flat.proofs.dests.candidate_in.Goals as goal

pub returns : goal.returns
returns c = c.candidate.ensures ∙ ap (λ (d : Dest). candidate_of (entries_in c.args.view.now.ended c.args.entries.now) d) c.seen.ensures
