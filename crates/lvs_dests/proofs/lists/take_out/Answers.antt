use Rattle.std.proofs.Common.{◌∙◌, sym, not, rules}
use Rattle.std.proofs.lemmas.Fn.{filter_same}
use Rattle.lvs_types.specs.declared.dest.Candidate.{Candidate}
use Rattle.lvs_dests.specs.Lists.{has_candidate_id}
use Rattle.lvs_dests.proofs.Narrow.{replaced_none}
use Rattle.lvs_dests.proofs.lists.take_out.Goals as goal

pub returns : goal.returns
returns c =
    filter_same _ (λ (x : Candidate). not (has_candidate_id c.args.id x)) _ (λ x b q says. search rules) _ _ c.retain.ensures.filtered
    ∙ sym (replaced_none (has_candidate_id c.args.id) c.args.list.now.items)
