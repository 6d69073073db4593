use Rattle.std.proofs.Common.{◌∙◌, ap}
use Rattle.std.specs.List.{find}
use Rattle.lvs_model.specs.Lookups.{has_entry_id}
use Rattle.lvs_entries.specs.Seen.{ChainSeen}
use Rattle.lvs_entries.proofs.Keyed.{looked_up}
use Rattle.lvs_entries.proofs.chain.Chain.get.Goals as goal

pub returns : goal.returns
returns c =
    c.get.ensures.value ∙ looked_up c.args.id c.self.inside.entries.entries c.self.invariant ∙ ap (λ (v : ChainSeen). find (has_entry_id c.args.id) v.entries) c.self.view_is
