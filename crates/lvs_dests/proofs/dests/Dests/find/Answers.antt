use Rattle.std.proofs.Common.{◌∙◌, ap, List}
use Rattle.lvs_types.specs.declared.dest.Candidate.{Candidate}
use Rattle.lvs_dests.specs.declared.place.ServiceName.{ServiceName}
use Rattle.lvs_dests.specs.Rows.{DestsSeen, serving}
use Rattle.lvs_dests.specs.Lists.{list_at}
use Rattle.lvs_dests.specs.Pool.{rows_of}
use Rattle.lvs_dests.specs.Serving.{first_serving}
use Rattle.lvs_dests.proofs.Whole.{pool_apart}
use Rattle.lvs_dests.proofs.Serves.{first_is}
use Rattle.lvs_dests.proofs.dests.Dests.find.Goals as goal

pub returns : goal.returns
returns c =
    let pool = c.self.inside.pool in
    c.first_serving.ensures
    ∙ ap (λ (cs : List Candidate). first_serving c.args.daddr c.args.dport c.args.vport (rows_of pool) cs)
    (c.of-candidates.ensures ∙ ap (λ (n : ServiceName). list_at c.self.inside.lists n) c.of.ensures ∙ c.self.invariant.served c.args.service.now)
    ∙ first_is c.args.service.now c.args.daddr c.args.dport c.args.vport (rows_of pool) (pool_apart pool c.self.invariant.whole)
    ∙ ap (λ (s : DestsSeen). serving c.args.service.now c.args.daddr c.args.dport c.args.vport s.rows) c.self.view_is
