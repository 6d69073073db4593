use Rattle.std.proofs.Common.{◌≡◌, ◌∙◌, ◌++◌, ap, subst, List}
use Rattle.std.specs.Result.{OnOk}
use Rattle.std.specs.List.{filter}
use Rattle.lvs_types.specs.declared.dest.DestRow.{DestRow}
use Rattle.lvs_dests.specs.declared.place.ServiceName.{ServiceName}
use Rattle.lvs_dests.specs.Rows.{DestsSeen, is_row_of}
use Rattle.lvs_dests.specs.Lists.{list_at}
use Rattle.lvs_dests.specs.Pool.{rows_of}
use Rattle.lvs_dests.specs.Serving.{rows_at}
use Rattle.lvs_dests.proofs.Whole.{pool_apart}
use Rattle.lvs_dests.proofs.Serves.{served_at}
use Rattle.lvs_dests.proofs.dests.Dests.push_live.Goals as goal

pub returns : goal.returns
returns c =
    let rows = rows_of c.self.inside.pool in
    let own : rows_at rows c.of-candidates.result.now ≡ filter (is_row_of c.args.service.now) c.args.self.now.rows =
    ap (rows_at rows) (c.of-candidates.ensures ∙ ap (λ (n : ServiceName). list_at c.self.inside.lists n) c.of.ensures ∙ c.self.invariant.served c.args.service.now)
    ∙ served_at c.args.service.now rows (pool_apart c.self.inside.pool c.self.invariant.whole)
    ∙ ap (λ (seen : DestsSeen). filter (is_row_of c.args.service.now) seen.rows) c.self.view_is in
    subst (λ (found : List DestRow). OnOk c.append_each.result (c.append_each.new.rows.items ≡ c.args.rows.now.items ++ found)) own c.append_each.ensures
