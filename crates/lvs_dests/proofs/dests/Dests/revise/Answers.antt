use Rattle.std.proofs.Common.{◌≡◌, ◌∙◌, ap, Some}
use Rattle.lvs_types.specs.declared.dest.DestRow.{DestRow}
use Rattle.lvs_dests.specs.Rows.{DestsSeen, row_at}
use Rattle.lvs_dests.specs.Pool.{rows_of}
use Rattle.lvs_dests.specs.Dests.{IsRevision}
use Rattle.lvs_dests.proofs.Whole.{pool_apart}
use Rattle.lvs_dests.proofs.Tied.{some_get, tied_revise, revise_changed}
use Rattle.lvs_dests.proofs.dests.Dests.revise.Goals as goal

pub invariant_of-self : goal.invariant_of-self
invariant_of-self c =
    let row = c.args.row in
    let old = some_get (λ (old : DestRow). IsRevision old row) (row_at row.dest.id c.args.self.now.rows) c.requires in
    let found : row_at row.dest.id (rows_of c.self.inside.pool) ≡ Some old.0 = ap (λ (s : DestsSeen). row_at row.dest.id s.rows) c.self.view_is ∙ old.1 in
    tied_revise c.self.inside.pool c.self.inside.lists c.self.inside.next c.self.invariant row old.0 found old.2 c.write.new.self c.show.new.self c.write.ensures.whole c.write.ensures.rows c.show.ensures

pub returns-clause-changed : goal.returns-clause-changed
returns-clause-changed c =
    revise_changed c.self.inside.pool c.write.new.self c.self.inside.next c.args.self.now c.args.row c.self.view_is (pool_apart c.self.inside.pool c.self.invariant.whole) c.write.ensures.rows
