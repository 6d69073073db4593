use Rattle.std.proofs.Common.{◌≡◌, ◌∙◌, ap, refl, Some, None}
use Rattle.std.proofs.lemmas.Option.{none-some}
use Rattle.lvs_dests.specs.declared.place.ServiceName.{ServiceName}
use Rattle.lvs_dests.specs.Rows.{DestsSeen, row_at, replaced}
use Rattle.lvs_dests.specs.Lists.{has_candidate_id, list_at, list_put}
use Rattle.lvs_dests.specs.Pool.{rows_of}
use Rattle.lvs_dests.proofs.Tied.{tied_leave}
use Rattle.lvs_dests.proofs.dests.Dests.release.Goals as goal

pub invariant_of-self : goal.invariant_of-self
invariant_of-self c =
    let row = c.args.row.now in
    let lists = c.self.inside.lists in
    let found : row_at row.dest.id (rows_of c.self.inside.pool) ≡ Some row = ap (λ (s : DestsSeen). row_at row.dest.id s.rows) c.self.view_is ∙ c.requires.there in
    tied_leave c.self.inside.pool lists c.self.inside.next c.self.invariant row found c.requires.live None (λ key. refl) (λ y at. absurd (none-some y at)) c.take.new.self c.leave.new.self c.take.ensures.whole c.take.ensures.rows
    (λ n. c.leave.ensures n ∙ ap (λ (m : ServiceName). list_put (list_at lists) m (replaced (has_candidate_id row.dest.id) None (list_at lists m)) n) c.of-name.ensures)
