use Rattle.std.proofs.Common.{◌≡◌, ◌∙◌, ap, sym, refl, Some, None}
use Rattle.std.proofs.lemmas.Option.{same_Some}
use Rattle.lvs_types.specs.declared.dest.DestRow.{DestRow}
use Rattle.lvs_dests.specs.declared.place.ServiceName.{ServiceName}
use Rattle.lvs_dests.specs.Rows.{DestsSeen, has_row_id, row_at, replaced, out_of_service}
use Rattle.lvs_dests.specs.Lists.{has_candidate_id, list_at, list_put}
use Rattle.lvs_dests.specs.Pool.{rows_of}
use Rattle.lvs_dests.proofs.Tied.{tied_leave}
use Rattle.lvs_dests.proofs.dests.Dests.retire.Goals as goal

pub invariant_of-self : goal.invariant_of-self
invariant_of-self c =
    let row = c.args.row.now in
    let lists = c.self.inside.lists in
    let rows = rows_of c.self.inside.pool in
    let found : row_at row.dest.id rows ≡ Some row = ap (λ (s : DestsSeen). row_at row.dest.id s.rows) c.self.view_is ∙ c.requires.there in
    tied_leave c.self.inside.pool lists c.self.inside.next c.self.invariant row found c.requires.live (Some (out_of_service row)) (λ key. refl) (λ y at. ap (λ (r : DestRow). r.dest.id) (sym (same_Some (out_of_service row) y at)))
    c.write.new.self c.leave.new.self c.write.ensures.whole (c.write.ensures.rows ∙ ap (λ (r : DestRow). replaced (has_row_id r.dest.id) (Some r) rows) c.trash.ensures)
    (λ n. c.leave.ensures n ∙ ap (λ (m : ServiceName). list_put (list_at lists) m (replaced (has_candidate_id row.dest.id) None (list_at lists m)) n) c.of-name.ensures)
