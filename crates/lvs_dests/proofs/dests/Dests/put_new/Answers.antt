use Rattle.std.proofs.Common.{◌≡◌, ◌∙◌, ◌∷◌, [], ◌++◌, ap, sym}
use Rattle.lvs_types.specs.declared.dest.DestRow.{DestRow}
use Rattle.lvs_types.specs.declared.dest.Candidate.{Candidate}
use Rattle.lvs_dests.specs.declared.place.ServiceName.{ServiceName}
use Rattle.lvs_dests.specs.Rows.{row_at}
use Rattle.lvs_dests.specs.Places.{name_of}
use Rattle.lvs_dests.specs.Lists.{list_at, list_put}
use Rattle.lvs_dests.specs.Pool.{rows_of}
use Rattle.lvs_dests.proofs.Narrow.{unused}
use Rattle.lvs_dests.proofs.Tied.{tied_enter}
use Rattle.lvs_dests.proofs.dests.Dests.put_new.Goals as goal

pub insert-requires-clause-new_id : goal.insert-requires-clause-new_id
insert-requires-clause-new_id c =
    ap (λ (r : DestRow). row_at r.dest.id (rows_of c.self.inside.pool)) c.make-row.ensures ∙ unused c.self.inside.next (rows_of c.self.inside.pool) c.self.invariant.below

pub invariant_of-self-2 : goal.invariant_of-self-2
invariant_of-self-2 c =
    let y = c.make-row.result in
    let roomy = c.reserve.new.self in
    let name : c.of-name.result ≡ name_of y.dest.service = c.of-name.ensures ∙ ap (λ (r : DestRow). name_of r.dest.service) (sym c.make-row.ensures) in
    tied_enter c.self.inside.pool c.self.inside.lists c.self.inside.next c.self.invariant y (ap (λ (r : DestRow). r.dest.id.0) c.make-row.ensures) (ap (λ (r : DestRow). r.dest.live) c.make-row.ensures)
    c.insert.new.self roomy c.push.new.self c.insert.ensures.whole c.in_ok-insert.ensures.rows c.reserve.ensures.lists
    (λ n. c.push.ensures n
    ∙ ap (λ (m : ServiceName). list_put (list_at roomy) m (list_at roomy m ++ c.candidate.result ∷ []) n) name
    ∙ ap (λ (x : Candidate). list_put (list_at roomy) (name_of y.dest.service) (list_at roomy (name_of y.dest.service) ++ x ∷ []) n) c.candidate.ensures)
