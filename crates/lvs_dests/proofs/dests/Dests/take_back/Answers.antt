use Rattle.std.proofs.Common.{◌≡◌, ◌∙◌, ◌∷◌, [], ◌++◌, ap, sym, true, List, Some, None}
use Rattle.lvs_types.specs.declared.addr.DestId.{DestId}
use Rattle.lvs_types.specs.declared.dest.DestRow.{DestRow}
use Rattle.lvs_types.specs.declared.dest.Candidate.{Candidate}
use Rattle.lvs_dests.specs.declared.place.ServiceName.{ServiceName}
use Rattle.lvs_dests.specs.Rows.{DestsSeen, has_row_id, row_at, replaced, revived_row, placed_by}
use Rattle.lvs_dests.specs.Places.{name_of}
use Rattle.lvs_dests.specs.Lists.{list_at, list_put}
use Rattle.lvs_dests.specs.Pool.{rows_of}
use Rattle.lvs_dests.proofs.Narrow.{replaced_none}
use Rattle.lvs_dests.proofs.Tied.{tied_return, seen_of}
use Rattle.lvs_dests.proofs.dests.Dests.take_back.Goals as goal

abbrev pair : DestId → DestsSeen → DestId × DestsSeen
pair id seen = (id, seen)

pub invariant_of-self-2 : goal.invariant_of-self-2
invariant_of-self-2 c =
    let row = c.args.row.now in
    let y = c.revive-revived.result in
    let roomy = c.reserve.new.self in
    let is : y ≡ revived_row c.args.spec.now row = c.revive-revived.ensures in
    let same_id : y.dest.id ≡ row.dest.id = ap (λ (r : DestRow). r.dest.id) is in
    let live : y.dest.live ≡ true = ap (λ (r : DestRow). r.dest.live) is in
    let name : c.of-name.result ≡ name_of y.dest.service = c.of-name.ensures ∙ ap (λ (r : DestRow). name_of r.dest.service) (sym is) in
    let found : row_at y.dest.id (rows_of c.self.inside.pool) ≡ Some row =
    ap (λ (i : DestId). row_at i (rows_of c.self.inside.pool)) same_id ∙ ap (λ (s : DestsSeen). row_at row.dest.id s.rows) c.self.view_is ∙ c.requires.there.found in
    tied_return c.self.inside.pool c.self.inside.lists c.self.inside.next c.self.invariant row y found c.requires.trashed live c.renew.new.self roomy c.push.new.self c.renew.ensures.whole c.in_ok-renew.ensures.rows c.reserve.ensures.lists
    (λ n. c.push.ensures n
    ∙ ap (λ (m : ServiceName). list_put (list_at roomy) m (list_at roomy m ++ c.candidate.result ∷ []) n) name
    ∙ ap (λ (x : Candidate). list_put (list_at roomy) (name_of y.dest.service) (list_at roomy (name_of y.dest.service) ++ x ∷ []) n) c.candidate.ensures)

pub returns-clause-ok : goal.returns-clause-ok
returns-clause-ok c =
    let row = c.args.row.now in
    let rows = rows_of c.self.inside.pool in
    let revived = revived_row c.args.spec.now row in
    let after = c.in_ok-renew.ensures.rows
    ∙ ap (λ (r : DestRow). replaced (has_row_id r.dest.id) None rows ++ r ∷ []) c.revive-revived.ensures
    ∙ ap (λ (rs : List DestRow). rs ++ revived ∷ []) (replaced_none (has_row_id row.dest.id) rows) in
    ap (λ (rs : List DestRow). pair row.dest.id (seen_of rs c.self.inside.next)) after
    ∙ ap (λ (s : DestsSeen). placed_by row.dest.service c.args.spec.now s (Some row)) c.self.view_is
