use Rattle.std.proofs.Common.{◌∙◌, ap, sym, List, Some}
use Rattle.lvs_types.specs.declared.dest.DestRow.{DestRow}
use Rattle.lvs_dests.specs.Rows.{has_row_id, replaced}
use Rattle.lvs_dests.proofs.Standing.{edited_one}
use Rattle.lvs_dests.proofs.Tied.{seen_of}
use Rattle.lvs_dests.proofs.dests.Dests.edit.Goals as goal

pub returns-clause-ok : goal.returns-clause-ok
returns-clause-ok c =
    let seen = c.args.self.now in
    c.revise.ensures.rows
    ∙ ap (λ (r : DestRow). seen_of (replaced (has_row_id r.dest.id) (Some r) seen.rows) seen.next) c.respecify.ensures
    ∙ ap (λ (rs : List DestRow). seen_of rs seen.next) (sym (edited_one c.args.service.now c.args.spec.now seen.rows c.live_at.ensures.apart c.in-Some.row c.in-Some.ensures.there))
