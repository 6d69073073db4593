use Rattle.std.proofs.Common.{◌∙◌, ap}
use Rattle.lvs_types.specs.declared.dest.DestRow.{DestRow}
use Rattle.lvs_types.specs.declared.dest.Candidate.{Candidate}
use Rattle.lvs_dests.specs.Rows.{row_at, changed, candidate_of_row}
use Rattle.lvs_dests.specs.Lists.{has_candidate_id}
use Rattle.lvs_dests.specs.Dests.{IsRevision}
use Rattle.lvs_dests.proofs.Whole.{some_and}
use Rattle.lvs_dests.proofs.Ahead.{candidates_changed}
use Rattle.lvs_dests.proofs.dests.Dests.candidates_with.Goals as goal

pub returns : goal.returns
returns c = λ f old found is.
    let row = c.args.row.now in
    c.with_candidate.ensures
    ∙ ap (λ (v : Candidate). changed (has_candidate_id v.id) (λ _. v) c.in_ok-candidates.candidates.items) c.candidate.ensures
    ∙ ap (changed (has_candidate_id row.dest.id) (λ _. candidate_of_row row)) c.in_ok-candidates.ensures
    ∙ candidates_changed c.args.service.now row.dest.id f old row is (some_and (λ (x : DestRow). IsRevision x row) (row_at row.dest.id c.args.self.now.rows) old c.requires.there found) c.args.self.now.rows c.requires.apart found
