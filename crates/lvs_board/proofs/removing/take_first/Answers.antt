use Rattle.std.proofs.Common.{◌∙◌, List, ap, sym, length, slice_get, arith}
use Rattle.lvs_types.specs.declared.dest.Candidate.{Candidate}
use Rattle.lvs_dests.specs.Rows.{DestsSeen, candidates_of}
use Rattle.lvs_board.specs.Removals.{left_in}
use Rattle.lvs_board.proofs.Left.{first_taken, first_there}
use Rattle.lvs_board.proofs.removing.take_first.Goals as goal

pub returns-in_default-server_of-clause-fewer : goal.returns-in_default-server_of-clause-fewer
returns-in_default-server_of-clause-fewer c =
    absurd (let wrong = first_there c.args.key.now c.args.dests.now c.in-Some.candidate c.server_of.result c.candidates.ensures.well_formed.ids (ap (λ (cs : List Candidate). slice_get cs 0) (sym c.candidates.ensures.candidates) ∙ sym c.nth.ensures ∙ c.in-Some.is) c.server_of.ensures.server c.in_default-server_of.is in cc)

pub returns-clause-same : goal.returns-clause-same
returns-clause-same c =
    ap (λ (seen : DestsSeen). left_in c.args.key.now seen.rows) c.remove.ensures.rows
    ∙ (first_taken c.args.key.now c.args.dests.now c.in-Some.candidate c.in-Some-server_of.d c.server_of.result c.candidates.ensures.well_formed.ids
    (ap (λ (cs : List Candidate). slice_get cs 0) (sym c.candidates.ensures.candidates) ∙ sym c.nth.ensures ∙ c.in-Some.is) c.server_of.ensures.server c.in-Some-server_of.is).same

pub returns-clause-fewer : goal.returns-clause-fewer
returns-clause-fewer c =
    let takes = first_taken c.args.key.now c.args.dests.now c.in-Some.candidate c.in-Some-server_of.d c.server_of.result c.candidates.ensures.well_formed.ids
    (ap (λ (cs : List Candidate). slice_get cs 0) (sym c.candidates.ensures.candidates) ∙ sym c.nth.ensures ∙ c.in-Some.is) c.server_of.ensures.server c.in-Some-server_of.is in
    omega (arith, takes.fewer, ap (λ (seen : DestsSeen). length (candidates_of c.args.key.now seen.rows)) c.remove.ensures.rows)
