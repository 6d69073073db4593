use Rattle.std.proofs.Common.{◌≡◌, ◌∙◌, ap, sym, List, slice_get}
use Rattle.lvs_types.specs.declared.dest.Candidate.{Candidate}
use Rattle.lvs_model.specs.State.{State}
use Rattle.lvs_model.specs.Counts.{candidates}
use Rattle.lvs_dests.specs.Rows.{candidates_of}
use Rattle.lvs_board.specs.Desks.{state_of}
use Rattle.lvs_board.proofs.Controls.{candidates_same}
use Rattle.lvs_board.proofs.Listed.{nth_none, nth_some}
use Rattle.lvs_board.proofs.desk.Desk.nth_server.Goals as goal

pub returns-in_default-clause-server : goal.returns-in_default-clause-server
returns-in_default-clause-server g c =
    let s : State = state_of g.W.Whole.whole c.args.self.now in
    let listed : c.candidates.result.now ≡ candidates c.args.key s.dests s.entries = c.candidates.ensures.candidates ∙ ap (candidates_of c.args.key) c.requires.sound.totals.servers ∙ candidates_same s.entries s.templates c.args.key s.dests in
    sym (nth_none s.entries c.args.key s.dests c.args.place (ap (λ (cs : List Candidate). slice_get cs c.args.place) (sym listed) ∙ sym c.nth.ensures ∙ c.in_default.is))

pub returns-clause-server : goal.returns-clause-server
returns-clause-server g c =
    let s : State = state_of g.W.Whole.whole c.args.self.now in
    let listed : c.candidates.result.now ≡ candidates c.args.key s.dests s.entries = c.candidates.ensures.candidates ∙ ap (candidates_of c.args.key) c.requires.sound.totals.servers ∙ candidates_same s.entries s.templates c.args.key s.dests in
    c.server_of.ensures.server
    ∙ nth_some s.entries c.args.key s.dests c.args.place c.in-Some.candidate c.requires.sound.few.dests_apart (ap (λ (cs : List Candidate). slice_get cs c.args.place) (sym listed) ∙ sym c.nth.ensures ∙ c.in-Some.is)
