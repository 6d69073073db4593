use Rattle.std.proofs.Common.{◌≡◌, ◌∙◌, ap, List, length, filter_map, arith}
use Rattle.lvs_types.specs.declared.dest.Candidate.{Candidate}
use Rattle.lvs_model.specs.State.{State}
use Rattle.lvs_model.specs.Counts.{candidates}
use Rattle.lvs_dests.specs.Rows.{candidates_of}
use Rattle.lvs_board.specs.Candidates.{addr_in}
use Rattle.lvs_board.specs.Desks.{state_of}
use Rattle.lvs_board.proofs.Controls.{candidates_same, candidates_fewer}
use Rattle.lvs_board.proofs.Listed.{addrs_same}
use Rattle.lvs_board.proofs.desk.Desk.list_addrs.Goals as goal

pub push_addrs-requires-clause-room : goal.push_addrs-requires-clause-room
push_addrs-requires-clause-room g c =
    omega (arith, ap (λ (cs : List Candidate). length cs) c.candidates.ensures.candidates, candidates_fewer c.args.key c.args.self.now.dests.rows, c.requires.room)

pub returns : goal.returns
returns g c =
    let s : State = state_of g.W.Whole.whole c.args.self.now in
    let listed : c.candidates.result.now ≡ candidates c.args.key s.dests s.entries = c.candidates.ensures.candidates ∙ ap (candidates_of c.args.key) c.requires.sound.totals.servers ∙ candidates_same s.entries s.templates c.args.key s.dests in
    c.push_addrs.ensures ∙ ap (filter_map (addr_in s.dests)) listed ∙ addrs_same s.entries c.args.key s.dests c.requires.sound.few.dests_apart
