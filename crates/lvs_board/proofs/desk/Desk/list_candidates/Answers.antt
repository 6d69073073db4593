use Rattle.std.proofs.Common.{◌≡◌, ◌∙◌, ap, List, Option, Some, None, length, map, arith}
use Rattle.std.specs.Option.{IfSome}
use Rattle.std.specs.List.{find}
use Rattle.lvs_types.specs.declared.dest.Candidate.{Candidate}
use Rattle.lvs_types.specs.declared.entry.Entry.{Entry}
use Rattle.lvs_model.specs.State.{State}
use Rattle.lvs_model.specs.Counts.{candidates}
use Rattle.lvs_model.specs.Lookups.{has_entry_id}
use Rattle.lvs_dests.specs.Rows.{candidates_of}
use Rattle.lvs_board.specs.Candidates.{candidate_in}
use Rattle.lvs_board.specs.declared.desk.Desk.{Desk}
use Rattle.lvs_board.specs.Desks.{state_of, Holds}
use Rattle.lvs_board.proofs.Controls.{candidates_same, candidates_fewer}
use Rattle.lvs_board.proofs.Listed.{seen_same}
use Rattle.lvs_board.proofs.desk.Desk.list_candidates.Goals as goal

found_there : (whole : State) (d : Desk) (o : Option Entry) → IfSome o (Holds whole d) → IfSome o (λ (e : Entry). find (has_entry_id e.id) (state_of whole d).entries ≡ Some e)
found_there whole d None holds = tt
found_there whole d (Some e) holds = holds.found

pub push_seen-requires-clause-room : goal.push_seen-requires-clause-room
push_seen-requires-clause-room g c =
    omega (arith, ap (λ (cs : List Candidate). length cs) c.candidates.ensures.candidates, candidates_fewer c.args.key c.args.self.now.dests.rows, c.requires.room)

pub returns : goal.returns
returns g c =
    let s : State = state_of g.W.Whole.whole c.args.self.now in
    let listed : c.candidates.result.now ≡ candidates c.args.key s.dests s.entries = c.candidates.ensures.candidates ∙ ap (candidates_of c.args.key) c.requires.sound.totals.servers ∙ candidates_same s.entries s.templates c.args.key s.dests in
    c.push_seen.ensures ∙ ap (map (candidate_in c.args.view.now)) listed
    ∙ seen_same s.entries c.args.view.now c.args.key s.dests c.requires.sound.few.entries_apart (found_there g.W.Whole.whole c.args.self.now c.args.view.now.ended c.requires.holds)
