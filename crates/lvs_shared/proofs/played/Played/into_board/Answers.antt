use Rattle.std.proofs.Common.{subst}
use Rattle.lvs_shared.specs.Openings.{begun}
use Rattle.lvs_shared.specs.Played.{PlayedSeen, seen_of, IsLeft}
use Rattle.lvs_shared.proofs.Histories.{acts_noted}
use Rattle.lvs_shared.proofs.played.Played.into_board.Goals as goal

pub returns : goal.returns
returns c =
    let is = c.self.invariant in
    let o = c.self.inside.origin.value in
    let left : IsLeft (seen_of o c.self.inside.board c.self.inside.changes.items) c.self.inside.board = record {
      opened = is.opened;
      kept = is.kept;
      stands = is.stands;
      steps = is.steps;
      book = acts_noted (begun o).buckets c.self.inside.board.book c.self.inside.changes.items is.each;
    } in
    subst (λ (p : PlayedSeen). IsLeft p c.self.inside.board) c.self.view_is left
