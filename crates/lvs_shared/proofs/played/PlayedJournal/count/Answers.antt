use Rattle.std.proofs.Common.{◌≡◌, ◌∙◌, sym, ap, length, rules}
use Rattle.lvs_shared.specs.Openings.{begun}
use Rattle.lvs_shared.specs.Played.{PlayedSeen}
use Rattle.lvs_shared.proofs.Histories.{acts_length}
use Rattle.lvs_shared.proofs.played.PlayedJournal.count.Goals as goal

pub returns : goal.returns
returns c =
    let e : length c.self.inside.changes.items ≡ length c.args.self.now.acts = c.self.invariant.each ∙ sym (acts_length (begun c.self.inside.origin.value).buckets c.self.inside.board.book c.self.inside.changes.items c.self.invariant.each) ∙ ap (λ (p : PlayedSeen). length p.acts) c.self.view_is in
    search (rules, e)
