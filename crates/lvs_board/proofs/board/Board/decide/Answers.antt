use Rattle.std.proofs.Common.{◌<◌, ◌^◌, sym, ap, subst}
use Rattle.lvs_types.specs.declared.reply.Reply.{Reply}
use Rattle.lvs_model.specs.State.{State}
use Rattle.lvs_model.specs.Counted.{IsCounted}
use Rattle.lvs_rules.specs.Finds.{entry_in}
use Rattle.lvs_board.specs.declared.desk.Desk.{Desk}
use Rattle.lvs_board.specs.Seen.{BoardSeen}
use Rattle.lvs_board.specs.Stands.{StandsFor}
use Rattle.lvs_board.specs.Homes.{id_of, sweep_of}
use Rattle.lvs_board.specs.AtItems.{IsBegun}
use Rattle.lvs_board.proofs.Decisions.{begins, carries_decided}
use Rattle.lvs_board.proofs.board.Board.decide.Goals as goal

pub decide_item-requires : goal.decide_item-requires
decide_item-requires g c =
    let whole = g.W.Whole.whole in
    let f = c.args.found in
    let stands = subst (λ (b : BoardSeen). StandsFor b whole) (sym c.self.view_is) c.requires.stands in
    let counted = subst (λ (b : BoardSeen). IsCounted b.steps whole) (sym c.self.view_is) c.requires.counted in
    let young = subst (λ (b : BoardSeen). b.steps < 2 ^ 62) (sym c.self.view_is) c.requires.young in
    record {
      begun = subst (λ (d : Desk). IsBegun whole c.args.item f (id_of (entry_in f)) (sweep_of c.args.item) d) (sym c.begin.ensures)
          (begins whole c.self.inside.desk c.args.item f c.self.inside.book.items c.self.inside.steps stands c.requires.well_formed counted young c.requires.found);
    }

pub returns-in-Ok-clause-change : goal.returns-in-Ok-clause-change
returns-in-Ok-clause-change g c =
    carries_decided g.W.Whole.whole c.decide_item.new.desk c.args.item c.args.found c.requires.well_formed c.requires.counted.numbers.buckets c.requires.found c.decide_item.ensures.at
    (ap (λ (p : Reply × State). p.1) c.in-Ok.ensures.ok)
