use Rattle.std.proofs.Common.{rules, ap, ◌∙◌, sym}
use Rattle.lvs_book.proofs.Turns.{draws, looks}
use Rattle.lvs_book.proofs.Working.{got, still}
use Rattle.lvs_book.specs.declared.view.Phase.TheVariants.{Waiting}
use Rattle.lvs_book.specs.Steps.{in_phase}
use Rattle.lvs_book.proofs.turnstile.Turnstile.take_turn.Goals as goal

pub fetch_add-ticket-requires : goal.fetch_add-ticket-requires
fetch_add-ticket-requires g c = (search rules, search rules, draws _ _ _ _ _ _ _ _ (ap (λ m. m.0.phase) c.requires.out.0) c.requires.out.1)

pub loop-init : goal.loop-init
loop-init g c = let d = c.fetch_add-ticket.ensures.2 in (c.fetch_add-ticket.ensures.0, (d.0, d.1, d.2 ∙ ap (λ m. (in_phase c.args.seat.now.me.0 (Waiting d.0), m.1)) c.requires.out.0))

pub load-requires : goal.load-requires
load-requires g c = let i = c.loop.invariant.1 in (search rules, search rules, looks _ _ _ _ _ _ _ _ i.0 (ap (λ m. m.0.phase) i.2) (ap (λ m. m.1) i.2))

pub returns-then-load-ticket-clause-turn : goal.returns-then-load-ticket-clause-turn
returns-then-load-ticket-clause-turn g c = let i = c.loop.invariant.1 in (i.0, got _ _ _ c.args.seat.now.me i.0 _ _ i.2 _ (c.if-load-ticket.true ∙ i.1) c.load.ensures.2)

pub loop-preserved : goal.loop-preserved
loop-preserved g c = let i = c.loop.invariant.1 in (c.load.ensures.0 ∙ c.loop.invariant.0, (i.0, i.1, still _ _ _ c.args.seat.now.me i.0 _ _ i.2 _ (λ e. c.if-load-ticket.false (e ∙ sym i.1)) c.load.ensures.2))
