use Rattle.std.proofs.Common.{◌≡◌, ℕ, ◌^◌, ◌%◌, []}
use Rattle.lvs_book.specs.Steps.{in_phase}
use Rattle.lvs_book.specs.declared.view.Phase.TheVariants.{Waiting}
use Rattle.lvs_book.proofs.turnstile.Turnstile.take_turn.Given as goal

abbrev pub invariant-loop : goal.invariant-loop
invariant-loop g l = (l.seat.table_id ≡ l.fn.seat.table_id) × ((t : ℕ) × (l.ticket ≡ t % 2 ^ 64) × (l.seat.me ≡ (in_phase l.fn.seat.me.0 (Waiting t), [])))
