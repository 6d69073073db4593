use Rattle.std.proofs.Common.{ap}
use Rattle.lvs_book.proofs.Opening.{ended}
use Rattle.lvs_book.proofs.turnstile.Turnstile.end.Goals as goal

pub returns-clause-origin : goal.returns-clause-origin
returns-clause-origin g c = (ended _ _ _ _ _ _ _ _ _ _ c.close_with-closed.ensures.values.2 (ap (λ m. m.0.phase) c.requires.out) c.requires.all c.take-value.ensures.value).0

pub returns-clause-lanes : goal.returns-clause-lanes
returns-clause-lanes g c = let e = ended _ _ _ _ _ _ _ _ _ _ c.close_with-closed.ensures.values.2 (ap (λ m. m.0.phase) c.requires.out) c.requires.all c.take-value.ensures.value in (e.1, e.2)

pub returns-clause-within : goal.returns-clause-within
returns-clause-within g c = (ended _ _ _ _ _ _ _ _ _ _ c.close_with-closed.ensures.values.2 (ap (λ m. m.0.phase) c.requires.out) c.requires.all c.take-value.ensures.value).3
