use Rattle.std.proofs.Common.{rules}
use Rattle.lvs_book.proofs.Turns.{raises}
use Rattle.lvs_book.proofs.turnstile.Turnstile.leave.Goals as goal

pub fetch_add-requires : goal.fetch_add-requires
fetch_add-requires g c = (search rules, search rules, raises _ _ _ _ _ _ _ _ c.requires.held)
