use Rattle.std.proofs.Common.{sym, subst}
use Rattle.lvs_rules.specs.Bounds.{IsNextUnnamed}
use Rattle.lvs_board.proofs.deciding.decide_item.Goals as goal

pub take_item-requires-clause-unnamed : goal.take_item-requires-clause-unnamed
take_item-requires-clause-unnamed g c = subst IsNextUnnamed (sym c.requires.begun.stands) c.requires.begun.unnamed
