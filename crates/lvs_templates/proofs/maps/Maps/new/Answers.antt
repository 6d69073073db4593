use Rattle.std.proofs.Common.{arith}
use Rattle.lvs_templates.proofs.Entered.{store_none}
use Rattle.lvs_templates.proofs.maps.Maps.new.Goals as goal

pub returns-clause-whole : goal.returns-clause-whole
returns-clause-whole c = record {
  unique = c.new.ensures.unique;
  store = store_none c.new.result.entries c.new-2.result.entries c.new.ensures.empty c.new-2.ensures.empty;
  room = record { rows = omega arith; ids = omega arith };
}
