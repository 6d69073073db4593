use Rattle.lvs_services.proofs.Apart.{none_apart}
use Rattle.lvs_services.proofs.services.Services.new.Goals as goal

pub invariant_of-result : goal.invariant_of-result
invariant_of-result c = none_apart c.new.result.items c.new.ensures.items
