-- Lists ask nothing of what was found.
use Rattle.lvs_types.specs.declared.bucket.Found.{Found}
use Rattle.lvs_types.specs.declared.bucket.Found.TheVariants as found
use Rattle.lvs_rules.specs.Finds.{IsGiven}

pub all_given : (f : Found) → IsGiven (λ _. Unit {0}) (Unit {0}) f
all_given found.Nothing = tt
all_given (found.One e) = tt
all_given (found.Due due) = tt
