use Rattle.lvs_types.proofs.LedBack.{proto_of_code-proto_code}
use Rattle.lvs_types.proofs.worked_examples.protocols.Goals as goal

pub returns-clause-back : goal.returns-clause-back
returns-clause-back c = proto_of_code-proto_code
