use Rattle.std.proofs.Common.{ℕ, List, Bor, arith}
use Rattle.lvs_admin.proofs.ManyValues.{too_many}
use Rattle.lvs_admin.proofs.sysctl.read_value_slices.Goals as goal

pub returns-in_default-2 : goal.returns-in_default-2
returns-in_default-2 c = too_many (λ (value : Bor (List ℕ)). value.now) c.args.sysctl c.args.values.now (omega arith)
