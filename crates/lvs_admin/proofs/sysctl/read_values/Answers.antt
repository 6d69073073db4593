use Rattle.std.proofs.Common.{string_bytes, arith, Global}
use Rattle.lvs_admin.proofs.ManyValues.{too_many}
use Rattle.lvs_admin.proofs.sysctl.read_values.Goals as goal

pub returns-in_default-2 : goal.returns-in_default-2
returns-in_default-2 c = too_many (string_bytes {Z = Global}) c.args.sysctl c.args.values.now (omega arith)
