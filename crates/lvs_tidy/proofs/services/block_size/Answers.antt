use Rattle.std.proofs.Common.{◌^◌, ◌≤◌, lit<, arith}
use Rattle.std.proofs.Math.Nat.{one-le-pow}
use Rattle.std.proofs.Math.Pow.{pow_mono}
use Rattle.lvs_tidy.proofs.services.block_size.Goals as goal

pub returns-clause-least : goal.returns-clause-least
returns-clause-least c =
    let low : 1 ≤ 2 ^ c.saturating_sub.result = one-le-pow c.saturating_sub.result 2 (lit< tt) in
    let high : 2 ^ c.saturating_sub.result ≤ 2 ^ 32 = pow_mono {i = c.saturating_sub.result} {j = 32} (omega arith) in
    omega arith

pub returns-clause-greatest : goal.returns-clause-greatest
returns-clause-greatest c =
    let high : 2 ^ c.saturating_sub.result ≤ 2 ^ 32 = pow_mono {i = c.saturating_sub.result} {j = 32} (omega arith) in
    omega arith
