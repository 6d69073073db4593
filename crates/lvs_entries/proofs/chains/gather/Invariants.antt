use Rattle.std.proofs.Common.{◌≡◌, ◌++◌, drop}
use Rattle.lvs_entries.specs.Store.{all_of}
use Rattle.lvs_entries.proofs.chains.gather.Given as goal

abbrev pub invariant-loop-chain : goal.invariant-loop-chain
invariant-loop-chain l = l.all.items ++ all_of (drop l.chain-index l.chains) ≡ all_of l.chains
