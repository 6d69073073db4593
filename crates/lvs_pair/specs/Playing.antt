-- What a pair has done when it ended.
use Rattle.std.specs.Prelude.{◌≡◌, ℕ, ◌≤◌, min, List, [], take, length}
use Rattle.lvs_types.specs.declared.pair.PairEnd.{PairEnd}
use Rattle.lvs_types.specs.declared.pair.PairEnd.TheVariants.{Finished, NoMemory}
use Rattle.lvs_model.specs.Pairs.{delivered}
use Rattle.lvs_pair.specs.Ends.{RelayIs, DrainedIs}
use Rattle.lvs_pair.specs.Pairing.{acted, learnt_of, items_of, sent_by, IsStartOf}
use Rattle.lvs_pair.specs.declared.pair.Pair.{Pair}

-- what arrives at the backup: the messages that the master sent, by the counts
abbrev pub arriving : Pair → Pair → List (List ℕ)
arriving before after = delivered (sent_by after.acts) before.counts

-- the master took all its steps; the backup learnt all that arrives; what was posted is the first of it, as much as the relay has room for or more; and nothing is left there
pub record HasFinished (before : Pair) (r : RelayIs) (after : Pair) (rest : DrainedIs) : Type 0 where
  pub acts : (after.acts, after.master.state) ≡ acted before.master.state before.steps
  pub learnt : (after.learnt, after.backup.state) ≡ learnt_of before.backup.state (items_of (arriving before after))
  pub posted : IsStartOf rest.posted (arriving before after)
  pub many : min r.capacity (length (arriving before after)) ≤ length rest.posted
  pub left : rest.left ≡ []

-- the master took the first of its steps, and the backup learnt the first of what arrives
pub record HasBrokenOff (before after : Pair) (rest : DrainedIs) : Type 0 where
  pub steps : ℕ
  pub acts : (after.acts, after.master.state) ≡ acted before.master.state (take steps before.steps)
  pub items : ℕ
  pub learnt : (after.learnt, after.backup.state) ≡ learnt_of before.backup.state (take items (items_of (arriving before after)))
  pub posted : IsStartOf rest.posted (arriving before after)

-- by how it ended
abbrev pub HasPlayed : Pair → RelayIs → Pair → DrainedIs → PairEnd → Type 0
HasPlayed before r after rest Finished = HasFinished before r after rest
HasPlayed before r after rest NoMemory = HasBrokenOff before after rest
