-- How far the master of a pair has come.
use Rattle.std.specs.Prelude.{◌≡◌, ℕ, ◌+◌, ◌≤◌, ◌<◌, ◌^◌, List, [], ◌∷◌, ◌++◌, All, drop, take, length}
use Rattle.lvs_types.specs.declared.pair.MasterStep.{MasterStep}
use Rattle.lvs_types.specs.declared.pair.PairEnd.{PairEnd}
use Rattle.lvs_types.specs.declared.pair.PairEnd.TheVariants.{Finished, NoMemory}
use Rattle.lvs_model.specs.Pairs.{delivered}
use Rattle.lvs_model.specs.State.{State}
use Rattle.lvs_pair.specs.Ends.{RelayIs}
use Rattle.lvs_pair.specs.Pairing.{acted, sent_by, counts_after, IsStartOf, IsStepInRange}
use Rattle.lvs_pair.specs.declared.outbox.Outbox.{Outbox}
use Rattle.lvs_pair.specs.declared.master.Master.{Master}

-- all that was handed in: what was posted, and then what waits
abbrev pub handed : Outbox → List (List ℕ)
handed out = out.sender.posted ++ out.waiting.items

-- the counts of the messages to come
abbrev pub coming : Outbox → List ℕ
coming out = drop out.at out.counts

-- messages wait only where as many were posted as the relay has room for
abbrev pub WaitsForRoom : ℕ → List (List ℕ) → List (List ℕ) → Type 0
WaitsForRoom capacity posted waiting = 0 < length waiting → capacity ≤ length posted

-- the outbox is of this relay, and has a count for the next message
pub record IsOutboxOf (r : RelayIs) (out : Outbox) : Type 0 where
  pub relay : out.sender.relay ≡ r.id
  pub counted : out.at < length out.counts
  pub room : WaitsForRoom r.capacity out.sender.posted out.waiting.items

-- from this state the master has taken these steps, and all its messages were handed in
pub record HasActed (s : State) (counts : List ℕ) (steps : List MasterStep) (m : Master) : Type 0 where
  pub acts : (m.acts.items, m.core.state) ≡ acted s steps
  pub handed : handed m.outbox ≡ delivered (sent_by m.acts.items) counts
  pub coming : coming m.outbox ≡ counts_after (sent_by m.acts.items) counts

-- it has taken the first of these steps, and some of its messages were handed in
pub record HasStopped (s : State) (counts : List ℕ) (steps : List MasterStep) (m : Master) : Type 0 where
  pub count : ℕ
  pub acts : (m.acts.items, m.core.state) ≡ acted s (take count steps)
  pub handed : IsStartOf (handed m.outbox) (delivered (sent_by m.acts.items) counts)

-- after all that the old one has done, the new one has taken this step
abbrev pub Takes : Master → Master → MasterStep → Type 0
Takes old new step = (s : State) (counts : List ℕ) (before : List MasterStep) → HasActed s counts before old → HasActed s counts (before ++ step ∷ []) new

-- or stopped at it
abbrev pub Stops : Master → Master → MasterStep → Type 0
Stops old new step = (s : State) (counts : List ℕ) (before : List MasterStep) → HasActed s counts before old → HasStopped s counts (before ++ step ∷ []) new

-- by how it ended
abbrev pub HasEnded : State → List ℕ → List MasterStep → RelayIs → Master → PairEnd → Type 0
HasEnded s counts steps r m Finished = HasActed s counts steps m × IsOutboxOf r m.outbox
HasEnded s counts steps r m NoMemory = HasStopped s counts steps m × (m.outbox.sender.relay ≡ r.id)

-- so it ended, under one name, as threads hand it on
pub record HasLed (s : State) (counts : List ℕ) (steps : List MasterStep) (r : RelayIs) (m : Master) (end : PairEnd) : Type 0 where
  pub ended : HasEnded s counts steps r m end

-- it has done nothing, and may take these steps
pub record IsReady (r : RelayIs) (steps : List MasterStep) (m : Master) : Type 0 where
  pub outbox : IsOutboxOf r m.outbox
  pub acts : m.acts.items ≡ []
  pub handed : handed m.outbox ≡ []
  pub in_range : All IsStepInRange steps
  pub young : m.core.steps + length steps < 2 ^ 62
