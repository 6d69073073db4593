-- How far the backup of a pair has come.
use Rattle.std.specs.Prelude.{◌≡◌, ℕ, List, [], ◌∷◌, ◌++◌, take}
use Rattle.lvs_types.specs.declared.item.Item.{Item}
use Rattle.lvs_types.specs.declared.pair.PairEnd.{PairEnd}
use Rattle.lvs_types.specs.declared.pair.PairEnd.TheVariants.{Finished, NoMemory}
use Rattle.lvs_model.specs.State.{State}
use Rattle.lvs_model.specs.Step.{step}
use Rattle.lvs_model.specs.WellFormed.{IsWellFormed}
use Rattle.lvs_core.specs.Laws.{TakesOver}
use Rattle.lvs_pair.specs.Pairing.{learnt_of, items_of}
use Rattle.lvs_pair.specs.declared.backup.Backup.{Backup}

-- the first of these items took over what it recorded, and left a well formed state
abbrev pub BeginsWell : State → List Item → Type 0
BeginsWell s [] = Unit {0}
BeginsWell s (first ∷ items) = TakesOver s first (step s first) × IsWellFormed (step s first).1

-- from this state it has learnt these items
pub record HasLearnt (s : State) (items : List Item) (b : Backup) : Type 0 where
  pub book : (b.learnt.items, b.core.state) ≡ learnt_of s items
  pub begun : BeginsWell s items

-- from this state it has learnt the first of these items
pub record HasLearntSome (s : State) (items : List Item) (b : Backup) : Type 0 where
  pub count : ℕ
  pub learnt : HasLearnt s (take count items) b

abbrev pub LearntBy : PairEnd → State → List Item → Backup → Type 0
LearntBy Finished s items b = HasLearnt s items b
LearntBy NoMemory s items b = HasLearntSome s items b

-- after all that the old one has learnt, the new one has learnt these items too
abbrev pub Learns : Backup → Backup → List Item → Type 0
Learns old new items = (s : State) (before : List Item) → HasLearnt s before old → HasLearnt s (before ++ items) new

-- or the first of them
abbrev pub LearnsSome : Backup → Backup → List Item → Type 0
LearnsSome old new items = (s : State) (before : List Item) → HasLearnt s before old → HasLearntSome s (before ++ items) new

-- after the messages that were taken before, it has learnt those that were taken since
abbrev pub KeepsUp : Backup → List (List ℕ) → Backup → List (List ℕ) → Type 0
KeepsUp old taken new later = (s : State) → HasLearnt s (items_of taken) old → HasLearnt s (items_of later) new

-- or some of their items
abbrev pub FallsBehind : Backup → List (List ℕ) → Backup → List (List ℕ) → Type 0
FallsBehind old taken new later = (s : State) → HasLearnt s (items_of taken) old → HasLearntSome s (items_of later) new

-- the pair finished only where both did, and nothing was left then
abbrev pub EndsAs : PairEnd → PairEnd → List (List ℕ) → PairEnd → Type 0
EndsAs led followed left Finished = (led ≡ Finished) × (followed ≡ Finished) × (left ≡ [])
EndsAs led followed left NoMemory = Unit {0}
