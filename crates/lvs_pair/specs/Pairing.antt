-- What a master does and sends, and what its backup learns.
use Rattle.std.specs.Prelude.{◌≡◌, ℕ, ◌≤◌, ◌<◌, List, [], ◌∷◌, ◌++◌, take, length, flat_map}
use Rattle.lvs_types.specs.declared.item.Item.{Item}
use Rattle.lvs_types.specs.declared.reply.Reply.{Reply}
use Rattle.lvs_types.specs.declared.pair.MasterAct.{MasterAct}
use Rattle.lvs_types.specs.declared.pair.MasterAct.TheVariants.{Replied, Looked}
use Rattle.lvs_types.specs.declared.pair.MasterStep.{MasterStep}
use Rattle.lvs_types.specs.declared.pair.MasterStep.TheVariants.{Do, Look}
use Rattle.lvs_model.specs.MessageReading.{read_sync}
use Rattle.lvs_model.specs.Pairs.{delivered, later_counts, messages_of_reply}
use Rattle.lvs_model.specs.Plans.{items_of_message}
use Rattle.lvs_model.specs.Snapshots.{snapshot_of}
use Rattle.lvs_model.specs.State.{State}
use Rattle.lvs_model.specs.Step.{step, IsInRange}

-- what a director does at a step, and what it then is
abbrev pub act_of : State → MasterStep → MasterAct × State
act_of s (Do item) = let now = step s item in (Replied now.0, now.1)
act_of s Look = (Looked (snapshot_of s), s)

-- what it does at steps, one after the other
abbrev pub acted : State → List MasterStep → List MasterAct × State
acted s [] = ([], s)
acted s (first ∷ steps) = let now = act_of s first in let later = acted now.1 steps in (now.0 ∷ later.0, later.1)

abbrev pub IsStepInRange : MasterStep → Type 0
IsStepInRange (Do item) = IsInRange item
IsStepInRange Look = Unit {0}

-- the messages that were sent, in order
abbrev pub messages_of_act : MasterAct → List (List ℕ)
messages_of_act (Replied reply) = messages_of_reply reply
messages_of_act (Looked shown) = []

abbrev pub sent_by : List MasterAct → List (List ℕ)
sent_by acts = flat_map messages_of_act acts

-- the counts that are left after messages
abbrev pub counts_after : List (List ℕ) → List ℕ → List ℕ
counts_after [] counts = counts
counts_after (message ∷ messages) counts = counts_after messages (later_counts counts)

-- the items that messages stand for, in order
abbrev pub items_in : List ℕ → List Item
items_in message = items_of_message (read_sync message)

abbrev pub items_of : List (List ℕ) → List Item
items_of messages = flat_map items_in messages

-- each item with its reply, and what the director is after them
abbrev pub learnt_of : State → List Item → List (Item × Reply) × State
learnt_of s [] = ([], s)
learnt_of s (first ∷ items) = let now = step s first in let later = learnt_of now.1 items in ((first, now.0) ∷ later.0, later.1)

-- a list begins with this part
abbrev pub IsStartOf : {X : Type 0} → List X → List X → Type 0
IsStartOf part whole = (rest : List _) × (part ++ rest ≡ whole)
