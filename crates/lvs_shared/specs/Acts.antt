-- The acts of a book as a list: their lanes, the state that they leave, and what they make of a bucket.
use Rattle.std.specs.Prelude.{ℕ, ◌+◌, List, [], ◌∷◌, Option, Some, None, map}
use Rattle.lvs_book.specs.Lanes.{naming}
use Rattle.lvs_types.specs.declared.item.Item.{Item}
use Rattle.lvs_types.specs.declared.reply.Reply.{Reply}
use Rattle.lvs_types.specs.declared.entry.Entry.{Entry}
use Rattle.lvs_types.specs.declared.bucket.Change.{Change}
use Rattle.lvs_types.specs.declared.book.Noted.{Noted}
use Rattle.lvs_model.specs.State.{State}
use Rattle.lvs_model.specs.Step.{run}
use Rattle.lvs_model.specs.Buckets.{home, entries_of, changed_by}
use Rattle.lvs_shared.specs.declared.origin.Act.{Act}
use Rattle.lvs_shared.specs.declared.origin.Opened.{Opened}
use Rattle.lvs_shared.specs.Openings.{begun}

abbrev pub notes_of : List Act → List Noted
notes_of acts = map (λ (act : Act). act.noted) acts

abbrev pub items_of : List Act → List Item
items_of acts = map (λ (act : Act). act.noted.item) acts

abbrev pub replies_of : List Act → List Reply
replies_of acts = map (λ (act : Act). act.noted.reply) acts

abbrev pub changes_of : List Act → List Change
changes_of acts = map (λ (act : Act). act.change) acts

-- LANES

-- of so many buckets: the lanes are the buckets and then the actors
abbrev pub lanes_at : ℕ → ℕ → Option ℕ → List ℕ
lanes_at buckets actor None = (buckets + actor) ∷ []
lanes_at buckets actor (Some bucket) = bucket ∷ (buckets + actor) ∷ []

-- the lanes of an act: its bucket's, where it has one, and its actor's
abbrev pub lanes_of : ℕ → ℕ → Item → List ℕ
lanes_of buckets actor next = lanes_at buckets actor (home buckets next)

-- the acts that name the lane
abbrev pub lane_acts : ℕ → List Act → List Act
lane_acts lane acts = naming (λ (act : Act). act.lanes) lane acts

-- an act of the book, with the change of its bucket
abbrev pub act_of : ℕ → Noted → Change → Act
act_of buckets noted change = record { noted = noted; change = change; lanes = lanes_of buckets noted.actor noted.item }

-- the acts of the book, each with its change
abbrev pub acts_of : ℕ → List Noted → List Change → List Act
acts_of buckets [] changes = []
acts_of buckets (noted ∷ book) [] = []
acts_of buckets (noted ∷ book) (change ∷ changes) = act_of buckets noted change ∷ acts_of buckets book changes

-- WHAT ACTS LEAVE

-- the state that the run over the acts leaves
abbrev pub left : Opened → List Act → State
left o acts = (run (begun o) (items_of acts)).1

-- what changes make of entries, in order
abbrev pub changed : List Change → List Entry → List Entry
changed [] entries = entries
changed (change ∷ changes) entries = changed changes (changed_by change entries)

-- what the changes of these acts make of the bucket's opening entries
abbrev pub made : ℕ → Opened → List Act → List Entry
made bucket o acts = changed (changes_of acts) (entries_of bucket (begun o))
