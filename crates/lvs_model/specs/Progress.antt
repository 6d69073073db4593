-- What the check of a report knows so far, the lines that the director gives, and the clock's items at places without a line (this project's profile).
use Rattle.std.specs.Prelude.{ℕ, ◌+◌, Bool, List, [], ◌∷◌, ◌++◌, take, drop, set, Result, Ok, Err, if◌then◌else◌, codes, decimal, bytes_eq}
use Rattle.std.specs.List.{slice_split}
use Rattle.lvs_types.specs.declared.item.Item.{Item}
use Rattle.lvs_types.specs.declared.reply.Reply.{Reply}
use Rattle.lvs_types.specs.declared.book.Shown.{Shown}
use Rattle.lvs_types.specs.declared.script.Round.{Round}
use Rattle.lvs_types.specs.declared.report.Verdict.{Verdict}
use Rattle.lvs_types.specs.declared.report.Verdict.TheVariants as verdict
use Rattle.lvs_model.specs.State.{State}
use Rattle.lvs_model.specs.Step.{step}
use Rattle.lvs_model.specs.Snapshots.{snapshot_of}
use Rattle.lvs_model.specs.Listings.{text_of}
use Rattle.lvs_model.specs.Lines.{is_feed}
use Rattle.lvs_model.specs.Report.{is_printed, reply_text}
use Rattle.lvs_model.specs.Refusals.{◌>>=◌}

-- WHAT IS JUDGED, AND WHAT WAS READ SO FAR

-- a line of the report without its line feed; the report's end is an empty one, numbered after the last line
pub record ReportText : Type 0 where
  -- from 1
  pub number : ℕ
  pub text : List ℕ

-- the workers and buckets of all rounds
pub record Sizes : Type 0 where
  pub workers : ℕ
  pub buckets : ℕ

-- what is left of an actor's list
pub record Queue : Type 0 where
  -- the number of the first item that is left, in the actor's list
  pub next : ℕ
  pub items : List Item

pub record Progress : Type 0 where
  -- the number of the next round
  pub number : ℕ
  -- the rounds of the script that have no head yet
  pub rounds : List Round
  -- the director after all acts so far
  pub state : State
  -- the next place of the round; the one before it is taken
  pub place : ℕ
  -- what is left of each actor's list in the round, the clock's first
  pub queues : List Queue
  -- the listings that the round is still to show
  pub shown : List Shown
  -- the lines that the open listing is still to have, its `end` included; none where no listing is open
  pub due : List (List ℕ)

-- REFUSALS

abbrev pub unreadable : {A : Type 0} → ReportText → Result A Verdict
unreadable at = Err (verdict.Unreadable at.number)

-- the line isn't in the grammar, or not in order
abbrev pub unreadable_if : Bool → ReportText → Result (Unit {0}) Verdict
unreadable_if fails at = if fails then unreadable at else Ok tt

-- the director gives another line there
abbrev pub illegal : {A : Type 0} → ReportText → List ℕ → Result A Verdict
illegal at expected = Err (verdict.Illegal at.number expected at.text)

-- the text is the director's
abbrev pub checked_text : ReportText → List ℕ → Result (Unit {0}) Verdict
checked_text at expected = if bytes_eq at.text expected then Ok tt else illegal at expected

-- THE DIRECTOR'S LINES

-- `round NUMBER at MOMENT workers W buckets B`
abbrev pub head_words : ℕ → ℕ → Sizes → List ℕ
head_words number moment sizes =
    codes "round " ++ decimal number ++ codes " at " ++ decimal moment ++ codes " workers " ++ decimal sizes.workers ++ codes " buckets " ++ decimal sizes.buckets

-- `PLACE ACTOR.NUMBER REPLY`, and an empty line for a reply that isn't printed
abbrev pub act_words : ℕ → ℕ → ℕ → Reply → List ℕ
act_words place actor number reply =
    if is_printed reply then decimal place ++ 32 ∷ [] ++ decimal actor ++ 46 ∷ [] ++ decimal number ++ 32 ∷ [] ++ reply_text reply else []

-- the lines of a listing behind its first, `end` included
abbrev pub listing_lines : State → Shown → List (List ℕ)
listing_lines s kind = slice_split is_feed (text_of (snapshot_of s) kind ++ codes "end")

-- THE CLOCK'S ITEMS AT PLACES WITHOUT A LINE

-- items of the clock at places and with numbers from these on: the state that they leave, or the line of the first that changes something
abbrev pub run_silently : ℕ → ℕ → State → List Item → Result State (List ℕ)
run_silently place number s [] = Ok s
run_silently place number s (first ∷ items) =
    let now = step s first in
    if is_printed now.0 then Err (act_words place 0 number now.0) else run_silently (place + 1) (number + 1) now.1 items

-- the line of an item that changes something should stand where another line does
abbrev pub silent : {A : Type 0} → ReportText → Result A (List ℕ) → Result A Verdict
silent at (Ok s) = Ok s
silent at (Err expected) = illegal at expected

-- the clock's list, which is the first
abbrev pub clock_of : List Queue → Queue
clock_of [] = record { next = 0; items = [] }
clock_of (clock ∷ others) = clock

-- an actor's list without its first items, so many of them
abbrev pub skipped : ℕ → Queue → Queue
skipped count q = record { next = q.next + count; items = drop count q.items }

-- the clock's next items fill so many places
abbrev pub filled : ReportText → ℕ → Progress → Result Progress Verdict
filled at count p = do
  left ← silent at (run_silently p.place (clock_of p.queues).next p.state (take count (clock_of p.queues).items))
  Ok (record p { state = left; place = p.place + count; queues = set p.queues 0 (skipped count (clock_of p.queues)) })
