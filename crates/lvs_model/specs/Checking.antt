-- Whether a report is legal for a script, or the first line at which it isn't (this project's profile).
use Rattle.std.specs.Prelude.{ℕ, ◌+◌, ◌-◌, Bool, not, ◌&&◌, ◌||◌, ◌==◌, List, [], ◌∷◌, length, map, set, Option, Some, None, Result, Ok, Err, if◌then◌else◌, nat_le, nat_lt, slice_get, bytes_eq}
use Rattle.std.specs.List.{slice_split, list_all}
use Rattle.lvs_types.specs.Limits.{max_workers, max_buckets}
use Rattle.lvs_types.specs.declared.item.Item.{Item}
use Rattle.lvs_types.specs.declared.book.Shown.{Shown}
use Rattle.lvs_types.specs.declared.script.Script.{Script}
use Rattle.lvs_types.specs.declared.script.Round.{Round}
use Rattle.lvs_types.specs.declared.report.ReportLine.{ReportLine}
use Rattle.lvs_types.specs.declared.report.ReportLine.TheVariants as line
use Rattle.lvs_types.specs.declared.report.Verdict.{Verdict}
use Rattle.lvs_types.specs.declared.report.Verdict.TheVariants as verdict
use Rattle.lvs_model.specs.State.{initial}
use Rattle.lvs_model.specs.Step.{step}
use Rattle.lvs_model.specs.Plans.{plan}
use Rattle.lvs_model.specs.Books.{at_moment}
use Rattle.lvs_model.specs.Lines.{is_feed}
use Rattle.lvs_model.specs.Report.{shown_name}
use Rattle.lvs_model.specs.ReportReading.{line_of}
use Rattle.lvs_model.specs.Refusals.{◌>>=◌}
use Rattle.lvs_model.specs.Progress.{ReportText, Sizes, Queue, Progress, unreadable, unreadable_if, checked_text, head_words, act_words, listing_lines, clock_of, filled}

-- A report is read line by line, and the first line that fails decides. For one line the tests come in this order, and again the first decides: the grammar; the place and the number of skipped places; the clock's items that fill skipped places, or that are left where the line ends a round's acts; the missing items where the line ends a round's acts, and the missing listings where it ends a round; what a head says, or that a head is missing at the report's end; the order of items and listings; the text.

-- AN ACT

-- the place is above the one before, and the clock has an item for each place that is skipped
abbrev pub checked_place : ReportText → ℕ → Progress → Result (Unit {0}) Verdict
checked_place at place p = unreadable_if (nat_lt place p.place || nat_lt (length (clock_of p.queues).items) (place - p.place)) at

-- the director's answer to the item that is the next one of its actor
abbrev pub act_taken : ReportText → ℕ → ℕ → Item → List Item → Progress → Result Progress Verdict
act_taken at actor number first items p = do
  _ ← checked_text at (act_words p.place actor number (step p.state first).0)
  Ok (record p { state = (step p.state first).1; place = p.place + 1; queues = set p.queues actor (record { next = number + 1; items = items }) })

-- of the actor's list, where it has an item left
abbrev pub next_taken : ReportText → ℕ → ℕ → ℕ → List Item → Progress → Result Progress Verdict
next_taken at actor number next [] p = unreadable at
next_taken at actor number next (first ∷ items) p = if number == next then act_taken at actor number first items p else unreadable at

-- by whether there is such an actor
abbrev pub actor_taken : ReportText → ℕ → ℕ → Option Queue → Progress → Result Progress Verdict
actor_taken at actor number None p = unreadable at
actor_taken at actor number (Some q) p = next_taken at actor number q.next q.items p

-- the place; the items that fill skipped places; the order of items; the text
abbrev pub act_judged : ReportText → ℕ → ℕ → ℕ → Progress → Result Progress Verdict
act_judged at place actor number p = do
  _ ← checked_place at place p
  f ← filled at (place - p.place) p
  actor_taken at actor number (slice_get f.queues actor) f

-- THE END OF A ROUND'S ACTS, AND OF A ROUND

abbrev pub is_used_up : Queue → Bool
is_used_up q = length q.items == 0

-- the clock's items that are left fill the places after the last act; then no actor has an item left
abbrev pub acts_ended : ReportText → Progress → Result Progress Verdict
acts_ended at p = do
  f ← filled at (length (clock_of p.queues).items) p
  _ ← unreadable_if (not (list_all is_used_up f.queues)) at
  Ok f

-- then no listing is missing
abbrev pub round_ended : ReportText → Progress → Result Progress Verdict
round_ended at p = do
  e ← acts_ended at p
  _ ← unreadable_if (not (length e.shown == 0)) at
  Ok e

-- THE FIRST LINE OF A LISTING

-- the next listing of the script
abbrev pub listing_opened : ReportText → List Shown → Progress → Result Progress Verdict
listing_opened at [] p = unreadable at
listing_opened at (kind ∷ kinds) p =
    if bytes_eq at.text (shown_name kind) then Ok (record p { shown = kinds; due = listing_lines p.state kind }) else unreadable at

-- a round's acts end at its first listing; at a later one nothing is left of them
abbrev pub listing_judged : ReportText → Progress → Result Progress Verdict
listing_judged at p = do
  e ← acts_ended at p
  listing_opened at e.shown e

-- A HEAD

-- a round begins at its moment, with the lists and listings of its plan
abbrev pub round_begun : Sizes → Round → List Round → Progress → Progress
round_begun sizes round rounds p = record {
  number = p.number + 1;
  rounds = rounds;
  state = at_moment p.state round.moment;
  place = 0;
  queues = map (λ (items : List Item). record { next = 0; items = items }) (plan round sizes.workers sizes.buckets).lists;
  shown = (plan round sizes.workers sizes.buckets).shown;
  due = [];
}

-- the head says the next round's number and moment, and the first head's workers and buckets
abbrev pub head_said : Sizes → ReportText → List Round → Progress → Result Progress Verdict
head_said sizes at [] p = unreadable at
head_said sizes at (round ∷ rounds) p =
    if bytes_eq at.text (head_words p.number round.moment sizes) then Ok (round_begun sizes round rounds p) else unreadable at

-- a head ends the round before it
abbrev pub head_judged : Sizes → ReportText → Progress → Result Progress Verdict
head_judged sizes at p = do
  e ← round_ended at p
  head_said sizes at e.rounds e

-- A LINE

-- a line outside listings, by what it is in the grammar
abbrev pub read_judged : Sizes → ReportText → Option ReportLine → Progress → Result Progress Verdict
read_judged sizes at None p = unreadable at
read_judged sizes at (Some (line.Head number moment workers buckets)) p = head_judged sizes at p
read_judged sizes at (Some (line.Act place actor number reply)) p = act_judged at place actor number p
read_judged sizes at (Some (line.Shown listing)) p = listing_judged at p

-- a line within a listing may be any line; else the grammar comes first
abbrev pub line_judged : Sizes → ReportText → List (List ℕ) → Progress → Result Progress Verdict
line_judged sizes at [] p = read_judged sizes at (line_of at.text) p
line_judged sizes at (expected ∷ later) p = do
  _ ← checked_text at expected
  Ok (record p { due = later })

-- A REPORT

-- a head that is missing
abbrev pub heads_ended : ReportText → List Round → Verdict
heads_ended at [] = verdict.Legal
heads_ended at (round ∷ rounds) = verdict.Unreadable at.number

-- what comes of a line, and then the rest
abbrev pub go_on : Result Progress Verdict → (Progress → Verdict) → Verdict
go_on (Err refused) rest = refused
go_on (Ok p) rest = rest p

-- the report's end: no listing is open, the last round ends, and no round of the script is left
abbrev pub end_judged : ReportText → List (List ℕ) → Progress → Verdict
end_judged at [] p = go_on (round_ended at p) (λ (e : Progress). heads_ended at e.rounds)
end_judged at (expected ∷ later) p = verdict.Unreadable at.number

-- what stands behind the last line feed: nothing, or a line that lacks its own
abbrev pub last_judged : ℕ → List ℕ → Progress → Verdict
last_judged number [] p = end_judged (record { number = number; text = [] }) p.due p
last_judged number (byte ∷ bytes) p = verdict.Unreadable number

-- the pieces between line feeds, from the line of that number on: each but the last is a line, and the first that fails decides
abbrev pub judged_from : Sizes → ℕ → Progress → List (List ℕ) → Verdict
judged_from sizes number p [] = verdict.Unreadable number
judged_from sizes number p (last ∷ []) = last_judged number last p
judged_from sizes number p (text ∷ next ∷ more) =
    go_on (line_judged sizes (record { number = number; text = text }) p.due p) (λ (later : Progress). judged_from sizes (number + 1) later (next ∷ more))

-- workers and buckets in their limits
abbrev pub are_sizes : ℕ → ℕ → Bool
are_sizes workers buckets = nat_le 1 workers && nat_le workers max_workers && nat_le 1 buckets && nat_le buckets max_buckets

-- the workers and buckets that each head must say: those of the first line, where it is a head with both in their limits; else 1 and 1, which that line doesn't say, so that it is refused
abbrev pub sizes_of : Option ReportLine → Sizes
sizes_of (Some (line.Head number moment workers buckets)) =
    if are_sizes workers buckets then record { workers = workers; buckets = buckets } else record { workers = 1; buckets = 1 }
sizes_of other = record { workers = 1; buckets = 1 }

-- no round has begun, and nothing is left of one
abbrev pub nothing_judged : Script → Sizes → Progress
nothing_judged script sizes = record {
  number = 0;
  rounds = script.rounds;
  state = initial script.local sizes.buckets;
  place = 0;
  queues = [];
  shown = [];
  due = [];
}

-- the pieces, with the sizes of the first
abbrev pub pieces_judged : Script → List (List ℕ) → Verdict
pieces_judged script [] = verdict.Unreadable 1
pieces_judged script (first ∷ more) =
    judged_from (sizes_of (line_of first)) 1 (nothing_judged script (sizes_of (line_of first))) (first ∷ more)

-- the verdict on a report of a script
abbrev pub judgement : Script → List ℕ → Verdict
judgement script report = pieces_judged script (slice_split is_feed report)
