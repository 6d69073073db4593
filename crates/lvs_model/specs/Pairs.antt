-- A master and its backup: what is delivered between them, and what is written of both (this project's profile).
use Rattle.std.specs.Prelude.{ℕ, List, [], ◌∷◌, ◌++◌, map, flat_map, replicate, slice_index, codes}
use Rattle.lvs_types.specs.declared.book.Noted.{Noted}
use Rattle.lvs_types.specs.declared.book.RoundBook.{RoundBook}
use Rattle.lvs_types.specs.declared.reply.Reply.{Reply}
use Rattle.lvs_types.specs.declared.reply.Reply.TheVariants as reply
use Rattle.lvs_types.specs.declared.script.Round.{Round}
use Rattle.lvs_types.specs.declared.script.Script.{Script}
use Rattle.lvs_types.specs.declared.script.ScriptLine.TheVariants as line
use Rattle.lvs_model.specs.Report.{books_text}

-- the counts of the messages after the first; the last count holds for all that follow
abbrev pub later_counts : List ℕ → List ℕ
later_counts [] = []
later_counts (count ∷ []) = count ∷ []
later_counts (count ∷ next ∷ counts) = next ∷ counts

-- each message so many times in a row, the first by the first count; a count of 0 is a loss
abbrev pub delivered : List (List ℕ) → List ℕ → List (List ℕ)
delivered [] counts = []
delivered (message ∷ messages) counts = replicate (slice_index counts 0) message ++ delivered messages (later_counts counts)

-- the messages that a reply sends
abbrev pub messages_of_reply : Reply → List (List ℕ)
messages_of_reply (reply.Sent messages) = messages
messages_of_reply other = []

abbrev pub messages_of_book : RoundBook → List (List ℕ)
messages_of_book book = flat_map (λ (act : Noted). messages_of_reply act.reply) book.acts

-- the messages that books sent, in order
abbrev pub sent_messages : List RoundBook → List (List ℕ)
sent_messages books = flat_map messages_of_book books

-- the round in which messages arrive
abbrev pub arrival_at : ℕ → List (List ℕ) → Round
arrival_at moment messages = record { moment = moment; lines = map line.Sync messages }

-- after the first round, at its moment; alone, at moment 0, where there is no round
abbrev pub rounds_with_delivered : List (List ℕ) → List Round → List Round
rounds_with_delivered messages [] = arrival_at 0 messages ∷ []
rounds_with_delivered messages (first ∷ rounds) = first ∷ arrival_at first.moment messages ∷ rounds

-- the backup's script with the round in which the messages arrive
abbrev pub with_delivered : List (List ℕ) → Script → Script
with_delivered messages script = record script { rounds = rounds_with_delivered messages script.rounds }

-- the master's report, the line `backup`, and the backup's report
abbrev pub pair_text : List RoundBook → List RoundBook → List ℕ
pair_text master backup = books_text master ++ codes "backup" ++ 10 ∷ [] ++ books_text backup
