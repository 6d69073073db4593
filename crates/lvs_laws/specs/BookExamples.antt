-- A script of two rounds with listings, and its books.
use Rattle.std.specs.Prelude.{ℕ, List, [], ◌∷◌, ◌++◌, None, codes}
use Rattle.lvs_types.specs.declared.addr.Addr.{Addr}
use Rattle.lvs_types.specs.declared.item.Item.TheVariants as item
use Rattle.lvs_types.specs.declared.reply.Reply.TheVariants as reply
use Rattle.lvs_types.specs.declared.command.Command.{Command}
use Rattle.lvs_types.specs.declared.command.Command.TheVariants as command
use Rattle.lvs_types.specs.declared.script.Round.{Round}
use Rattle.lvs_types.specs.declared.script.Script.{Script}
use Rattle.lvs_types.specs.declared.script.ScriptLine.TheVariants as line
use Rattle.lvs_types.specs.declared.book.Noted.{Noted}
use Rattle.lvs_types.specs.declared.book.RoundBook.{RoundBook}
use Rattle.lvs_types.specs.declared.book.Shown.{Shown}
use Rattle.lvs_types.specs.declared.book.Shown.TheVariants as shown
use Rattle.lvs_types.specs.declared.book.ShownText.{ShownText}
use Rattle.lvs_model.specs.ExampleItems.{web, service_with}

-- THE SCRIPT

abbrev pub script_text : List ℕ
script_text =
    codes "at 0" ++ 10 ∷ codes "ipvs -A -t 10.0.0.1:80 -s rr" ++ 10 ∷ codes "list" ++ 10 ∷ codes "at 5" ++ 10 ∷ codes "ipvs -C" ++ 10 ∷ codes "save" ++ 10 ∷ []

-- an edit, and a listing
abbrev pub round_of : ℕ → Command → Shown → Round
round_of moment edit kind = record { moment = moment; lines = line.Edit edit ∷ line.Show kind ∷ [] }

abbrev pub add_web : Command
add_web = command.AddService (service_with web None)

abbrev pub example_rounds : List Round
example_rounds = round_of 0 add_web shown.List ∷ round_of 5 command.Clear shown.Save ∷ []

-- no line gives the source of tunnels
abbrev pub no_addr : Addr
no_addr = record { number = 0 }

abbrev pub example_script : Script
example_script = record { local = no_addr; rounds = example_rounds }

-- ITS BOOKS

-- the clock sweeps and reaps, control's edit is done, and nothing is sent
abbrev pub acts_with : Command → List Noted
acts_with edit =
    record { actor = 0; number = 0; item = item.Sweep 0; reply = reply.Swept 0 }
    ∷ record { actor = 0; number = 1; item = item.Reap; reply = reply.Reaped 0 0 0 }
    ∷ record { actor = 1; number = 0; item = item.Edit edit; reply = reply.Done }
    ∷ record { actor = 0; number = 2; item = item.SendSync; reply = reply.Sent [] }
    ∷ []

abbrev pub book_of : ℕ → ℕ → Command → ShownText → RoundBook
book_of number moment edit text = record { number = number; moment = moment; workers = 1; buckets = 1; acts = acts_with edit; shown = text ∷ [] }

-- a service is listed, and after the tables were cleared nothing is saved
abbrev pub example_books : List RoundBook
example_books =
    book_of 0 0 add_web (record { kind = shown.List; text = codes "TCP 10.0.0.1:80 rr" ++ 10 ∷ [] })
    ∷ book_of 1 5 command.Clear (record { kind = shown.Save; text = [] })
    ∷ []
