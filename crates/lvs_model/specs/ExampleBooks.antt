-- Texts, books and servers that the worked examples of a demonstration are about.
use Rattle.std.specs.Prelude.{ℕ, ◌+◌, true, false, List, [], ◌∷◌, ◌++◌}
use Rattle.lvs_types.specs.declared.dest.DestRow.{DestRow}
use Rattle.lvs_types.specs.declared.book.Noted.{Noted}
use Rattle.lvs_types.specs.declared.book.Placed.{Placed}
use Rattle.lvs_types.specs.declared.book.RoundBook.{RoundBook}
use Rattle.lvs_types.specs.declared.script.Round.{Round}
use Rattle.lvs_model.specs.Generated.{demo_key, demo_server}
use Rattle.lvs_model.specs.State.{State}
use Rattle.lvs_model.specs.Step.{step}
use Rattle.lvs_model.specs.Plans.{serial_items}
use Rattle.lvs_model.specs.Books.{at_moment}

-- lines, each with its line feed
abbrev pub text_of_lines : List (List ℕ) → List ℕ
text_of_lines [] = []
text_of_lines (text ∷ texts) = text ++ 10 ∷ text_of_lines texts

-- the acts of items in this order, and the state that they leave
abbrev pub acts_after : State → List Placed → List Noted × State
acts_after s [] = ([], s)
acts_after s (p ∷ items) =
    let now = step s p.item in
    let later = acts_after now.1 items in (record { actor = p.actor; number = p.number; item = p.item; reply = now.0 } ∷ later.0, later.1)

-- the books of `serial` from a state and a number on, without their listings, and the state that they leave
abbrev pub serial_books : ℕ → State → List Round → List RoundBook × State
serial_books number s [] = ([], s)
serial_books number s (round ∷ rounds) =
    let acts = acts_after (at_moment s round.moment) (serial_items round) in
    let later = serial_books (number + 1) acts.1 rounds in
    (record { number = number; moment = round.moment; workers = 1; buckets = 1; acts = acts.0; shown = [] } ∷ later.0, later.1)

-- a server of the demonstration with so many established connections
abbrev pub server_with : ℕ → ℕ → DestRow
server_with n active = record {
  dest = record { id = record { 0 = n }; service = demo_key; spec = demo_server n; overloaded = false; live = true };
  active = active;
  inactive = 0;
  templates = 0;
}

-- its four servers with so many established connections each
abbrev pub four_servers : ℕ → ℕ → ℕ → ℕ → List DestRow
four_servers first second third fourth = server_with 1 first ∷ server_with 2 second ∷ server_with 3 third ∷ server_with 4 fourth ∷ []
