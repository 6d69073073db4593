-- The listings of a round, of tables as they are.
use Rattle.std.specs.Prelude.{List, Bool, true, false, map}
use Rattle.lvs_types.specs.declared.snapshot.Snapshot.{Snapshot}
use Rattle.lvs_types.specs.declared.book.Shown.{Shown}
use Rattle.lvs_types.specs.declared.book.ShownText.{ShownText}
use Rattle.lvs_types.specs.declared.script.ScriptLine.{ScriptLine}
use Rattle.lvs_types.specs.declared.script.ScriptLine.TheVariants as line
use Rattle.lvs_model.specs.Listings.{text_of}

abbrev pub is_listing : ScriptLine → Bool
is_listing (line.Show kind) = true
is_listing other = false

abbrev pub shown_in : Snapshot → Shown → ShownText
shown_in tables kind = record { kind = kind; text = text_of tables kind }

abbrev pub all_shown_in : Snapshot → List Shown → List ShownText
all_shown_in tables kinds = map (shown_in tables) kinds
