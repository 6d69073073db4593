-- Which reports of a script are legal (this project's profile).
use Rattle.std.specs.Prelude.{◌≡◌, ℕ, ◌≤◌, true, List, length}
use Rattle.std.specs.List.{list_all, AllByRecursion}
use Rattle.lvs_types.specs.Limits.{max_workers, max_buckets}
use Rattle.lvs_types.specs.declared.script.Script.{Script}
use Rattle.lvs_types.specs.declared.script.Round.{Round}
use Rattle.lvs_types.specs.declared.book.RoundBook.{RoundBook}
use Rattle.lvs_model.specs.State.{initial}
use Rattle.lvs_model.specs.Plans.{listings_of}
use Rattle.lvs_model.specs.Legal.{AreLegalBooks}
use Rattle.lvs_model.specs.Report.{books_text}
use Rattle.lvs_model.specs.ReportLines.{is_named}

-- the text of legal books of a script, one a round in order, all for one number of workers and one of buckets, each within its limits
pub record IsTextOfLegalBooks (script : Script) (report : List ℕ) : Type 0 where
  pub workers : ℕ
  pub buckets : ℕ
  pub books : List RoundBook
  pub some_workers : 1 ≤ workers
  pub few_workers : workers ≤ max_workers
  pub some_buckets : 1 ≤ buckets
  pub few_buckets : buckets ≤ max_buckets
  pub legal : AreLegalBooks workers buckets 0 (initial script.local buckets) script.rounds books
  pub each_round : length books ≡ length script.rounds
  pub text : report ≡ books_text books

-- the listings that a round asks for have names: an ICMP error is bytes, at least one
abbrev pub AreNamed : List Round → Type 0
AreNamed rounds = AllByRecursion (λ (round : Round). list_all is_named (listings_of round) ≡ true) rounds
