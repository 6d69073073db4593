-- What the check asks of a line outside listings.
use Rattle.std.specs.Prelude.{ℕ, ◌≤◌, List, [], ◌∷◌, Option, Some, None, Result, if◌then◌else◌}
use Rattle.lvs_types.specs.declared.report.ReportLine.{ReportLine}
use Rattle.lvs_types.specs.declared.report.ReportLine.TheVariants as line
use Rattle.std.specs.List.{slice_split}
use Rattle.lvs_types.specs.declared.script.Script.{Script}
use Rattle.lvs_types.specs.declared.report.Verdict.{Verdict}
use Rattle.lvs_model.specs.Lines.{is_feed}
use Rattle.lvs_model.specs.Progress.{ReportText, Sizes, Progress, unreadable}
use Rattle.lvs_model.specs.Checking.{act_judged, head_judged, listing_judged, are_sizes, nothing_judged, judged_from}
use Rattle.lvs_check.specs.declared.line.LineKind.{LineKind}
use Rattle.lvs_check.specs.declared.line.LineKind.TheVariants as kind
use Rattle.lvs_check.specs.declared.line.RoundSizes.{RoundSizes}

abbrev pub kind_in : Option ReportLine → LineKind
kind_in None = kind.Unknown
kind_in (Some (line.Head number moment workers buckets)) = kind.Head (record { workers = workers; buckets = buckets })
kind_in (Some (line.Act place actor number reply)) = kind.Act place actor number
kind_in (Some (line.Shown listing)) = kind.Listing

-- the kind of the one line that was read
abbrev pub kind_read : List ReportLine → LineKind
kind_read (line.Head number moment workers buckets ∷ []) = kind.Head (record { workers = workers; buckets = buckets })
kind_read (line.Act place actor number reply ∷ []) = kind.Act place actor number
kind_read other = kind.Unknown

abbrev pub sizes_in : RoundSizes → Sizes
sizes_in sizes = record { workers = sizes.workers; buckets = sizes.buckets }

-- the workers and buckets that a first line of this kind says, where they are in their limits
abbrev pub said_by : LineKind → Sizes
said_by (kind.Head sizes) =
    if are_sizes sizes.workers sizes.buckets then record { workers = sizes.workers; buckets = sizes.buckets } else record { workers = 1; buckets = 1 }
said_by other = record { workers = 1; buckets = 1 }

-- in their limits
pub record AreGood (sizes : RoundSizes) : Type 0 where
  pub some_workers : 1 ≤ sizes.workers
  pub few_workers : sizes.workers ≤ 16
  pub some_buckets : 1 ≤ sizes.buckets
  pub few_buckets : sizes.buckets ≤ 256

-- a line outside listings, by its kind
abbrev pub kind_judged : Sizes → ReportText → LineKind → Progress → Result Progress Verdict
kind_judged sizes at kind.Unknown p = unreadable at
kind_judged sizes at (kind.Head own) p = head_judged sizes at p
kind_judged sizes at (kind.Act place actor number) p = act_judged at place actor number p
kind_judged sizes at kind.Listing p = listing_judged at p

-- the verdict on a report whose heads must say these sizes
abbrev pub judged_with : Script → List ℕ → Sizes → Verdict
judged_with script report sizes = judged_from sizes 1 (nothing_judged script sizes) (slice_split is_feed report)
