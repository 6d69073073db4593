-- What becomes of a line: what is known behind it, or the verdict.
use Rattle.std.specs.Prelude.{◌≡◌, Result, Ok, Err}
use Rattle.lvs_types.specs.declared.report.Verdict.{Verdict}
use Rattle.lvs_model.specs.Progress.{ReportText}
use Rattle.lvs_check.specs.declared.refusal.LineText.{LineText}
use Rattle.lvs_check.specs.declared.refusal.Stop.{Stop}
use Rattle.lvs_check.specs.declared.refusal.Stop.TheVariants as stop

abbrev pub text_at : LineText → ReportText
text_at at = record { number = at.number; text = at.text.now }

-- the definition gives what is left, or the same verdict; want of memory says nothing
abbrev pub Judges : {A : Type 0} → Result (Unit {0}) Stop → A → Result A Verdict → Type 0
Judges (Ok done) left judged = judged ≡ Ok left
Judges (Err (stop.Refused verdict)) left judged = judged ≡ Err verdict
Judges (Err stop.NoMemory) left judged = Unit {0}
