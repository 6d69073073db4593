-- A verdict that is the judgement is Legal exactly of the texts of legal books.
use Rattle.std.proofs.Common.{◌≡◌, ℕ, List, Result, Ok, Err, sym, ap, ◌∙◌}
use Rattle.std.specs.Prelude.{IfOk}
use Rattle.std.specs.List.{slice_split}
use Rattle.lvs_types.specs.declared.script.Script.{Script}
use Rattle.lvs_types.specs.declared.report.Verdict.{Verdict}
use Rattle.lvs_types.specs.declared.report.Verdict.TheVariants as verdict
use Rattle.lvs_model.specs.Lines.{is_feed}
use Rattle.lvs_model.specs.Progress.{Sizes, Progress}
use Rattle.lvs_model.specs.Checking.{judged_from, nothing_judged, judgement}
use Rattle.lvs_model.specs.ScriptLimits.{IsWithinLimits}
use Rattle.lvs_verdicts.specs.LegalTexts.{IsTextOfLegalBooks, AreNamed}
use Rattle.lvs_verdicts.proofs.LegalReports.{legal_reports}
use Rattle.lvs_verdicts.proofs.Onward.{texts_legal}

pub legal_is_text : {E : Type 0} (script : Script) (report : List ℕ) (r : Result Verdict E) → IfOk r (λ v. v ≡ judgement script report) → IfOk r (λ v. v ≡ verdict.Legal → IsTextOfLegalBooks script report)
legal_is_text script report (Ok v) is = λ legal. legal_reports script report (sym is ∙ legal)
legal_is_text script report (Err why) is = tt

pub text_is_legal : {E : Type 0} (script : Script) (report : List ℕ) (r : Result Verdict E) → IsWithinLimits script.rounds → AreNamed script.rounds → IsTextOfLegalBooks script report → IfOk r (λ v. v ≡ judgement script report) → IfOk r (λ v. v ≡ verdict.Legal)
text_is_legal script report (Ok v) within named text is = is ∙ texts_legal script report within named text
text_is_legal script report (Err why) within named text is = tt

pub judged_is : {E : Type 0} (script : Script) (report : List ℕ) (sizes : Sizes) (begun : Progress) (r : Result Verdict E) → begun ≡ nothing_judged script sizes → judged_from sizes 1 (nothing_judged script sizes) (slice_split is_feed report) ≡ judgement script report → IfOk r (λ v. v ≡ judged_from sizes 1 begun (slice_split is_feed report)) → IfOk r (λ v. v ≡ judgement script report)
judged_is script report sizes begun (Ok v) begins judged is = is ∙ ap (λ (p : Progress). judged_from sizes 1 p (slice_split is_feed report)) begins ∙ judged
judged_is script report sizes begun (Err why) begins judged is = tt
