use Rattle.lvs_check.proofs.LegalLaws.{legal_is_text, text_is_legal}
use Rattle.lvs_check.proofs.checking.check.Goals as goal

pub returns-clause-legal : goal.returns-clause-legal
returns-clause-legal c = legal_is_text c.args.script.now c.args.report.now c.judge_report.result c.judge_report.ensures

pub returns-clause-text : goal.returns-clause-text
returns-clause-text c = λ named text. text_is_legal c.args.script.now c.args.report.now c.judge_report.result c.requires.within named text c.judge_report.ensures
