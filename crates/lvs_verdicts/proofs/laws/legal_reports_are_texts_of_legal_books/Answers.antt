use Rattle.lvs_verdicts.proofs.LegalReports.{legal_reports}
use Rattle.lvs_verdicts.proofs.laws.legal_reports_are_texts_of_legal_books.Goals as goal

pub returns : goal.returns
returns c = legal_reports
