use Rattle.lvs_verdicts.proofs.Onward.{texts_legal}
use Rattle.lvs_verdicts.proofs.laws.texts_of_legal_books_are_legal_reports.Goals as goal

pub returns : goal.returns
returns c = texts_legal
