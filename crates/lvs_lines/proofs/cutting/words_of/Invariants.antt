use Rattle.std.proofs.Common.{◌≡◌, ◌++◌, length}
use Rattle.lvs_model.specs.Lines.{words_of}
use Rattle.lvs_lines.specs.Texts.{texts_in}
use Rattle.lvs_lines.proofs.cutting.words_of.Given as goal

abbrev pub invariant-loop-piece : goal.invariant-loop-piece
invariant-loop-piece l = texts_in l.words ++ words_of l.rest ≡ words_of l.line

abbrev pub decreases-loop-piece : goal.decreases-loop-piece
decreases-loop-piece l = length l.rest
