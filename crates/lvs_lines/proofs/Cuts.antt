-- The lines of a text and the words of a line, by the first and the rest.
use Rattle.std.proofs.Common.{◌≡◌, ℕ, ◌<◌, Bool, true, false, cond, ◌==◌, List, [], ◌∷◌, ◌++◌, length, None, filter, refl, sym, ◌∙◌, ap, arith}
use Rattle.std.specs.List.{slice_split}
use Rattle.std.proofs.lemmas.List.Splits.{length-slice_split}
use Rattle.lvs_model.specs.Lines.{is_feed, is_blank, without_return, lines_of_pieces, lines_of, is_full, words_of, cut_by}
use Rattle.lvs_lines.proofs.Splits.{cut_pair, split_found, split_missed}

pub more_pieces : (piece : List ℕ) (pieces : List (List ℕ)) → 0 < length pieces → lines_of_pieces (piece ∷ pieces) ≡ without_return piece ∷ lines_of_pieces pieces
more_pieces piece [] some = absurd (omega arith)
more_pieces piece (next ∷ more) some = refl

pub some_pieces : (text : List ℕ) → 0 < length (slice_split is_feed text)
some_pieces text = omega (arith, length-slice_split is_feed text)

pub lines_cut : (text line after : List ℕ) → cut_pair line after ≡ cut_by is_feed text → lines_of text ≡ without_return line ∷ lines_of after
lines_cut text line after cut = ap lines_of_pieces (split_found is_feed text line after cut) ∙ more_pieces line (slice_split is_feed after) (some_pieces after)

pub lines_end : (text : List ℕ) → None ≡ cut_by is_feed text → lines_of text ≡ cond (length text == 0) [] (text ∷ [])
lines_end text cut = ap lines_of_pieces (split_missed is_feed text cut)

filter_first : (piece : List ℕ) (pieces : List (List ℕ)) (b : Bool) → cond b (piece ∷ pieces) pieces ≡ cond b (piece ∷ []) [] ++ pieces
filter_first piece pieces true = refl
filter_first piece pieces false = refl

pub words_cut : (text piece after : List ℕ) → cut_pair piece after ≡ cut_by is_blank text → words_of text ≡ filter is_full (piece ∷ []) ++ words_of after
words_cut text piece after cut = ap (filter is_full) (split_found is_blank text piece after cut) ∙ filter_first piece (words_of after) (is_full piece)

pub words_end : (text : List ℕ) → None ≡ cut_by is_blank text → words_of text ≡ filter is_full (text ∷ [])
words_end text cut = ap (filter is_full) (split_missed is_blank text cut)

-- where there is no line feed, a text that isn't empty is the last line
pub last_line : (text : List ℕ) (b : Bool) → b ≡ (length text == 0) → b ≡ false → None ≡ cut_by is_feed text → lines_of text ≡ text ∷ []
last_line text b empty is cut = lines_end text cut ∙ ap (λ (b : Bool). cond b [] (text ∷ [])) (sym empty ∙ is)

-- where there is no line feed, an empty text has no line
pub no_line : (text : List ℕ) (b : Bool) → b ≡ (length text == 0) → b ≡ true → None ≡ cut_by is_feed text → lines_of text ≡ []
no_line text b empty is cut = lines_end text cut ∙ ap (λ (b : Bool). cond b [] (text ∷ [])) (sym empty ∙ is)
