use Rattle.std.proofs.Common.{◌≡◌, ◌∙◌, sym, ap, List, ℕ, [], ◌∷◌, ◌++◌, filter, append_assoc}
use Rattle.lvs_model.specs.Lines.{is_full, words_of}
use Rattle.lvs_lines.specs.Texts.{texts_in}
use Rattle.lvs_lines.proofs.Cuts.{words_cut, words_end}
use Rattle.lvs_lines.proofs.cutting.words_of.Goals as goal

pub loop-piece-preserved : goal.loop-piece-preserved
loop-piece-preserved c =
    let first = words_cut c.loop-piece.rest.now c.in-Some.piece.now c.in-Some.after.now c.in-Some.ensures.value in
    let pushed : texts_in c.push_piece.new.words ≡ texts_in c.loop-piece.words ++ filter is_full (c.in-Some.piece.now ∷ []) = c.in_ok-push_piece.ensures in
    ap (λ (prefix : List (List ℕ)). prefix ++ words_of c.in-Some.after.now) pushed
    ∙ append_assoc (texts_in c.loop-piece.words) (filter is_full (c.in-Some.piece.now ∷ [])) (words_of c.in-Some.after.now)
    ∙ ap (λ (more : List (List ℕ)). texts_in c.loop-piece.words ++ more) (sym first)
    ∙ c.loop-piece.invariant

pub returns : goal.returns
returns c =
    let last = words_end c.loop-piece.rest.now c.in_default.ensures.value in
    let pushed : texts_in c.push_piece-2.new.words ≡ texts_in c.loop-piece.words ++ filter is_full (c.loop-piece.rest.now ∷ []) = c.in_ok-push_piece-2.ensures in
    pushed ∙ ap (λ (more : List (List ℕ)). texts_in c.loop-piece.words ++ more) (sym last) ∙ c.loop-piece.invariant
