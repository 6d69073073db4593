use Rattle.std.proofs.Common.{ℕ, Bool, cond, List, [], ◌∷◌, ◌++◌, decimal, codes, refl, sym, ◌∙◌, ap, append_assoc}
use Rattle.std.proofs.lemmas.List.Splits.{join_with_byte-slice_split}
use Rattle.lvs_model.specs.Report.{reply_text, shown_name}
use Rattle.lvs_model.specs.Listings.{text_of}
use Rattle.lvs_model.specs.Snapshots.{snapshot_of}
use Rattle.lvs_model.proofs.worked_examples.checking.the_lines_of_a_report.Goals as goal

words : ℕ → ℕ → ℕ → List ℕ → List ℕ
words place actor number reply = decimal place ++ 32 ∷ [] ++ decimal actor ++ 46 ∷ [] ++ decimal number ++ 32 ∷ [] ++ reply

pub returns-clause-head : goal.returns-clause-head
returns-clause-head c = λ book. refl

pub returns-clause-printed : goal.returns-clause-printed
unfolding words
returns-clause-printed c = λ place act printed. ap (λ (b : Bool). cond b (words place act.actor act.number (reply_text act.reply)) [] ++ 10 ∷ []) printed

pub returns-clause-not_printed : goal.returns-clause-not_printed
unfolding words
returns-clause-not_printed c = λ place act silent. ap (λ (b : Bool). cond b (words place act.actor act.number (reply_text act.reply)) []) silent

pub returns-clause-listing : goal.returns-clause-listing
returns-clause-listing c = λ s kind.
    let text = text_of (snapshot_of s) kind in
    let prefix = shown_name kind ++ 10 ∷ [] in
    ap (λ (lines : List ℕ). prefix ++ lines ++ 10 ∷ []) (join_with_byte-slice_split 10 (text ++ codes "end"))
    ∙ ap (λ (lines : List ℕ). lines ++ 10 ∷ []) (sym (append_assoc prefix text (codes "end")))
