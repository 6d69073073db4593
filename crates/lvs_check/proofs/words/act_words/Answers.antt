use Rattle.std.proofs.Common.{◌≡◌, ◌++◌, true, decimal, sym, ◌∙◌, ap, rules}
use Rattle.lvs_model.specs.Report.{is_printed, round_text}
use Rattle.lvs_check.proofs.WordLemmas.{long_text, words_of_act}
use Rattle.lvs_check.proofs.words.act_words.Goals as goal

pub behind_place-requires : goal.behind_place-requires
behind_place-requires c =
    let printed : is_printed c.args.reply ≡ true = sym c.is_printed.ensures ∙ c.if-not-is_printed.false in
    long_text c.args.actor c.args.number c.args.reply c.as_slice.result.now (c.as_slice.ensures ∙ c.in_ok-text.ensures ∙ ap round_text c.in_ok-book.ensures) printed

pub returns : goal.returns
returns c =
    let printed : is_printed c.args.reply ≡ true = sym c.is_printed.ensures ∙ c.if-not-is_printed.false in
    let pushed : c.put.new.out.items ≡ decimal c.args.place ++ c.behind_place.result.now = search rules in
    pushed ∙ words_of_act c.args.place c.args.actor c.args.number c.args.reply c.as_slice.result.now c.behind_place.result.now (c.as_slice.ensures ∙ c.in_ok-text.ensures ∙ ap round_text c.in_ok-book.ensures) printed c.behind_place.ensures
