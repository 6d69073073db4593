use Rattle.lvs_model.specs.ReportReading.{line_of}
use Rattle.lvs_check.specs.declared.line.LineKind.TheVariants as kind
use Rattle.lvs_check.specs.Judging.{text_at}
use Rattle.lvs_check.specs.Kinds.{sizes_in}
use Rattle.lvs_check.specs.Walks.{progress_of}
use Rattle.lvs_check.proofs.Judged.{along}
use Rattle.lvs_check.proofs.KindLemmas.{outside, outside_unknown}
use Rattle.lvs_check.proofs.walk.Walk.take_outside.Goals as goal

pub returns-in-Unknown-clause-judged : goal.returns-in-Unknown-clause-judged
returns-in-Unknown-clause-judged c =
    outside_unknown (sizes_in c.args.sizes) (text_at c.args.at) (line_of c.args.at.text.now) c.in_ok-kind_of.field-0 (progress_of c.args.self.now) (progress_of c.args.self.now) c.unreadable.result (c.in_ok-kind_of.ensures c.args.at.text.now c.requires.whole) c.in-Unknown.is c.unreadable.ensures

pub returns-in-Head-clause-judged : goal.returns-in-Head-clause-judged
returns-in-Head-clause-judged c =
    along c.take_head.result _ _ _ (outside (sizes_in c.args.sizes) (text_at c.args.at) (line_of c.args.at.text.now) c.in_ok-kind_of.field-0 (kind.Head c.in-Head.field-0) (progress_of c.args.self.now) (c.in_ok-kind_of.ensures c.args.at.text.now c.requires.whole) c.in-Head.is) c.take_head.ensures.judged

pub returns-in-Act-clause-judged : goal.returns-in-Act-clause-judged
returns-in-Act-clause-judged c =
    along c.take_act.result _ _ _ (outside (sizes_in c.args.sizes) (text_at c.args.at) (line_of c.args.at.text.now) c.in_ok-kind_of.field-0 (kind.Act c.in-Act.place c.in-Act.actor c.in-Act.number) (progress_of c.args.self.now) (c.in_ok-kind_of.ensures c.args.at.text.now c.requires.whole) c.in-Act.is) c.take_act.ensures.judged

pub returns-in-Listing-clause-judged : goal.returns-in-Listing-clause-judged
returns-in-Listing-clause-judged c =
    along c.take_listing.result _ _ _ (outside (sizes_in c.args.sizes) (text_at c.args.at) (line_of c.args.at.text.now) c.in_ok-kind_of.field-0 kind.Listing (progress_of c.args.self.now) (c.in_ok-kind_of.ensures c.args.at.text.now c.requires.whole) c.in-Listing.is) c.take_listing.ensures.judged
