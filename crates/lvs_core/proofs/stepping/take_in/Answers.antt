use Rattle.std.proofs.Common.{◌∙◌, ap, sym, subst, ℕ, Some, slice_index_or, slice_set}
use Rattle.lvs_model.specs.Step.{step}
use Rattle.lvs_core.specs.Agree.{AreBuckets, IsBucket}
use Rattle.lvs_core.proofs.Numbered.{bucket_here, own_number}
use Rattle.lvs_core.proofs.Taken.{taken_in, kept_in, on_err}
use Rattle.lvs_core.proofs.stepping.take_in.Goals as goal

pub decide_in-requires-clause-home : goal.decide_in-requires-clause-home
decide_in-requires-clause-home g c =
    let is = bucket_here g.W.Whole.whole c.args.buckets.now c.args.number c.index-buckets-number.result c.requires.there c.requires.each in
    c.requires.home ∙ ap (λ (n : ℕ). Some n) (sym is.number)

pub decide_in-requires-clause-bucket : goal.decide_in-requires-clause-bucket
decide_in-requires-clause-bucket g c =
    let is = bucket_here g.W.Whole.whole c.args.buckets.now c.args.number c.index-buckets-number.result c.requires.there c.requires.each in
    own_number g.W.Whole.whole c.args.number (slice_index_or c.args.buckets.now c.args.number c.index-buckets-number.result) is

pub returns-in_err-decide_in-clause-each_kept : goal.returns-in_err-decide_in-clause-each_kept
returns-in_err-decide_in-clause-each_kept g c =
    let is = bucket_here g.W.Whole.whole c.args.buckets.now c.args.number c.index-buckets-number.result c.requires.there c.requires.each in
    on_err (AreBuckets g.W.Whole.whole 0 (slice_set c.args.buckets.now c.args.number c.decide_in.new.bucket)) c.from_residual.result
    (kept_in g.W.Whole.whole c.args.buckets.now c.args.number c.decide_in.new.bucket (subst (λ (n : ℕ). IsBucket g.W.Whole.whole n c.decide_in.new.bucket) is.number c.in_err-decide_in.ensures.bucket_kept) c.requires.each)

pub returns-clause-each : goal.returns-clause-each
returns-clause-each g c =
    let is = bucket_here g.W.Whole.whole c.args.buckets.now c.args.number c.index-buckets-number.result c.requires.there c.requires.each in
    taken_in g.W.Whole.whole c.args.item c.args.buckets.now c.args.number c.decide_in.new.bucket c.requires.can.well_formed c.requires.can.counted.numbers.buckets c.requires.home (subst (λ (n : ℕ). IsBucket (step g.W.Whole.whole c.args.item).1 n c.decide_in.new.bucket) is.number c.in_ok-decide_in.ensures.bucket) c.requires.each
