use Rattle.std.proofs.Common.{◌≡◌, ◌∙◌, arith, rules}
use Rattle.lvs_run.proofs.streams.serve_streams.Goals as goal

pub returns-clause-complete : goal.returns-clause-complete
returns-clause-complete g c = λ command input task good told short is calm quiet.
    let start : c.new-sink.result.faults ≡ 0 = search rules in
    c.serve-done.ensures.complete command input task good (c.new-source.ensures.left ∙ told) short is (λ rose. omega (arith, rose, calm, c.new-source.ensures.faults)) (λ rose. omega (arith, rose, quiet, start))

pub returns-clause-refused_too : goal.returns-clause-refused_too
returns-clause-refused_too g c = λ command input refused good told short is calm.
    c.serve-done.ensures.refused_too command input refused good (c.new-source.ensures.left ∙ told) short is (λ rose. omega (arith, rose, calm, c.new-source.ensures.faults))

pub returns-clause-short : goal.returns-clause-short
returns-clause-short g c = rw (← c.new-source.ensures.left) c.serve-done.ensures.short
