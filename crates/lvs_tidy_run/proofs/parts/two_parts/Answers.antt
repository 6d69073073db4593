use Rattle.std.proofs.Common.{true, false, sym, ◌∙◌, arith}
use Rattle.lvs_tidy_run.proofs.PartLemmas.{at_start, at_next, first_found, second_found, first_at_end, first_missed, second_at_end}
use Rattle.lvs_tidy_run.proofs.parts.two_parts.Goals as goal

pub loop-line-init : goal.loop-line-init
loop-line-init c = record { passed = at_start c.args.word.now c.args.input.now; within = omega arith }

pub loop-line-preserved : goal.loop-line-preserved
loop-line-preserved c = record {
  passed = at_next c.args.word.now c.args.input.now c.loop-line.rest.now c.in-Some.line.now c.in-Some.after.now c.loop-line.invariant.passed c.in-Some.ensures.value (sym c.is_line.ensures ∙ c.if-is_line.false);
  within = omega (arith, c.in-Some.ensures.shorter, c.loop-line.invariant.within);
}

pub returns-then-is_line-clause-first : goal.returns-then-is_line-clause-first
returns-then-is_line-clause-first c =
    c.front_of.ensures ∙ first_found c.args.word.now c.args.input.now c.loop-line.rest.now c.in-Some.line.now c.in-Some.after.now c.loop-line.invariant.passed c.in-Some.ensures.value (sym c.is_line.ensures ∙ c.if-is_line.true)

pub returns-then-is_line-clause-second : goal.returns-then-is_line-clause-second
returns-then-is_line-clause-second c =
    second_found c.args.word.now c.args.input.now c.loop-line.rest.now c.in-Some.line.now c.in-Some.after.now c.loop-line.invariant.passed c.in-Some.ensures.value (sym c.is_line.ensures ∙ c.if-is_line.true)

pub returns-then-is_same-clause-first : goal.returns-then-is_same-clause-first
returns-then-is_same-clause-first c =
    c.front_of-then-is_same.ensures ∙ first_at_end c.args.word.now c.args.input.now c.loop-line.rest.now c.loop-line.invariant.passed c.in_default.ensures.value (sym c.is_same.ensures ∙ c.if-is_same.true)

pub returns-then-is_same-clause-second : goal.returns-then-is_same-clause-second
returns-then-is_same-clause-second c =
    c.nothing_behind.ensures ∙ second_at_end c.args.word.now c.args.input.now c.loop-line.rest.now true c.loop-line.invariant.passed c.in_default.ensures.value (sym c.is_same.ensures ∙ c.if-is_same.true)

pub returns-clause-first : goal.returns-clause-first
returns-clause-first c =
    first_missed c.args.word.now c.args.input.now c.loop-line.rest.now c.loop-line.invariant.passed c.in_default.ensures.value (sym c.is_same.ensures ∙ c.if-is_same.false)

pub returns-clause-second : goal.returns-clause-second
returns-clause-second c =
    c.nothing_behind-2.ensures ∙ second_at_end c.args.word.now c.args.input.now c.loop-line.rest.now false c.loop-line.invariant.passed c.in_default.ensures.value (sym c.is_same.ensures ∙ c.if-is_same.false)
