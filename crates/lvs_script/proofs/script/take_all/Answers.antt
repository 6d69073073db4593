use Rattle.std.proofs.Common.{◌≡◌, sym, [], ◌<◌, false, length, Err, refl, arith, rules}
use Rattle.lvs_model.specs.Lines.{lines_of, without_return}
use Rattle.lvs_model.specs.Scripts.{take_lines}
use Rattle.lvs_script.specs.declared.stop.ScriptRefused.TheVariants as refusal
use Rattle.lvs_lines.proofs.Cuts.{lines_cut, last_line}
use Rattle.lvs_script.proofs.LineLemmas.{lines_step, lines_stop}
use Rattle.lvs_script.proofs.script.take_all.Goals as goal

pub loop-line-preserved : goal.loop-line-preserved
loop-line-preserved c =
    let cut = lines_cut c.loop-line.rest.now c.in-Some.line.now c.in-Some.after.now c.in-Some.ensures.value in
    let short : length c.in-Some.after.now < length c.loop-line.rest.now = c.in-Some.ensures.shorter in
    record {
      so_far = lines_step c.loop-line.number (without_return c.in-Some.line.now) c.without_return.result.now (lines_of c.in-Some.after.now) (lines_of c.loop-line.rest.now) c.loop-line.reader c.take_numbered.new.reader (take_lines 1 (lines_of c.args.text.now) c.args.reader.now) c.without_return.ensures cut c.in_ok-take_numbered.ensures.ok c.loop-line.invariant.so_far;
      counted = omega arith;
    }

pub returns-in_err-take_numbered-clause-refused : goal.returns-in_err-take_numbered-clause-refused
returns-in_err-take_numbered-clause-refused c = λ at cause is.
    let cut = lines_cut c.loop-line.rest.now c.in-Some.line.now c.in-Some.after.now c.in-Some.ensures.value in
    let given : c.take_numbered.result ≡ Err (refusal.Refused at cause) = search rules in
    lines_stop c.loop-line.number at (without_return c.in-Some.line.now) c.without_return.result.now (lines_of c.in-Some.after.now) (lines_of c.loop-line.rest.now) c.loop-line.reader cause (take_lines 1 (lines_of c.args.text.now) c.args.reader.now) c.without_return.ensures cut (c.take_numbered.ensures.refused at cause given) c.loop-line.invariant.so_far

pub returns-in_err-take_numbered-2-clause-refused : goal.returns-in_err-take_numbered-2-clause-refused
returns-in_err-take_numbered-2-clause-refused c = λ at cause is.
    let full : c.is_empty.result ≡ false = search rules in
    let last = last_line c.loop-line.rest.now c.is_empty.result c.is_empty.ensures full c.in_default.ensures.value in
    let given : c.take_numbered-then-not-is_empty.result ≡ Err (refusal.Refused at cause) = search rules in
    lines_stop c.loop-line.number at c.loop-line.rest.now c.loop-line.rest.now [] (lines_of c.loop-line.rest.now) c.loop-line.reader cause (take_lines 1 (lines_of c.args.text.now) c.args.reader.now) refl last (c.take_numbered-then-not-is_empty.ensures.refused at cause given) c.loop-line.invariant.so_far

pub returns-in_ok-take_numbered-2-clause-ok : goal.returns-in_ok-take_numbered-2-clause-ok
returns-in_ok-take_numbered-2-clause-ok c =
    let full : c.is_empty.result ≡ false = search rules in
    let last = last_line c.loop-line.rest.now c.is_empty.result c.is_empty.ensures full c.in_default.ensures.value in
    sym (lines_step c.loop-line.number c.loop-line.rest.now c.loop-line.rest.now [] (lines_of c.loop-line.rest.now) c.loop-line.reader c.take_numbered-then-not-is_empty.new.reader (take_lines 1 (lines_of c.args.text.now) c.args.reader.now) refl last c.in_ok-take_numbered-2.ensures.ok c.loop-line.invariant.so_far)
