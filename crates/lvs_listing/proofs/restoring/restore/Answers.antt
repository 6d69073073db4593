use Rattle.std.proofs.Common.{◌≡◌, [], ◌<◌, true, false, ◌+◌, length, Err, refl, arith, rules}
use Rattle.lvs_model.specs.Lines.{lines_of, without_return}
use Rattle.lvs_model.specs.Restoring.{saved_commands}
use Rattle.lvs_listing.specs.declared.refused.RestoreRefused.TheVariants as refusal
use Rattle.lvs_lines.proofs.Cuts.{lines_cut, last_line, no_line}
use Rattle.lvs_listing.proofs.Commands.{lines_step, lines_stop, lines_done}
use Rattle.lvs_listing.proofs.restoring.restore.Goals as goal

pub loop-line-preserved : goal.loop-line-preserved
loop-line-preserved c =
    let cut = lines_cut c.loop-line.rest.now c.in-Some.line.now c.in-Some.after.now c.in-Some.ensures.value in
    let short : length c.in-Some.after.now < length c.loop-line.rest.now = c.in-Some.ensures.shorter in
    record {
      so_far = lines_step c.loop-line.number (without_return c.in-Some.line.now) c.without_return.result.now (lines_of c.in-Some.after.now) (lines_of c.loop-line.rest.now) c.loop-line.commands.items c.take_line.new.commands.items (saved_commands 1 (lines_of c.args.text.now)) c.without_return.ensures cut c.in_ok-take_line.ensures.ok c.loop-line.invariant.so_far;
      counted = omega arith;
    }

pub returns-in_err-take_line-clause-refused : goal.returns-in_err-take_line-clause-refused
returns-in_err-take_line-clause-refused c = λ line at cause is.
    let cut = lines_cut c.loop-line.rest.now c.in-Some.line.now c.in-Some.after.now c.in-Some.ensures.value in
    let given : c.take_line.result ≡ Err (refusal.Refused line at cause) = search rules in
    lines_stop c.loop-line.number (record { line = line; at = at; cause = cause }) (without_return c.in-Some.line.now) c.without_return.result.now (lines_of c.in-Some.after.now) (lines_of c.loop-line.rest.now) c.loop-line.commands.items (saved_commands 1 (lines_of c.args.text.now)) c.without_return.ensures cut (c.take_line.ensures.refused line at cause given) c.loop-line.invariant.so_far

pub returns-then-is_empty-clause-accepted : goal.returns-then-is_empty-clause-accepted
returns-then-is_empty-clause-accepted c =
    let ended : c.is_empty.result ≡ true = search rules in
    lines_done c.loop-line.number (lines_of c.loop-line.rest.now) c.loop-line.commands.items (saved_commands 1 (lines_of c.args.text.now)) (no_line c.loop-line.rest.now c.is_empty.result c.is_empty.ensures ended c.in_default.ensures.value) c.loop-line.invariant.so_far

pub returns-in_err-take_line-2-clause-refused : goal.returns-in_err-take_line-2-clause-refused
returns-in_err-take_line-2-clause-refused c = λ line at cause is.
    let full : c.is_empty.result ≡ false = search rules in
    let last = last_line c.loop-line.rest.now c.is_empty.result c.is_empty.ensures full c.in_default.ensures.value in
    let given : c.take_line-2.result ≡ Err (refusal.Refused line at cause) = search rules in
    lines_stop c.loop-line.number (record { line = line; at = at; cause = cause }) c.loop-line.rest.now c.loop-line.rest.now [] (lines_of c.loop-line.rest.now) c.loop-line.commands.items (saved_commands 1 (lines_of c.args.text.now)) refl last (c.take_line-2.ensures.refused line at cause given) c.loop-line.invariant.so_far

pub returns-clause-accepted : goal.returns-clause-accepted
returns-clause-accepted c =
    let full : c.is_empty.result ≡ false = search rules in
    let last = last_line c.loop-line.rest.now c.is_empty.result c.is_empty.ensures full c.in_default.ensures.value in
    let whole = saved_commands 1 (lines_of c.args.text.now) in
    lines_done (c.loop-line.number + 1) [] c.take_line-2.new.commands.items whole refl (lines_step c.loop-line.number c.loop-line.rest.now c.loop-line.rest.now [] (lines_of c.loop-line.rest.now) c.loop-line.commands.items c.take_line-2.new.commands.items whole refl last c.in_ok-take_line-2.ensures.ok c.loop-line.invariant.so_far)
