use Rattle.std.proofs.Common.{◌∙◌, ap, sym, List, [], ◌∷◌, ◌++◌}
use Rattle.lvs_types.specs.declared.script.ScriptLine.{ScriptLine}
use Rattle.lvs_model.specs.Generated.{client_line, client_lines}
use Rattle.lvs_script.proofs.Numbers.{map_more}
use Rattle.lvs_script.proofs.generator.client_lines.Goals as goal

pub loop-number-preserved : goal.loop-number-preserved
loop-number-preserved c =
    c.in_ok-push.ensures.items
    ∙ ap (λ (lines : List ScriptLine). lines ++ c.in_ok-client_line.field-0 ∷ []) c.loop-number.invariant
    ∙ ap (λ (line : ScriptLine). client_lines c.args.flags c.loop-number.number ++ line ∷ []) c.in_ok-client_line.ensures
    ∙ sym (map_more (client_line c.args.flags) c.loop-number.number)
