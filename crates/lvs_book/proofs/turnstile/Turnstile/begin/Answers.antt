use Rattle.std.proofs.Common.{◌++◌, ◌∷◌, [], sym, ap, subst, ◌∙◌, arith}
use Rattle.lvs_book.specs.Lanes.{new_lanes}
use Rattle.lvs_book.specs.Rule.{Kept}
use Rattle.lvs_book.specs.Steps.{at_rest}
use Rattle.atomic_table.specs.Table.{opening}
use Rattle.lvs_book.proofs.Opening.{opens}
use Rattle.lvs_book.proofs.turnstile.Turnstile.begin.Goals as goal

pub new-requires : goal.new-requires
new-requires g c = let o = g.T.Journal.origin c.of.result.value in
    subst (λ xs. Kept g.T.Journal.origin g.T.Journal.acts g.T.Journal.names c.args.passes o (opening (0 ∷ 0 ∷ 0 ∷ []) xs (at_rest (new_lanes o 0 c.args.passes)))) (sym (c.push_reserved.ensures.items ∙ ap (λ l. l ++ c.args.value ∷ []) c.in-Ok-with_capacity.ensures.items))
    (opens _ _ _ _ _ c.args.value (omega (arith, c.ranges.passes.fits)) (ap g.T.Journal.origin (sym c.of.ensures)) c.requires.empty)
