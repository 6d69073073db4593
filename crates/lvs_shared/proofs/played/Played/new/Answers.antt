use Rattle.std.proofs.Common.{List, sym, subst}
use Rattle.lvs_types.specs.declared.bucket.Change.{Change}
use Rattle.lvs_shared.specs.Played.{IsPlayed}
use Rattle.lvs_shared.proofs.Begins.{played_none}
use Rattle.lvs_shared.proofs.played.Played.new.Goals as goal

pub invariant_of-result : goal.invariant_of-result
invariant_of-result c = subst (λ (l : List Change). IsPlayed c.args.origin.value c.args.board l) (sym c.new.ensures.items) (played_none c.args.origin.value c.args.board c.requires.opened c.requires.stands c.requires.book c.requires.steps)
