use Rattle.std.proofs.Common.{◌∙◌, ap}
use Rattle.lvs_book.specs.Passes.{Held}
use Rattle.lvs_model.specs.Buckets.{changed_by}
use Rattle.lvs_shared.specs.declared.origin.Act.{Act}
use Rattle.lvs_shared.specs.declared.origin.Opened.{Opened}
use Rattle.lvs_shared.proofs.Homes.{home_more}
use Rattle.lvs_shared.proofs.chamber.Chamber.enter.Goals as goal

pub invariant_of-self-in-Ok-commit_pair : goal.invariant_of-self-in-Ok-commit_pair
invariant_of-self-in-Ok-commit_pair g c =
    let r = c.in-Ok-commit_pair.ensures.ok in (
      ap (λ (p : Held Opened Act). p.book) r.2 ∙ c.self.invariant.0,
      c.self.invariant.1,
      home_more g.N.RoundName.book.origin c.self.inside.bucket c.apply.new.self c.self.inside.pass c.commit_pair.new.second r.0 c.in-Ok-commit_pair.change c.self.invariant.2 r.2 r.3.answered
          (c.apply.ensures.number ∙ c.prepare.ensures.number)
          (c.apply.ensures.buckets ∙ c.prepare.ensures.buckets)
          (c.apply.ensures.entries ∙ ap (changed_by c.in-Ok-commit_pair.change) c.prepare.ensures.entries),
    )
