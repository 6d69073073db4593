use Rattle.std.proofs.Common.{◌≡◌, ℕ, ◌++◌, ◌∷◌, [], subst, rules}
use Rattle.lvs_book.specs.Lanes.{stands}
use Rattle.lvs_shared.specs.declared.origin.Act.{Act}
use Rattle.lvs_shared.specs.Works.{PairedSeen, PairedFirst}
use Rattle.lvs_shared.proofs.Working.{paired_may, paired_lanes, paired_first}
use Rattle.lvs_shared.proofs.paired.PairedWorkPlayed.work.Goals as goal

pub play-requires : goal.play-requires
play-requires c =
    let w : PairedSeen = record { placed = c.self.inside.placed; found = c.self.inside.found; own = c.self.inside.own.value; home = c.self.inside.home.value } in
    paired_may c.args.value.now w c.in-Some-replace.placed c.self.invariant.apart (search rules) (search rules) (search rules) c.in-Some.found (search rules)

pub returns-in-Ok-clause-ok : goal.returns-in-Ok-clause-ok
returns-in-Ok-clause-ok c =
    let w : PairedSeen = record { placed = c.self.inside.placed; found = c.self.inside.found; own = c.self.inside.own.value; home = c.self.inside.home.value } in
    let r = c.in-Ok.ensures.ok in
    let lanes = paired_lanes c.args.value.now w c.in-Some-replace.placed c.self.invariant.apart (search rules) (search rules) (search rules) r.0 r.4 in
    let first = paired_first c.args.value.now w c.in-Some-replace.placed c.self.invariant.apart (search rules) (search rules) (search rules) r.0 c.in-Ok.change (search rules) r.4 r.3 r.5 in
    subst (λ (v : PairedSeen). (a : Act) × (c.play.new.self.acts ≡ c.args.value.now.acts ++ a ∷ []) × (c.play.new.self.origin ≡ c.args.value.now.origin) × ((k : ℕ) → stands k a.lanes ≡ stands k (v.home.lane ∷ v.own.lane ∷ [])) × PairedFirst v a c.in-Ok.change) c.self.view_is (r.0, r.1, r.2, lanes, first)
