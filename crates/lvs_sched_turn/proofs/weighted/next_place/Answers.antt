use Rattle.std.proofs.Common.{◌≡◌, ◌&&◌, leb, drop, Some, None, sym, ◌∙◌, ap}
use Rattle.std.specs.List.{position}
use Rattle.lvs_types.specs.declared.dest.Candidate.{Candidate}
use Rattle.lvs_sched_turn.proofs.Turns.{found_after, none_after, eligible_after, none_passes}
use Rattle.lvs_sched_turn.proofs.weighted.next_place.Goals as goal

pub returns-in-Some : goal.returns-in-Some
returns-in-Some c =
    let found : position (λ (x : Candidate). x.eligible && leb c.args.weight x.weight) (drop c.args.start c.args.servers.now) ≡ Some c.in-Some.further =
    sym (ap (position (λ (x : Candidate). x.eligible && leb c.args.weight x.weight)) c.split_at.ensures.back) ∙ sym c.first_of_weight.ensures.first ∙ c.in-Some.is
    in
    record {
      found = found_after (λ (x : Candidate). x.eligible && leb c.args.weight x.weight) c.args.servers.now c.args.start c.in-Some.further found;
      some = eligible_after c.args.servers.now c.args.start c.in-Some.further (rw (← c.split_at.ensures.back) c.in-Some.ensures.some);
      none = tt;
    }

pub returns-in-None : goal.returns-in-None
returns-in-None c =
    let none : position (λ (x : Candidate). x.eligible && leb c.args.weight x.weight) (drop c.args.start c.args.servers.now) ≡ None =
    sym (ap (position (λ (x : Candidate). x.eligible && leb c.args.weight x.weight)) c.split_at.ensures.back) ∙ sym c.first_of_weight.ensures.first ∙ c.in-None.is
    in
    record {
      found = none_after (λ (x : Candidate). x.eligible && leb c.args.weight x.weight) c.args.servers.now c.args.start none;
      some = tt;
      none = none_passes (λ (x : Candidate). x.eligible && leb c.args.weight x.weight) (drop c.args.start c.args.servers.now) none;
    }
