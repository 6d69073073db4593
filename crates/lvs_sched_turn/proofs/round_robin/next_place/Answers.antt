use Rattle.std.proofs.Common.{◌≡◌, drop, Some, None, sym, ◌∙◌, ap}
use Rattle.std.specs.List.{position}
use Rattle.lvs_types.specs.declared.dest.Candidate.{Candidate}
use Rattle.lvs_sched_turn.proofs.Turns.{found_first, found_then, eligible_after, eligible_through, none_of_parts}
use Rattle.lvs_model.specs.RoundRobin.{through_last}
use Rattle.lvs_sched_turn.proofs.round_robin.next_place.Goals as goal

pub returns-in-Some : goal.returns-in-Some
returns-in-Some c =
    let found : position (λ (x : Candidate). x.eligible) (drop c.place_after-start.result c.args.servers.now) ≡ Some c.in-Some.further =
    sym (ap (position (λ (x : Candidate). x.eligible)) c.split_at.ensures.back) ∙ sym c.first_eligible.ensures.first ∙ c.in-Some.is
    in
    record {
      found = found_first (λ (x : Candidate). x.eligible) c.args.servers.now c.place_after-start.result c.in-Some.further _ (through_last c.args.servers.now c.args.cursor.now) c.place_after-start.ensures.after found;
      some = eligible_after c.args.servers.now c.place_after-start.result c.in-Some.further (rw (← c.split_at.ensures.back) c.in-Some.ensures.some);
      none = tt;
    }

pub returns-in-None : goal.returns-in-None
returns-in-None c =
    let none : position (λ (x : Candidate). x.eligible) (drop c.place_after-start.result c.args.servers.now) ≡ None =
    sym (ap (position (λ (x : Candidate). x.eligible)) c.split_at.ensures.back) ∙ sym c.first_eligible.ensures.first ∙ c.in-None.is
    in
    let later = sym (ap (position (λ (x : Candidate). x.eligible)) c.split_at.ensures.front) ∙ sym c.first_eligible-in-None.ensures.first in
    record {
      found = found_then (λ (x : Candidate). x.eligible) c.args.servers.now c.place_after-start.result _ _ _ c.place_after-start.ensures.after c.place_after-start.ensures.through none later;
      some = eligible_through c.args.servers.now c.place_after-start.result _ (rw (← c.split_at.ensures.front) c.first_eligible-in-None.ensures.some);
      none = none_of_parts (λ (x : Candidate). x.eligible) c.args.servers.now c.place_after-start.result _ none later;
    }
