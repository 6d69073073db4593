-- What the check of a report knows so far, and how many steps are left to it.
use Rattle.std.specs.Prelude.{ℕ, ◌+◌, ◌*◌, ◌^◌, ◌≤◌, List, [], ◌∷◌, length}
use Rattle.std.specs.List.{AllByRecursion}
use Rattle.lvs_types.specs.declared.script.Round.{Round}
use Rattle.lvs_model.specs.Step.{AreInRange}
use Rattle.lvs_model.specs.Plans.{items_of_lines}
use Rattle.lvs_model.specs.Progress.{Queue, Progress}
use Rattle.lvs_model.specs.ScriptLimits.{AreMoments}
use Rattle.lvs_check.specs.declared.walk.Walk.{Walk}

abbrev pub progress_of : Walk → Progress
progress_of w = record {
  number = w.number;
  rounds = w.rounds.now;
  state = w.director.state;
  place = w.place;
  queues = w.queues.items;
  shown = w.shown.items;
  due = w.due;
}

abbrev pub items_left : List Queue → ℕ
items_left [] = 0
items_left (q ∷ queues) = length q.items + items_left queues

-- no round has more steps: each of 19 lists holds at most its lines' items, and the clock's holds 258
abbrev pub steps_in : List Round → ℕ
steps_in [] = 0
steps_in (round ∷ rounds) = 18 * length (items_of_lines round) + 259 + steps_in rounds

abbrev pub AreAllInRange : List Queue → Type 0
AreAllInRange queues = AllByRecursion (λ (q : Queue). AreInRange q.items) queues

-- the director can take all that is left, and the numbers are at most its steps
pub record IsFit (w : Walk) : Type 0 where
  pub moments : AreMoments w.rounds.now
  pub in_range : AreAllInRange w.queues.items
  pub number : w.number ≤ w.director.steps
  pub place : w.place ≤ w.director.steps
  pub young : w.director.steps + items_left w.queues.items + steps_in w.rounds.now ≤ 2 ^ 62
