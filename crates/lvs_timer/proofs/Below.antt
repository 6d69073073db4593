-- Timers whose ids are below a number: that number isn't armed, and may be.
use Rattle.std.proofs.Common.{◌≡◌, ℕ, ◌+◌, ◌<◌, List, None, arith, false}
use Rattle.std.specs.List.{AllByRecursion, find}
use Rattle.std.proofs.lemmas.Bool.{ne_eqb}
use Rattle.lvs_model.specs.Lists.{insert_by}
use Rattle.lvs_model.proofs.OrderLemmas.{all_weaker, all_insert, find_none}
use Rattle.lvs_timer.specs.declared.timer.Timer.{Timer}
use Rattle.lvs_timer.specs.Timers.{has_id}

pub below_new : (n : ℕ) (ts : List Timer) → AllByRecursion (λ (t : Timer). t.id < n) ts → find (has_id n) ts ≡ None
below_new n ts all = find_none (has_id n) ts (all_weaker (λ (t : Timer). t.id < n) (λ t. has_id n t ≡ false) (λ t less. ne_eqb t.id n (λ same. omega arith)) ts all)

pub below_next : (n deadline : ℕ) (ts : List Timer) → AllByRecursion (λ (t : Timer). t.id < n) ts → AllByRecursion (λ (t : Timer). t.id < n + 1) (insert_by (λ (t : Timer). t.id) (record { id = n; deadline = deadline }) ts)
below_next n deadline ts all =
    all_insert (λ (t : Timer). t.id < n + 1) (λ (t : Timer). t.id) (record { id = n; deadline = deadline }) ts (omega arith)
    (all_weaker (λ (t : Timer). t.id < n) (λ (t : Timer). t.id < n + 1) (λ t less. omega arith) ts all)
