-- What is left of lists in range is in range.
use Rattle.std.proofs.Common.{◌≡◌, ℕ, ◌+◌, zero, suc, Bool, true, false, cond, ◌==◌, List, [], ◌∷◌, None, set, slice_get, subst}
use Rattle.lvs_types.specs.declared.item.Item.{Item}
use Rattle.lvs_model.specs.Step.{AreInRange}
use Rattle.lvs_model.specs.Progress.{Queue}
use Rattle.lvs_check.specs.Queues.{next_in, next_of}
use Rattle.lvs_check.specs.Walks.{AreAllInRange}
use Rattle.lvs_check.proofs.ActLemmas.{queue_at, taken_pair, same_queue}

range_by : (b : Bool) (number : ℕ) (i first : Item) (items : List Item) (left : Queue) → cond b (taken_pair i (queue_at (number + 1) items)) None ≡ taken_pair first left → AreInRange (i ∷ items) → AreInRange left.items
range_by true number i first items left is are =
    subst (λ (q : Queue). AreInRange q.items) (same_queue i first (queue_at (number + 1) items) left is) are.1
range_by false number i first items left is are = cc

range_in : (number next : ℕ) (items : List Item) (first : Item) (left : Queue) → next_in number next items ≡ taken_pair first left → AreInRange items → AreInRange left.items
range_in number next [] first left is are = cc
range_in number next (i ∷ items) first left is are = range_by (number == next) number i first items left is are

pub range_set : (queues : List Queue) (actor number : ℕ) (first : Item) (left : Queue) → next_of number (slice_get queues actor) ≡ taken_pair first left → AreAllInRange queues → AreAllInRange (set queues actor left)
range_set [] actor number first left is are = cc
range_set (q ∷ queues) zero number first left is are = (range_in number q.next q.items first left is are.0, are.1)
range_set (q ∷ queues) (suc actor) number first left is are = (are.0, range_set queues actor number first left is are.1)
