-- An item that is no tick leaves the moment, and is in range.
use Rattle.std.proofs.Common.{◌≡◌, ℕ, zero, suc, List, [], ◌∷◌, drop, get_or, refl, ap, subst}
use Rattle.std.specs.List.{AllByRecursion}
use Rattle.lvs_types.specs.declared.item.Item.{Item}
use Rattle.lvs_types.specs.declared.item.Item.TheVariants as item
use Rattle.lvs_model.specs.Step.{IsInRange}
use Rattle.lvs_well_formed.specs.Moments.{moment_after}
use Rattle.lvs_shared.specs.Openings.{IsTimeless, AreTimeless}

pub timeless_moment : (now : ℕ) (i : Item) → IsTimeless i → moment_after now i ≡ now
timeless_moment now (item.Tick moment) is = absurd is
timeless_moment now (item.Incoming mark bytes) is = refl
timeless_moment now (item.Outgoing bytes) is = refl
timeless_moment now (item.Edit command) is = refl
timeless_moment now (item.Set setting) is = refl
timeless_moment now (item.Learn sync_id record_item) is = refl
timeless_moment now (item.BadSync why) is = refl
timeless_moment now (item.Sweep bucket) is = refl
timeless_moment now item.Reap is = refl
timeless_moment now item.SendSync is = refl

pub timeless_range : (i : Item) → IsTimeless i → IsInRange i
timeless_range (item.Tick moment) is = absurd is
timeless_range (item.Incoming mark bytes) is = tt
timeless_range (item.Outgoing bytes) is = tt
timeless_range (item.Edit command) is = tt
timeless_range (item.Set setting) is = tt
timeless_range (item.Learn sync_id record_item) is = tt
timeless_range (item.BadSync why) is = tt
timeless_range (item.Sweep bucket) is = tt
timeless_range item.Reap is = tt
timeless_range item.SendSync is = tt

-- the next item of a list without a tick
next_timeless : (n : ℕ) (items : List Item) (i : Item) (rest : List Item) → AllByRecursion IsTimeless items → drop n items ≡ i ∷ rest → IsTimeless i
next_timeless zero [] i rest all is = absurd cc
next_timeless zero (x ∷ xs) i rest all is = subst IsTimeless (ap (head_or x) is) all.0
  where
    head_or : Item → List Item → Item
    head_or d [] = d
    head_or d (y ∷ ys) = y
next_timeless (suc n) [] i rest all is = absurd cc
next_timeless (suc n) (x ∷ xs) i rest all is = next_timeless n xs i rest all.1 is

pub planned_timeless : (lists : List (List Item)) (k n : ℕ) (i : Item) (rest : List Item) → AreTimeless lists → drop n (get_or lists k []) ≡ i ∷ rest → IsTimeless i
planned_timeless [] k zero i rest all is = absurd cc
planned_timeless [] k (suc n) i rest all is = absurd cc
planned_timeless (l ∷ ls) zero n i rest all is = next_timeless n l i rest all.0 is
planned_timeless (l ∷ ls) (suc k) n i rest all is = planned_timeless ls k n i rest all.1 is
