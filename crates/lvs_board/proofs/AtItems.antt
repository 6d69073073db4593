-- A change of the desk is one of the item.
use Rattle.std.proofs.Common.{◌≡◌, ℕ, Option, Some, sym, ◌∙◌, subst}
use Rattle.std.specs.Prelude.{IfSome}
use Rattle.std.specs.List.{find}
use Rattle.lvs_types.specs.declared.entry.Entry.{Entry}
use Rattle.lvs_types.specs.declared.bucket.Change.{Change}
use Rattle.lvs_types.specs.declared.bucket.Change.TheVariants.{Keep, Put, Update, End, Swap, EndDue}
use Rattle.lvs_model.specs.State.{State}
use Rattle.lvs_model.specs.Lookups.{has_entry_id}
use Rattle.lvs_model.specs.Clock.{is_swept}
use Rattle.lvs_board.specs.declared.desk.Desk.{Desk}
use Rattle.lvs_board.specs.declared.desk.Sweep.{Sweep}
use Rattle.lvs_board.specs.Desks.{after, with_entry, Holds, IsAbout, IsFree, IsSound}
use Rattle.lvs_board.specs.Homes.{IsSweptAt}
use Rattle.lvs_board.specs.AtItems.{IsAtItem, IsSweepOf}

about_swept : (sweep home : Option ℕ) (buckets bucket id : ℕ) (change : Change) → IsAbout home id change → IsSweptAt sweep buckets bucket change
about_swept sweep home buckets bucket id Keep about = tt
about_swept sweep home buckets bucket id (Put e) about = tt
about_swept sweep home buckets bucket id (Update e) about = tt
about_swept sweep home buckets bucket id (End other) about = tt
about_swept sweep home buckets bucket id (Swap other e) about = tt
about_swept sweep home buckets bucket id (EndDue moment) about = absurd about

free_swept : (sweep : Option ℕ) (buckets bucket : ℕ) (change : Change) → IsFree change → IsSweptAt sweep buckets bucket change
free_swept sweep buckets bucket Keep free = tt
free_swept sweep buckets bucket (Put e) free = tt
free_swept sweep buckets bucket (Update e) free = tt
free_swept sweep buckets bucket (End other) free = tt
free_swept sweep buckets bucket (Swap other e) free = tt
free_swept sweep buckets bucket (EndDue moment) free = absurd free

entry_swept : (sweep : Option ℕ) (buckets bucket : ℕ) (e : Entry) (change : Change) → IsSweptAt sweep buckets bucket (with_entry e change)
entry_swept sweep buckets bucket e Keep = tt
entry_swept sweep buckets bucket e (Put other) = tt
entry_swept sweep buckets bucket e (Update other) = tt
entry_swept sweep buckets bucket e (End id) = tt
entry_swept sweep buckets bucket e (Swap id other) = tt
entry_swept sweep buckets bucket e (EndDue moment) = tt

at_change : (whole : State) (home sweep : Option ℕ) (old new : Desk) → IsAtItem whole home sweep old → IsSound whole new → new.home ≡ old.home → new.sweep ≡ old.sweep → IsSweptAt sweep whole.buckets new.bucket new.change → IsAtItem whole home sweep new
at_change whole home sweep old new at sound homes sweeps swept = record {
  sound = sound;
  found = homes ∙ at.found;
  ready = subst (λ (o : Option Sweep). IfSome o (IsSweepOf whole sweep)) (sym sweeps) at.ready;
  swept = swept;
}

-- the change is as before
pub at_kept : (whole : State) (home sweep : Option ℕ) (old new : Desk) → IsAtItem whole home sweep old → IsSound whole new → new.home ≡ old.home → new.sweep ≡ old.sweep → new.bucket ≡ old.bucket → new.change ≡ old.change → IsAtItem whole home sweep new
at_kept whole home sweep old new at sound homes sweeps buckets changes =
    at_change whole home sweep old new at sound homes sweeps
    (subst (λ n. IsSweptAt sweep whole.buckets n new.change) (sym buckets) (subst (λ c. IsSweptAt sweep whole.buckets old.bucket c) (sym changes) at.swept))

-- the change is of an entry that is held
pub at_held : (whole : State) (home sweep : Option ℕ) (old new : Desk) (e : Entry) → IsAtItem whole home sweep old → IsSound whole new → Holds whole new e → new.home ≡ old.home → new.sweep ≡ old.sweep → IsAtItem whole home sweep new
at_held whole home sweep old new e at sound holds homes sweeps = at_change whole home sweep old new at sound homes sweeps (about_swept sweep new.home whole.buckets new.bucket e.id new.change holds.about)

-- the entry of the item has left
pub at_freed : (whole : State) (home sweep : Option ℕ) (old new : Desk) → IsAtItem whole home sweep old → IsSound whole new → IsFree new.change → new.home ≡ old.home → new.sweep ≡ old.sweep → IsAtItem whole home sweep new
at_freed whole home sweep old new at sound free homes sweeps = at_change whole home sweep old new at sound homes sweeps (free_swept sweep whole.buckets new.bucket new.change free)

-- a new entry came
pub at_entered : (whole : State) (home sweep : Option ℕ) (old new : Desk) (e : Entry) → IsAtItem whole home sweep old → IsSound whole new → new.change ≡ with_entry e old.change → new.home ≡ old.home → new.sweep ≡ old.sweep → IsAtItem whole home sweep new
at_entered whole home sweep old new e at sound is homes sweeps =
    at_change whole home sweep old new at sound homes sweeps (subst (λ c. IsSweptAt sweep whole.buckets new.bucket c) (sym is) (entry_swept sweep whole.buckets new.bucket e old.change))

-- the entry of the item is held as before
pub holds_kept : (whole : State) (old new : Desk) (e : Entry) → Holds whole old e → new.home ≡ old.home → new.bucket ≡ old.bucket → new.change ≡ old.change → Holds whole new e
holds_kept whole old new e holds homes buckets changes = record {
  found =
      subst (λ n. find (has_entry_id e.id) (after (is_swept whole n) new.change whole.entries) ≡ Some e) (sym buckets)
      (subst (λ c. find (has_entry_id e.id) (after (is_swept whole old.bucket) c whole.entries) ≡ Some e) (sym changes) holds.found);
  about =
      subst (λ o. IsAbout o e.id new.change) (sym homes) (subst (λ c. IsAbout old.home e.id c) (sym changes) holds.about);
}
