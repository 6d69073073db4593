-- A director begins well formed, and every step and every run keeps it so.
use Rattle.std.proofs.Common.{ℕ, List, [], ◌∷◌, refl, lit≤, nat_eq}
use Rattle.lvs_types.specs.declared.addr.Addr.{Addr}
use Rattle.lvs_types.specs.declared.item.Item.{Item}
use Rattle.lvs_types.specs.declared.item.Item.TheVariants as item
use Rattle.lvs_model.specs.State.{State, initial}
use Rattle.lvs_model.specs.Same.{key_eq, service_key_eq, template_key_eq}
use Rattle.lvs_model.specs.Reading.{read}
use Rattle.lvs_model.specs.Step.{step, run}
use Rattle.lvs_model.specs.WellFormed.{IsWellFormed, AreDrawn, place_eq}
use Rattle.lvs_well_formed.specs.Rising.{IdsRise}
use Rattle.lvs_well_formed.proofs.Distinct.{distinct_none}
use Rattle.lvs_well_formed.proofs.Parts.{Parts, After, stays, then_after, parts_of, whole_of}
use Rattle.lvs_well_formed.proofs.Entries.{with_pending}
use Rattle.lvs_well_formed.proofs.Packets.{incoming_after, outgoing_after}
use Rattle.lvs_well_formed.proofs.Learns.{learn_after}
use Rattle.lvs_well_formed.proofs.Clocks.{with_clock, sweep_after, reap_after}
use Rattle.lvs_well_formed.proofs.Edits.{edit_after, set_after}

none_drawn : AreDrawn 1 []
none_drawn = record { begins = lit≤ tt; each = tt; apart = distinct_none nat_eq }

pub initial_well_formed : (local : Addr) (buckets : ℕ) → IsWellFormed (initial local buckets)
initial_well_formed local buckets = record {
  service_keys = distinct_none service_key_eq;
  entry_keys = distinct_none key_eq;
  template_keys = distinct_none template_key_eq;
  entry_ids = none_drawn;
  dest_ids = none_drawn;
  template_ids = none_drawn;
  places = distinct_none place_eq;
  live_dests = tt;
  thresholds = tt;
  cursors = tt;
  entry_servers = tt;
  template_servers = tt;
  bound_entries = tt;
  entry_templates = tt;
  entry_states = tt;
  pending = λ none. refl;
}

pub step_after : (s : State) (i : Item) → Parts s → After s (step s i).1
step_after s (item.Incoming mark bytes) p = incoming_after s mark bytes (read bytes) p
step_after s (item.Outgoing bytes) p = outgoing_after s bytes (read bytes) p
step_after s (item.Edit edit_command) p = edit_after s edit_command p
step_after s (item.Set setting) p = set_after s setting p
step_after s (item.Learn sync_id record_item) p = learn_after s sync_id record_item p
step_after s (item.BadSync why) p = stays s p
step_after s (item.Tick moment) p = with_clock s moment s.settings s.daemons (λ none. none) p
step_after s (item.Sweep bucket) p = sweep_after s bucket p
step_after s item.Reap p = reap_after s p
step_after s item.SendSync p = with_pending s [] (λ none. refl) p

pub run_after : (s : State) (items : List Item) → Parts s → After s (run s items).1
run_after s [] p = stays s p
run_after s (i ∷ items) p = then_after s (step s i).1 (run s (i ∷ items)).1 (step_after s i p) (λ q. run_after (step s i).1 items q)

pub step_well_formed : (s : State) (i : Item) → IsWellFormed s → IsWellFormed (step s i).1
step_well_formed s i w = whole_of (step s i).1 (step_after s i (parts_of s w)).parts

pub step_rises : (s : State) (i : Item) → IsWellFormed s → IdsRise s (step s i).1
step_rises s i w = (step_after s i (parts_of s w)).ids

pub run_well_formed : (s : State) (items : List Item) → IsWellFormed s → IsWellFormed (run s items).1
run_well_formed s items w = whole_of (run s items).1 (run_after s items (parts_of s w)).parts

pub run_rises : (s : State) (items : List Item) → IsWellFormed s → IdsRise s (run s items).1
run_rises s items w = (run_after s items (parts_of s w)).ids
