-- A connection through every step and every run.
use Rattle.std.proofs.Common.{◌≡◌, ◌==◌, ◌<◌, ◌||◌, ℕ, Bool, true, false, cond, List, [], ◌∷◌, Option, Some, None, refl, sym, ap, subst, ◌∙◌, is_some, arith}
use Rattle.lvs_types.specs.declared.entry.Entry.{Entry}
use Rattle.lvs_types.specs.declared.item.Item.{Item}
use Rattle.lvs_types.specs.declared.item.Item.TheVariants as item
use Rattle.lvs_model.specs.State.{State}
use Rattle.lvs_model.specs.Step.{step, run}
use Rattle.lvs_model.specs.Reading.{read}
use Rattle.lvs_model.specs.Edits.{edit}
use Rattle.lvs_model.specs.SyncRules.{accept}
use Rattle.lvs_model.specs.WellFormed.{IsWellFormed, entry_ids}
use Rattle.lvs_well_formed.specs.Rising.{is_among}
use Rattle.lvs_well_formed.proofs.Parts.{Parts, parts_of}
use Rattle.lvs_well_formed.proofs.Entries.{IsEntryOf}
use Rattle.lvs_well_formed.proofs.Found.{stays_gone}
use Rattle.lvs_well_formed.proofs.Steps.{step_well_formed, step_rises, run_rises}
use Rattle.lvs_laws.specs.Keeping.{IsSameConnection, IsKeptUnless, entry_of_id, LeavesBy, LeavesIn}
use Rattle.lvs_laws.proofs.Kept.{IsKept, same_self, same_then, kept_found, kept_weaker, then_kept, drawn_below}
use Rattle.lvs_laws.proofs.KeptPackets.{incoming_kept, outgoing_kept}
use Rattle.lvs_laws.proofs.KeptTables.{sweep_kept, learn_by_kept, edit_same}

-- A STEP

step_parts_kept : (s : State) (e : Entry) (next : Item) → Parts s → IsEntryOf s e → IsKeptUnless (LeavesBy s e next) e (entry_of_id e.id (step s next).1.entries)
step_parts_kept s e (item.Incoming mark bytes) parts found = incoming_kept s mark bytes (read bytes) e refl parts found
step_parts_kept s e (item.Outgoing bytes) parts found = outgoing_kept s bytes (read bytes) e parts found
step_parts_kept s e (item.Edit c) parts found = kept_found ⊥ e e (entry_of_id e.id (edit s c).1.entries) (ap (λ es. entry_of_id e.id es) (edit_same s c) ∙ found) (same_self e)
step_parts_kept s e (item.Set setting) parts found = kept_found ⊥ e e (entry_of_id e.id s.entries) found (same_self e)
step_parts_kept s e (item.Learn sync_id i) parts found = learn_by_kept s sync_id i (accept s.daemons.backup sync_id i) e refl parts found
step_parts_kept s e (item.BadSync why) parts found = kept_found ⊥ e e (entry_of_id e.id s.entries) found (same_self e)
step_parts_kept s e (item.Tick moment) parts found = kept_found ⊥ e e (entry_of_id e.id s.entries) found (same_self e)
step_parts_kept s e (item.Sweep bucket) parts found = sweep_kept s bucket e parts found
step_parts_kept s e item.Reap parts found = kept_found ⊥ e e (entry_of_id e.id s.entries) found (same_self e)
step_parts_kept s e item.SendSync parts found = kept_found ⊥ e e (entry_of_id e.id s.entries) found (same_self e)

pub step_kept : (s : State) (e : Entry) (next : Item) → IsWellFormed s → entry_of_id e.id s.entries ≡ Some e → IsKeptUnless (LeavesBy s e next) e (entry_of_id e.id (step s next).1.entries)
step_kept s e next w found = step_parts_kept s e next (parts_of s w) found

-- A RUN

-- an id is among those of the entries where an entry is found under it
among_step : (b : Bool) (x : Entry) (o : Option Entry) (rest : Bool) → rest ≡ is_some o → (b || rest) ≡ is_some (cond b (Some x) o)
among_step true x o rest is = refl
among_step false x o rest is = is

among_found : (es : List Entry) (id : ℕ) → is_among (entry_ids es) id ≡ is_some (entry_of_id id es)
among_found [] id = refl
among_found (x ∷ es) id = among_step (x.id == id) x (entry_of_id id es) (is_among (entry_ids es) id) (among_found es id)

none_there : (o : Option Entry) → is_some o ≡ false → o ≡ None
none_there None is = refl
none_there (Some x) is = absurd cc

-- what has left never comes back
never_back : (s : State) (items : List Item) (id : ℕ) → IsWellFormed s → id < s.next_entry → entry_of_id id s.entries ≡ None → entry_of_id id (run s items).1.entries ≡ None
never_back s items id w below none =
    none_there (entry_of_id id (run s items).1.entries)
    (sym (among_found (run s items).1.entries id)
    ∙ stays_gone s.next_entry (entry_ids s.entries) (run s items).1.next_entry (entry_ids (run s items).1.entries) id (run_rises s items w).entries below (among_found s.entries id ∙ ap (λ (o : Option Entry). is_some o) none))

-- it leaves by a later item
leaves_later : (s : State) (e now : Entry) (next : Item) (items : List Item) → IsSameConnection e now → LeavesIn (step s next).1 now items → LeavesIn s e (next ∷ items)
leaves_later s e now next items same l = record {
  prefix = next ∷ l.prefix;
  leaves_by = l.leaves_by;
  rest = l.rest;
  cut = ap (λ later. next ∷ later) l.cut;
  last = l.last;
  there = subst (λ id. entry_of_id id (run (step s next).1 l.prefix).1.entries ≡ Some l.last) same.id l.there;
  same = same_then e now l.last same l.same;
  leaves = l.leaves;
}

-- by what the first item leaves under its id
run_by : (s : State) (e : Entry) (next : Item) (items : List Item) (o : Option Entry) → IsWellFormed s → entry_of_id e.id s.entries ≡ Some e → entry_of_id e.id (step s next).1.entries ≡ o → IsKeptUnless (LeavesBy s e next) e o
    → ((now : Entry) → entry_of_id now.id (step s next).1.entries ≡ Some now → IsKeptUnless (LeavesIn (step s next).1 now items) now (entry_of_id now.id (run (step s next).1 items).1.entries))
    → IsKeptUnless (LeavesIn s e (next ∷ items)) e (entry_of_id e.id (run s (next ∷ items)).1.entries)
run_by s e next items None w found is left goes_on =
    let t : State = (step s next).1 in
    let below : e.id < t.next_entry = let first = drawn_below s e (parts_of s w) found in let rises = (step_rises s next w).entries.next_id in omega (arith, first, rises) in
    let gone = never_back t items e.id (step_well_formed s next w) below is in
    subst (IsKeptUnless (LeavesIn s e (next ∷ items)) e) (sym gone)
    (record { prefix = []; leaves_by = next; rest = items; cut = refl; last = e; there = found; same = same_self e; leaves = left })
run_by s e next items (Some now) w found is same goes_on =
    let k : IsKept e (step s next).1.entries = record { later = now; found = is; same = same } in
    then_kept (LeavesIn s e (next ∷ items)) e (step s next).1.entries (run s (next ∷ items)).1.entries k
    (λ there. kept_weaker (LeavesIn (step s next).1 now items) (LeavesIn s e (next ∷ items)) now (entry_of_id now.id (run s (next ∷ items)).1.entries) (leaves_later s e now next items same) (goes_on now there))

pub run_kept : (s : State) (e : Entry) (items : List Item) → IsWellFormed s → entry_of_id e.id s.entries ≡ Some e → IsKeptUnless (LeavesIn s e items) e (entry_of_id e.id (run s items).1.entries)
run_kept s e [] w found = kept_found (LeavesIn s e []) e e (entry_of_id e.id s.entries) found (same_self e)
run_kept s e (next ∷ items) w found =
    run_by s e next items (entry_of_id e.id (step s next).1.entries) w found refl (step_kept s e next w found)
    (λ now there. run_kept (step s next).1 now items (step_well_formed s next w) there)
