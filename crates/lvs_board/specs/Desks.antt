-- What the desk stands for while an item is decided: its tables, and the entries as the change so far leaves them.
use Rattle.std.specs.Prelude.{◌≡◌, ◌+◌, ◌<◌, ◌≤◌, ◌^◌, ℕ, cond, List, Option, Some, IfSome, length, nat_eq, Bool, [], ◌∷◌, ◌++◌}
use Rattle.std.specs.List.{AllByRecursion, IsDistinct, find}
use Rattle.lvs_types.specs.declared.addr.DestId.{DestId}
use Rattle.lvs_types.specs.declared.addr.TemplateId.{TemplateId}
use Rattle.lvs_types.specs.declared.dest.Dest.{Dest}
use Rattle.lvs_types.specs.declared.entry.Key.{Key}
use Rattle.lvs_types.specs.declared.entry.Entry.{Entry}
use Rattle.lvs_types.specs.declared.template.Template.{Template}
use Rattle.lvs_types.specs.declared.bucket.Change.{Change}
use Rattle.lvs_types.specs.declared.bucket.Change.TheVariants.{Keep, Put, Update, End, Swap, EndDue}
use Rattle.lvs_model.specs.State.{State}
use Rattle.lvs_model.specs.Binding.{put_entry}
use Rattle.lvs_model.specs.Clock.{is_swept}
use Rattle.lvs_model.specs.Lists.{without}
use Rattle.lvs_model.specs.Counts.{active, inactive, counts_active, counts_inactive}
use Rattle.lvs_model.specs.Lookups.{has_entry_id, dest_at, template_at}
use Rattle.lvs_model.specs.WellFormed.{entry_ids, dest_ids, template_ids, HoldsOlder}
use Rattle.lvs_dests.specs.Rows.{dests_of}
use Rattle.lvs_templates.specs.Rows.{templates_of}
use Rattle.lvs_board.specs.declared.desk.Desk.{Desk}
use Rattle.lvs_board.specs.Seen.{TablesSeen}
use Rattle.lvs_board.specs.Stands.{state_in, AreTotalled}

abbrev pub seen_of : Desk → TablesSeen
seen_of d = record {
  now = d.moment;
  local = d.local;
  settings = d.settings;
  daemons = d.daemons;
  services = d.services;
  dests = d.dests;
  templates = d.templates.rows;
  pending = d.pending.items;
  next_entry = d.next_entry;
  next_template = d.next_template;
}

-- what a change makes of all entries: of those that are due only these leave
abbrev pub after : (Entry → Bool) → Change → List Entry → List Entry
after leaves Keep entries = entries
after leaves (Put e) entries = entries ++ e ∷ []
after leaves (Update e) entries = put_entry e entries
after leaves (End id) entries = without (has_entry_id id) entries
after leaves (Swap id e) entries = without (has_entry_id id) entries ++ e ∷ []
after leaves (EndDue moment) entries = without leaves entries

-- the state that it stands for, where the item began at the whole one
abbrev pub state_of : State → Desk → State
state_of whole d = state_in (seen_of d) (after (is_swept whole d.bucket) d.change whole.entries) whole.buckets

-- ids are apart and below the next ones, which are far from the end
pub record AreFew (s : State) : Type 0 where
  pub entries_apart : IsDistinct nat_eq (entry_ids s.entries)
  pub dests_apart : IsDistinct nat_eq (dest_ids s.dests)
  pub templates_apart : IsDistinct nat_eq (template_ids s.templates)
  pub below : AllByRecursion (λ (e : Entry). e.id < s.next_entry) s.entries
  pub templates_below : AllByRecursion (λ (t : Template). t.id.0 < s.next_template) s.templates
  pub few : length s.entries < s.next_entry
  pub few_templates : length s.templates < s.next_template
  pub young : s.next_entry ≤ 2 ^ 62
  pub young_templates : s.next_template ≤ 2 ^ 62

-- the key of an entry, and the template that made it
abbrev pub origin : Entry → Key × Option TemplateId
origin e = (e.key, e.template)

-- the entry of that id, if it is there, has this origin
abbrev pub IsKeyed : Key × Option TemplateId → ℕ → List Entry → Type 0
IsKeyed from id entries = IfSome (find (has_entry_id id) entries) (λ (e : Entry). origin e ≡ from)

-- the change so far is of the entry that was found for the item, and of a new one, whose id was drawn for it
abbrev pub IsOfItem : State → Option ℕ → Change → Type 0
IsOfItem whole home Keep = Unit {0}
IsOfItem whole home (Put e) = whole.next_entry ≤ e.id
IsOfItem whole home (Update e) = (home ≡ Some e.id) × IsKeyed (origin e) e.id whole.entries
IsOfItem whole home (End id) = home ≡ Some id
IsOfItem whole home (Swap id e) = (home ≡ Some id) × (whole.next_entry ≤ e.id)
IsOfItem whole home (EndDue moment) = moment ≡ whole.now

-- ids were drawn since the item began, and no entry was made before its template
pub record IsLater (whole : State) (next_entry next_template : ℕ) : Type 0 where
  pub entries : whole.next_entry ≤ next_entry
  pub templates : whole.next_template ≤ next_template
  pub made : AllByRecursion (HoldsOlder whole.next_template) whole.entries

pub record IsSound (whole : State) (d : Desk) : Type 0 where
  pub totals : AreTotalled (seen_of d) (state_of whole d)
  pub few : AreFew (state_of whole d)
  pub of_item : IsOfItem whole d.home d.change
  pub later : IsLater whole d.next_entry d.next_template

-- the entry of this id is that of the item: the one that was found, or the new one
abbrev pub IsAbout : Option ℕ → ℕ → Change → Type 0
IsAbout home id Keep = home ≡ Some id
IsAbout home id (Put e) = e.id ≡ id
IsAbout home id (Update e) = (e.id ≡ id) × (home ≡ Some id)
IsAbout home id (End other) = ⊥
IsAbout home id (Swap other e) = e.id ≡ id
IsAbout home id (EndDue moment) = ⊥

pub record Holds (whole : State) (d : Desk) (e : Entry) : Type 0 where
  pub found : find (has_entry_id e.id) (state_of whole d).entries ≡ Some e
  pub about : IsAbout d.home e.id d.change

-- no entry of the item is there
abbrev pub IsFree : Change → Type 0
IsFree Keep = Unit {0}
IsFree (Put e) = ⊥
IsFree (Update e) = ⊥
IsFree (End other) = Unit {0}
IsFree (Swap other e) = ⊥
IsFree (EndDue moment) = ⊥

-- the server is the one of its id
abbrev pub Serves : Desk → Dest → Type 0
Serves desk d = dest_at d.id (dests_of desk.dests.rows) ≡ Some d

-- the template is the one of its key
abbrev pub Gives : Desk → Template → Type 0
Gives desk t = template_at t.key (templates_of desk.templates.rows) ≡ Some t

abbrev pub with_change : Change → Desk → Desk
with_change change d = record d { change = change }

-- the change with a new entry
abbrev pub with_entry : Entry → Change → Change
with_entry e Keep = Put e
with_entry e (Put other) = Put e
with_entry e (Update other) = Put e
with_entry e (End id) = Swap id e
with_entry e (Swap id other) = Put e
with_entry e (EndDue moment) = Put e

-- the change with the entry of the item as it now is
abbrev pub with_update : Entry → Change → Change
with_update e Keep = Update e
with_update e (Put other) = Put e
with_update e (Update other) = Update e
with_update e (End id) = Update e
with_update e (Swap id other) = Swap id e
with_update e (EndDue moment) = Update e

-- the later list counts as the first one, and the entry more
pub record CountsMore (es later : List Entry) (v : Entry) : Type 0 where
  pub of_active : (id : DestId) → active id later ≡ active id es + cond (counts_active id v) 1 0
  pub of_inactive : (id : DestId) → inactive id later ≡ inactive id es + cond (counts_inactive id v) 1 0

-- the change once the entry of the item has left
abbrev pub with_end : ℕ → Change → Change
with_end id Keep = End id
with_end id (Put other) = Keep
with_end id (Update other) = End id
with_end id (End other) = End id
with_end id (Swap other e) = End other
with_end id (EndDue moment) = End id
