-- An item begins where the board stands for a state, and ends where it stands for the next one.
use Rattle.std.proofs.Common.{◌≡◌, ◌<◌, ◌^◌, ℕ, Bool, true, false, List, [], ◌∷◌, ◌||◌, Option, refl, sym, ap, subst, ◌∙◌, map, length, arith, nat_eq}
use Rattle.std.proofs.lemmas.Bool.Decides.{nat_tests}
use Rattle.std.proofs.lemmas.Map.Steps.{length-le_from_distinct_below}
use Rattle.std.specs.List.{AllByRecursion, list_any}
use Rattle.lvs_types.specs.declared.entry.Entry.{Entry}
use Rattle.lvs_types.specs.declared.template.Template.{Template}
use Rattle.lvs_types.specs.declared.book.Noted.{Noted}
use Rattle.lvs_types.specs.declared.bucket.Change.TheVariants.{Keep}
use Rattle.lvs_model.specs.State.{State}
use Rattle.lvs_model.specs.Counts.{row_of}
use Rattle.lvs_model.specs.Counted.{IsCounted}
use Rattle.lvs_model.specs.WellFormed.{IsWellFormed, IsDrawn, AreDrawn, entry_ids, template_ids}
use Rattle.lvs_templates.specs.Rows.{template_row}
use Rattle.lvs_well_formed.proofs.Lists.{all_weaker, all_unmap}
use Rattle.lvs_well_formed.proofs.Distinct.{distinct_cons}
use Rattle.lvs_board.specs.declared.desk.Desk.{Desk}
use Rattle.lvs_board.specs.declared.desk.Sweep.{Sweep}
use Rattle.lvs_board.specs.Seen.{TablesSeen, BoardSeen}
use Rattle.lvs_board.specs.Stands.{state_in, AreTotalled, StandsFor}
use Rattle.lvs_board.specs.Desks.{seen_of, state_of, AreFew, IsSound}

-- FEW IDS WERE DRAWN

among_step : (next q x : ℕ) (b rest : Bool) → nat_eq q x ≡ b → x < next → (b || rest) ≡ true → (rest ≡ true → q < next) → q < next
among_step next q x true rest is small among later = grind (arith, nat_tests)
among_step next q x false rest is small among later = later among

among_drawn : (next q : ℕ) (ids : List ℕ) → AllByRecursion (IsDrawn next) ids → list_any (nat_eq q) ids ≡ true → q < next
among_drawn next q [] each among = absurd cc
among_drawn next q (x ∷ ids) each among = among_step next q x (nat_eq q x) (list_any (nat_eq q) ids) refl each.0.1 among (λ later. among_drawn next q ids each.1 later)

with_zero : (next q : ℕ) (ids : List ℕ) → AreDrawn next ids → list_any (nat_eq q) (0 ∷ ids) ≡ true → q < next
with_zero next q ids drawn among = among_step next q 0 (nat_eq q 0) (list_any (nat_eq q) ids) refl (omega (arith, drawn.begins)) among (λ later. among_drawn next q ids drawn.each later)

not_zero : (next x : ℕ) → IsDrawn next x → nat_eq 0 x ≡ false
not_zero next x drawn = let one = drawn.0 in grind (arith, nat_tests)

-- as many ids as there are below the next one, 0 left out
pub few_drawn : (next : ℕ) (ids : List ℕ) → AreDrawn next ids → length ids < next
few_drawn next ids drawn =
    let all = length-le_from_distinct_below (0 ∷ ids) next
    (distinct_cons nat_eq 0 ids (all_weaker (IsDrawn next) (λ x. nat_eq 0 x ≡ false) ids (λ x is. not_zero next x is) drawn.each) drawn.apart)
    (λ q among. with_zero next q ids drawn among) in
    omega (arith, all)

map_length : {X : Type 0} (f : X → ℕ) (xs : List X) → length (map f xs) ≡ length xs
map_length f [] = refl
map_length f (x ∷ xs) = omega (arith, map_length f xs)

pub begins_few : (s : State) (steps : ℕ) → IsWellFormed s → IsCounted steps s → steps < 2 ^ 62 → AreFew s
begins_few s steps well counted young = record {
  entries_apart = well.entry_ids.apart;
  dests_apart = well.dest_ids.apart;
  templates_apart = well.template_ids.apart;
  below = all_weaker (λ (e : Entry). IsDrawn s.next_entry e.id) (λ (e : Entry). e.id < s.next_entry) s.entries (λ e drawn. drawn.1) (all_unmap (IsDrawn s.next_entry) (λ (e : Entry). e.id) s.entries well.entry_ids.each);
  templates_below = all_weaker (λ (t : Template). IsDrawn s.next_template t.id.0) (λ (t : Template). t.id.0 < s.next_template) s.templates (λ t drawn. drawn.1) (all_unmap (IsDrawn s.next_template) (λ (t : Template). t.id.0) s.templates well.template_ids.each);
  few = omega (arith, few_drawn s.next_entry (entry_ids s.entries) well.entry_ids, map_length (λ (e : Entry). e.id) s.entries);
  few_templates = omega (arith, few_drawn s.next_template (template_ids s.templates) well.template_ids, map_length (λ (t : Template). t.id.0) s.templates);
  young = omega (arith, young, counted.numbers.next_entry);
  young_templates = omega (arith, young, counted.numbers.next_template);
}

-- AN ITEM BEGINS

abbrev board_of : List Noted → ℕ → Desk → BoardSeen
board_of book steps d = record { tables = seen_of d; book = book; steps = steps }

abbrev begun : Option ℕ → Option Sweep → Desk → Desk
begun home sweep d = record d { home = home; sweep = sweep; change = Keep }

pub begins_sound : (whole : State) (d : Desk) (home : Option ℕ) (sweep : Option Sweep) (book : List Noted) (steps : ℕ) → StandsFor (board_of book steps d) whole → IsWellFormed whole → IsCounted steps whole → steps < 2 ^ 62 → IsSound whole (begun home sweep d)
begins_sound whole d home sweep book steps stands well counted young = record {
  totals = subst (AreTotalled (seen_of d)) (sym stands.tables) stands.totals;
  few = subst AreFew (sym stands.tables) (begins_few whole steps well counted young);
  of_item = tt;
  later = record {
    entries = let same = ap (λ (s : State). s.next_entry) stands.tables in omega (arith, same);
    templates = let same = ap (λ (s : State). s.next_template) stands.tables in omega (arith, same);
    made = well.entry_templates;
  };
}

-- AN ITEM ENDS

again : (t : TablesSeen) (entries : List Entry) (buckets : ℕ) (next : State) → state_in t entries buckets ≡ next → state_in t next.entries next.buckets ≡ next
again t entries buckets next is = subst (λ (s : State). state_in t s.entries s.buckets ≡ s) is refl

pub ends_standing : (whole next : State) (d : Desk) (book : List Noted) (steps : ℕ) → IsSound whole d → state_of whole d ≡ next → StandsFor (board_of book steps d) next
ends_standing whole next d book steps sound is = record {
  tables = again (seen_of d) (state_of whole d).entries whole.buckets next is;
  totals = subst (AreTotalled (seen_of d)) is sound.totals;
}

-- all that the tables are is told by the state
abbrev told : State → TablesSeen
told s = record {
  now = s.now;
  local = s.local;
  settings = s.settings;
  daemons = s.daemons;
  services = s.services;
  dests = record { rows = map (row_of s.entries s.templates) s.dests; next = s.next_dest };
  templates = map (template_row s.entries) s.templates;
  pending = s.pending;
  next_entry = s.next_entry;
  next_template = s.next_template;
}

seen_told : (whole : State) (d : Desk) → IsSound whole d → seen_of d ≡ told (state_of whole d)
seen_told whole d sound =
    ap (λ rows. record (seen_of d) { dests = record d.dests { rows = rows } }) sound.totals.servers
    ∙ ap (λ templates. record (seen_of d) { dests = (told (state_of whole d)).dests; templates = templates }) sound.totals.controls

-- where the state is as before, so are the tables
pub same_tables : (whole : State) (before after : Desk) → IsSound whole before → IsSound whole after → state_of whole after ≡ state_of whole before → seen_of after ≡ seen_of before
same_tables whole before after sound later is = seen_told whole after later ∙ ap told is ∙ sym (seen_told whole before sound)
