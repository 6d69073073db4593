-- Lists of servers that agree in all but what overloads them: whatever names a server finds it in both.
use Rattle.std.proofs.Common.{◌≡◌, ◌==◌, ℕ, Bool, true, false, cond, ◌&&◌, ◌||◌, List, [], ◌∷◌, Option, Some, None, refl, sym, ap, subst, map, is_some, ◌∙◌}
use Rattle.std.specs.List.{AllByRecursion}
use Rattle.lvs_types.specs.declared.addr.Addr.{Addr}
use Rattle.lvs_types.specs.declared.addr.DestId.{DestId}
use Rattle.lvs_types.specs.declared.dest.Dest.{Dest}
use Rattle.lvs_types.specs.declared.entry.Entry.{Entry}
use Rattle.lvs_types.specs.declared.template.Template.{Template}
use Rattle.lvs_model.specs.Same.{addr_eq}
use Rattle.lvs_model.specs.Lists.{update_first}
use Rattle.lvs_model.specs.Lookups.{dest_at}
use Rattle.lvs_model.specs.Incoming.{server_named}
use Rattle.lvs_model.specs.WellFormed.{IsThere, GoesTo, HasGoodThresholds, TemplateHasServer, place_of, Place, dest_ids, places}
use Rattle.lvs_well_formed.proofs.Lists.{all_both}
use Rattle.lvs_well_formed.proofs.Parts.{AreEntries, AreTemplates, IsSound}

-- the server that was found is found, at the same place
abbrev pub Stays : Option Dest → Option Dest → Type 0
Stays None o = Unit {0}
Stays (Some d) None = ⊥
Stays (Some d) (Some later) = place_of later ≡ place_of d

-- where one was found
pub stays_from : (o later : Option Dest) → ((d : Dest) → o ≡ Some d → Stays (Some d) later) → Stays o later
stays_from None later each = tt
stays_from (Some d) later each = each d refl

pub found_stays : (d later : Dest) (o : Option Dest) → o ≡ Some later → place_of later ≡ place_of d → Stays (Some d) o
found_stays d later None is place = absurd cc
found_stays d later (Some other) is place = let same : other ≡ later = cc in ap place_of same ∙ place

there_kept : (o later : Option Dest) → Stays o later → is_some o ≡ true → is_some later ≡ true
there_kept None later kept is = absurd cc
there_kept (Some d) None kept is = absurd kept
there_kept (Some d) (Some other) kept is = refl

abbrev serves_place : Addr → ℕ → ℕ → Place → Bool
serves_place daddr dport vport place = addr_eq place.addr daddr && ((place.port == dport) || ((place.port == 0) && (dport == vport)))

goes_kept : (e : Entry) (o later : Option Dest) → Stays o later → is_some o ≡ true → GoesTo e o → GoesTo e later
goes_kept e None later kept is goes = absurd cc
goes_kept e (Some d) None kept is goes = absurd kept
goes_kept e (Some d) (Some other) kept is goes = subst (λ place. serves_place e.daddr e.dport e.key.vport place ≡ true) (sym kept) goes

-- a server that is named stays
abbrev pub StaysNamed : List Dest → List Dest → Option DestId → Type 0
StaysNamed ds later None = Unit {0}
StaysNamed ds later (Some id) = Stays (dest_at id ds) (dest_at id later)

pub named_kept : (ds later : List Dest) (o : Option DestId) → StaysNamed ds later o → IsThere ds o → IsThere later o
named_kept ds later None kept there = tt
named_kept ds later (Some id) kept there = there_kept (dest_at id ds) (dest_at id later) kept there

goes_named : (ds later : List Dest) (e : Entry) (o : Option DestId) → StaysNamed ds later o → IsThere ds o → GoesTo e (server_named o ds) → GoesTo e (server_named o later)
goes_named ds later e None kept there goes = tt
goes_named ds later e (Some id) kept there goes = goes_kept e (dest_at id ds) (dest_at id later) kept there goes

pub sound_kept : (next : ℕ) (ds later : List Dest) (e : Entry) → StaysNamed ds later e.server → IsSound next ds e → IsSound next later e
sound_kept next ds later e kept sound = record {
  server = named_kept ds later e.server kept sound.server;
  goes = goes_named ds later e e.server kept sound.server sound.goes;
  template = sound.template;
  state = sound.state;
}

pub entries_stay : (next next_template : ℕ) (ds later : List Dest) (es : List Entry) → AllByRecursion (λ (e : Entry). StaysNamed ds later e.server) es → AreEntries next next_template ds es → AreEntries next next_template later es
entries_stay next next_template ds later es kept are = record {
  ids = are.ids;
  keys = are.keys;
  each = all_both (λ (e : Entry). StaysNamed ds later e.server) (IsSound next_template ds) (IsSound next_template later) es (λ e stays sound. sound_kept next_template ds later e stays sound) kept are.each;
}

pub templates_stay : (next : ℕ) (ds later : List Dest) (ts : List Template) → AllByRecursion (λ (t : Template). StaysNamed ds later t.server) ts → AreTemplates next ds ts → AreTemplates next later ts
templates_stay next ds later ts kept are = record {
  ids = are.ids;
  keys = are.keys;
  servers = all_both (λ (t : Template). StaysNamed ds later t.server) (TemplateHasServer ds) (TemplateHasServer later) ts (λ t stays there. named_kept ds later t.server stays there) kept are.servers;
}

-- where every server stays, each one that is named does
pub all_named : (ds later : List Dest) → ((id : DestId) → Stays (dest_at id ds) (dest_at id later)) → (o : Option DestId) → StaysNamed ds later o
all_named ds later each None = tt
all_named ds later each (Some id) = each id

-- ONE SERVER BY ONE

-- the same server: in id, place and life, and with thresholds that are good where they were
pub record IsAlike (d later : Dest) : Type 0 where
  pub id : later.id ≡ d.id
  pub place : place_of later ≡ place_of d
  pub live : later.live ≡ d.live
  pub thresholds : HasGoodThresholds d → HasGoodThresholds later

abbrev pub AreAlike : List Dest → List Dest → Type 0
AreAlike [] [] = Unit {0}
AreAlike [] (later ∷ others) = ⊥
AreAlike (d ∷ ds) [] = ⊥
AreAlike (d ∷ ds) (later ∷ others) = IsAlike d later × AreAlike ds others

pub alike_itself : (d : Dest) → IsAlike d d
alike_itself d = record { id = refl; place = refl; live = refl; thresholds = λ good. good }

pub all_alike_itself : (ds : List Dest) → AreAlike ds ds
all_alike_itself [] = tt
all_alike_itself (d ∷ ds) = (alike_itself d, all_alike_itself ds)

pub map_alike : (f : Dest → Dest) (ds : List Dest) → ((d : Dest) → IsAlike d (f d)) → AreAlike ds (map f ds)
map_alike f [] each = tt
map_alike f (d ∷ ds) each = (each d, map_alike f ds each)

pub update_alike : (p : Dest → Bool) (f : Dest → Dest) (ds : List Dest) → ((d : Dest) → p d ≡ true → IsAlike d (f d)) → AreAlike ds (update_first p f ds)
update_alike p f [] each = tt
update_alike p f (d ∷ ds) each =
    let Q : Bool → Type 0 = λ b. (b ≡ true → IsAlike d (f d)) → AreAlike (d ∷ ds) (cond b (f d ∷ ds) (d ∷ update_first p f ds)) in
    (elim (p d) as Q [ true ↦ (λ here. (here refl, all_alike_itself ds)) | false ↦ (λ here. (alike_itself d, update_alike p f ds each)) ]) (each d)

pub ids_alike : (ds later : List Dest) → AreAlike ds later → dest_ids later ≡ dest_ids ds
ids_alike [] [] alike = refl
ids_alike [] (other ∷ others) alike = absurd alike
ids_alike (d ∷ ds) [] alike = absurd alike
ids_alike (d ∷ ds) (other ∷ others) alike = let first = alike.0.id in let rest = ids_alike ds others alike.1 in cc

pub places_alike : (ds later : List Dest) → AreAlike ds later → places later ≡ places ds
places_alike [] [] alike = refl
places_alike [] (other ∷ others) alike = absurd alike
places_alike (d ∷ ds) [] alike = absurd alike
places_alike (d ∷ ds) (other ∷ others) alike = let first : place_of other ≡ place_of d = alike.0.place in let rest = places_alike ds others alike.1 in ap (λ place. place ∷ places others) first ∙ ap (λ rest_places. place_of d ∷ rest_places) rest

pub all_alike : (P Q : Dest → Type 0) (ds later : List Dest) → ((d other : Dest) → IsAlike d other → P d → Q other) → AreAlike ds later → AllByRecursion P ds → AllByRecursion Q later
all_alike P Q [] [] step alike each = tt
all_alike P Q [] (other ∷ others) step alike each = absurd alike
all_alike P Q (d ∷ ds) [] step alike each = absurd alike
all_alike P Q (d ∷ ds) (other ∷ others) step alike each = (step d other alike.0 each.0, all_alike P Q ds others step alike.1 each.1)
