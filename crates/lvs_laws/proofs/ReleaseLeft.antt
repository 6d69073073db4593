-- Servers that leave their services, and servers in the trash that are released.
use Rattle.std.proofs.Common.{◌≡◌, ◌==◌, Bool, true, false, cond, not, ◌&&◌, List, [], ◌∷◌, Option, Some, None, refl, sym, subst, ◌∙◌}
use Rattle.std.proofs.lemmas.Bool.{false_from_ne_true, eqb-true, eq-eqb}
use Rattle.std.specs.List.{AllByRecursion, find, filter, filter_map, cons_option}
use Rattle.lvs_types.specs.declared.dest.Dest.{Dest}
use Rattle.lvs_types.specs.declared.entry.Entry.{Entry}
use Rattle.lvs_types.specs.declared.template.Template.{Template}
use Rattle.lvs_types.specs.declared.item.Item.{Item}
use Rattle.lvs_types.specs.declared.item.Item.TheVariants as item
use Rattle.lvs_model.specs.State.{State}
use Rattle.lvs_model.specs.Counts.{refs}
use Rattle.lvs_model.specs.Lookups.{dest_at, has_dest_id}
use Rattle.lvs_model.specs.Edits.{leaving, remove_dests, trashed}
use Rattle.lvs_model.specs.Clock.{reaped_templates, is_released, reap}
use Rattle.lvs_model.specs.WellFormed.{IsWellFormed}
use Rattle.lvs_well_formed.proofs.Lists.{all_weaker}
use Rattle.lvs_well_formed.proofs.Finds.{find_filter, find_filter_map}
use Rattle.lvs_well_formed.proofs.Keys.{dest_id_true}
use Rattle.lvs_well_formed.proofs.Found.{dests_by_id}
use Rattle.lvs_well_formed.proofs.Removals.{left_keeps}
use Rattle.lvs_laws.specs.Releasing.{IsServerOf, IsGone, IsReleasedBy, IsReapedIn, StaysOrIsReleased}
use Rattle.lvs_laws.proofs.ReleaseKept.{same_server}

-- the server is the only one of its id
pub only_one : (s : State) (d : Dest) → IsWellFormed s → IsServerOf s d → AllByRecursion (λ (x : Dest). has_dest_id d.id x ≡ true → x ≡ d) s.dests
only_one s d w found =
    all_weaker (λ (x : Dest). dest_at x.id s.dests ≡ Some x) (λ (x : Dest). has_dest_id d.id x ≡ true → x ≡ d) s.dests
    (λ x there here. let at_d : dest_at d.id s.dests ≡ Some x = subst (λ i. dest_at i s.dests ≡ Some x) (dest_id_true x.id d.id here) there in cc) (dests_by_id s w)

none_at : {X : Type 0} (b : Bool) (y : X) (o : Option X) → b ≡ false → o ≡ None → cond b (Some y) o ≡ None
none_at true y o is none = absurd cc
none_at false y o is none = none

none_option : {X : Type 0} (p : X → Bool) (o : Option X) (ys : List X) → ((y : X) → o ≡ Some y → p y ≡ false) → find p ys ≡ None → find p (cons_option o ys) ≡ None
none_option p None ys differs none = none
none_option p (Some y) ys differs none = none_at (p y) y (find p ys) (differs y refl) none

-- none is found where each that passes leaves
none_left : {X : Type 0} (p : X → Bool) (h : X → Option X) (xs : List X) → ((a b : X) → h a ≡ Some b → p b ≡ p a) → AllByRecursion (λ x. p x ≡ true → h x ≡ None) xs → find p (filter_map h xs) ≡ None
none_left p h [] same each = refl
none_left p h (x ∷ xs) same each =
    none_option p (h x) (filter_map h xs)
    (λ y is. false_from_ne_true (p y) (λ passes. let none = each.0 (sym (same x y is) ∙ passes) in absurd cc))
    (none_left p h xs same each.1)

-- none is found where each that passes is left out
none_filtered : {X : Type 0} (p q : X → Bool) (xs : List X) → AllByRecursion (λ x. p x ≡ true → q x ≡ false) xs → find p (filter q xs) ≡ None
none_filtered p q [] each = refl
none_filtered p q (x ∷ xs) each =
    let M : Bool → Type 0 = λ b. (p x ≡ true → b ≡ false) → find p (cond b (x ∷ filter q xs) (filter q xs)) ≡ None in
    (elim (q x) as M [
      | true ↦ (λ out. none_at (p x) x (find p (filter q xs)) (false_from_ne_true (p x) (λ passes. let wrong : true ≡ false = out passes in absurd cc)) (none_filtered p q xs each.1))
      | false ↦ (λ out. none_filtered p q xs each.1)
    ]) each.0

-- REMOVALS

-- a server that passes is released, goes to the trash, or stays
left_none : (x none : Bool) (d : Dest) → x ≡ true → none ≡ true → cond x (cond none None (Some (record d { live = false }))) (Some d) ≡ None
left_none true true d is also = refl
left_none true false d is also = absurd cc
left_none false none d is also = absurd cc

left_trashed : (x none : Bool) (d : Dest) → x ≡ true → none ≡ false → cond x (cond none None (Some (record d { live = false }))) (Some d) ≡ Some (record d { live = false })
left_trashed true true d is also = absurd cc
left_trashed true false d is also = refl
left_trashed false none d is also = absurd cc

left_there : (x none : Bool) (d : Dest) → x ≡ false → cond x (cond none None (Some (record d { live = false }))) (Some d) ≡ Some d
left_there true none d is = absurd cc
left_there false none d is = refl

same_id : (q : Dest → Bool) (es : List Entry) (ts : List Template) (d a b : Dest) → leaving q es ts a ≡ Some b → has_dest_id d.id b ≡ has_dest_id d.id a
same_id q es ts d a b is = left_keeps (λ (x : Dest). has_dest_id d.id x ≡ has_dest_id d.id a) q es ts a b is (λ _. refl) (λ _. refl)

pub released_gone : (s : State) (q : Dest → Bool) (d : Dest) → IsWellFormed s → IsServerOf s d → leaving q s.entries s.templates d ≡ None → dest_at d.id (remove_dests q s.entries s.templates s.dests) ≡ None
released_gone s q d w found leaves =
    none_left (has_dest_id d.id) (leaving q s.entries s.templates) s.dests (λ a b is. same_id q s.entries s.templates d a b is)
    (all_weaker (λ (x : Dest). has_dest_id d.id x ≡ true → x ≡ d) (λ (x : Dest). has_dest_id d.id x ≡ true → leaving q s.entries s.templates x ≡ None) s.dests
    (λ x is here. subst (λ y. leaving q s.entries s.templates y ≡ None) (sym (is here)) leaves) (only_one s d w found))

left_found : (s : State) (q : Dest → Bool) (d later : Dest) → IsServerOf s d → leaving q s.entries s.templates d ≡ Some later → dest_at d.id (remove_dests q s.entries s.templates s.dests) ≡ Some later
left_found s q d later found is = find_filter_map (has_dest_id d.id) (leaving q s.entries s.templates) s.dests d later (λ a b becomes. same_id q s.entries s.templates d a b becomes) found is

left_by : (s : State) (next : Item) (q : Dest → Bool) (d : Dest) (x none : Bool) → q d ≡ x → (refs d.id s.entries s.templates == 0) ≡ none → IsWellFormed s → IsServerOf s d → (q d ≡ true → refs d.id s.entries s.templates ≡ 0 → IsReleasedBy s d next)
    → StaysOrIsReleased s next d (dest_at d.id (remove_dests q s.entries s.templates s.dests))
left_by s next q d true true is unnamed w found released =
    subst (StaysOrIsReleased s next d) (sym (released_gone s q d w found (left_none (q d) (refs d.id s.entries s.templates == 0) d is unnamed)))
    (released is (eqb-true (refs d.id s.entries s.templates) 0 unnamed))
left_by s next q d true false is named w found released =
    let dead : Dest = record d { live = false } in
    subst (StaysOrIsReleased s next d) (sym (left_found s q d dead found (left_trashed (q d) (refs d.id s.entries s.templates == 0) d is named))) (same_server d dead refl refl)
left_by s next q d false none is also w found released =
    subst (StaysOrIsReleased s next d) (sym (left_found s q d d found (left_there (q d) (refs d.id s.entries s.templates == 0) d is))) (same_server d d refl refl)

-- where the servers that pass leave their services
pub left_becomes : (s : State) (next : Item) (q : Dest → Bool) (d : Dest) → IsWellFormed s → IsServerOf s d → (q d ≡ true → refs d.id s.entries s.templates ≡ 0 → IsReleasedBy s d next)
    → StaysOrIsReleased s next d (dest_at d.id (remove_dests q s.entries s.templates s.dests))
left_becomes s next q d w found released = left_by s next q d (q d) (refs d.id s.entries s.templates == 0) refl refl w found released

leaves_as : (x : Bool) (t o : Option Dest) (d : Dest) → x ≡ true → t ≡ o → cond x t (Some d) ≡ o
leaves_as true t o d is same = same
leaves_as false t o d is same = absurd cc

-- a server that passes is there no more, or is there in the trash
pub left_as : (s : State) (q : Dest → Bool) (d : Dest) (o : Option Dest) → IsWellFormed s → IsServerOf s d → q d ≡ true → trashed d (refs d.id s.entries s.templates) ≡ o → dest_at d.id (remove_dests q s.entries s.templates s.dests) ≡ o
left_as s q d None w found passes is = released_gone s q d w found (leaves_as (q d) (trashed d (refs d.id s.entries s.templates)) None d passes is)
left_as s q d (Some later) w found passes is = left_found s q d later found (leaves_as (q d) (trashed d (refs d.id s.entries s.templates)) (Some later) d passes is)

-- REAPS

abbrev is_kept_by : State → Dest → Bool
is_kept_by s d = not (is_released s.entries (reaped_templates s) d)

stays_in : (live none : Bool) → (not live && none) ≡ false → not (not live && none) ≡ true
stays_in true none is = refl
stays_in false true is = absurd cc
stays_in false false is = refl

out_of : (live none : Bool) → live ≡ false → none ≡ true → not (not live && none) ≡ false
out_of true none trashed is = absurd cc
out_of false true trashed is = refl
out_of false false trashed is = absurd cc

trashed_of : (live none : Bool) → (not live && none) ≡ true → live ≡ false
trashed_of true none is = absurd cc
trashed_of false none is = refl

unnamed_of : (live none : Bool) → (not live && none) ≡ true → none ≡ true
unnamed_of true none is = absurd cc
unnamed_of false none is = is

pub reaped_gone : (s : State) (d : Dest) → IsWellFormed s → IsServerOf s d → IsReapedIn s d → IsGone (reap s).1 d.id
reaped_gone s d w found reaped =
    none_filtered (has_dest_id d.id) (is_kept_by s) s.dests
    (all_weaker (λ (x : Dest). has_dest_id d.id x ≡ true → x ≡ d) (λ (x : Dest). has_dest_id d.id x ≡ true → is_kept_by s x ≡ false) s.dests
    (λ x is here. subst (λ y. is_kept_by s y ≡ false) (sym (is here))
    (out_of d.live (refs d.id s.entries (reaped_templates s) == 0) reaped.trashed (eq-eqb (refs d.id s.entries (reaped_templates s)) 0 reaped.unnamed))) (only_one s d w found))

reaped_by : (s : State) (d : Dest) (b : Bool) → is_released s.entries (reaped_templates s) d ≡ b → IsWellFormed s → IsServerOf s d → StaysOrIsReleased s item.Reap d (dest_at d.id (reap s).1.dests)
reaped_by s d true is w found =
    let none = refs d.id s.entries (reaped_templates s) == 0 in
    let reaped : IsReapedIn s d = record { trashed = trashed_of d.live none is; unnamed = eqb-true (refs d.id s.entries (reaped_templates s)) 0 (unnamed_of d.live none is) } in
    subst (StaysOrIsReleased s item.Reap d) (sym (reaped_gone s d w found reaped)) reaped
reaped_by s d false is w found =
    subst (StaysOrIsReleased s item.Reap d) (sym (find_filter (has_dest_id d.id) (is_kept_by s) s.dests d found (stays_in d.live (refs d.id s.entries (reaped_templates s) == 0) is))) (same_server d d refl refl)

pub reap_becomes : (s : State) (d : Dest) → IsWellFormed s → IsServerOf s d → StaysOrIsReleased s item.Reap d (dest_at d.id (reap s).1.dests)
reap_becomes s d w found = reaped_by s d (is_released s.entries (reaped_templates s) d) refl w found
