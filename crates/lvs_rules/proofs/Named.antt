-- A server that was looked up is there by its id, and nothing names the next id.
use Rattle.std.proofs.Common.{◌≡◌, ◌<◌, ℕ, Bool, true, false, ◌&&◌, not, List, [], ◌∷◌, Option, Some, None, is_some, if◌then◌else◌, refl, sym, ap, subst, ◌∙◌, arith}
use Rattle.std.proofs.lemmas.Bool.{ne_eqb}
use Rattle.std.specs.List.{AllByRecursion, count_by, find}
use Rattle.lvs_types.specs.declared.addr.Addr.{Addr}
use Rattle.lvs_types.specs.declared.addr.DestId.{DestId}
use Rattle.lvs_types.specs.declared.dest.Dest.{Dest}
use Rattle.lvs_types.specs.declared.entry.Entry.{Entry}
use Rattle.lvs_types.specs.declared.service.Service.{Service}
use Rattle.lvs_types.specs.declared.template.Template.{Template}
use Rattle.lvs_model.proofs.OrderLemmas.{count_zero}
use Rattle.lvs_model.specs.Binding.{binding_in, serves_at, server_for_entry}
use Rattle.lvs_model.specs.Counts.{active, counts_active, counts_inactive, inactive, template_count}
use Rattle.lvs_model.specs.Lookups.{dest_at, find_service, has_dest_id, is_server_of}
use Rattle.lvs_model.specs.Same.{dest_eq}
use Rattle.lvs_model.specs.State.{State}
use Rattle.lvs_model.specs.Timeouts.{is_active}
use Rattle.lvs_model.specs.WellFormed.{dest_ids, HasServer, IsDrawn, IsThere, IsWellFormed, TemplateHasServer}
use Rattle.lvs_rules.specs.Bounds.{IsNextUnnamed}
use Rattle.lvs_rules.specs.TooLong.{IfThere}
use Rattle.lvs_well_formed.proofs.Finds.{find_cases}
use Rattle.lvs_well_formed.proofs.Keys.{dest_id_true, nat_same}
use Rattle.lvs_well_formed.proofs.Lists.{all_find, all_unmap, all_weaker, find_passes}

-- A SERVER THAT WAS LOOKED UP

found_first : {X : Type 0} (b : Bool) (y : X) (o : Option X) → b ≡ true → is_some (if b then Some y else o) ≡ true
found_first true y o passes = refl
found_first false y o passes = absurd cc

found_later : {X : Type 0} (b : Bool) (y : X) (o : Option X) → is_some o ≡ true → is_some (if b then Some y else o) ≡ true
found_later true y o there = refl
found_later false y o there = there

-- what one search finds and another one accepts is found by that one too, it or one before it
found_also : {X : Type 0} (p q : X → Bool) (xs : List X) (x : X) → find p xs ≡ Some x → q x ≡ true → is_some (find q xs) ≡ true
found_also p q [] x is passes = absurd cc
found_also p q (y ∷ ys) x is passes =
    find_cases (p y) x y (find p ys) (is_some (find q (y ∷ ys)) ≡ true) is (λ _ same. found_first (q y) y (find q ys) (subst (λ z. q z ≡ true) (sym same) passes))
    (λ _ later. found_later (q y) y (find q ys) (found_also p q ys x later passes))

there_as : (p : Dest → Bool) (ds : List Dest) (o : Option Dest) → find p ds ≡ o → IfThere ds o
there_as p ds None is = tt
there_as p ds (Some d) is = found_also p (has_dest_id d.id) ds d is (nat_same d.id.0)

pub there_by_id : (id : DestId) (ds : List Dest) → IfThere ds (dest_at id ds)
there_by_id id ds = there_as (has_dest_id id) ds (dest_at id ds) refl

bound_there : (o : Option Service) (daddr : Addr) (dport vport : ℕ) (ds : List Dest) → IfThere ds (binding_in o daddr dport vport ds)
bound_there None daddr dport vport ds = tt
bound_there (Some service) daddr dport vport ds =
    let p : Dest → Bool = λ d. is_server_of service.key d && serves_at daddr dport vport d in there_as p ds (find p ds) refl

pub there_for_entry : (services : List Service) (ds : List Dest) (e : Entry) → IfThere ds (server_for_entry services ds e)
there_for_entry services ds e = bound_there (find_service e.key.proto e.key.vaddr e.key.vport e.mark services) e.daddr e.dport e.key.vport ds

-- THE NEXT ID

below_found : (next : ℕ) (id : DestId) (ds : List Dest) (o : Option Dest) → AllByRecursion (λ (d : Dest). IsDrawn next d.id.0) ds → dest_at id ds ≡ o → is_some o ≡ true → id.0 < next
below_found next id ds None drawn is there = absurd cc
below_found next id ds (Some d) drawn is there =
    subst (λ (i : DestId). i.0 < next) (dest_id_true d.id id (find_passes (has_dest_id id) ds d is)) (all_find (λ (e : Dest). IsDrawn next e.id.0) (has_dest_id id) ds d drawn is).1

not_next : (next : ℕ) (ds : List Dest) (o : Option DestId) → AllByRecursion (λ (d : Dest). IsDrawn next d.id.0) ds → IsThere ds o → dest_eq o (record { 0 = next }) ≡ false
not_next next ds None drawn there = refl
not_next next ds (Some id) drawn there =
    let below = below_found next id ds (dest_at id ds) drawn refl there in ne_eqb id.0 next (λ same. absurd (omega (arith, below, same)))

neither : (a b : Bool) → a ≡ false → (a && b) ≡ false
neither true b is = absurd cc
neither false b is = refl

pub unnamed_next : (s : State) → IsWellFormed s → IsNextUnnamed s
unnamed_next s well =
    let next : DestId = record { 0 = s.next_dest } in
    let drawn = all_unmap (IsDrawn s.next_dest) (λ (d : Dest). d.id.0) s.dests well.dest_ids.each in
    let other : (o : Option DestId) → IsThere s.dests o → dest_eq o next ≡ false = λ o there. not_next s.next_dest s.dests o drawn there in
    let of_active : active next s.entries ≡ 0 =
    count_zero (counts_active next) s.entries (all_weaker (HasServer s.dests) (λ (e : Entry). counts_active next e ≡ false) s.entries (λ e there. neither (dest_eq e.server next) (is_active e.state) (other e.server there)) well.entry_servers) in
    let of_inactive : inactive next s.entries ≡ 0 =
    count_zero (counts_inactive next) s.entries (all_weaker (HasServer s.dests) (λ (e : Entry). counts_inactive next e ≡ false) s.entries (λ e there. neither (dest_eq e.server next) (not (is_active e.state)) (other e.server there)) well.entry_servers) in
    let of_templates : template_count next s.templates ≡ 0 =
    count_zero (λ (t : Template). dest_eq t.server next) s.templates (all_weaker (TemplateHasServer s.dests) (λ (t : Template). dest_eq t.server next ≡ false) s.templates (λ t there. other t.server there) well.template_servers) in
    omega (arith, of_active, of_inactive, of_templates)
