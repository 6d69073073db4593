-- The state that the desk stands for once a server has another specification.
use Rattle.std.proofs.Common.{◌≡◌, ℕ, Bool, true, false, cond, List, [], ◌∷◌, refl, sym, ap, subst, ◌∙◌, map, nat_eq}
use Rattle.std.proofs.lemmas.Bool.{and_parts, both_ways, eqb-true, false_from_ne_true}
use Rattle.std.specs.List.{AllByRecursion, IsDistinct}
use Rattle.lvs_types.specs.declared.addr.Addr.{Addr}
use Rattle.lvs_types.specs.declared.service.ServiceKey.{ServiceKey}
use Rattle.lvs_types.specs.declared.dest.Dest.{Dest}
use Rattle.lvs_types.specs.declared.dest.DestSpec.{DestSpec}
use Rattle.lvs_types.specs.declared.dest.DestRow.{DestRow}
use Rattle.lvs_types.specs.declared.entry.Entry.{Entry}
use Rattle.lvs_types.specs.declared.template.Template.{Template}
use Rattle.lvs_model.specs.State.{State}
use Rattle.lvs_model.specs.Same.{addr_eq, service_key_eq}
use Rattle.lvs_model.specs.Lists.{update_first}
use Rattle.lvs_model.specs.Counts.{row_of}
use Rattle.lvs_model.specs.Lookups.{is_server_of, is_server_at, stands_at}
use Rattle.lvs_model.specs.Edits.{respecified}
use Rattle.lvs_model.specs.WellFormed.{Place, place_eq, place_of, places}
use Rattle.lvs_well_formed.proofs.Keys.{service_key_true, addr_true, place_same}
use Rattle.lvs_well_formed.proofs.Lists.{all_weaker, all_unmap}
use Rattle.lvs_well_formed.proofs.Distinct.{distinct_parts, keys_update}
use Rattle.lvs_dests.specs.Rows.{DestsSeen, changed, edited, is_row_at, respecified_row}
use Rattle.lvs_board.specs.declared.desk.Desk.{Desk}
use Rattle.lvs_board.specs.Desks.{state_of, IsSound}
use Rattle.lvs_board.proofs.Rows.{rows_changed}
use Rattle.lvs_board.proofs.Ends.{map_twice}
use Rattle.lvs_board.proofs.Placed.{with_dests, rows_at, with_servers, replaced_state, replaced_apart}

-- ONE PLACE

abbrev at : ServiceKey → Addr → ℕ → Place
at key addr port = record { service = key; addr = addr; port = port }

place_at : (key : ServiceKey) (addr : Addr) (port : ℕ) (d : Dest) → is_server_at key addr port d ≡ true → place_of d ≡ at key addr port
place_at key addr port d is =
    let parts = and_parts (is_server_of key d) (stands_at addr port d) is in
    let served = and_parts d.live (service_key_eq d.service key) parts.0 in
    let stands = and_parts (addr_eq d.spec.addr addr) (nat_eq d.spec.port port) parts.1 in
    ap (λ (k : ServiceKey). at k d.spec.addr d.spec.port) (service_key_true d.service key served.1) ∙ ap (λ (a : Addr). at key a d.spec.port) (addr_true d.spec.addr addr stands.0) ∙ ap (at key addr) (eqb-true d.spec.port port stands.1)

-- another place is not this one
elsewhere : (key : ServiceKey) (addr : Addr) (port : ℕ) (d e : Dest) → is_server_at key addr port d ≡ true → place_eq (place_of d) (place_of e) ≡ false → is_server_at key addr port e ≡ false
elsewhere key addr port d e here differs = false_from_ne_true (is_server_at key addr port e)
    (λ there.
    let same : place_of e ≡ place_of d = place_at key addr port e there ∙ sym (place_at key addr port d here) in
    both_ways (place_eq (place_of d) (place_of e)) differs (subst (λ (place : Place). place_eq (place_of d) place ≡ true) (sym same) (place_same (place_of d))))

others_elsewhere : (key : ServiceKey) (addr : Addr) (port : ℕ) (d : Dest) (ds : List Dest) → is_server_at key addr port d ≡ true → AllByRecursion (λ (place : Place). place_eq (place_of d) place ≡ false) (places ds)
    → AllByRecursion (λ (e : Dest). is_server_at key addr port e ≡ false) ds
others_elsewhere key addr port d ds here apart =
    all_weaker (λ (e : Dest). place_eq (place_of d) (place_of e) ≡ false) (λ (e : Dest). is_server_at key addr port e ≡ false) ds (λ e differs. elsewhere key addr port d e here differs)
    (all_unmap (λ (place : Place). place_eq (place_of d) place ≡ false) place_of ds apart)

none_changed : (p : Dest → Bool) (f : Dest → Dest) (ds : List Dest) → AllByRecursion (λ (d : Dest). p d ≡ false) ds → map (λ d. cond (p d) (f d) d) ds ≡ ds
none_changed p f [] none = refl
none_changed p f (d ∷ ds) none = rw none.0 (ap (λ (rest : List Dest). d ∷ rest) (none_changed p f ds none.1))

only_step : (key : ServiceKey) (addr : Addr) (port : ℕ) (f : Dest → Dest) (d : Dest) (b : Bool) (ds updated : List Dest) → is_server_at key addr port d ≡ b → AllByRecursion (λ (place : Place). place_eq (place_of d) place ≡ false) (places ds)
    → updated ≡ map (λ e. cond (is_server_at key addr port e) (f e) e) ds → cond b (f d ∷ ds) (d ∷ updated) ≡ cond b (f d) d ∷ map (λ e. cond (is_server_at key addr port e) (f e) e) ds
only_step key addr port f d true ds updated is apart rest = ap (λ (others : List Dest). f d ∷ others) (sym (none_changed (is_server_at key addr port) f ds (others_elsewhere key addr port d ds is apart)))
only_step key addr port f d false ds updated is apart rest = ap (λ (others : List Dest). d ∷ others) rest

-- the first one at a place is each one there
only_one : (key : ServiceKey) (addr : Addr) (port : ℕ) (f : Dest → Dest) (ds : List Dest) → IsDistinct place_eq (places ds) → update_first (is_server_at key addr port) f ds ≡ map (λ d. cond (is_server_at key addr port d) (f d) d) ds
only_one key addr port f [] apart = refl
only_one key addr port f (d ∷ ds) apart =
    let parts = distinct_parts place_eq (place_of d) (places ds) apart in
    only_step key addr port f d (is_server_at key addr port d) ds (update_first (is_server_at key addr port) f ds) refl parts.0 (only_one key addr port f ds parts.1)

-- THE ROWS

row_by : (es : List Entry) (ts : List Template) (spec : DestSpec) (d : Dest) (b : Bool) → cond b (respecified_row spec (row_of es ts d)) (row_of es ts d) ≡ row_of es ts (cond b (respecified es spec d) d)
row_by es ts spec d true = refl
row_by es ts spec d false = refl

respecified_rows : (es : List Entry) (ts : List Template) (key : ServiceKey) (spec : DestSpec) (ds : List Dest) → IsDistinct place_eq (places ds)
    → changed (is_row_at key spec.addr spec.port) (respecified_row spec) (map (row_of es ts) ds) ≡ map (row_of es ts) (update_first (is_server_at key spec.addr spec.port) (respecified es spec) ds)
respecified_rows es ts key spec ds apart =
    let p = is_server_at key spec.addr spec.port in
    rows_changed (is_row_at key spec.addr spec.port) (respecified_row spec) (row_of es ts) (λ d. row_of es ts (cond (p d) (respecified es spec d) d)) ds (λ d. row_by es ts spec d (p d))
    ∙ sym (map_twice (row_of es ts) (λ (d : Dest). cond (p d) (respecified es spec d) d) ds)
    ∙ sym (ap (map (row_of es ts)) (only_one key spec.addr spec.port (respecified es spec) ds apart))

-- THE DESK

abbrev edited_dests : State → ServiceKey → DestSpec → List Dest
edited_dests s key spec = update_first (is_server_at key spec.addr spec.port) (respecified s.entries spec) s.dests

edit_seen : (whole : State) (d : Desk) (key : ServiceKey) (spec : DestSpec) (seen : DestsSeen) → IsSound whole d → IsDistinct place_eq (places (state_of whole d).dests) → seen ≡ edited key spec d.dests
    → seen ≡ rows_at (map (row_of (state_of whole d).entries (state_of whole d).templates) (edited_dests (state_of whole d) key spec)) d.dests.next
edit_seen whole d key spec seen sound apart is =
    let s = state_of whole d in
    is ∙ ap (λ (rows : List DestRow). rows_at rows d.dests.next) (ap (changed (is_row_at key spec.addr spec.port) (respecified_row spec)) sound.totals.servers ∙ respecified_rows s.entries s.templates key spec s.dests apart)

pub edit_state : (whole : State) (d : Desk) (key : ServiceKey) (spec : DestSpec) (seen : DestsSeen) → IsSound whole d → IsDistinct place_eq (places (state_of whole d).dests) → seen ≡ edited key spec d.dests
    → state_of whole (with_dests seen d) ≡ with_servers (edited_dests (state_of whole d) key spec) d.dests.next (state_of whole d)
edit_state whole d key spec seen sound apart is = replaced_state whole d seen (edited_dests (state_of whole d) key spec) d.dests.next (edit_seen whole d key spec seen sound apart is)

pub edit_sound : (whole : State) (d : Desk) (key : ServiceKey) (spec : DestSpec) (seen : DestsSeen) → IsSound whole d → IsDistinct place_eq (places (state_of whole d).dests) → seen ≡ edited key spec d.dests → IsSound whole (with_dests seen d)
edit_sound whole d key spec seen sound apart is =
    let s = state_of whole d in
    replaced_apart whole d seen (edited_dests s key spec) d.dests.next sound (edit_seen whole d key spec seen sound apart is)
    (subst (IsDistinct nat_eq) (sym (keys_update (λ (e : Dest). e.id.0) (is_server_at key spec.addr spec.port) (respecified s.entries spec) s.dests (λ e passes. refl))) sound.few.dests_apart)
