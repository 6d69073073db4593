-- Over a list of items: a server that is there no more was released by one of them, and its id never comes back.
use Rattle.std.proofs.Common.{◌≡◌, ◌<◌, Bool, true, false, cond, ◌||◌, List, [], ◌∷◌, Option, Some, None, refl, sym, ap, subst, ◌∙◌, arith}
use Rattle.lvs_types.specs.declared.addr.DestId.{DestId}
use Rattle.lvs_types.specs.declared.dest.Dest.{Dest}
use Rattle.lvs_types.specs.declared.item.Item.{Item}
use Rattle.lvs_model.specs.State.{State}
use Rattle.lvs_model.specs.Lookups.{dest_at, has_dest_id}
use Rattle.lvs_model.specs.Step.{step, run}
use Rattle.lvs_model.specs.WellFormed.{IsWellFormed, IsDrawn, dest_ids}
use Rattle.lvs_well_formed.specs.Rising.{is_among}
use Rattle.lvs_well_formed.proofs.Lists.{all_find, all_unmap}
use Rattle.lvs_well_formed.proofs.Found.{stays_gone}
use Rattle.lvs_well_formed.proofs.Steps.{step_well_formed, run_well_formed, run_rises}
use Rattle.lvs_laws.specs.Releasing.{IsSameServer, IsServerOf, IsGone, StaysOrIsReleased, IsReleasedAmong}
use Rattle.lvs_laws.proofs.ReleaseKept.{same_server}
use Rattle.lvs_laws.proofs.ReleaseSteps.{step_becomes}

same_then : (a b c : Dest) → IsSameServer a b → IsSameServer b c → IsSameServer a c
same_then a b c first then = record { id = then.id ∙ first.id; service = then.service ∙ first.service; addr = then.addr ∙ first.addr; port = then.port ∙ first.port }

-- released by the first of the items
released_first : (s : State) (next : Item) (items : List Item) (d : Dest) → IsServerOf s d → StaysOrIsReleased s next d None → IsGone (step s next).1 d.id → IsReleasedAmong s (next ∷ items) d
released_first s next items d found released left = record {
  prefix = [];
  next = next;
  rest = items;
  splits = refl;
  server = d;
  there = found;
  same = same_server d d refl refl;
  released = released;
  left = left;
}

-- released by a later one
released_later : (s : State) (next : Item) (items : List Item) (d later : Dest) → IsSameServer d later → IsReleasedAmong (step s next).1 items later → IsReleasedAmong s (next ∷ items) d
released_later s next items d later same among = record {
  prefix = next ∷ among.prefix;
  next = among.next;
  rest = among.rest;
  splits = ap (λ (is : List Item). next ∷ is) among.splits;
  server = among.server;
  there = subst (λ i. dest_at i (run s (next ∷ among.prefix)).1.dests ≡ Some among.server) same.id among.there;
  same = same_then d later among.server same among.same;
  released = among.released;
  left = subst (λ i. IsGone (step (run s (next ∷ among.prefix)).1 among.next).1 i) same.id among.left;
}

found_later : (ds : List Dest) (d later : Dest) → IsSameServer d later → dest_at d.id ds ≡ Some later → dest_at later.id ds ≡ Some later
found_later ds d later same is = subst (λ i. dest_at i ds ≡ Some later) (sym same.id) is

-- by what the first item makes of the server, where the law holds of the later items
released_by : (s : State) (next : Item) (items : List Item) (d : Dest) (o : Option Dest) → dest_at d.id (step s next).1.dests ≡ o → StaysOrIsReleased s next d o → IsServerOf s d
    → ((later : Dest) → IsSameServer d later → dest_at d.id (step s next).1.dests ≡ Some later → IsReleasedAmong (step s next).1 items later) → IsReleasedAmong s (next ∷ items) d
released_by s next items d None is becomes found rest = released_first s next items d found becomes is
released_by s next items d (Some later) is becomes found rest = released_later s next items d later becomes (rest later becomes is)

pub run_released : (s : State) (items : List Item) (d : Dest) → IsWellFormed s → IsServerOf s d → IsGone (run s items).1 d.id → IsReleasedAmong s items d
run_released s [] d w found gone = absurd cc
run_released s (next ∷ items) d w found gone =
    let t = (step s next).1 in
    released_by s next items d (dest_at d.id t.dests) refl (step_becomes s next d w found) found
    (λ later same is. run_released t items later (step_well_formed s next w) (found_later t.dests d later same is) (subst (λ i. IsGone (run t items).1 i) (sym same.id) gone))

-- NEVER USED AGAIN

none_step : (b : Bool) (d : Dest) (o : Option Dest) (others : Bool) → (o ≡ None → others ≡ false) → cond b (Some d) o ≡ None → (b || others) ≡ false
none_step true d o others rest none = absurd cc
none_step false d o others rest none = rest none

-- no server of an id is found exactly where the id isn't among theirs
not_among : (ds : List Dest) (id : DestId) → dest_at id ds ≡ None → is_among (dest_ids ds) id.0 ≡ false
not_among [] id none = refl
not_among (d ∷ ds) id none = none_step (has_dest_id id d) d (dest_at id ds) (is_among (dest_ids ds) id.0) (not_among ds id) none

among_step : (b : Bool) (d : Dest) (o : Option Dest) (others : Bool) → (others ≡ false → o ≡ None) → (b || others) ≡ false → cond b (Some d) o ≡ None
among_step true d o others rest none = absurd cc
among_step false d o others rest none = rest none

none_found : (ds : List Dest) (id : DestId) → is_among (dest_ids ds) id.0 ≡ false → dest_at id ds ≡ None
none_found [] id none = refl
none_found (d ∷ ds) id none = among_step (has_dest_id id d) d (dest_at id ds) (is_among (dest_ids ds) id.0) (none_found ds id) none

pub run_gone : (s : State) (items : List Item) (id : DestId) → IsWellFormed s → id.0 < s.next_dest → IsGone s id → IsGone (run s items).1 id
run_gone s items id w below gone =
    let later = (run s items).1 in
    none_found later.dests id (stays_gone s.next_dest (dest_ids s.dests) later.next_dest (dest_ids later.dests) id.0 (run_rises s items w).dests below (not_among s.dests id gone))

-- the id of a server was drawn
drawn_of : (s : State) (d : Dest) → IsWellFormed s → IsServerOf s d → d.id.0 < s.next_dest
drawn_of s d w found = (all_find (λ (x : Dest). IsDrawn s.next_dest x.id.0) (has_dest_id d.id) s.dests d (all_unmap (IsDrawn s.next_dest) (λ (x : Dest). x.id.0) s.dests w.dest_ids.each) found).1

pub gone_ever_after : (s : State) (items later_items : List Item) (d : Dest) → IsWellFormed s → IsServerOf s d → IsGone (run s items).1 d.id → IsGone (run (run s items).1 later_items).1 d.id
gone_ever_after s items later_items d w found gone =
    let t = (run s items).1 in run_gone t later_items d.id (run_well_formed s items w) (omega (arith, drawn_of s d w found, (run_rises s items w).dests.next_id)) gone
