-- The server at a place, live or in the trash, and what the narrower searches find.
use Rattle.std.proofs.Common.{◌≡◌, ℕ, Bool, true, false, not, ◌&&◌, cond, refl, sym, ap, ◌∙◌, List, [], ◌∷◌, Option, Some, None, is_some, IfSome, IfNone, Bor, subst}
use Rattle.std.specs.List.{find}
use Rattle.std.specs.Option.{option_copied}
use Rattle.lvs_types.specs.declared.addr.Addr.{Addr}
use Rattle.lvs_types.specs.declared.service.ServiceKey.{ServiceKey}
use Rattle.lvs_types.specs.declared.dest.DestSpec.{DestSpec}
use Rattle.lvs_types.specs.declared.dest.DestRow.{DestRow}
use Rattle.lvs_dests.specs.declared.place.Place.{Place}
use Rattle.lvs_dests.specs.Rows.{has_row_id, row_at, replaced, changed, is_row_at, is_row_revivable, is_known, is_live_row, respecified_row}
use Rattle.lvs_dests.specs.Places.{place_at, place_of, has_place}
use Rattle.lvs_dests.specs.Pool.{DifferInId, IsOneAt}
use Rattle.lvs_dests.specs.Dests.{IsStanding, IsLiveAt}
use Rattle.lvs_dests.proofs.Same.{place_is, id_own}
use Rattle.lvs_dests.proofs.Found.{find_passes}
use Rattle.lvs_dests.proofs.Listed.{each_found, only_found}
use Rattle.lvs_dests.proofs.Narrow.{narrowed, narrowed_none, any_found, of_found, changed_one, row_at_place, revivable_place, AreAll}

some_live : (x : DestRow) (b : Bool) → is_some (cond b (Some x) None) ≡ b
some_live x true = refl
some_live x false = refl

swap_not : (x : DestRow) (b : Bool) → cond (not b) (Some x) None ≡ cond b None (Some x)
swap_not x true = refl
swap_not x false = refl

module _ (key : ServiceKey) (addr : Addr) (port : ℕ) (rows : List DestRow) (apart : DifferInId rows) where
  abbrev at_place : DestRow → Bool
  at_place = has_place (place_at key addr port)

  module _ (x : DestRow) (is : find at_place rows ≡ Some x) (one : IsOneAt (place_at key addr port) x rows) where
    pub live_there : find (is_row_at key addr port) rows ≡ cond x.dest.live (Some x) None
    live_there = narrowed at_place (is_row_at key addr port) (λ (row : DestRow). row.dest.live) (row_at_place key addr port) x rows one is

    pub known_there : x.dest.live ≡ is_known key addr port rows
    known_there = sym (any_found (is_row_at key addr port) rows ∙ ap is_some live_there ∙ some_live x x.dest.live)

    pub found_by_id : row_at x.dest.id rows ≡ Some x
    found_by_id = of_found (λ (row : DestRow). row_at row.dest.id rows ≡ Some row) at_place x rows is (each_found rows apart)

    is_placed : place_of x ≡ place_at key addr port
    is_placed = place_is (place_of x) (place_at key addr port) (find_passes at_place x rows is)

    pub same_addr : x.dest.spec.addr ≡ addr
    same_addr = ap (λ (p : Place). p.addr) is_placed

    pub same_port : x.dest.spec.port ≡ port
    same_port = ap (λ (p : Place). p.port) is_placed

    pub is_live_there : x.dest.live ≡ true → IsLiveAt key addr port rows x
    is_live_there live =
        let found : find (is_row_at key addr port) rows ≡ Some x = live_there ∙ ap (λ b. cond b (Some x) None) live in
        record {
          found = found_by_id;
          same_addr = same_addr;
          same_port = same_port;
          live = live;
          passes = find_passes (is_row_at key addr port) x rows found;
          only = narrower rows one;
        }
      where
        narrower_by : (row : DestRow) (a b : Bool) → (b ≡ true → row ≡ x) → (a && b) ≡ true → row ≡ x
        narrower_by row true b same holds = same holds
        narrower_by row false b same holds = absurd (cc)

        narrower : (some : List DestRow) → AreAll at_place x some → AreAll (is_row_at key addr port) x some
        narrower [] all = tt
        narrower (row ∷ some) all = (λ holds. narrower_by row row.dest.live (at_place row) all.0 (sym (row_at_place key addr port row) ∙ holds), narrower some all.1)

  pub none_known : find at_place rows ≡ None → false ≡ is_known key addr port rows
  none_known none = sym (any_found (is_row_at key addr port) rows ∙ ap is_some (narrowed_none at_place (is_row_at key addr port) (λ (row : DestRow). row.dest.live) (row_at_place key addr port) rows none))

  pub none_live : find at_place rows ≡ None → find (is_row_at key addr port) rows ≡ None
  none_live none = narrowed_none at_place (is_row_at key addr port) (λ (row : DestRow). row.dest.live) (row_at_place key addr port) rows none

-- ---- by what was found

module _ (key : ServiceKey) (spec : DestSpec) (rows : List DestRow) (apart : DifferInId rows) where
  pub standing_known : (there : Option DestRow) → there ≡ find (has_place (place_at key spec.addr spec.port)) rows → IfSome there (λ row. IsOneAt (place_at key spec.addr spec.port) row rows) → is_live_row there ≡ is_known key spec.addr spec.port rows
  standing_known None is one = none_known key spec.addr spec.port rows apart (sym is)
  standing_known (Some x) is one = known_there key spec.addr spec.port rows apart x (sym is) one

  pub standing_kept : (there : Option DestRow) → there ≡ find (has_place (place_at key spec.addr spec.port)) rows → IfSome there (λ row. IsOneAt (place_at key spec.addr spec.port) row rows) → find (is_row_revivable key spec) rows ≡ cond (is_live_row there) None there
  standing_kept None is one = narrowed_none (has_place (place_at key spec.addr spec.port)) (is_row_revivable key spec) (λ (row : DestRow). not row.dest.live) (revivable_place key spec) rows (sym is)
  standing_kept (Some x) is one =
      narrowed (has_place (place_at key spec.addr spec.port)) (is_row_revivable key spec) (λ (row : DestRow). not row.dest.live) (revivable_place key spec) x rows one (sym is) ∙ swap_not x x.dest.live

  pub standing_there : (there : Option DestRow) → there ≡ find (has_place (place_at key spec.addr spec.port)) rows → IfSome there (λ row. IsOneAt (place_at key spec.addr spec.port) row rows) → IfSome there (IsStanding spec rows)
  standing_there None is one = tt
  standing_there (Some x) is one = record {
    found = found_by_id key spec.addr spec.port rows apart x (sym is) one;
    addr = same_addr key spec.addr spec.port rows apart x (sym is) one;
    port = same_port key spec.addr spec.port rows apart x (sym is) one;
  }

  pub standing_free : (there : Option DestRow) → there ≡ find (has_place (place_at key spec.addr spec.port)) rows → IfNone there (find (has_place (place_at key spec.addr spec.port)) rows ≡ None)
  standing_free None is = sym is
  standing_free (Some x) is = tt

  -- the edit of the one that is live there
  pub edited_one : (x : DestRow) → IsLiveAt key spec.addr spec.port rows x → changed (is_row_at key spec.addr spec.port) (respecified_row spec) rows ≡ replaced (has_row_id x.dest.id) (Some (respecified_row spec x)) rows
  edited_one x at =
      changed_one (is_row_at key spec.addr spec.port) (has_row_id x.dest.id) (respecified_row spec) x rows at.passes (id_own x.dest.id) at.only (only_found x.dest.id x rows at.found apart)

-- ---- what a look-up by place says

pub record Looked (place : Place) (rows : List DestRow) (there : Option DestRow) : Type 0 where
  pub is : there ≡ find (has_place place) rows
  pub one : IfSome there (λ row. IsOneAt place row rows)
  pub apart : DifferInId rows

copied_one : (place : Place) (rows : List DestRow) (o : Option (Bor DestRow)) → IfSome o (λ row. IsOneAt place row.now rows) → IfSome (option_copied o) (λ row. IsOneAt place row rows)
copied_one place rows None one = tt
copied_one place rows (Some row) one = one

pub looked : (o : Option (Bor DestRow)) (there : Option DestRow) (p q : Place) (some rows : List DestRow) → there ≡ option_copied o → option_copied o ≡ find (has_place p) some → IfSome o (λ row. IsOneAt p row.now some) → DifferInId some → p ≡ q → some ≡ rows → Looked q rows there
looked o there p q some rows copied is one apart place same =
    subst (λ (rs : List DestRow). Looked q rs there) same
    (subst (λ (at : Place). Looked at some there) place
    (subst (λ (t : Option DestRow). Looked p some t) (sym copied) (record { is = is; one = copied_one p some o one; apart = apart })))

module _ (key : ServiceKey) (addr : Addr) (port : ℕ) (rows : List DestRow) (there : Option DestRow) (l : Looked (place_at key addr port) rows there) where
  pub looked_none : there ≡ None → (None ≡ find (is_row_at key addr port) rows) × (false ≡ is_known key addr port rows)
  looked_none none =
      let missed : find (has_place (place_at key addr port)) rows ≡ None = sym l.is ∙ none in
      (sym (none_live key addr port rows l.apart missed), none_known key addr port rows l.apart missed)

  one_here : (x : DestRow) → there ≡ Some x → IsOneAt (place_at key addr port) x rows
  one_here x is = subst (λ (t : Option DestRow). IfSome t (λ row. IsOneAt (place_at key addr port) row rows)) is l.one

  pub looked_live : (x : DestRow) → there ≡ Some x → x.dest.live ≡ true → (Some x ≡ find (is_row_at key addr port) rows) × (true ≡ is_known key addr port rows) × IsLiveAt key addr port rows x
  looked_live x is live =
      let found : find (has_place (place_at key addr port)) rows ≡ Some x = sym l.is ∙ is in
      let one = one_here x is in (
        sym (live_there key addr port rows l.apart x found one ∙ ap (λ b. cond b (Some x) None) live),
        sym live ∙ known_there key addr port rows l.apart x found one,
        is_live_there key addr port rows l.apart x found one live,
      )

  pub looked_trashed : (x : DestRow) → there ≡ Some x → x.dest.live ≡ false → (None ≡ find (is_row_at key addr port) rows) × (false ≡ is_known key addr port rows)
  looked_trashed x is trashed =
      let found : find (has_place (place_at key addr port)) rows ≡ Some x = sym l.is ∙ is in
      let one = one_here x is in (
        sym (live_there key addr port rows l.apart x found one ∙ ap (λ b. cond b (Some x) None) trashed),
        sym trashed ∙ known_there key addr port rows l.apart x found one,
      )
