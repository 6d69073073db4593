-- The candidates with another content of one server are those of the changed rows.
use Rattle.std.proofs.Common.{◌≡◌, Bool, true, false, ◌&&◌, cond, refl, sym, ap, ◌∙◌, List, [], ◌∷◌, Some, map}
use Rattle.std.specs.List.{AllByRecursion, filter}
use Rattle.lvs_types.specs.declared.addr.DestId.{DestId}
use Rattle.lvs_types.specs.declared.service.ServiceKey.{ServiceKey}
use Rattle.lvs_types.specs.declared.dest.DestRow.{DestRow}
use Rattle.lvs_types.specs.declared.dest.Candidate.{Candidate}
use Rattle.lvs_model.specs.Same.{service_key_eq}
use Rattle.lvs_dests.specs.Rows.{has_row_id, row_at, changed, is_row_of, candidate_of_row, candidates_of}
use Rattle.lvs_dests.specs.Lists.{has_candidate_id}
use Rattle.lvs_dests.specs.Pool.{DifferInId}
use Rattle.lvs_dests.specs.Dests.{IsRevision}
use Rattle.lvs_dests.proofs.Listed.{only_found}

module _ (key : ServiceKey) (id : DestId) (f : DestRow → DestRow) (x y : DestRow) (is : f x ≡ y) (r : IsRevision x y) where
  -- it is of the service as before
  of_service : is_row_of key y ≡ is_row_of key x
  of_service =
      ap (λ live. live && service_key_eq y.dest.service key) (sym r.live) ∙ ap (λ s. x.dest.live && service_key_eq s key) (sym r.service)

  abbrev with_it : List Candidate → List Candidate
  with_it cs = changed (has_candidate_id id) (λ _. candidate_of_row y) cs

  one_by : (row : DestRow) (rows later : List DestRow) (b l : Bool) → has_row_id id row ≡ b → is_row_of key row ≡ l → (has_row_id id row ≡ true → row ≡ x) → with_it (candidates_of key rows) ≡ candidates_of key later
      → with_it (map candidate_of_row (cond l (row ∷ filter (is_row_of key) rows) (filter (is_row_of key) rows))) ≡ candidates_of key (cond b (f row) row ∷ later)
  one_by row rows later true true here serves same rest =
      let new : f row ≡ y = ap f (same here) ∙ is in
      let shown : is_row_of key (f row) ≡ true = ap (is_row_of key) new ∙ of_service ∙ ap (is_row_of key) (sym (same here)) ∙ serves in
      rw (here, shown) (ap (λ c. c ∷ with_it (candidates_of key rows)) (ap candidate_of_row (sym new)) ∙ ap (λ cs. candidate_of_row (f row) ∷ cs) rest)
  one_by row rows later true false here serves same rest =
      let new : f row ≡ y = ap f (same here) ∙ is in
      let hidden : is_row_of key (f row) ≡ false = ap (is_row_of key) new ∙ of_service ∙ ap (is_row_of key) (sym (same here)) ∙ serves in
      rw hidden rest
  one_by row rows later false true here serves same rest = rw (here, serves) (ap (λ cs. candidate_of_row row ∷ cs) rest)
  one_by row rows later false false here serves same rest = rw serves rest

  all_by : (rows : List DestRow) → AllByRecursion (λ (row : DestRow). has_row_id id row ≡ true → row ≡ x) rows → with_it (candidates_of key rows) ≡ candidates_of key (changed (has_row_id id) f rows)
  all_by [] only = refl
  all_by (row ∷ rows) only =
      one_by row rows (changed (has_row_id id) f rows) (has_row_id id row) (is_row_of key row) refl refl only.0 (all_by rows only.1)

  pub candidates_changed : (rows : List DestRow) → DifferInId rows → row_at id rows ≡ Some x → with_it (candidates_of key rows) ≡ candidates_of key (changed (has_row_id id) f rows)
  candidates_changed rows apart found = all_by rows (only_found id x rows found apart)
