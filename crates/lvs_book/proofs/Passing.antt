-- A pass, and the seat that a call works with in its place.
use Rattle.std.proofs.Common.{◌≡◌, ◌≢◌, List, [], ◌∷◌, length, refl, arith}
use Rattle.atomic_table.specs.Seated.{TableId}
use Rattle.lvs_book.specs.declared.view.Lane.{Lane}
use Rattle.lvs_book.specs.declared.view.View.{View}
use Rattle.lvs_book.specs.Lanes.{Apart}
use Rattle.lvs_book.specs.Passes.{held_first, held_by}
use Rattle.lvs_book.proofs.Sums.{one_if_eq}

module _ {O A : Type 0} where
  pub one_lane : (ls : List (Lane O A)) → length ls ≡ 1 → (x : Lane O A) × (ls ≡ x ∷ [])
  one_lane [] e = absurd (omega arith)
  one_lane (x ∷ []) e = (x, refl)
  one_lane (x ∷ y ∷ zs) e = absurd (omega arith)

  pub two_lanes : (ls : List (Lane O A)) → length ls ≡ 2 → (x : Lane O A) × (y : Lane O A) × (ls ≡ x ∷ y ∷ [])
  two_lanes [] e = absurd (omega arith)
  two_lanes (x ∷ []) e = absurd (omega arith)
  two_lanes (x ∷ y ∷ []) e = (x, y, refl)
  two_lanes (x ∷ y ∷ z ∷ zs) e = absurd (omega arith)

  -- the lanes of two passes that no view has twice
  pub two_apart : (x y : Lane O A) → Apart (x ∷ y ∷ []) → x.number ≢ y.number
  two_apart x y apart e = let a = apart y.number in let b = one_if_eq x.number y.number e in let c = one_if_eq y.number y.number refl in omega arith

  pub held_book : (z : TableId) (o : O) (vs : List (View O A)) → (held_by z o vs).book ≡ z
  held_book z o [] = refl
  held_book z o (v ∷ vs) = first_book v.lanes
    where
      first_book : (ls : List (Lane O A)) → (held_first z o ls).book ≡ z
      first_book [] = refl
      first_book (x ∷ xs) = refl
