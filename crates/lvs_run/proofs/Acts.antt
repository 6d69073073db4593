-- One more act of a round.
use Rattle.std.proofs.Common.{◌≡◌, List, [], ◌∷◌, ◌++◌, map, refl, sym, ◌∙◌, ap, append_assoc}
use Rattle.lvs_types.specs.declared.book.Noted.{Noted}
use Rattle.lvs_types.specs.declared.book.Placed.{Placed}
use Rattle.lvs_model.specs.Books.{placed_of}

placed_last : (acts : List Noted) (act : Noted) → map placed_of (acts ++ act ∷ []) ≡ map placed_of acts ++ placed_of act ∷ []
placed_last [] act = refl
placed_last (a ∷ acts) act = ap (λ (l : List Placed). placed_of a ∷ l) (placed_last acts act)

-- an item that leaves the front of what is left stands last in the acts
pub placed_push : (acts : List Noted) (act : Noted) (rest later all : List Placed) → map placed_of acts ++ rest ≡ all → rest ≡ placed_of act ∷ later → map placed_of (acts ++ act ∷ []) ++ later ≡ all
placed_push acts act rest later all whole front =
    ap (λ (l : List Placed). l ++ later) (placed_last acts act) ∙ append_assoc (map placed_of acts) (placed_of act ∷ []) later ∙ ap (λ (l : List Placed). map placed_of acts ++ l) (sym front) ∙ whole
