-- The director after an answer.
use Rattle.std.proofs.Common.{◌≡◌, ℕ, List, Result, Ok, Err, OnOk, OnErr, IfOk, refl, ◌∙◌, ap, arith, zero, suc, [], ◌∷◌, ◌++◌, length, take, drop}
use Rattle.lvs_types.specs.declared.item.Item.{Item}
use Rattle.lvs_types.specs.declared.reply.Reply.{Reply}
use Rattle.lvs_model.specs.State.{State}
use Rattle.lvs_model.specs.Step.{step}
use Rattle.lvs_bucket.specs.Seen.{BucketSeen}
use Rattle.lvs_board.specs.Seen.{BoardSeen}
use Rattle.lvs_core.specs.Agree.{Agree, state_of}
use Rattle.lvs_core.specs.Seen.{CoreSeen}
use Rattle.lvs_core.proofs.Joined.{state_is}
use Rattle.lvs_core.proofs.Begun.{own_state}

-- what a vector holds after its slice was written
pub whole_back : {X : Type 0} (n : ℕ) (xs ys : List X) → length ys ≡ length xs → n ≡ length xs → take n (ys ++ drop (length ys) xs) ≡ ys
whole_back zero [] [] long whole = refl
whole_back (suc n) [] [] long whole = absurd (omega arith)
whole_back n [] (y ∷ ys) long whole = absurd (omega arith)
whole_back n (x ∷ xs) [] long whole = absurd (omega arith)
whole_back zero (x ∷ xs) (y ∷ ys) long whole = absurd (omega arith)
whole_back (suc n) (x ∷ xs) (y ∷ ys) long whole = ap (λ zs. y ∷ zs) (whole_back n xs ys (omega arith) (omega arith))

pub answered_agree : {A E : Type 0} (s t : State) (board : BoardSeen) (bs : List BucketSeen) (r : Result A E) → OnOk r (Agree board bs t) → OnErr r (Agree board bs s) → Agree board bs (state_of board bs)
answered_agree s t board bs (Ok a) ok err = own_state board bs t ok
answered_agree s t board bs (Err e) ok err = own_state board bs s err

pub answered_ok : {E : Type 0} (s u : State) (i : Item) (board : BoardSeen) (bs : List BucketSeen) (r : Result (Item × Reply) E) → s ≡ u → OnOk r (Agree board bs (step s i).1) → IfOk r (λ (a : Item × Reply). a ≡ (i, (step s i).0)) → IfOk r (λ (a : Item × Reply). (a.1, state_of board bs) ≡ step u i)
answered_ok s u i board bs (Ok a) same ok is =
    ap (λ (reply : Reply). (reply, state_of board bs)) (ap (λ (p : Item × Reply). p.1) is) ∙ ap (λ (t : State). ((step s i).0, t)) (state_is board bs (step s i).1 ok) ∙ ap (λ (t : State). step t i) same
answered_ok s u i board bs (Err e) same ok is = tt

abbrev pub seen : State → ℕ → CoreSeen
seen s steps = record { state = s; steps = steps }

pub answered_err : {A E : Type 0} (s : State) (steps : ℕ) (old : CoreSeen) (board : BoardSeen) (bs : List BucketSeen) (r : Result A E) → seen s steps ≡ old → OnErr r (Agree board bs s) → OnErr r (board.steps ≡ steps) → OnErr r (seen (state_of board bs) board.steps ≡ old)
answered_err s steps old board bs (Ok a) is agree same = tt
answered_err s steps old board bs (Err e) is agree same = ap (λ (t : State). seen t board.steps) (state_is board bs s agree) ∙ ap (λ (n : ℕ). seen s n) same ∙ is
