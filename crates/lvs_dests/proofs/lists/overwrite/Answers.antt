use Rattle.std.proofs.Common.{◌≡◌, ◌∙◌, ◌<◌, ◌+◌, ◌++◌, ℕ, map, take, drop, cond, ap, List, append-nil, length, get_or, set, arith}
use Rattle.std.proofs.lemmas.List.{take_all, drop_all, get_or_default}
use Rattle.std.proofs.lemmas.List.Edits.{map_over_more}
use Rattle.lvs_types.specs.declared.dest.Candidate.{Candidate}
use Rattle.lvs_dests.specs.Lists.{has_candidate_id}
use Rattle.lvs_dests.proofs.lists.overwrite.Goals as goal

put_more : {X : Type 0} (f : X → X) (xs ys : List X) (i : ℕ) (d r : X) → i < length xs → length ys ≡ length xs → ys ≡ map f (take i xs) ++ drop i xs → r ≡ f (get_or ys i d) → set ys i r ≡ map f (take (i + 1) xs) ++ drop (i + 1) xs
put_more f xs ys i d r within long is at =
    ap (set ys i) at ∙ map_over_more f xs ys i (get_or ys i d) within is (get_or_default ys i d (get_or ys i d) (omega arith))

pub loop-place-preserved : goal.loop-place-preserved
loop-place-preserved c =
    put_more (λ (x : Candidate). cond (has_candidate_id c.args.candidate.id x) c.args.candidate x) c.args.list.now c.loop-place.list c.loop-place.place-index _ c.newer.result
    c.loop-place-test.true c.loop-place.auto.list c.loop-place.invariant c.newer.ensures

pub returns : goal.returns
returns c =
    let f = λ (x : Candidate). cond (has_candidate_id c.args.candidate.id x) c.args.candidate x in
    c.loop-place.invariant
    ∙ ap (λ (xs : List Candidate). map f xs ++ drop c.loop-place.place-index c.args.list.now) (take_all c.loop-place.place-index c.args.list.now c.loop-place-test.false)
    ∙ ap (λ (xs : List Candidate). map f c.args.list.now ++ xs) (drop_all c.loop-place.place-index c.args.list.now c.loop-place-test.false)
    ∙ append-nil (map f c.args.list.now)
