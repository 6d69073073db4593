-- Acts whose items stand in one order, actor by actor.
use Rattle.std.proofs.Common.{◌≡◌, ℕ, ◌+◌, ◌==◌, Bool, true, false, cond, List, [], ◌∷◌, ◌++◌, length, map, refl, sym, ◌∙◌, ap, length-append, subst, arith}
use Rattle.std.proofs.lemmas.List.Elements.{filter-append}
use Rattle.std.proofs.lemmas.Bool.{eqb-true}
use Rattle.lvs_types.specs.declared.item.Item.{Item}
use Rattle.lvs_types.specs.declared.book.Noted.{Noted}
use Rattle.lvs_types.specs.declared.book.Placed.{Placed}
use Rattle.lvs_model.specs.Plans.{actor_of, items_of_actor, placed_after}
use Rattle.lvs_model.specs.Books.{acts_of, placed_of, AreFrom}

-- the acts are numbered from this number and take the whole list
pub record AreAllFrom (number : ℕ) (items : List Item) (acts : List Noted) : Type 0 where
  pub from : AreFrom number items acts
  pub all : length acts ≡ length items

one_more : (actor : ℕ) (items : List Item) (i : Item) (b : Bool) → (actor_of i == actor) ≡ b → length (items_of_actor actor (items ++ i ∷ [])) ≡ length (items_of_actor actor items) + length (cond b (i ∷ []) [])
one_more actor items i b is =
    ap length (filter-append (λ (x : Item). actor_of x == actor) items (i ∷ []))
    ∙ length-append (items_of_actor actor items) (items_of_actor actor (i ∷ []))
    ∙ ap (λ (c : Bool). length (items_of_actor actor items) + length (cond c (i ∷ []) [])) is

along : (n m : ℕ) (items : List Item) (acts : List Noted) → m ≡ n → AreFrom m items acts → AreFrom n items acts
along n m items acts same from = let P : ℕ → Type 0 = λ k. AreFrom k items acts in subst P same from

-- one more act, which is the actor's or not
more : (b c : Bool) (n m : ℕ) (i : Item) (act : Noted) (items : List Item) (acts : List Noted) → b ≡ c → m ≡ n + length (cond b (i ∷ []) []) → (b ≡ true → act.number ≡ n) → act.item ≡ i → AreAllFrom m items acts → AreAllFrom n (cond b (i ∷ items) items) (cond c (act ∷ acts) acts)
more true true n m i act items acts same count numbered is rest = record {
  from = (numbered refl, is, along (n + 1) m items acts count rest.from);
  all = omega (arith, rest.all);
}
more true false n m i act items acts same count numbered is rest = cc
more false true n m i act items acts same count numbered is rest = cc
more false false n m i act items acts same count numbered is rest = record { from = along n m items acts (omega arith) rest.from; all = rest.all }

same_actor : (actor : ℕ) (i : Item) (n : ℕ) (act : Noted) → placed_of act ≡ record { actor = actor_of i; number = n; item = i } → (actor_of i == actor) ≡ (act.actor == actor)
same_actor actor i n act is = ap (λ (p : Placed). p.actor == actor) (sym is)

-- the acts of an actor are its items of the list, numbered on from those before
pub numbered : (actor : ℕ) (before items : List Item) (acts : List Noted) → map placed_of acts ≡ placed_after before items → AreAllFrom (length (items_of_actor actor before)) (items_of_actor actor items) (acts_of actor acts)
numbered actor before [] [] e = record { from = tt; all = refl }
numbered actor before [] (act ∷ acts) e = cc
numbered actor before (i ∷ items) [] e = cc
numbered actor before (i ∷ items) (act ∷ acts) e =
    let n : ℕ = length (items_of_actor (actor_of i) before) in
    let is : placed_of act ≡ record { actor = actor_of i; number = n; item = i } = cc in
    let rest : map placed_of acts ≡ placed_after (before ++ i ∷ []) items = cc in
    more (actor_of i == actor) (act.actor == actor) (length (items_of_actor actor before)) (length (items_of_actor actor (before ++ i ∷ []))) i act (items_of_actor actor items) (acts_of actor acts)
    (same_actor actor i n act is) (one_more actor before i (actor_of i == actor) refl)
    (λ here. ap (λ (p : Placed). p.number) is ∙ ap (λ (a : ℕ). length (items_of_actor a before)) (eqb-true (actor_of i) actor here))
    (ap (λ (p : Placed). p.item) is)
    (numbered actor (before ++ i ∷ []) items acts rest)
