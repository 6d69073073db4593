-- The books of the example are legal: each round has one edit of control's, and nothing of the other actors but the clock's.
use Rattle.std.proofs.Common.{◌≡◌, ◌==◌, ℕ, false, List, [], ◌∷◌, Some, None, refl, subst, arith, length, slice_get, zero, suc}
use Rattle.std.proofs.lemmas.Bool.{eqb-true, false_from_ne_true}
use Rattle.lvs_types.specs.declared.item.Item.{Item}
use Rattle.lvs_types.specs.declared.item.Item.TheVariants as item
use Rattle.lvs_types.specs.declared.command.Command.{Command}
use Rattle.lvs_types.specs.declared.book.Noted.{Noted}
use Rattle.lvs_types.specs.declared.book.Shown.{Shown}
use Rattle.lvs_types.specs.declared.book.ShownText.{ShownText}
use Rattle.lvs_model.specs.State.{State}
use Rattle.lvs_model.specs.Plans.{plan}
use Rattle.lvs_model.specs.Books.{AreFrom, IsRun, acts_of, at_moment}
use Rattle.lvs_model.specs.Legal.{IsLegal}
use Rattle.lvs_model.specs.Listings.{shown_of}
use Rattle.lvs_model.proofs.OrderLemmas.{filter_none}
use Rattle.lvs_laws.specs.BookExamples.{round_of, acts_with, book_of}

-- the lists of the plan
abbrev lists_with : Command → List (List Item)
lists_with edit = (item.Sweep 0 ∷ item.Reap ∷ item.SendSync ∷ []) ∷ (item.Edit edit ∷ []) ∷ [] ∷ [] ∷ []

each_actor : (edit : Command) (actor : ℕ) (items : List Item) → slice_get (lists_with edit) actor ≡ Some items → AreFrom 0 items (acts_of actor (acts_with edit))
each_actor edit zero items is =
    let same : item.Sweep 0 ∷ item.Reap ∷ item.SendSync ∷ [] ≡ items = cc in
    subst (λ xs. AreFrom 0 xs (acts_of 0 (acts_with edit))) same (refl, refl, (refl, refl, (refl, refl, tt)))
each_actor edit (suc zero) items is = let same : item.Edit edit ∷ [] ≡ items = cc in subst (λ xs. AreFrom 0 xs (acts_of 1 (acts_with edit))) same (refl, refl, tt)
each_actor edit (suc (suc zero)) items is = let same : [] ≡ items = cc in subst (λ xs. AreFrom 0 xs (acts_of 2 (acts_with edit))) same tt
each_actor edit (suc (suc (suc zero))) items is = let same : [] ≡ items = cc in subst (λ xs. AreFrom 0 xs (acts_of 3 (acts_with edit))) same tt
each_actor edit (suc (suc (suc (suc n)))) items is = absurd cc

all_used : (edit : Command) (actor : ℕ) (items : List Item) → slice_get (lists_with edit) actor ≡ Some items → length (acts_of actor (acts_with edit)) ≡ length items
all_used edit zero items is = let same : item.Sweep 0 ∷ item.Reap ∷ item.SendSync ∷ [] ≡ items = cc in subst (λ xs. 3 ≡ length xs) same refl
all_used edit (suc zero) items is = let same : item.Edit edit ∷ [] ≡ items = cc in subst (λ xs. 1 ≡ length xs) same refl
all_used edit (suc (suc zero)) items is = let same : [] ≡ items = cc in subst (λ xs. 0 ≡ length xs) same refl
all_used edit (suc (suc (suc zero))) items is = let same : [] ≡ items = cc in subst (λ xs. 0 ≡ length xs) same refl
all_used edit (suc (suc (suc (suc n)))) items is = absurd cc

clock_only : (n : ℕ) → (0 == suc (suc n)) ≡ false
clock_only n = false_from_ne_true (0 == suc (suc n)) (λ same. let equal : 0 ≡ suc (suc n) = eqb-true 0 (suc (suc n)) same in absurd (omega (arith, equal)))

control_only : (n : ℕ) → (1 == suc (suc n)) ≡ false
control_only n = false_from_ne_true (1 == suc (suc n)) (λ same. let equal : 1 ≡ suc (suc n) = eqb-true 1 (suc (suc n)) same in absurd (omega (arith, equal)))

no_others : (edit : Command) (actor : ℕ) → slice_get (lists_with edit) actor ≡ None → acts_of actor (acts_with edit) ≡ []
no_others edit zero is = absurd cc
no_others edit (suc zero) is = absurd cc
no_others edit (suc (suc n)) is =
    filter_none (λ (act : Noted). act.actor == suc (suc n)) (acts_with edit) (clock_only n, (clock_only n, (control_only n, (clock_only n, tt))))

pub legal_round : (number moment : ℕ) (edit : Command) (kind : Shown) (text : ShownText) (s left : State) → IsRun (at_moment s moment) (acts_with edit) left → text ∷ [] ≡ shown_of left (kind ∷ [])
    → IsLegal (at_moment s moment) (plan (round_of moment edit kind) 1 1) (book_of number moment edit text) left
legal_round number moment edit kind text s left replies shown = record {
  sound = record {
    moment = refl;
    buckets = refl;
    workers = refl;
    actors = each_actor edit;
    none = no_others edit;
    replies = replies;
  };
  whole = all_used edit;
  shown = shown;
}
