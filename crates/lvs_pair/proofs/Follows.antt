-- A backup is on its way through messages.
use Rattle.std.proofs.Common.{◌≡◌, ℕ, List, [], ◌∷◌, ◌++◌, sym, refl, ap, ◌∙◌, subst, append_assoc}
use Rattle.std.specs.Prelude.{Result, Ok, Err, OnOk, OnErr, flat_map}
use Rattle.std.proofs.lemmas.List.{flat_map_more}
use Rattle.lvs_types.specs.declared.item.Item.{Item}
use Rattle.lvs_types.specs.declared.pair.PairEnd.{PairEnd}
use Rattle.lvs_types.specs.declared.pair.PairEnd.TheVariants.{Finished, NoMemory}
use Rattle.lvs_model.specs.State.{State}
use Rattle.lvs_pair.specs.Learning.{FallsBehind, HasLearnt, HasLearntSome, KeepsUp, Learns, LearnsSome, LearntBy}
use Rattle.lvs_pair.specs.Pairing.{items_in, items_of}
use Rattle.lvs_pair.specs.declared.backup.Backup.{Backup}
use Rattle.lvs_pair.proofs.Learns.{learnt_some, some_of_part}

-- a part of the items is learnt, and the rest is to come
pub record Amid (s : State) (whole : List Item) (b : Backup) (rest : List Item) : Type 0 where
  pub part : List Item
  pub learnt : HasLearnt s part b
  pub cut : part ++ rest ≡ whole

-- of the items the old one was to learn, these are to come for the new one
abbrev pub StillLearns : Backup → List Item → Backup → List Item → Type 0
StillLearns old items now rest = (s : State) (before : List Item) → HasLearnt s before old → Amid s (before ++ items) now rest

pub still_all : (b : Backup) (items : List Item) → StillLearns b items b items
still_all b items = λ s before learnt. record { part = before; learnt = learnt; cut = refl }

pub still_next : (old now next : Backup) (items added rest : List Item) → StillLearns old items now (added ++ rest) → Learns now next added → StillLearns old items next rest
still_next old now next items added rest still more = λ s before learnt. let so_far = still s before learnt in record {
  part = so_far.part ++ added;
  learnt = more s so_far.part so_far.learnt;
  cut = append_assoc so_far.part added rest ∙ so_far.cut;
}

pub whole_of : {X : Type 0} (xs : List X) → xs ++ [] ≡ xs
whole_of [] = refl
whole_of (x ∷ xs) = ap (λ l. x ∷ l) (whole_of xs)

pub still_none : (old now : Backup) (items : List Item) → StillLearns old items now [] → Learns old now items
still_none old now items still = λ s before learnt. let so_far = still s before learnt in
    subst (λ l. HasLearnt s l now) (sym (whole_of so_far.part) ∙ so_far.cut) so_far.learnt

pub still_stops : (old now next : Backup) (items added rest : List Item) → StillLearns old items now (added ++ rest) → LearnsSome now next added → LearnsSome old next items
still_stops old now next items added rest still some = λ s before learnt. let so_far = still s before learnt in
    some_of_part s (so_far.part ++ added) rest (before ++ items) next (append_assoc so_far.part added rest ∙ so_far.cut) (some s so_far.part so_far.learnt)

-- MESSAGE BY MESSAGE

pub items_more : (messages : List (List ℕ)) (message : List ℕ) (later : List (List ℕ)) → later ≡ messages ++ message ∷ [] → items_of messages ++ items_in message ≡ items_of later
items_more messages message later grown = flat_map_more items_in [] messages message ∙ ap items_of (sym grown)

pub items_both : (messages later : List (List ℕ)) → items_of messages ++ items_of later ≡ items_of (messages ++ later)
items_both [] later = refl
items_both (message ∷ messages) later = append_assoc (items_in message) (items_of messages) (items_of later) ∙ ap (λ l. items_in message ++ l) (items_both messages later)

pub keeps_up : (old new : Backup) (taken : List (List ℕ)) (message : List ℕ) (later : List (List ℕ)) → later ≡ taken ++ message ∷ [] → Learns old new (items_in message) → KeepsUp old taken new later
keeps_up old new taken message later grown learns = λ s learnt. subst (λ l. HasLearnt s l new) (items_more taken message later grown) (learns s (items_of taken) learnt)

pub stays_up : (old new : Backup) (taken later : List (List ℕ)) → later ≡ taken → new ≡ old → KeepsUp old taken new later
stays_up old new taken later same same' = λ s learnt. subst (λ l. HasLearnt s (items_of l) new) (sym same) (subst (λ b. HasLearnt s (items_of taken) b) (sym same') learnt)

pub falls_behind : (old new : Backup) (taken : List (List ℕ)) (message : List ℕ) (later : List (List ℕ)) → later ≡ taken ++ message ∷ [] → LearnsSome old new (items_in message) → FallsBehind old taken new later
falls_behind old new taken message later grown some = λ s learnt. subst (λ l. HasLearntSome s l new) (items_more taken message later grown) (some s (items_of taken) learnt)

pub learns_both : (old now next : Backup) (messages later : List (List ℕ)) → Learns old now (items_of messages) → Learns now next (items_of later) → Learns old next (items_of (messages ++ later))
learns_both old now next messages later first second = λ s before learnt.
    subst (λ l. HasLearnt s l next) (append_assoc before (items_of messages) (items_of later) ∙ ap (λ l. before ++ l) (items_both messages later)) (second s (before ++ items_of messages) (first s before learnt))

pub learns_some_first : (old next : Backup) (messages later : List (List ℕ)) → LearnsSome old next (items_of messages) → LearnsSome old next (items_of (messages ++ later))
learns_some_first old next messages later first = λ s before learnt.
    some_of_part s (before ++ items_of messages) (items_of later) (before ++ items_of (messages ++ later)) next (append_assoc before (items_of messages) (items_of later) ∙ ap (λ l. before ++ l) (items_both messages later)) (first s before learnt)

pub learns_some_both : (old now next : Backup) (messages later : List (List ℕ)) → Learns old now (items_of messages) → LearnsSome now next (items_of later) → LearnsSome old next (items_of (messages ++ later))
learns_some_both old now next messages later first second = λ s before learnt.
    subst (λ l. HasLearntSome s l next) (append_assoc before (items_of messages) (items_of later) ∙ ap (λ l. before ++ l) (items_both messages later)) (second s (before ++ items_of messages) (first s before learnt))

-- however far it came, it has learnt the first items of these messages and more
pub some_then : (s : State) (end : PairEnd) (messages later : List (List ℕ)) (b : Backup) → LearntBy end s (items_of messages) b → HasLearntSome s (items_of (messages ++ later)) b
some_then s Finished messages later b learnt = subst (λ l. HasLearntSome s l b) (items_both messages later) (learnt_some s (items_of messages) (items_of later) b learnt)
some_then s NoMemory messages later b some = some_of_part s (items_of messages) (items_of later) (items_of (messages ++ later)) b (items_both messages later) some
