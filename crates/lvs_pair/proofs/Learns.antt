-- What a director has learnt, item by item.
use Rattle.std.proofs.Common.{◌≡◌, ℕ, suc, ◌<◌, ◌≤◌, min, get_or, List, [], ◌∷◌, ◌++◌, length, take, drop, map, sym, refl, ap, ◌∙◌, subst, append_assoc, arith}
use Rattle.std.proofs.lemmas.List.{take-append-le, take-append-drop, take_min, map-append}
use Rattle.std.proofs.Math.Seq.{take-length, take-suc}
use Rattle.std.specs.Prelude.{Ok}
use Rattle.lvs_types.specs.declared.item.Item.{Item}
use Rattle.lvs_types.specs.declared.item.Item.TheVariants as item
use Rattle.lvs_types.specs.declared.reply.Reply.{Reply}
use Rattle.lvs_types.specs.declared.sync.Message.{Message}
use Rattle.lvs_types.specs.declared.sync.SyncItem.{SyncItem}
use Rattle.lvs_model.specs.MessageReading.{read_sync}
use Rattle.lvs_model.specs.Plans.{items_of_message}
use Rattle.lvs_model.specs.State.{State}
use Rattle.lvs_model.specs.Step.{step}
use Rattle.lvs_model.specs.WellFormed.{IsWellFormed}
use Rattle.lvs_core.specs.Laws.{TakesOver}
use Rattle.lvs_pair.specs.Learning.{BeginsWell, HasLearnt, HasLearntSome, Learns, LearnsSome}
use Rattle.lvs_pair.specs.Pairing.{items_in, learnt_of}
use Rattle.lvs_pair.specs.declared.backup.Backup.{Backup}

-- one item more
abbrev after_item : List (Item × Reply) × State → Item → List (Item × Reply) × State
after_item so_far item = let now = step so_far.1 item in (so_far.0 ++ (item, now.0) ∷ [], now.1)

learnt_more : (s : State) (items : List Item) (item : Item) → learnt_of s (items ++ item ∷ []) ≡ after_item (learnt_of s items) item
learnt_more s [] item = refl
learnt_more s (first ∷ items) item = ap (λ (later : List (Item × Reply) × State). ((first, (step s first).0) ∷ later.0, later.1)) (learnt_more (step s first).1 items item)

-- what a call that learns an item leaves
book_more : (s t t' : State) (before : List Item) (item : Item) (old new : List (Item × Reply)) (answered : Item × Reply)
    → (old, t) ≡ learnt_of s before → new ≡ old ++ answered ∷ [] → answered.0 ≡ item → (answered.1, t') ≡ step t item → (new, t') ≡ learnt_of s (before ++ item ∷ [])
book_more s t t' before item old new answered so_far grown same is =
    let pair : answered ≡ (item, (step t item).0) = λ i. (same i, (is i).0) in
    let made : (new, t') ≡ after_item (old, t) item = λ i. ((grown ∙ ap (λ a. old ++ a ∷ []) pair) i, (is i).1) in
    made ∙ ap (λ p. after_item p item) so_far ∙ sym (learnt_more s before item)

-- what the call's clauses say of the step
pub record Stepped (t : State) (item : Item) : Type 0 where
  pub takeover : TakesOver t item (step t item)
  pub well_formed : IsWellFormed (step t item).1

pub stepped : (t t' : State) (item : Item) (reply : Reply) → (reply, t') ≡ step t item → TakesOver t item (reply, t') → IsWellFormed t' → Stepped t item
stepped t t' item reply is takeover well = record {
  takeover = subst (λ (a : Reply × State). TakesOver t item a) is takeover;
  well_formed = subst (λ (a : Reply × State). IsWellFormed a.1) is well;
}

begun_more : (s t : State) (before : List Item) (item : Item) (old : List (Item × Reply)) → (old, t) ≡ learnt_of s before → BeginsWell s before → Stepped t item → BeginsWell s (before ++ item ∷ [])
begun_more s t [] item old so_far begun h = let same : t ≡ s = λ i. (so_far i).1 in
    subst (λ x. TakesOver x item (step x item) × IsWellFormed (step x item).1) same (h.takeover, h.well_formed)
begun_more s t (first ∷ before) item old so_far begun h = begun

pub has_learnt_more : (s : State) (before : List Item) (item : Item) (b b' : Backup) (answered : Item × Reply)
    → HasLearnt s before b → b'.learnt.items ≡ b.learnt.items ++ answered ∷ [] → answered.0 ≡ item → (answered.1, b'.core.state) ≡ step b.core.state item → Stepped b.core.state item → HasLearnt s (before ++ item ∷ []) b'
has_learnt_more s before item b b' answered so_far grown same is h = record {
  book = book_more s b.core.state b'.core.state before item b.learnt.items b'.learnt.items answered so_far.book grown same is;
  begun = begun_more s b.core.state before item b.learnt.items so_far.book so_far.begun h;
}

pub first_ones : {X : Type 0} (part rest : List X) → take (length part) (part ++ rest) ≡ part
first_ones part rest = take-append-le (length part) part rest (omega arith) ∙ take-length part

parts : {X : Type 0} (f : X → Item) (xs : List X) (i : ℕ) (x d : X) → i < length xs → x ≡ get_or xs i d → (map f (take i xs) ++ f x ∷ []) ++ map f (drop (suc i) xs) ≡ map f xs
parts f xs i x d there is = ap (λ l. l ++ map f (drop (suc i) xs)) (sym (map-append f (take i xs) (x ∷ [])) ∙ ap (map f) (ap (λ y. take i xs ++ y ∷ []) is ∙ sym (take-suc xs i d there)))
    ∙ sym (map-append f (take (suc i) xs) (drop (suc i) xs)) ∙ ap (map f) (take-append-drop (suc i) xs)

-- the first of a part are the first of the whole
pub first_of_part : {X : Type 0} (part rest whole : List X) (n : ℕ) → part ++ rest ≡ whole → take n part ≡ take (min n (length part)) whole
first_of_part part rest whole n is = sym (take_min n part) ∙ sym (take-append-le (min n (length part)) part rest (omega arith)) ∙ ap (take (min n (length part))) is

pub some_of_part : (s : State) (part rest whole : List Item) (b : Backup) → part ++ rest ≡ whole → HasLearntSome s part b → HasLearntSome s whole b
some_of_part s part rest whole b is some = record { count = min some.count (length part); learnt = subst (λ l. HasLearnt s l b) (first_of_part part rest whole some.count is) some.learnt }

pub learnt_some : (s : State) (part rest : List Item) (b : Backup) → HasLearnt s part b → HasLearntSome s (part ++ rest) b
learnt_some s part rest b learnt = record { count = length part; learnt = subst (λ l. HasLearnt s l b) (sym (first_ones part rest)) learnt }

pub learns_none : (old new : Backup) (items : List Item) → new.learnt.items ≡ old.learnt.items → new.core.state ≡ old.core.state → LearnsSome old new items
learns_none old new items same same' = λ s before learnt. learnt_some s before items new (record { book = (λ i. (same i, same' i)) ∙ learnt.book; begun = learnt.begun })

-- so far, and then one more of these or none
pub mapped_some : {X : Type 0} (f : X → Item) (xs : List X) (i : ℕ) (x d : X) (old mid new : Backup) → i < length xs → x ≡ get_or xs i d → Learns old mid (map f (take i xs)) → LearnsSome mid new (f x ∷ []) → LearnsSome old new (map f xs)
mapped_some f xs i x d old mid new there is so_far last = λ s before learnt. some_of_part s ((before ++ map f (take i xs)) ++ f x ∷ []) (map f (drop (suc i) xs)) (before ++ map f xs) new
    (ap (λ l. l ++ map f (drop (suc i) xs)) (append_assoc before (map f (take i xs)) (f x ∷ [])) ∙ append_assoc before (map f (take i xs) ++ f x ∷ []) (map f (drop (suc i) xs))
    ∙ ap (λ l. before ++ l) (parts f xs i x d there is)) (last s (before ++ map f (take i xs)) (so_far s before learnt))

-- the items of a message that was read
pub items_read : (bytes : List ℕ) (message : Message) (records : List SyncItem) → read_sync bytes ≡ Ok message → records ≡ message.items → map (λ (r : SyncItem). item.Learn message.sync_id r) records ≡ items_in bytes
items_read bytes message records read is = ap (map (λ (r : SyncItem). item.Learn message.sync_id r)) is ∙ sym (ap items_of_message read)
