-- A book of `serial` is legal, and books of rounds are books of a run.
use Rattle.std.proofs.Common.{◌≡◌, ℕ, zero, suc, ◌+◌, ◌≤◌, List, [], ◌∷◌, Some, None, length, take, drop, map, refl, sym, ◌∙◌, ap, subst, arith}
use Rattle.std.specs.List.{slice_get}
use Rattle.lvs_types.specs.declared.item.Item.{Item}
use Rattle.lvs_types.specs.declared.reply.Reply.{Reply}
use Rattle.lvs_types.specs.declared.book.Noted.{Noted}
use Rattle.lvs_types.specs.declared.book.RoundBook.{RoundBook}
use Rattle.lvs_types.specs.declared.script.Round.{Round}
use Rattle.lvs_types.specs.declared.script.Script.{Script}
use Rattle.lvs_model.specs.State.{State, initial}
use Rattle.lvs_model.specs.Plans.{plan, serial_order, serial_items, items_of_actor, items_of_lines}
use Rattle.lvs_model.specs.declared.task.ActOrder.{ActOrder}
use Rattle.lvs_model.specs.declared.task.ActOrder.TheVariants.{Serial, Free}
use Rattle.lvs_model.specs.Step.{run}
use Rattle.lvs_model.specs.Books.{at_moment, acts_of, placed_of, items_of, replies_of}
use Rattle.lvs_model.specs.Legal.{IsLegal, AreLegalBooks}
use Rattle.lvs_model.specs.Tasks.{AreSerial, AreOrdered, AreBooksOfRun, AreBooksOfRuns, state_behind}
use Rattle.lvs_run.specs.SerialBooks.{IsInOrder}
use Rattle.lvs_run.specs.Ways.{Way, serial_way, run_by, IsPlayed, ArePlayed}
use Rattle.lvs_run.proofs.Numbered.{AreAllFrom, numbered}
use Rattle.lvs_run.proofs.Orders.{order_of_clock, order_of_control, order_of_sync, order_of_worker, order_of_none, items_of_only_worker}

abbrev HasItems : ℕ → List Item → List Noted → Type 0
HasItems actor items acts = AreAllFrom 0 items (acts_of actor acts)

-- the acts of an actor, where its items in the order of `serial` are these and the plan has them
has_items : (actor : ℕ) (items planned given : List Item) (round : Round) (acts : List Noted) → map placed_of acts ≡ serial_items round → items_of_actor actor (serial_order round) ≡ items → items ≡ planned → Some planned ≡ Some given → HasItems actor given acts
has_items actor items planned given round acts order are plans gives =
    let P : List Item → Type 0 = λ l. HasItems actor l acts in
    let all : items_of_actor actor (serial_order round) ≡ given = are ∙ plans ∙ cc in
    subst P all (numbered actor [] (serial_order round) acts order)

has_plan : (round : Round) (acts : List Noted) → map placed_of acts ≡ serial_items round → (actor : ℕ) (items : List Item) → slice_get (plan round 1 1).lists actor ≡ Some items → HasItems actor items acts
has_plan round acts order zero items gives = has_items 0 _ _ items round acts order (order_of_clock round) refl gives
has_plan round acts order (suc zero) items gives = has_items 1 _ _ items round acts order (order_of_control round) refl gives
has_plan round acts order (suc (suc zero)) items gives = has_items 2 _ _ items round acts order (order_of_sync round) refl gives
has_plan round acts order (suc (suc (suc zero))) items gives = has_items 3 _ _ items round acts order (order_of_worker round) (sym (items_of_only_worker (items_of_actor 3 (items_of_lines round)))) gives
has_plan round acts order (suc (suc (suc (suc more)))) items gives = cc

nothing : (acts : List Noted) (items : List Item) → length acts ≡ length items → items ≡ [] → acts ≡ []
nothing [] items same none = refl
nothing (act ∷ acts) [] same none = absurd (omega arith)
nothing (act ∷ acts) (i ∷ items) same none = cc

has_none : (round : Round) (acts : List Noted) → map placed_of acts ≡ serial_items round → (actor : ℕ) → slice_get (plan round 1 1).lists actor ≡ None → acts_of actor acts ≡ []
has_none round acts order zero gives = cc
has_none round acts order (suc zero) gives = cc
has_none round acts order (suc (suc zero)) gives = cc
has_none round acts order (suc (suc (suc zero))) gives = cc
has_none round acts order (suc (suc (suc (suc more)))) gives =
    let actor : ℕ = suc (suc (suc (suc more))) in
    nothing (acts_of actor acts) (items_of_actor actor (serial_order round)) (numbered actor [] (serial_order round) acts order).all (order_of_none actor (serial_order round) (omega arith))

legal : (number : ℕ) (round : Round) (before : State) (book : RoundBook) (left : State) → IsInOrder number round before book left → IsLegal (at_moment before round.moment) (plan round 1 1) book left
legal number round before book left is = record {
  sound = record {
    moment = is.moment;
    buckets = is.buckets;
    workers = omega (arith, is.workers);
    actors = λ actor items gives. (has_plan round book.acts is.order actor items gives).from;
    none = has_none round book.acts is.order;
    replies = is.replies;
  };
  whole = λ actor items gives. (has_plan round book.acts is.order actor items gives).all;
  shown = is.shown;
}

pub played_serial : (number : ℕ) (round : Round) (before : State) (book : RoundBook) (left : State) → IsInOrder number round before book left → IsPlayed serial_way number round before book left
played_serial number round before book left is = record { number_is = is.number_is; legal = legal number round before book left is; order = is.order }

-- BOOKS OF ROUNDS

legal_books : (way : Way) (number : ℕ) (s : State) (rounds : List Round) (books : List RoundBook) (left : State) → ArePlayed way number s rounds books left → AreLegalBooks way.workers way.buckets number s rounds books
legal_books way number s rounds [] left played = tt
legal_books way number s [] (book ∷ books) left played = played
legal_books way number s (round ∷ rounds) (book ∷ books) left played =
    (played.0, played.1.number_is, played.1.legal, legal_books way (number + 1) played.0 rounds books left played.2)

serial_books : (workers buckets number : ℕ) (s : State) (rounds : List Round) (books : List RoundBook) (left : State) → ArePlayed (record { order = Serial; workers = workers; buckets = buckets }) number s rounds books left → AreSerial rounds books
serial_books workers buckets number s rounds [] left played = tt
serial_books workers buckets number s [] (book ∷ books) left played = played
serial_books workers buckets number s (round ∷ rounds) (book ∷ books) left played =
    (played.1.order, serial_books workers buckets (number + 1) played.0 rounds books left played.2)

ordered_books : (order : ActOrder) (workers buckets number : ℕ) (s : State) (rounds : List Round) (books : List RoundBook) (left : State) → ArePlayed (record { order = order; workers = workers; buckets = buckets }) number s rounds books left → AreOrdered order rounds books
ordered_books Serial workers buckets number s rounds books left played = serial_books workers buckets number s rounds books left played
ordered_books Free workers buckets number s rounds books left played = tt

-- no more books than rounds
few_books : (way : Way) (number : ℕ) (s : State) (rounds : List Round) (books : List RoundBook) (left : State) → ArePlayed way number s rounds books left → length books ≤ length rounds
few_books way number s rounds [] left played = omega arith
few_books way number s [] (book ∷ books) left played = absurd played
few_books way number s (round ∷ rounds) (book ∷ books) left played = omega (arith, few_books way (number + 1) played.0 rounds books left played.2)

take_all : (books : List RoundBook) (n : ℕ) → length books ≤ n → take n books ≡ books
take_all [] zero few = refl
take_all [] (suc n) few = refl
take_all (book ∷ books) zero few = absurd (omega arith)
take_all (book ∷ books) (suc n) few = ap (λ (l : List RoundBook). book ∷ l) (take_all books n (omega arith))

drop_all_of : (books : List RoundBook) (n : ℕ) → length books ≤ n → drop n books ≡ []
drop_all_of [] zero few = refl
drop_all_of [] (suc n) few = refl
drop_all_of (book ∷ books) zero few = absurd (omega arith)
drop_all_of (book ∷ books) (suc n) few = drop_all_of books n (omega arith)

played_run : (way : Way) (script : Script) (books : List RoundBook) (left : State) → ArePlayed way 0 (initial script.local way.buckets) script.rounds books left → AreBooksOfRuns (run_by way script ∷ []) books
played_run way script books left played =
    let few : length books ≤ length script.rounds = few_books way 0 (initial script.local way.buckets) script.rounds books left played in
    let run : AreBooksOfRun (run_by way script) books = record {
      legal = legal_books way 0 (initial script.local way.buckets) script.rounds books left played;
      order = ordered_books way.order way.workers way.buckets 0 (initial script.local way.buckets) script.rounds books left played;
    } in
    (subst (λ (l : List RoundBook). AreBooksOfRun (run_by way script) l) (sym (take_all books (length script.rounds) few)) run, drop_all_of books (length script.rounds) few)

from_start : (way : Way) (script : Script) (s : State) (rounds : List Round) (books : List RoundBook) (left : State) → s ≡ initial script.local way.buckets → rounds ≡ script.rounds → ArePlayed way 0 s rounds books left → ArePlayed way 0 (initial script.local way.buckets) script.rounds books left
from_start way script s rounds books left first are played =
    let P : State → Type 0 = λ t. ArePlayed way 0 t rounds books left in
    let Q : List Round → Type 0 = λ l. ArePlayed way 0 (initial script.local way.buckets) l books left in
    subst Q are (subst P first played)

-- what was played from the first state on
pub books_of_run : (way : Way) (script : Script) (s : State) (rounds : List Round) (books : List RoundBook) (left : State) → s ≡ initial script.local way.buckets → rounds ≡ script.rounds → ArePlayed way 0 s rounds books left → AreBooksOfRuns (run_by way script ∷ []) books
books_of_run way script s rounds books left first are played = played_run way script books left (from_start way script s rounds books left first are played)

-- before the first round
pub no_books_of_run : (way : Way) (script : Script) → AreBooksOfRuns (run_by way script ∷ []) []
no_books_of_run way script = played_run way script [] (initial script.local way.buckets) refl

-- WHAT THE BOOKS LEAVE

left_by : (way : Way) (number : ℕ) (round : Round) (s : State) (book : RoundBook) (left : State) → IsPlayed way number round s book left → left ≡ (run (at_moment s book.moment) (items_of book.acts)).1
left_by way number round s book left is =
    sym (ap (λ (m : ℕ). (run (at_moment s m) (items_of book.acts)).1) is.legal.sound.moment ∙ ap (λ (p : List Reply × State). p.1) is.legal.sound.replies)

left_behind : (way : Way) (number : ℕ) (s : State) (rounds : List Round) (books : List RoundBook) (left : State) → ArePlayed way number s rounds books left → left ≡ state_behind s books
left_behind way number s rounds [] left played = played
left_behind way number s [] (book ∷ books) left played = absurd played
left_behind way number s (round ∷ rounds) (book ∷ books) left played =
    left_behind way (number + 1) played.0 rounds books left played.2 ∙ ap (λ (t : State). state_behind t books) (left_by way number round s book played.0 played.1)

pub left_of_run : (way : Way) (script : Script) (s : State) (rounds : List Round) (books : List RoundBook) (left : State) → s ≡ initial script.local way.buckets → rounds ≡ script.rounds → ArePlayed way 0 s rounds books left → left ≡ state_behind (initial script.local way.buckets) books
left_of_run way script s rounds books left first are played =
    left_behind way 0 (initial script.local way.buckets) script.rounds books left (from_start way script s rounds books left first are played)
