-- A head that passed begins a legal book.
use Rattle.std.proofs.Common.{◌≡◌, ℕ, zero, suc, ◌+◌, true, List, [], ◌∷◌, ◌++◌, Some, None, Ok, length, map, slice_get, refl, sym, ◌∙◌, ap, subst, arith, append_assoc}
use Rattle.std.specs.Prelude.{bytes_eq}
use Rattle.std.specs.List.{list_all}
use Rattle.std.proofs.lemmas.List.{length-map}
use Rattle.lvs_types.specs.declared.item.Item.{Item}
use Rattle.lvs_types.specs.declared.book.Noted.{Noted}
use Rattle.lvs_types.specs.declared.book.RoundBook.{RoundBook}
use Rattle.lvs_types.specs.declared.book.Shown.{Shown}
use Rattle.lvs_types.specs.declared.script.Round.{Round}
use Rattle.lvs_model.specs.State.{State}
use Rattle.lvs_model.specs.Plans.{plan, numbers_from, items_of_worker, items_of_actor, items_of_lines}
use Rattle.lvs_model.specs.Books.{at_moment}
use Rattle.lvs_model.specs.Legal.{IsLegal, AreLegalBooks}
use Rattle.lvs_model.specs.Listings.{shown_of}
use Rattle.lvs_model.specs.Report.{acts_text, listings_text, books_text}
use Rattle.lvs_model.specs.Progress.{ReportText, Sizes, Queue, Progress, head_words}
use Rattle.lvs_model.specs.Checking.{is_used_up, round_ended, round_begun, head_said, head_judged}
use Rattle.lvs_verdicts.proofs.Walks.{queue_at, UsesUp, all_taken, none_taken, run_of}
use Rattle.lvs_verdicts.proofs.Backward.{IsRest, then_ok, same_ok, readable, same_text, due_text, behind_acts, round_back}

-- THE LISTS OF A ROUND

abbrev pub whole_queue : List Item → Queue
whole_queue items = queue_at 0 items

pub get_whole : (lists : List (List Item)) (actor : ℕ) (items : List Item) → slice_get lists actor ≡ Some items → slice_get (map whole_queue lists) actor ≡ Some (whole_queue items)
get_whole [] actor items is = cc
get_whole (own ∷ lists) zero items is = let same : own ≡ items = cc in ap (λ (xs : List Item). Some (whole_queue xs)) same
get_whole (own ∷ lists) (suc actor) items is = get_whole lists actor items is

pub get_none : (lists : List (List Item)) (actor : ℕ) → slice_get lists actor ≡ None → slice_get (map whole_queue lists) actor ≡ None
get_none [] actor is = refl
get_none (own ∷ lists) zero is = cc
get_none (own ∷ lists) (suc actor) is = get_none lists actor is

length_numbers : (first count : ℕ) → length (numbers_from first count) ≡ count
length_numbers first zero = refl
length_numbers first (suc count) = omega (arith, length_numbers (first + 1) count)

pub count_lists : (round : Round) (workers buckets : ℕ) → workers + 3 ≡ length (plan round workers buckets).lists
count_lists round workers buckets =
    omega (arith, length_numbers 0 workers, length-map (numbers_from 0 workers) (λ (worker : ℕ). items_of_worker workers worker (items_of_actor 3 (items_of_lines round))))

-- A BOOK

abbrev pub book_with : ℕ → Round → Sizes → List Noted → State → RoundBook
book_with number round sizes acts left = record {
  number = number;
  moment = round.moment;
  workers = sizes.workers;
  buckets = sizes.buckets;
  acts = acts;
  shown = shown_of left (plan round sizes.workers sizes.buckets).shown;
}

legal_book : (number : ℕ) (round : Round) (sizes : Sizes) (acts : List Noted) (s left : State) → UsesUp (map whole_queue (plan round sizes.workers sizes.buckets).lists) s acts left → IsLegal s (plan round sizes.workers sizes.buckets) (book_with number round sizes acts left) left
legal_book number round sizes acts s left walk =
    let lists = (plan round sizes.workers sizes.buckets).lists in
    let taken = all_taken (map whole_queue lists) s acts left walk in
    record {
      sound = record {
        moment = refl;
        buckets = refl;
        workers = count_lists round sizes.workers sizes.buckets;
        actors = λ actor items is. (taken actor (whole_queue items) (get_whole lists actor items is)).0;
        none = λ actor is. none_taken (map whole_queue lists) s acts left walk actor (get_none lists actor is);
        replies = run_of (map whole_queue lists) s acts left walk;
      };
      whole = λ actor items is. (taken actor (whole_queue items) (get_whole lists actor items is)).1;
      shown = refl;
    }

-- THE HEAD

rest_head : (sizes : Sizes) (e : Progress) (round : Round) (rounds : List Round) (rest : List ℕ) → e.due ≡ [] → list_all is_used_up e.queues ≡ true → e.shown ≡ [] → e.rounds ≡ round ∷ rounds → IsRest sizes (round_begun sizes round rounds e) rest → IsRest sizes e (head_words e.number round.moment sizes ++ 10 ∷ rest)
rest_head sizes e round rounds rest closed used none next r =
    let book = book_with e.number round sizes r.acts r.left in
    let head = head_words e.number round.moment sizes in
    let acts = acts_text 0 r.acts in
    let shown = listings_text book.shown in
    let later = books_text r.books in
    record {
      acts = [];
      left = e.state;
      books = book ∷ r.books;
      walk = (used, refl);
      legal =
          subst (λ (all : List Round). AreLegalBooks sizes.workers sizes.buckets e.number e.state all (book ∷ r.books)) (sym next)
          (r.left, refl, legal_book e.number round sizes r.acts (at_moment e.state round.moment) r.left r.walk, r.legal);
      each_round = omega (arith, r.each_round, ap length next);
      text_is =
          ap (λ (l : List ℕ). head ++ 10 ∷ l) r.text_is
          ∙ sym (append_assoc head (10 ∷ []) (acts ++ (shown ++ later)))
          ∙ sym (append_assoc (head ++ 10 ∷ []) acts (shown ++ later))
          ∙ sym (append_assoc ((head ++ 10 ∷ []) ++ acts) shown later)
          ∙ ap (λ (ks : List Shown). behind_acts e.state ks (book ∷ r.books)) (sym none)
          ∙ ap (λ (lines : List (List ℕ)). due_text lines ++ behind_acts e.state e.shown (book ∷ r.books)) (sym closed);
    }

said_back : (sizes : Sizes) (at : ReportText) (rounds : List Round) (e q : Progress) (rest : List ℕ) → head_said sizes at rounds e ≡ Ok q → e.rounds ≡ rounds → e.due ≡ [] → list_all is_used_up e.queues ≡ true → e.shown ≡ [] → IsRest sizes q rest → IsRest sizes e (at.text ++ 10 ∷ rest)
said_back sizes at [] e q rest is next closed used none r = cc
said_back sizes at (round ∷ rounds) e q rest is next closed used none r =
    let begun = round_begun sizes round rounds e in
    let named = readable (bytes_eq at.text (head_words e.number round.moment sizes)) at (Ok begun) q is in
    let left = subst (λ (x : Progress). IsRest sizes x rest) (sym (same_ok begun q named.1)) r in
    subst (λ (l : List ℕ). IsRest sizes e (l ++ 10 ∷ rest)) (sym (same_text at.text (head_words e.number round.moment sizes) named.0)) (rest_head sizes e round rounds rest closed used none next left)

pub head_back : (sizes : Sizes) (at : ReportText) (p q : Progress) (rest : List ℕ) → head_judged sizes at p ≡ Ok q → p.due ≡ [] → IsRest sizes q rest → IsRest sizes p (at.text ++ 10 ∷ rest)
head_back sizes at p q rest is closed r =
    let parts = then_ok (round_ended at p) (λ (e : Progress). head_said sizes at e.rounds e) q is in
    let e = parts.0 in
    let both = round_back sizes at p e parts.1 in
    let ended = both.0 in
    ended.back (at.text ++ 10 ∷ rest) (said_back sizes at e.rounds e q rest parts.2 refl (ended.due ∙ closed) ended.used both.1 r)
