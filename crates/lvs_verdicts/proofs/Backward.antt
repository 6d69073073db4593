-- What is judged legal from a line on is the text of what is left of a legal book and of the books behind it.
use Rattle.std.proofs.Common.{◌≡◌, ℕ, ◌+◌, ◌-◌, ◌<◌, ◌≤◌, ◌==◌, Bool, true, false, not, ◌||◌, cond, List, [], ◌∷◌, ◌++◌, Option, Some, None, Result, Ok, Err, length, take, set, slice_get, nat_lt, codes, refl, sym, ◌∙◌, ap, subst, arith, append_assoc}
use Rattle.std.specs.Prelude.{bytes_eq}
use Rattle.std.specs.List.{list_all, join_with_byte}
use Rattle.std.proofs.lemmas.Bool.{eqb-true}
use Rattle.std.proofs.lemmas.Bool.Decides.{nat_tests}
use Rattle.std.proofs.lemmas.Slice.Eq.{bytes_eq-Decides}
use Rattle.std.proofs.lemmas.List.Splits.{length-slice_split, join_with_byte-slice_split}
use Rattle.lvs_types.specs.declared.item.Item.{Item}
use Rattle.lvs_types.specs.declared.reply.Reply.{Reply}
use Rattle.lvs_types.specs.declared.book.Noted.{Noted}
use Rattle.lvs_types.specs.declared.book.RoundBook.{RoundBook}
use Rattle.lvs_types.specs.declared.book.Shown.{Shown}
use Rattle.lvs_types.specs.declared.report.Verdict.{Verdict}
use Rattle.lvs_types.specs.declared.report.Verdict.TheVariants as verdict
use Rattle.lvs_model.specs.State.{State}
use Rattle.lvs_model.specs.Step.{step}
use Rattle.lvs_model.specs.Legal.{AreLegalBooks}
use Rattle.lvs_model.specs.Listings.{text_of, shown_of, shown_listing}
use Rattle.lvs_model.specs.Snapshots.{snapshot_of}
use Rattle.lvs_model.specs.Lines.{is_feed}
use Rattle.lvs_model.specs.Report.{is_printed, acts_text, shown_name, shown_text, listings_text, books_text}
use Rattle.lvs_model.specs.ReportReading.{line_of}
use Rattle.lvs_model.specs.Refusals.{◌>>=◌}
use Rattle.lvs_model.specs.Progress.{ReportText, Sizes, Queue, Progress, unreadable, unreadable_if, checked_text, act_words, listing_lines, run_silently, silent, clock_of, skipped, filled}
use Rattle.lvs_model.specs.Checking.{checked_place, act_taken, next_taken, actor_taken, act_judged, is_used_up, acts_ended, round_ended, listing_opened, listing_judged}
use Rattle.lvs_verdicts.proofs.Walks.{queue_at, UsesUp, empty_by}
use Rattle.lvs_verdicts.proofs.Silent.{fills}

-- RESULTS

abbrev pub Judged : Type 0
Judged = Result Progress Verdict

pub then_ok : {A B E : Type 0} (r : Result A E) (f : A → Result B E) (y : B) → (r >>= f) ≡ Ok y → (x : A) × (r ≡ Ok x) × (f x ≡ Ok y)
then_ok (Ok x) f y is = (x, refl, is)
then_ok (Err why) f y is = absurd cc

progress_in : Progress → Judged → Progress
progress_in other (Ok p) = p
progress_in other (Err why) = other

pub same_ok : (p q : Progress) → ◌≡◌ {A = Judged} (Ok p) (Ok q) → p ≡ q
unfolding progress_in
same_ok p q is = ap (progress_in p) is

pub not_unreadable : {A : Type 0} (b : Bool) (at : ReportText) (r : Result A Verdict) (y : A) → cond b (unreadable at) r ≡ Ok y → (b ≡ false) × (r ≡ Ok y)
not_unreadable true at r y is = absurd cc
not_unreadable false at r y is = (refl, is)

pub readable : {A : Type 0} (b : Bool) (at : ReportText) (r : Result A Verdict) (y : A) → cond b r (unreadable at) ≡ Ok y → (b ≡ true) × (r ≡ Ok y)
readable true at r y is = (refl, is)
readable false at r y is = absurd cc

pub same_text : (xs ys : List ℕ) → bytes_eq xs ys ≡ true → xs ≡ ys
same_text xs ys is = (bytes_eq-Decides xs ys).0 is

text_by : (b : Bool) (at : ReportText) (expected : List ℕ) (u : Unit {0}) → cond b (Ok tt) (Err (verdict.Illegal at.number expected at.text)) ≡ Ok u → b ≡ true
text_by true at expected u is = refl
text_by false at expected u is = absurd cc

pub text_is : (at : ReportText) (expected : List ℕ) (u : Unit {0}) → checked_text at expected ≡ Ok u → at.text ≡ expected
text_is at expected u is = same_text at.text expected (text_by (bytes_eq at.text expected) at expected u is)

-- WHAT IS LEFT OF A REPORT

-- the lines that are due, each with its line feed
abbrev pub due_text : List (List ℕ) → List ℕ
due_text [] = []
due_text (text ∷ texts) = text ++ 10 ∷ due_text texts

abbrev pub behind_acts : State → List Shown → List RoundBook → List ℕ
behind_acts left shown books = listings_text (shown_of left shown) ++ books_text books

-- the text of what is left: of the open listing, of acts that use up the lists, of the listings, and of legal books of the rounds without a head
pub record IsRest (sizes : Sizes) (p : Progress) (text : List ℕ) : Type 0 where
  pub acts : List Noted
  pub left : State
  pub books : List RoundBook
  pub walk : UsesUp p.queues p.state acts left
  pub legal : AreLegalBooks sizes.workers sizes.buckets p.number left p.rounds books
  pub each_round : length books ≡ length p.rounds
  pub text_is : text ≡ due_text p.due ++ (acts_text p.place acts ++ behind_acts left p.shown books)

-- A LINE OF AN OPEN LISTING

pub rest_due : (sizes : Sizes) (p : Progress) (expected : List ℕ) (later : List (List ℕ)) (rest : List ℕ) → p.due ≡ expected ∷ later → IsRest sizes (record p { due = later }) rest → IsRest sizes p (expected ++ 10 ∷ rest)
rest_due sizes p expected later rest due r = record {
  acts = r.acts;
  left = r.left;
  books = r.books;
  walk = r.walk;
  legal = r.legal;
  each_round = r.each_round;
  text_is =
      let behind = acts_text p.place r.acts ++ behind_acts r.left p.shown r.books in
      ap (λ (l : List ℕ). expected ++ 10 ∷ l) r.text_is
      ∙ sym (append_assoc expected (10 ∷ due_text later) behind)
      ∙ ap (λ (lines : List (List ℕ)). due_text lines ++ behind) (sym due);
}

-- PLACES WITHOUT A LINE

rest_filled : (sizes : Sizes) (p : Progress) (count : ℕ) (t : State) (text : List ℕ) → count ≤ length (clock_of p.queues).items → run_silently p.place (clock_of p.queues).next p.state (take count (clock_of p.queues).items) ≡ Ok t
    → IsRest sizes (record p { state = t; place = p.place + count; queues = set p.queues 0 (skipped count (clock_of p.queues)) }) text → IsRest sizes p text
rest_filled sizes p count t text few silent_is r =
    let f = fills count p.place p.state t p.queues few silent_is in
    record {
      acts = f.quiet ++ r.acts;
      left = r.left;
      books = r.books;
      walk = f.walk r.acts r.left r.walk;
      legal = r.legal;
      each_round = r.each_round;
      text_is = r.text_is ∙ ap (λ (l : List ℕ). due_text p.due ++ (l ++ behind_acts r.left p.shown r.books)) (sym (f.text r.acts));
    }

silent_ok : (at : ReportText) (r : Result State (List ℕ)) (t : State) → silent at r ≡ Ok t → r ≡ Ok t
silent_ok at (Ok s) t is = ap (λ (x : State). Ok x) cc
silent_ok at (Err words) t is = absurd cc

filled_back : (sizes : Sizes) (at : ReportText) (count : ℕ) (p f : Progress) (text : List ℕ) → filled at count p ≡ Ok f → count ≤ length (clock_of p.queues).items → (f.due ≡ p.due) × (IsRest sizes f text → IsRest sizes p text)
filled_back sizes at count p f text is few =
    let ran = run_silently p.place (clock_of p.queues).next p.state (take count (clock_of p.queues).items) in
    let parts = then_ok (silent at ran) (λ (left : State). Ok (record p { state = left; place = p.place + count; queues = set p.queues 0 (skipped count (clock_of p.queues)) })) f is in
    let same = same_ok (record p { state = parts.0; place = p.place + count; queues = set p.queues 0 (skipped count (clock_of p.queues)) }) f parts.2 in
    (ap (λ (q : Progress). q.due) (sym same), λ r. rest_filled sizes p count parts.0 text few (silent_ok at ran parts.0 parts.1) (subst (λ (q : Progress). IsRest sizes q text) (sym same) r))

-- AN ACT

abbrev noted : ℕ → ℕ → Item → Reply → Noted
noted actor number first answer = record { actor = actor; number = number; item = first; reply = answer }

no_line : line_of [] ≡ None
no_line = refl

printed_by : (b : Bool) (own text words rest behind : List ℕ) → text ≡ cond b words [] → (text ≡ [] → ⊥) → rest ≡ own ++ behind → text ++ 10 ∷ rest ≡ (cond b (words ++ 10 ∷ []) [] ++ own) ++ behind
printed_by true own text words rest behind is some later =
    ap (λ (l : List ℕ). l ++ 10 ∷ rest) is
    ∙ ap (λ (l : List ℕ). words ++ 10 ∷ l) later
    ∙ sym (append_assoc words (10 ∷ own) behind)
    ∙ ap (λ (l : List ℕ). l ++ behind) (sym (append_assoc words (10 ∷ []) own))
printed_by false own text words rest behind is some later = absurd (some is)

rest_act : (sizes : Sizes) (p : Progress) (actor next : ℕ) (first : Item) (items : List Item) (text rest : List ℕ) → p.due ≡ [] → slice_get p.queues actor ≡ Some (queue_at next (first ∷ items)) → text ≡ act_words p.place actor next (step p.state first).0 → (text ≡ [] → ⊥)
    → IsRest sizes (record p { state = (step p.state first).1; place = p.place + 1; queues = set p.queues actor (queue_at (next + 1) items) }) rest → IsRest sizes p (text ++ 10 ∷ rest)
rest_act sizes p actor next first items text rest closed at is some r =
    let own = noted actor next first (step p.state first).0 in
    let behind = behind_acts r.left p.shown r.books in
    let none : due_text p.due ≡ [] = ap due_text closed in
    record {
      acts = own ∷ r.acts;
      left = r.left;
      books = r.books;
      walk = (items, at, refl, r.walk);
      legal = r.legal;
      each_round = r.each_round;
      text_is =
          printed_by (is_printed own.reply) (acts_text (p.place + 1) r.acts) text _ rest behind is some (r.text_is ∙ ap (λ (l : List ℕ). l ++ (acts_text (p.place + 1) r.acts ++ behind)) none)
          ∙ ap (λ (l : List ℕ). l ++ (acts_text p.place (own ∷ r.acts) ++ behind)) (sym none);
    }

next_back : (sizes : Sizes) (at : ReportText) (actor number next : ℕ) (items : List Item) (p q : Progress) (rest : List ℕ) → next_taken at actor number next items p ≡ Ok q → slice_get p.queues actor ≡ Some (queue_at next items) → p.due ≡ [] → (at.text ≡ [] → ⊥) → IsRest sizes q rest → IsRest sizes p (at.text ++ 10 ∷ rest)
next_back sizes at actor number next [] p q rest is there closed some r = absurd cc
next_back sizes at actor number next (first ∷ items) p q rest is there closed some r =
    let taken = readable (number == next) at (act_taken at actor number first items p) q is in
    let same : number ≡ next = eqb-true number next taken.0 in
    let after = record p { state = (step p.state first).1; place = p.place + 1; queues = set p.queues actor (queue_at (number + 1) items) } in
    let parts = then_ok (checked_text at (act_words p.place actor number (step p.state first).0)) (λ (_ : Unit {0}). Ok after) q taken.1 in
    let words = text_is at (act_words p.place actor number (step p.state first).0) parts.0 parts.1 in
    let left : IsRest sizes after rest = subst (λ (x : Progress). IsRest sizes x rest) (sym (same_ok after q parts.2)) r in
    rest_act sizes p actor number first items at.text rest closed (there ∙ ap (λ (n : ℕ). Some (queue_at n (first ∷ items))) (sym same)) words some left

actor_back : (sizes : Sizes) (at : ReportText) (actor number : ℕ) (o : Option Queue) (p q : Progress) (rest : List ℕ) → actor_taken at actor number o p ≡ Ok q → slice_get p.queues actor ≡ o → p.due ≡ [] → (at.text ≡ [] → ⊥) → IsRest sizes q rest → IsRest sizes p (at.text ++ 10 ∷ rest)
actor_back sizes at actor number None p q rest is there closed some r = absurd cc
actor_back sizes at actor number (Some own) p q rest is there closed some r = next_back sizes at actor number own.next own.items p q rest is there closed some r

place_by : (a b : Bool) (at : ReportText) (u : Unit {0}) → cond (a || b) (unreadable at) (Ok tt) ≡ Ok u → b ≡ false
place_by true b at u is = absurd cc
place_by false true at u is = absurd cc
place_by false false at u is = refl

pub act_back : (sizes : Sizes) (at : ReportText) (place actor number : ℕ) (p q : Progress) (rest : List ℕ) → act_judged at place actor number p ≡ Ok q → p.due ≡ [] → (at.text ≡ [] → ⊥) → IsRest sizes q rest → IsRest sizes p (at.text ++ 10 ∷ rest)
act_back sizes at place actor number p q rest is closed some r =
    let taken : Progress → Judged = λ f. actor_taken at actor number (slice_get f.queues actor) f in
    let checked = then_ok (checked_place at place p) (λ (_ : Unit {0}). filled at (place - p.place) p >>= taken) q is in
    let few : nat_lt (length (clock_of p.queues).items) (place - p.place) ≡ false = place_by (nat_lt place p.place) _ at checked.0 checked.1 in
    let parts = then_ok (filled at (place - p.place) p) taken q checked.2 in
    let f = parts.0 in
    let back = filled_back sizes at (place - p.place) p f (at.text ++ 10 ∷ rest) parts.1 (grind (arith, nat_tests)) in
    back.1 (actor_back sizes at actor number (slice_get f.queues actor) f q rest parts.2 refl (back.0 ∙ closed) some r)

-- WHERE ACTS END

-- nothing is left to the actors
pub nothing_left : (queues : List Queue) (s : State) (acts : List Noted) (left : State) → list_all is_used_up queues ≡ true → UsesUp queues s acts left → (acts ≡ []) × (s ≡ left)
nothing_left queues s [] left all walk = (refl, walk.1)
nothing_left queues s (act ∷ acts) left all walk =
    let none : 0 ≡ length (act.item ∷ walk.0) = empty_by queues act.actor (queue_at act.number (act.item ∷ walk.0)) all walk.1 in
    absurd (omega arith)

-- behind the acts of a round nothing is left of its lists
pub record HasEnded (sizes : Sizes) (p e : Progress) : Type 0 where
  pub due : e.due ≡ p.due
  pub used : list_all is_used_up e.queues ≡ true
  pub back : (text : List ℕ) → IsRest sizes e text → IsRest sizes p text

pub not_false : (b : Bool) → not b ≡ false → b ≡ true
not_false true is = refl
not_false false is = absurd cc

ended_same : (sizes : Sizes) (p f e : Progress) → f ≡ e → HasEnded sizes p f → HasEnded sizes p e
ended_same sizes p f e same ended = subst (λ (x : Progress). HasEnded sizes p x) same ended

pub acts_back : (sizes : Sizes) (at : ReportText) (p e : Progress) → acts_ended at p ≡ Ok e → HasEnded sizes p e
acts_back sizes at p e is =
    let count = length (clock_of p.queues).items in
    let checked : Progress → Judged = λ f. unreadable_if (not (list_all is_used_up f.queues)) at >>= (λ (_ : Unit {0}). Ok f) in
    let parts = then_ok (filled at count p) checked e is in
    let f = parts.0 in
    let last = then_ok (unreadable_if (not (list_all is_used_up f.queues)) at) (λ (_ : Unit {0}). Ok f) e parts.2 in
    let used = not_unreadable (not (list_all is_used_up f.queues)) at (Ok tt) last.0 last.1 in
    ended_same sizes p f e (same_ok f e last.2) (record {
      due = (filled_back sizes at count p f [] parts.1 (omega arith)).0;
      used = not_false (list_all is_used_up f.queues) used.0;
      back = λ text. (filled_back sizes at count p f text parts.1 (omega arith)).1;
    })

pub no_more : {A : Type 0} (xs : List A) → not (length xs == 0) ≡ false → xs ≡ []
no_more [] is = refl
no_more (x ∷ xs) is = absurd (grind (arith, nat_tests))

pub round_back : (sizes : Sizes) (at : ReportText) (p e : Progress) → round_ended at p ≡ Ok e → HasEnded sizes p e × (e.shown ≡ [])
round_back sizes at p e is =
    let checked : Progress → Judged = λ f. unreadable_if (not (length f.shown == 0)) at >>= (λ (_ : Unit {0}). Ok f) in
    let parts = then_ok (acts_ended at p) checked e is in
    let f = parts.0 in
    let last = then_ok (unreadable_if (not (length f.shown == 0)) at) (λ (_ : Unit {0}). Ok f) e parts.2 in
    let none = not_unreadable (not (length f.shown == 0)) at (Ok tt) last.0 last.1 in
    let same = same_ok f e last.2 in
    (ended_same sizes p f e same (acts_back sizes at p f parts.1), ap (λ (x : Progress). x.shown) (sym same) ∙ no_more f.shown none.0)

-- A LISTING

due_join : (pieces : List (List ℕ)) → 0 < length pieces → due_text pieces ≡ join_with_byte 10 pieces ++ 10 ∷ []
due_join [] some = absurd (omega arith)
due_join (x ∷ []) some = refl
due_join (x ∷ y ∷ xs) some = ap (λ (l : List ℕ). x ++ 10 ∷ l) (due_join (y ∷ xs) (omega arith)) ∙ sym (append_assoc x (10 ∷ join_with_byte 10 (y ∷ xs)) (10 ∷ []))

-- a listing is its first line and the lines that are due behind it
pub listing_is : (s : State) (kind : Shown) → shown_text (shown_listing s kind) ≡ shown_name kind ++ 10 ∷ due_text (listing_lines s kind)
listing_is s kind =
    let text = text_of (snapshot_of s) kind in
    let name = shown_name kind ++ 10 ∷ [] in
    let lines : due_text (listing_lines s kind) ≡ (text ++ codes "end") ++ 10 ∷ [] =
    due_join (listing_lines s kind) (omega (arith, length-slice_split is_feed (text ++ codes "end"))) ∙ ap (λ (l : List ℕ). l ++ 10 ∷ []) (join_with_byte-slice_split 10 (text ++ codes "end")) in
    ap (λ (l : List ℕ). l ++ 10 ∷ []) (append_assoc name text (codes "end"))
    ∙ append_assoc name (text ++ codes "end") (10 ∷ [])
    ∙ append_assoc (shown_name kind) (10 ∷ []) ((text ++ codes "end") ++ 10 ∷ [])
    ∙ ap (λ (l : List ℕ). shown_name kind ++ 10 ∷ l) (sym lines)

rest_listing : (sizes : Sizes) (e : Progress) (kind : Shown) (kinds : List Shown) (rest : List ℕ) → e.due ≡ [] → list_all is_used_up e.queues ≡ true → e.shown ≡ kind ∷ kinds → IsRest sizes (record e { shown = kinds; due = listing_lines e.state kind }) rest → IsRest sizes e (shown_name kind ++ 10 ∷ rest)
rest_listing sizes e kind kinds rest closed used next r =
    let nothing = nothing_left e.queues e.state r.acts r.left used r.walk in
    let behind = behind_acts r.left kinds r.books in
    let none : acts_text e.place r.acts ≡ [] = ap (acts_text e.place) nothing.0 in
    record {
      acts = r.acts;
      left = r.left;
      books = r.books;
      walk = r.walk;
      legal = r.legal;
      each_round = r.each_round;
      text_is =
          ap (λ (l : List ℕ). shown_name kind ++ 10 ∷ l) (r.text_is ∙ ap (λ (l : List ℕ). due_text (listing_lines e.state kind) ++ (l ++ behind)) none ∙ ap (λ (s : State). due_text (listing_lines s kind) ++ behind) nothing.1)
          ∙ sym (append_assoc (shown_name kind) (10 ∷ due_text (listing_lines r.left kind)) behind)
          ∙ ap (λ (l : List ℕ). l ++ behind) (sym (listing_is r.left kind))
          ∙ sym (append_assoc (shown_text (shown_listing r.left kind)) (listings_text (shown_of r.left kinds)) (books_text r.books))
          ∙ ap (λ (l : List ℕ). l ++ behind_acts r.left (kind ∷ kinds) r.books) (sym none)
          ∙ ap (λ (ks : List Shown). acts_text e.place r.acts ++ behind_acts r.left ks r.books) (sym next)
          ∙ ap (λ (lines : List (List ℕ)). due_text lines ++ (acts_text e.place r.acts ++ behind_acts r.left e.shown r.books)) (sym closed);
    }

opened_back : (sizes : Sizes) (at : ReportText) (kinds : List Shown) (e q : Progress) (rest : List ℕ) → listing_opened at kinds e ≡ Ok q → e.shown ≡ kinds → e.due ≡ [] → list_all is_used_up e.queues ≡ true → IsRest sizes q rest → IsRest sizes e (at.text ++ 10 ∷ rest)
opened_back sizes at [] e q rest is next closed used r = absurd cc
opened_back sizes at (kind ∷ kinds) e q rest is next closed used r =
    let opened = record e { shown = kinds; due = listing_lines e.state kind } in
    let named = readable (bytes_eq at.text (shown_name kind)) at (Ok opened) q is in
    let left = subst (λ (x : Progress). IsRest sizes x rest) (sym (same_ok opened q named.1)) r in
    subst (λ (l : List ℕ). IsRest sizes e (l ++ 10 ∷ rest)) (sym (same_text at.text (shown_name kind) named.0)) (rest_listing sizes e kind kinds rest closed used next left)

pub listing_back : (sizes : Sizes) (at : ReportText) (p q : Progress) (rest : List ℕ) → listing_judged at p ≡ Ok q → p.due ≡ [] → IsRest sizes q rest → IsRest sizes p (at.text ++ 10 ∷ rest)
listing_back sizes at p q rest is closed r =
    let parts = then_ok (acts_ended at p) (λ (e : Progress). listing_opened at e.shown e) q is in
    let e = parts.0 in
    let ended = acts_back sizes at p e parts.1 in
    ended.back (at.text ++ 10 ∷ rest) (opened_back sizes at e.shown e q rest parts.2 refl (ended.due ∙ closed) ended.used r)
