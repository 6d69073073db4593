-- The text of legal books is judged legal.
use Rattle.std.proofs.Common.{◌≡◌, ℕ, zero, suc, ◌+◌, ◌<◌, ◌≤◌, ◌^◌, Bool, true, false, cond, List, [], ◌∷◌, ◌++◌, Option, Some, None, Ok, length, map, set, slice_get, decimal, codes, refl, sym, ◌∙◌, ap, subst, arith, append_assoc}
use Rattle.std.specs.List.{list_all, slice_split}
use Rattle.std.proofs.lemmas.Bool.Decides.{nat_tests}
use Rattle.std.proofs.lemmas.Slice.Eq.{bytes_eq-Decides}
use Rattle.lvs_types.specs.declared.item.Item.{Item}
use Rattle.lvs_types.specs.declared.book.Noted.{Noted}
use Rattle.lvs_types.specs.declared.book.RoundBook.{RoundBook}
use Rattle.lvs_types.specs.declared.book.Shown.{Shown}
use Rattle.lvs_types.specs.declared.book.ShownText.{ShownText}
use Rattle.lvs_types.specs.declared.script.Script.{Script}
use Rattle.lvs_types.specs.declared.script.Round.{Round}
use Rattle.lvs_types.specs.declared.report.ReportLine.{ReportLine}
use Rattle.lvs_types.specs.declared.report.ReportLine.TheVariants as line
use Rattle.lvs_types.specs.declared.report.Verdict.TheVariants as verdict
use Rattle.lvs_model.specs.State.{State, initial}
use Rattle.lvs_model.specs.Step.{step}
use Rattle.lvs_model.specs.Plans.{plan, items_of_lines, listings_of}
use Rattle.lvs_model.specs.Books.{acts_of, at_moment}
use Rattle.lvs_model.specs.Legal.{IsLegal, AreLegalBooks}
use Rattle.lvs_model.specs.Listings.{shown_of}
use Rattle.lvs_model.specs.Lines.{is_feed}
use Rattle.lvs_model.specs.Report.{is_printed, act_line, acts_text, listings_text, head_text, round_text, books_text}
use Rattle.lvs_model.specs.ReportReading.{line_of}
use Rattle.lvs_model.specs.ReportLines.{is_named}
use Rattle.lvs_model.specs.ScriptLimits.{AreMoments, items_in, IsWithinLimits}
use Rattle.lvs_model.specs.Refusals.{◌>>=◌}
use Rattle.lvs_model.specs.Progress.{ReportText, Sizes, Queue, Progress, unreadable, head_words}
use Rattle.lvs_model.specs.Checking.{is_used_up, round_begun, head_said, head_judged, read_judged, heads_ended, go_on, end_judged, judged_from, are_sizes, sizes_of, nothing_judged, pieces_judged, judgement}
use Rattle.lvs_report.proofs.Avoids.{avoids}
use Rattle.lvs_report.proofs.PrintedLines.{head_line, head_line_own}
use Rattle.lvs_report.proofs.ReadAgain.{split_line, unglue, head_is, head_avoids}
use Rattle.lvs_verdicts.specs.LegalTexts.{IsTextOfLegalBooks, AreNamed}
use Rattle.lvs_verdicts.proofs.Walks.{queue_at, UsesUp, AreAllOf, AreAllTaken, walk_of}
use Rattle.lvs_verdicts.proofs.Backward.{Judged}
use Rattle.lvs_verdicts.proofs.Heads.{whole_queue, count_lists}
use Rattle.lvs_verdicts.proofs.Printed.{told}
use Rattle.lvs_verdicts.proofs.Passing.{Goes, at_line, goes_line, goes_as, round_over, goes_listings, noted, goes_act}
use Rattle.lvs_verdicts.proofs.Skipping.{item_left, item_skipped, goes_skipped}
use Rattle.lvs_verdicts.proofs.Bounds.{IsSmall, AreTold, small_next, in_range, told_by, planned_small}

-- ACTS

-- what is known behind the last act of a round
pub record HasPlayed (p e : Progress) (left : State) : Type 0 where
  pub used : list_all is_used_up e.queues ≡ true
  pub state : e.state ≡ left
  pub due : e.due ≡ []
  pub shown : e.shown ≡ p.shown
  pub rounds : e.rounds ≡ p.rounds
  pub number : e.number ≡ p.number

played_on : (p q e : Progress) (left : State) → q.shown ≡ p.shown → q.rounds ≡ p.rounds → q.number ≡ p.number → HasPlayed q e left → HasPlayed p e left
played_on p q e left shown rounds number played = record {
  used = played.used;
  state = played.state;
  due = played.due;
  shown = played.shown ∙ shown;
  rounds = played.rounds ∙ rounds;
  number = played.number ∙ number;
}

-- behind one more act
abbrev after_act : Progress → ℕ → ℕ → Item → List Item → Progress
after_act p actor next first items = record p { state = (step p.state first).1; place = p.place + 1; queues = set p.queues actor (queue_at (next + 1) items) }

first_queue : (queues : List Queue) (q : Queue) → slice_get queues 0 ≡ Some q → (others : List Queue) × (queues ≡ q ∷ others)
first_queue [] q is = absurd cc
first_queue (own ∷ others) q is = let same : own ≡ q = cc in (others, ap (λ (x : Queue). x ∷ others) same)

goes_quiet : (sizes : Sizes) (p : Progress) (next : ℕ) (first : Item) (items : List Item) (text : List ℕ) → p.due ≡ [] → slice_get p.queues 0 ≡ Some (queue_at next (first ∷ items)) → is_printed (step p.state first).0 ≡ false → Goes sizes (after_act p 0 next first items) text → Goes sizes p text
goes_quiet sizes p next first items text closed there quiet later =
    let others = first_queue p.queues (queue_at next (first ∷ items)) there in
    let behind : Goes sizes (item_skipped p next first items others.0) text =
    subst (λ (due : List (List ℕ)). Goes sizes (record p { state = (step p.state first).1; place = p.place + 1; queues = queue_at (next + 1) items ∷ others.0; due = due }) text) closed
    (subst (λ (queues : List Queue). Goes sizes (record p { state = (step p.state first).1; place = p.place + 1; queues = set queues 0 (queue_at (next + 1) items) }) text) others.1 later) in
    let before : Goes sizes (item_left p next first items others.0) text = goes_skipped sizes text p next first items others.0 quiet behind in
    let open_due : Goes sizes (record p { queues = queue_at next (first ∷ items) ∷ others.0 }) text = subst (λ (due : List (List ℕ)). Goes sizes (record p { queues = queue_at next (first ∷ items) ∷ others.0; due = due }) text) (sym closed) before in
    subst (λ (queues : List Queue). Goes sizes (record p { queues = queues }) text) (sym others.1) open_due

-- an act without a line is the clock's
clock_by : (queues : List Queue) (s : State) (actor next : ℕ) (first : Item) (items : List Item) → slice_get queues actor ≡ Some (queue_at next (first ∷ items)) → AreTold queues → is_printed (step s first).0 ≡ false → actor ≡ 0
clock_by queues s zero next first items there all quiet = refl
clock_by queues s (suc actor) next first items there all quiet =
    let printed : is_printed (step s first).0 ≡ true = told s first (told_by queues actor next first items there all) in
    absurd cc

goes_one : (b : Bool) (sizes : Sizes) (p : Progress) (actor next : ℕ) (first : Item) (items : List Item) (rest : List ℕ) → is_printed (step p.state first).0 ≡ b → p.due ≡ [] → slice_get p.queues actor ≡ Some (queue_at next (first ∷ items)) → IsSmall p.queues p.place → Goes sizes (after_act p actor next first items) rest
    → Goes sizes p (cond b (act_line p.place (noted actor next first (step p.state first).0)) [] ++ rest)
goes_one true sizes p actor next first items rest printed closed there small later =
    let range = in_range p.queues p.place actor next first items there small in
    goes_act sizes p actor next first items rest closed there printed range.small_place range.small_actor range.small_number later
goes_one false sizes p actor next first items rest quiet closed there small later =
    let clock : actor ≡ 0 = clock_by p.queues p.state actor next first items there small.told quiet in
    goes_quiet sizes p next first items rest closed
    (subst (λ (n : ℕ). slice_get p.queues n ≡ Some (queue_at next (first ∷ items))) clock there) quiet
    (subst (λ (n : ℕ). Goes sizes (after_act p n next first items) rest) clock later)

goes_acts : (sizes : Sizes) (acts : List Noted) (p : Progress) (left : State) (rest : List ℕ) → UsesUp p.queues p.state acts left → p.due ≡ [] → IsSmall p.queues p.place → ((e : Progress) → HasPlayed p e left → Goes sizes e rest) → Goes sizes p (acts_text p.place acts ++ rest)
goes_acts sizes [] p left rest walk closed small later = later p (record { used = walk.0; state = walk.1; due = closed; shown = refl; rounds = refl; number = refl })
goes_acts sizes (act ∷ acts) p left rest walk closed small later =
    let after = after_act p act.actor act.number act.item walk.0 in
    let own = noted act.actor act.number act.item (step p.state act.item).0 in
    let same : own ≡ act = ap (noted act.actor act.number act.item) walk.2 in
    let behind = acts_text (p.place + 1) acts ++ rest in
    let next = goes_acts sizes acts after left rest walk.3 closed (small_next p.queues p.place act.actor act.number act.item walk.0 walk.1 small) (λ e played. later e (played_on p after e left refl refl refl played)) in
    let one = goes_one (is_printed own.reply) sizes p act.actor act.number act.item walk.0 behind refl closed walk.1 small next in
    goes_as sizes p (acts_text p.place (act ∷ acts) ++ rest) (cond (is_printed own.reply) (act_line p.place own) [] ++ behind)
    (append_assoc (cond (is_printed act.reply) (act_line p.place act) []) (acts_text (p.place + 1) acts) rest
    ∙ ap (λ (a : Noted). cond (is_printed a.reply) (act_line p.place a) [] ++ behind) (sym same))
    one

-- A HEAD

words_are : (number moment : ℕ) (sizes : Sizes) → head_line number moment sizes.workers sizes.buckets ≡ head_words number moment sizes
words_are number moment sizes =
    sym (unglue (codes "round ") (decimal number ∷ codes " at " ∷ decimal moment ∷ codes " workers " ∷ decimal sizes.workers ∷ codes " buckets " ∷ []) (decimal sizes.buckets))

head_passes : (sizes : Sizes) (number : ℕ) (p : Progress) (round : Round) (rounds : List Round) (text : List ℕ) → list_all is_used_up p.queues ≡ true → p.shown ≡ [] → p.rounds ≡ round ∷ rounds → text ≡ head_words p.number round.moment sizes → head_judged sizes (at_line number text) p ≡ Ok (round_begun sizes round rounds p)
head_passes sizes number p round rounds text used none next words =
    let at = at_line number text in
    ap (λ (r : Judged). r >>= (λ (e : Progress). head_said sizes at e.rounds e)) (round_over at p used none)
    ∙ ap (λ (all : List Round). head_said sizes at all p) next
    ∙ ap (λ (b : Bool). cond b (Ok (round_begun sizes round rounds p)) (unreadable at)) ((bytes_eq-Decides text (head_words p.number round.moment sizes)).1 words)

goes_head : (sizes : Sizes) (p : Progress) (round : Round) (rounds : List Round) (rest : List ℕ) → p.number < 2 ^ 64 → round.moment < 2 ^ 64 → sizes.workers < 2 ^ 32 → sizes.buckets < 2 ^ 32 → p.due ≡ [] → list_all is_used_up p.queues ≡ true → p.shown ≡ [] → p.rounds ≡ round ∷ rounds → Goes sizes (round_begun sizes round rounds p) rest → Goes sizes p (head_line p.number round.moment sizes.workers sizes.buckets ++ 10 ∷ rest)
goes_head sizes p round rounds rest numbers moments workers buckets closed used none next later =
    let text = head_line p.number round.moment sizes.workers sizes.buckets in
    let book : RoundBook = record { number = p.number; moment = round.moment; workers = sizes.workers; buckets = sizes.buckets; acts = []; shown = [] } in
    goes_line sizes p (round_begun sizes round rounds p) text rest (head_avoids book) closed
    (λ number.
    ap (λ (o : Option ReportLine). read_judged sizes (at_line number text) o p) (head_line_own p.number round.moment sizes.workers sizes.buckets numbers moments workers buckets)
    ∙ head_passes sizes number p round rounds text used none next (words_are p.number round.moment sizes))
    later

-- A BOOK

list_of : (lists : List (List Item)) (actor : ℕ) (q : Queue) → slice_get (map whole_queue lists) actor ≡ Some q → (items : List Item) × (slice_get lists actor ≡ Some items) × (whole_queue items ≡ q)
list_of [] actor q is = absurd cc
list_of (own ∷ lists) zero q is = (own, refl, cc)
list_of (own ∷ lists) (suc actor) q is = list_of lists actor q is

no_list : (lists : List (List Item)) (actor : ℕ) → slice_get (map whole_queue lists) actor ≡ None → slice_get lists actor ≡ None
no_list [] actor is = refl
no_list (own ∷ lists) zero is = absurd cc
no_list (own ∷ lists) (suc actor) is = no_list lists actor is

legal_taken : (s left : State) (round : Round) (sizes : Sizes) (book : RoundBook) → IsLegal s (plan round sizes.workers sizes.buckets) book left → AreAllTaken (map whole_queue (plan round sizes.workers sizes.buckets).lists) book.acts
legal_taken s left round sizes book legal =
    let lists = (plan round sizes.workers sizes.buckets).lists in
    record {
      each = λ actor q is.
          let own = list_of lists actor q is in
          subst (λ (x : Queue). AreAllOf x (acts_of actor book.acts)) own.2 (legal.sound.actors actor own.0 own.1, legal.whole actor own.0 own.1);
      none = λ actor is. legal.sound.none actor (no_list lists actor is);
    }

-- what a head says of a legal book
head_same : (s left : State) (number : ℕ) (round : Round) (sizes : Sizes) (book : RoundBook) → book.number ≡ number → IsLegal s (plan round sizes.workers sizes.buckets) book left → head_line book.number book.moment book.workers book.buckets ≡ head_line number round.moment sizes.workers sizes.buckets
head_same s left number round sizes book numbered legal =
    let workers : book.workers ≡ sizes.workers = omega (arith, legal.sound.workers, count_lists round sizes.workers sizes.buckets) in
    ap (λ (n : ℕ). head_line n book.moment book.workers book.buckets) numbered
    ∙ ap (λ (n : ℕ). head_line number n book.workers book.buckets) legal.sound.moment
    ∙ ap (λ (n : ℕ). head_line number round.moment n book.buckets) workers
    ∙ ap (λ (n : ℕ). head_line number round.moment sizes.workers n) legal.sound.buckets

-- nothing is left of a round, and these rounds have no head yet
pub record IsBetween (p : Progress) (s : State) (rounds : List Round) (number : ℕ) : Type 0 where
  pub used : list_all is_used_up p.queues ≡ true
  pub due : p.due ≡ []
  pub shown : p.shown ≡ []
  pub state : p.state ≡ s
  pub rounds_left : p.rounds ≡ rounds
  pub numbered : p.number ≡ number

-- the numbers that the rounds' heads and acts say are within the range of their fields, and their listings have names
pub record AreSaid (sizes : Sizes) (number : ℕ) (rounds : List Round) : Type 0 where
  pub numbers : number + length rounds < 2 ^ 64
  pub moments : AreMoments rounds
  pub items : items_in rounds ≤ 1048576
  pub named : AreNamed rounds
  pub few_workers : sizes.workers ≤ 16
  pub few_buckets : sizes.buckets ≤ 256

goes_shown : (sizes : Sizes) (e : Progress) (kinds : List Shown) (shown : List ShownText) (s : State) (rest : List ℕ) → shown ≡ shown_of s kinds → e.state ≡ s → list_all is_named kinds ≡ true → e.due ≡ [] → list_all is_used_up e.queues ≡ true → e.shown ≡ kinds → Goes sizes (record e { shown = []; due = [] }) rest → Goes sizes e (listings_text shown ++ rest)
goes_shown sizes e kinds shown s rest is state named closed used next later =
    goes_as sizes e (listings_text shown ++ rest) (listings_text (shown_of e.state kinds) ++ rest) (ap (λ (l : List ShownText). listings_text l ++ rest) (is ∙ ap (λ (x : State). shown_of x kinds) (sym state)))
    (goes_listings sizes e kinds rest named closed used next later)

goes_book : (sizes : Sizes) (p : Progress) (s left : State) (number : ℕ) (round : Round) (rounds : List Round) (book : RoundBook) (rest : List ℕ) → IsBetween p s (round ∷ rounds) number → AreSaid sizes number (round ∷ rounds) → book.number ≡ number → IsLegal (at_moment s round.moment) (plan round sizes.workers sizes.buckets) book left
    → ((e : Progress) → IsBetween e left rounds (number + 1) → Goes sizes e rest) → Goes sizes p (round_text book ++ rest)
goes_book sizes p s left number round rounds book rest between said numbered legal later =
    let head = head_text book in
    let acts = acts_text 0 book.acts in
    let shown = listings_text book.shown in
    let begun = round_begun sizes round rounds p in
    let kinds = listings_of round in
    let few : length (items_of_lines round) ≤ 1048576 = omega (arith, said.items) in
    let small = planned_small round sizes.workers sizes.buckets said.few_workers said.few_buckets few in
    let own : IsLegal (at_moment p.state round.moment) (plan round sizes.workers sizes.buckets) book left = subst (λ (x : State). IsLegal (at_moment x round.moment) (plan round sizes.workers sizes.buckets) book left) (sym between.state) legal in
    let walk = walk_of (map whole_queue (plan round sizes.workers sizes.buckets).lists) book.acts (at_moment p.state round.moment) left (legal_taken (at_moment p.state round.moment) left round sizes book own) own.sound.replies in
    let behind : (e : Progress) → HasPlayed begun e left → Goes sizes e (shown ++ rest) = λ e played.
    goes_shown sizes e kinds book.shown left rest legal.shown played.state said.named.0 played.due played.used played.shown
    (later (record e { shown = []; due = [] }) (record { used = played.used; due = refl; shown = refl; state = played.state; rounds_left = played.rounds; numbered = played.number ∙ ap (λ (n : ℕ). n + 1) between.numbered })) in
    let body = goes_acts sizes book.acts begun left (shown ++ rest) walk refl small behind in
    let same : round_text book ++ rest ≡ head_line p.number round.moment sizes.workers sizes.buckets ++ 10 ∷ (acts ++ (shown ++ rest)) =
    append_assoc (head ++ acts) shown rest
    ∙ append_assoc head acts (shown ++ rest)
    ∙ head_is book (acts ++ (shown ++ rest))
    ∙ ap (λ (l : List ℕ). l ++ 10 ∷ (acts ++ (shown ++ rest))) (head_same (at_moment p.state round.moment) left p.number round sizes book (numbered ∙ sym between.numbered) own) in
    let small_number : p.number < 2 ^ 64 = omega (arith, said.numbers, between.numbered) in
    let small_moment : round.moment < 2 ^ 64 = omega (arith, said.moments.0) in
    goes_as sizes p (round_text book ++ rest) (head_line p.number round.moment sizes.workers sizes.buckets ++ 10 ∷ (acts ++ (shown ++ rest))) same
    (goes_head sizes p round rounds (acts ++ (shown ++ rest)) small_number small_moment (omega (arith, said.few_workers)) (omega (arith, said.few_buckets)) between.due between.used between.shown between.rounds_left body)

later_said : (sizes : Sizes) (number : ℕ) (round : Round) (rounds : List Round) → AreSaid sizes number (round ∷ rounds) → AreSaid sizes (number + 1) rounds
later_said sizes number round rounds said = record {
  numbers = omega (arith, said.numbers);
  moments = said.moments.1;
  items = omega (arith, said.items);
  named = said.named.1;
  few_workers = said.few_workers;
  few_buckets = said.few_buckets;
}

-- BOOKS

goes_end : (sizes : Sizes) (p : Progress) (s : State) (number : ℕ) → IsBetween p s [] number → Goes sizes p []
goes_end sizes p s number between = λ at.
    let end : ReportText = record { number = at; text = [] } in
    ap (λ (due : List (List ℕ)). end_judged end due p) between.due
    ∙ ap (λ (r : Judged). go_on r (λ (e : Progress). heads_ended end e.rounds)) (round_over end p between.used between.shown)
    ∙ ap (heads_ended end) between.rounds_left

pub goes_books : (sizes : Sizes) (rounds : List Round) (books : List RoundBook) (p : Progress) (s : State) (number : ℕ) → IsBetween p s rounds number → AreSaid sizes number rounds → AreLegalBooks sizes.workers sizes.buckets number s rounds books → length books ≡ length rounds → Goes sizes p (books_text books)
goes_books sizes [] [] p s number between said legal each = goes_end sizes p s number between
goes_books sizes (round ∷ rounds) [] p s number between said legal each = absurd (omega (arith, each))
goes_books sizes [] (book ∷ books) p s number between said legal each = absurd legal
goes_books sizes (round ∷ rounds) (book ∷ books) p s number between said legal each =
    goes_book sizes p s legal.0 number round rounds book (books_text books) between said legal.1 legal.2
    (λ e later. goes_books sizes rounds books e legal.0 (number + 1) later (later_said sizes number round rounds said) legal.3 (omega (arith, each)))

-- THE WHOLE

sizes_by : (workers buckets number moment : ℕ) (text : List ℕ) → line_of text ≡ Some (line.Head number moment workers buckets) → are_sizes workers buckets ≡ true → sizes_of (line_of text) ≡ record { workers = workers; buckets = buckets }
sizes_by workers buckets number moment text read good =
    ap sizes_of read ∙ ap (λ (b : Bool). cond b (record { workers = workers; buckets = buckets }) (record { workers = 1; buckets = 1 })) good

judged_with : (script : Script) (sizes : Sizes) (first : List ℕ) (more : List (List ℕ)) → sizes_of (line_of first) ≡ sizes → judged_from sizes 1 (nothing_judged script sizes) (first ∷ more) ≡ verdict.Legal → pieces_judged script (first ∷ more) ≡ verdict.Legal
judged_with script sizes first more same legal = ap (λ (x : Sizes). judged_from x 1 (nothing_judged script x) (first ∷ more)) same ∙ legal

first_piece : (script : Script) (sizes : Sizes) (text rest : List ℕ) → avoids 10 text ≡ true → sizes_of (line_of text) ≡ sizes → Goes sizes (nothing_judged script sizes) (text ++ 10 ∷ rest) → judgement script (text ++ 10 ∷ rest) ≡ verdict.Legal
first_piece script sizes text rest well same goes =
    ap (pieces_judged script) (split_line text rest well)
    ∙ judged_with script sizes text (slice_split is_feed rest) same (ap (judged_from sizes 1 (nothing_judged script sizes)) (sym (split_line text rest well)) ∙ goes 1)

-- a book's text begins with its head
book_front : (book : RoundBook) (rest : List ℕ) → round_text book ++ rest ≡ head_line book.number book.moment book.workers book.buckets ++ 10 ∷ (acts_text 0 book.acts ++ (listings_text book.shown ++ rest))
book_front book rest =
    append_assoc (head_text book ++ acts_text 0 book.acts) (listings_text book.shown) rest
    ∙ append_assoc (head_text book) (acts_text 0 book.acts) (listings_text book.shown ++ rest)
    ∙ head_is book (acts_text 0 book.acts ++ (listings_text book.shown ++ rest))

-- where there is a round, the first line says the workers and buckets
front_legal : (script : Script) (workers buckets : ℕ) (s left : State) (round : Round) (book : RoundBook) (rest : List ℕ) → are_sizes workers buckets ≡ true → round.moment < 2 ^ 64 → workers < 2 ^ 32 → buckets < 2 ^ 32 → book.number ≡ 0 → IsLegal s (plan round workers buckets) book left
    → Goes (record { workers = workers; buckets = buckets }) (nothing_judged script (record { workers = workers; buckets = buckets })) (round_text book ++ rest) → judgement script (round_text book ++ rest) ≡ verdict.Legal
front_legal script workers buckets s left round book rest good moments few_workers few_buckets numbered legal goes =
    let sizes : Sizes = record { workers = workers; buckets = buckets } in
    let text = head_line 0 round.moment workers buckets in
    let behind = acts_text 0 book.acts ++ (listings_text book.shown ++ rest) in
    let first : RoundBook = record { number = 0; moment = round.moment; workers = workers; buckets = buckets; acts = []; shown = [] } in
    let read = head_line_own 0 round.moment workers buckets (omega arith) moments few_workers few_buckets in
    let same : round_text book ++ rest ≡ text ++ 10 ∷ behind = book_front book rest ∙ ap (λ (l : List ℕ). l ++ 10 ∷ behind) (head_same s left 0 round sizes book numbered legal) in
    ap (judgement script) same ∙ first_piece script sizes text behind (head_avoids first) (sizes_by workers buckets 0 round.moment text read good) (subst (Goes sizes (nothing_judged script sizes)) same goes)

begun_between : (script : Script) (sizes : Sizes) → IsBetween (nothing_judged script sizes) (initial script.local sizes.buckets) script.rounds 0
begun_between script sizes = record { used = refl; due = refl; shown = refl; state = refl; rounds_left = refl; numbered = refl }

script_said : (script : Script) (sizes : Sizes) → sizes.workers ≤ 16 → sizes.buckets ≤ 256 → IsWithinLimits script.rounds → AreNamed script.rounds → AreSaid sizes 0 script.rounds
script_said script sizes workers buckets within named = record {
  numbers = omega (arith, within.few);
  moments = within.moments;
  items = within.items;
  named = named;
  few_workers = workers;
  few_buckets = buckets;
}

books_legal : (script : Script) (workers buckets : ℕ) (rounds : List Round) (books : List RoundBook) → 1 ≤ workers → workers ≤ 16 → 1 ≤ buckets → buckets ≤ 256 → script.rounds ≡ rounds → IsWithinLimits script.rounds → AreNamed script.rounds → AreLegalBooks workers buckets 0 (initial script.local buckets) rounds books → length books ≡ length rounds → judgement script (books_text books) ≡ verdict.Legal
books_legal script workers buckets [] [] some_workers few_workers some_buckets few_buckets is within named legal each =
    let one : Sizes = record { workers = 1; buckets = 1 } in
    goes_books one script.rounds [] (nothing_judged script one) (initial script.local 1) 0 (begun_between script one) (script_said script one (omega arith) (omega arith) within named) tt (ap length (sym is)) 1
books_legal script workers buckets (round ∷ rounds) [] some_workers few_workers some_buckets few_buckets is within named legal each = absurd (omega (arith, each))
books_legal script workers buckets [] (book ∷ books) some_workers few_workers some_buckets few_buckets is within named legal each = absurd legal
books_legal script workers buckets (round ∷ rounds) (book ∷ books) some_workers few_workers some_buckets few_buckets is within named legal each =
    let sizes : Sizes = record { workers = workers; buckets = buckets } in
    let s = initial script.local buckets in
    let good : are_sizes workers buckets ≡ true = grind (arith, nat_tests) in
    let moments : AreMoments (round ∷ rounds) = subst AreMoments is within.moments in
    let goes = goes_books sizes script.rounds (book ∷ books) (nothing_judged script sizes) s 0 (begun_between script sizes) (script_said script sizes few_workers few_buckets within named) (subst (λ (all : List Round). AreLegalBooks workers buckets 0 s all (book ∷ books)) (sym is) legal) (each ∙ ap length (sym is)) in
    front_legal script workers buckets (at_moment s round.moment) legal.0 round book (books_text books) good (omega (arith, moments.0)) (omega (arith, few_workers)) (omega (arith, few_buckets)) legal.1 legal.2 goes

pub texts_legal : (script : Script) (report : List ℕ) → IsWithinLimits script.rounds → AreNamed script.rounds → IsTextOfLegalBooks script report → judgement script report ≡ verdict.Legal
texts_legal script report within named t =
    ap (judgement script) t.text ∙ books_legal script t.workers t.buckets script.rounds t.books t.some_workers t.few_workers t.some_buckets t.few_buckets refl within named t.legal t.each_round
