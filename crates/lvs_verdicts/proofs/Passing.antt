-- A line of the director's passes, and the report goes on behind it.
use Rattle.std.proofs.Common.{◌≡◌, ℕ, ◌+◌, ◌-◌, ◌<◌, ◌^◌, ◌==◌, Bool, true, false, not, ◌||◌, cond, List, [], ◌∷◌, ◌++◌, Option, Some, None, Result, Ok, Err, length, set, slice_get, nat_lt, decimal, codes, refl, sym, ◌∙◌, ap, subst, arith, append_assoc}
use Rattle.std.specs.Prelude.{bytes_eq, option_map}
use Rattle.std.specs.List.{list_all, slice_split, AllByRecursion}
use Rattle.std.proofs.lemmas.Bool.{eq-eqb}
use Rattle.std.proofs.lemmas.Bool.Decides.{nat_tests}
use Rattle.std.proofs.lemmas.Slice.Eq.{bytes_eq-Decides}
use Rattle.std.proofs.lemmas.List.Splits.{length-slice_split}
use Rattle.lvs_types.specs.declared.item.Item.{Item}
use Rattle.lvs_types.specs.declared.reply.Reply.{Reply}
use Rattle.lvs_types.specs.declared.book.Noted.{Noted}
use Rattle.lvs_types.specs.declared.book.Shown.{Shown}
use Rattle.lvs_types.specs.declared.book.ShownText.{ShownText}
use Rattle.lvs_types.specs.declared.report.ReportLine.{ReportLine}
use Rattle.lvs_types.specs.declared.report.ReportLine.TheVariants as line
use Rattle.lvs_types.specs.declared.report.Verdict.{Verdict}
use Rattle.lvs_types.specs.declared.report.Verdict.TheVariants as verdict
use Rattle.lvs_model.specs.Step.{step}
use Rattle.lvs_model.specs.Listings.{text_of, shown_of, shown_listing}
use Rattle.lvs_model.specs.Snapshots.{snapshot_of}
use Rattle.lvs_model.specs.Lines.{is_feed}
use Rattle.lvs_model.specs.Report.{is_printed, reply_text, act_line, shown_name, shown_text, listings_text}
use Rattle.lvs_model.specs.ReportReading.{LineRead, outside_listing, line_of}
use Rattle.lvs_model.specs.ReportLines.{is_named}
use Rattle.lvs_model.specs.Refusals.{◌>>=◌}
use Rattle.lvs_model.specs.Progress.{ReportText, Sizes, Queue, Progress, unreadable, unreadable_if, checked_text, act_words, listing_lines, clock_of, skipped, filled}
use Rattle.lvs_model.specs.Checking.{checked_place, act_taken, actor_taken, act_judged, is_used_up, acts_ended, round_ended, listing_opened, listing_judged, read_judged, line_judged, go_on, judged_from}
use Rattle.lvs_report.proofs.Avoids.{avoids, first_of_and, rest_of_and, reply_filled}
use Rattle.lvs_report.proofs.PrintedLines.{act_body, act_line_own}
use Rattle.lvs_report.proofs.ReadAgain.{split_line, unglue, act_is, act_avoids, pieces_avoid, first_line}
use Rattle.lvs_verdicts.proofs.Walks.{queue_at}
use Rattle.lvs_verdicts.proofs.Backward.{Judged, due_text, listing_is}

-- A LINE AND THE REST

-- what follows is judged legal, whatever the number of its first line
abbrev pub Goes : Sizes → Progress → List ℕ → Type 0
Goes sizes p text = (number : ℕ) → judged_from sizes number p (slice_split is_feed text) ≡ verdict.Legal

abbrev pub at_line : ℕ → List ℕ → ReportText
at_line number text = record { number = number; text = text }

judged_more : (sizes : Sizes) (number : ℕ) (p : Progress) (text : List ℕ) (pieces : List (List ℕ)) → 0 < length pieces → judged_from sizes number p (text ∷ pieces) ≡ go_on (line_judged sizes (at_line number text) p.due p) (λ (later : Progress). judged_from sizes (number + 1) later pieces)
judged_more sizes number p text [] some = absurd (omega arith)
judged_more sizes number p text (next ∷ more) some = refl

pub goes_line : (sizes : Sizes) (p q : Progress) (text rest : List ℕ) → avoids 10 text ≡ true → p.due ≡ [] → ((number : ℕ) → read_judged sizes (at_line number text) (line_of text) p ≡ Ok q) → Goes sizes q rest → Goes sizes p (text ++ 10 ∷ rest)
goes_line sizes p q text rest well closed passes later = λ number.
    let behind : Progress → Verdict = λ next. judged_from sizes (number + 1) next (slice_split is_feed rest) in
    ap (judged_from sizes number p) (split_line text rest well)
    ∙ judged_more sizes number p text (slice_split is_feed rest) (omega (arith, length-slice_split is_feed rest))
    ∙ ap (λ (due : List (List ℕ)). go_on (line_judged sizes (at_line number text) due p) behind) closed
    ∙ ap (λ (r : Judged). go_on r behind) (passes number)
    ∙ later (number + 1)

pub goes_as : (sizes : Sizes) (p : Progress) (text other : List ℕ) → text ≡ other → Goes sizes p other → Goes sizes p text
goes_as sizes p text other same goes = subst (Goes sizes p) (sym same) goes

own_text : (text : List ℕ) → bytes_eq text text ≡ true
own_text text = (bytes_eq-Decides text text).1 refl

text_passes : (number : ℕ) (text expected : List ℕ) → text ≡ expected → checked_text (at_line number text) expected ≡ Ok tt
text_passes number text expected same =
    ap (λ (b : Bool). cond b (Ok tt) (Err (verdict.Illegal number expected text))) ((bytes_eq-Decides text expected).1 same)

-- THE LINES OF AN OPEN LISTING

pub goes_due : (sizes : Sizes) (p : Progress) (due : List (List ℕ)) (rest : List ℕ) → AllByRecursion (λ (text : List ℕ). avoids 10 text ≡ true) due → Goes sizes (record p { due = [] }) rest → Goes sizes (record p { due = due }) (due_text due ++ rest)
goes_due sizes p [] rest all later = later
goes_due sizes p (text ∷ texts) rest all later = λ number.
    let behind : Progress → Verdict = λ next. judged_from sizes (number + 1) next (slice_split is_feed (due_text texts ++ rest)) in
    let open_at = record p { due = text ∷ texts } in
    ap (λ (t : List ℕ). judged_from sizes number open_at (slice_split is_feed t)) (append_assoc text (10 ∷ due_text texts) rest)
    ∙ ap (judged_from sizes number open_at) (split_line text (due_text texts ++ rest) all.0)
    ∙ judged_more sizes number open_at text (slice_split is_feed (due_text texts ++ rest)) (omega (arith, length-slice_split is_feed (due_text texts ++ rest)))
    ∙ ap (λ (r : Result (Unit {0}) Verdict). go_on (r >>= (λ (_ : Unit {0}). Ok (record p { due = texts }))) behind) (text_passes number text text refl)
    ∙ goes_due sizes p texts rest all.1 later (number + 1)

-- WHERE NOTHING IS LEFT OF THE ACTS

no_items : (queues : List Queue) → list_all is_used_up queues ≡ true → length (clock_of queues).items ≡ 0
no_items [] used = refl
no_items (q ∷ queues) used = let own : is_used_up q ≡ true = first_of_and _ _ used in grind (arith, nat_tests)

same_queues : (queues : List Queue) → set queues 0 (skipped 0 (clock_of queues)) ≡ queues
same_queues [] = refl
same_queues (q ∷ queues) = let same : q.next + 0 ≡ q.next = omega arith in ap (λ (n : ℕ). queue_at n q.items ∷ queues) same

filled_zero : (at : ReportText) (p : Progress) → filled at 0 p ≡ Ok p
filled_zero at p =
    let same : p.place + 0 ≡ p.place = omega arith in
    ap (λ (n : ℕ). Ok (record p { place = n; queues = set p.queues 0 (skipped 0 (clock_of p.queues)) })) same
    ∙ ap (λ (queues : List Queue). Ok (record p { queues = queues })) (same_queues p.queues)

acts_over : (at : ReportText) (p : Progress) → list_all is_used_up p.queues ≡ true → acts_ended at p ≡ Ok p
acts_over at p used =
    let checked : Progress → Judged = λ f. unreadable_if (not (list_all is_used_up f.queues)) at >>= (λ (_ : Unit {0}). Ok f) in
    ap (λ (n : ℕ). filled at n p >>= checked) (no_items p.queues used)
    ∙ ap (λ (r : Judged). r >>= checked) (filled_zero at p)
    ∙ ap (λ (b : Bool). unreadable_if (not b) at >>= (λ (_ : Unit {0}). Ok p)) used

pub round_over : (at : ReportText) (p : Progress) → list_all is_used_up p.queues ≡ true → p.shown ≡ [] → round_ended at p ≡ Ok p
round_over at p used none =
    let checked : Progress → Judged = λ f. unreadable_if (not (length f.shown == 0)) at >>= (λ (_ : Unit {0}). Ok f) in
    ap (λ (r : Judged). r >>= checked) (acts_over at p used)
    ∙ ap (λ (kinds : List Shown). unreadable_if (not (length kinds == 0)) at >>= (λ (_ : Unit {0}). Ok p)) none

-- A LISTING

whole_in : Option LineRead → List ReportLine
whole_in None = []
whole_in (Some read) = read.whole

read_as_listing : (sizes : Sizes) (at : ReportText) (p : Progress) (o : Option ReportLine) (listing : Option ShownText) → option_map outside_listing o ≡ Some (record { whole = []; open_listing = listing }) → read_judged sizes at o p ≡ listing_judged at p
unfolding whole_in
read_as_listing sizes at p None listing is = cc
read_as_listing sizes at p (Some (line.Head number moment workers buckets)) listing is = let wrong : line.Head number moment workers buckets ∷ [] ≡ [] = ap whole_in is in absurd cc
read_as_listing sizes at p (Some (line.Act place actor number reply)) listing is = let wrong : line.Act place actor number reply ∷ [] ≡ [] = ap whole_in is in absurd cc
read_as_listing sizes at p (Some (line.Shown own)) listing is = refl

listing_passes : (number : ℕ) (p : Progress) (kind : Shown) (kinds : List Shown) → list_all is_used_up p.queues ≡ true → p.shown ≡ kind ∷ kinds → listing_judged (at_line number (shown_name kind)) p ≡ Ok (record p { shown = kinds; due = listing_lines p.state kind })
listing_passes number p kind kinds used next =
    let at = at_line number (shown_name kind) in
    ap (λ (r : Judged). r >>= (λ (e : Progress). listing_opened at e.shown e)) (acts_over at p used)
    ∙ ap (λ (ks : List Shown). listing_opened at ks p) next
    ∙ ap (λ (b : Bool). cond b (Ok (record p { shown = kinds; due = listing_lines p.state kind })) (unreadable at)) (own_text (shown_name kind))

goes_listing : (sizes : Sizes) (p : Progress) (kind : Shown) (kinds : List Shown) (rest : List ℕ) → is_named kind ≡ true → p.due ≡ [] → list_all is_used_up p.queues ≡ true → p.shown ≡ kind ∷ kinds → Goes sizes (record p { shown = kinds; due = [] }) rest → Goes sizes p (shown_text (shown_listing p.state kind) ++ rest)
goes_listing sizes p kind kinds rest named closed used next later =
    let lines = listing_lines p.state kind in
    let first = first_line kind named in
    let same : shown_text (shown_listing p.state kind) ++ rest ≡ shown_name kind ++ 10 ∷ (due_text lines ++ rest) =
    ap (λ (l : List ℕ). l ++ rest) (listing_is p.state kind) ∙ append_assoc (shown_name kind) (10 ∷ due_text lines) rest in
    goes_as sizes p (shown_text (shown_listing p.state kind) ++ rest) (shown_name kind ++ 10 ∷ (due_text lines ++ rest)) same
    (goes_line sizes p (record p { shown = kinds; due = lines }) (shown_name kind) (due_text lines ++ rest) first.0 closed
    (λ number. read_as_listing sizes (at_line number (shown_name kind)) p (line_of (shown_name kind)) _ first.1 ∙ listing_passes number p kind kinds used next)
    (goes_due sizes (record p { shown = kinds }) lines rest (pieces_avoid (text_of (snapshot_of p.state) kind ++ codes "end")) later))

pub goes_listings : (sizes : Sizes) (p : Progress) (kinds : List Shown) (rest : List ℕ) → list_all is_named kinds ≡ true → p.due ≡ [] → list_all is_used_up p.queues ≡ true → p.shown ≡ kinds → Goes sizes (record p { shown = []; due = [] }) rest → Goes sizes p (listings_text (shown_of p.state kinds) ++ rest)
goes_listings sizes p [] rest named closed used next later =
    let shown : Goes sizes (record p { due = [] }) rest = subst (λ (kinds : List Shown). Goes sizes (record p { shown = kinds; due = [] }) rest) (sym next) later in
    subst (λ (due : List (List ℕ)). Goes sizes (record p { due = due }) rest) (sym closed) shown
goes_listings sizes p (kind ∷ kinds) rest named closed used next later =
    goes_as sizes p (listings_text (shown_of p.state (kind ∷ kinds)) ++ rest) (shown_text (shown_listing p.state kind) ++ (listings_text (shown_of p.state kinds) ++ rest)) (append_assoc (shown_text (shown_listing p.state kind)) (listings_text (shown_of p.state kinds)) rest)
    (goes_listing sizes p kind kinds (listings_text (shown_of p.state kinds) ++ rest) (first_of_and _ _ named) closed used next
    (goes_listings sizes (record p { shown = kinds; due = [] }) kinds rest (rest_of_and _ _ named) refl used refl later))

-- AN ACT

abbrev pub noted : ℕ → ℕ → Item → Reply → Noted
noted actor number first answer = record { actor = actor; number = number; item = first; reply = answer }

words_are : (place actor number : ℕ) (reply : Reply) → is_printed reply ≡ true → act_words place actor number reply ≡ act_body place actor number (reply_text reply)
words_are place actor number reply printed =
    ap (λ (b : Bool). cond b (decimal place ++ 32 ∷ [] ++ decimal actor ++ 46 ∷ [] ++ decimal number ++ 32 ∷ [] ++ reply_text reply) []) printed
    ∙ unglue (decimal place) ((32 ∷ []) ∷ decimal actor ∷ (46 ∷ []) ∷ decimal number ∷ (32 ∷ []) ∷ []) (reply_text reply)

place_passes : (number : ℕ) (text : List ℕ) (p : Progress) → checked_place (at_line number text) p.place p ≡ Ok tt
place_passes number text p =
    let test : (nat_lt p.place p.place || nat_lt (length (clock_of p.queues).items) (p.place - p.place)) ≡ false = grind (arith, nat_tests) in
    ap (λ (b : Bool). unreadable_if b (at_line number text)) test

act_passes : (number : ℕ) (text : List ℕ) (p : Progress) (actor next : ℕ) (first : Item) (items : List Item) → slice_get p.queues actor ≡ Some (queue_at next (first ∷ items)) → text ≡ act_words p.place actor next (step p.state first).0
    → act_judged (at_line number text) p.place actor next p ≡ Ok (record p { state = (step p.state first).1; place = p.place + 1; queues = set p.queues actor (queue_at (next + 1) items) })
act_passes number text p actor next first items there words =
    let at = at_line number text in
    let taken : Progress → Judged = λ f. actor_taken at actor next (slice_get f.queues actor) f in
    let after = record p { state = (step p.state first).1; place = p.place + 1; queues = set p.queues actor (queue_at (next + 1) items) } in
    let zero_places : p.place - p.place ≡ 0 = omega arith in
    ap (λ (r : Result (Unit {0}) Verdict). r >>= (λ (_ : Unit {0}). filled at (p.place - p.place) p >>= taken)) (place_passes number text p)
    ∙ ap (λ (n : ℕ). filled at n p >>= taken) zero_places
    ∙ ap (λ (r : Judged). r >>= taken) (filled_zero at p)
    ∙ ap (λ (o : Option Queue). actor_taken at actor next o p) there
    ∙ ap (λ (b : Bool). cond b (act_taken at actor next first items p) (unreadable at)) (eq-eqb next next refl)
    ∙ ap (λ (r : Result (Unit {0}) Verdict). r >>= (λ (_ : Unit {0}). Ok after)) (text_passes number text (act_words p.place actor next (step p.state first).0) words)

pub goes_act : (sizes : Sizes) (p : Progress) (actor next : ℕ) (first : Item) (items : List Item) (rest : List ℕ) → p.due ≡ [] → slice_get p.queues actor ≡ Some (queue_at next (first ∷ items)) → is_printed (step p.state first).0 ≡ true → p.place < 2 ^ 64 → actor < 2 ^ 32 → next < 2 ^ 64
    → Goes sizes (record p { state = (step p.state first).1; place = p.place + 1; queues = set p.queues actor (queue_at (next + 1) items) }) rest → Goes sizes p (act_line p.place (noted actor next first (step p.state first).0) ++ rest)
goes_act sizes p actor next first items rest closed there printed few_places few_actors few later =
    let own = noted actor next first (step p.state first).0 in
    let text = act_body p.place actor next (reply_text own.reply) in
    let known = act_line_own p.place actor next (reply_text own.reply) few_places few_actors few (reply_filled own.reply) in
    let words : text ≡ act_words p.place actor next own.reply = sym (words_are p.place actor next own.reply printed) in
    goes_as sizes p (act_line p.place own ++ rest) (text ++ 10 ∷ rest) (act_is p.place own rest)
    (goes_line sizes p _ text rest (act_avoids p.place own) closed
    (λ number. ap (λ (o : Option ReportLine). read_judged sizes (at_line number text) o p) known ∙ act_passes number text p actor next first items there words)
    later)
