-- The report of a round is read as its lines.
use Rattle.std.proofs.Common.{◌≡◌, ℕ, ◌+◌, ◌<◌, ◌^◌, Bool, true, false, not, ◌==◌, cond, List, [], ◌∷◌, ◌++◌, length, map, Option, Some, None, Result, Ok, refl, sym, ◌∙◌, ap, arith, lit<, decimal, codes, append_assoc, append-nil}
use Rattle.std.specs.List.{list_all, slice_split, onto_first, join_with_byte, AllByRecursion}
use Rattle.std.proofs.lemmas.List.Splits.{length-slice_split, join_with_byte-slice_split}
use Rattle.hex.specs.Hex.{encode_lower}
use Rattle.lvs_types.specs.declared.book.Noted.{Noted}
use Rattle.lvs_types.specs.declared.book.RoundBook.{RoundBook}
use Rattle.lvs_types.specs.declared.book.Shown.{Shown}
use Rattle.lvs_types.specs.declared.book.Shown.TheVariants as shown
use Rattle.lvs_types.specs.declared.book.ShownText.{ShownText}
use Rattle.lvs_types.specs.declared.report.ReportLine.{ReportLine}
use Rattle.lvs_types.specs.declared.report.ReportLine.TheVariants as line
use Rattle.lvs_model.specs.Lines.{is_feed}
use Rattle.lvs_model.specs.Report.{is_printed, reply_text, act_line, act_text, acts_text, shown_name, shown_text, listings_text, head_text, round_text}
use Rattle.lvs_model.specs.ReportReading.{LineRead, outside_listing, is_end, report_line_read, onto, read_then, lines_from, report_of}
use Rattle.lvs_model.specs.ReportLines.{act_lines, report_lines, are_lines, is_named, is_read_again, IsActInRange, IsReadAgain}
use Rattle.lvs_report.proofs.Avoids.{avoids, both, glue, decimal_avoids, reply_avoids, reply_filled, and_true, first_of_and, rest_of_and, hex_avoids}
use Rattle.lvs_report.proofs.ErrorNames.{inward_own, outward_own}
use Rattle.lvs_report.proofs.PrintedLines.{head_line, head_line_own, act_body, act_line_own}
use Rattle.lvs_report.proofs.Reading.{more_pieces}

abbrev Answer : Type 0
Answer = Result (List ReportLine) ℕ

abbrev found : List ReportLine → Answer
found lines = Ok lines

abbrev from : ℕ → Option ShownText → List ℕ → Answer
from number listing text = lines_from number listing (slice_split is_feed text)

-- a text that is read as these lines, whatever the number of its first line
abbrev Reads : List ℕ → List ReportLine → Type 0
Reads text lines = (number : ℕ) → from number None text ≡ found lines

-- A LINE AND THE REST

split_by : (b : ℕ) (feeds : Bool) (line : List ℕ) (pieces rest : List (List ℕ)) → not feeds ≡ true → pieces ≡ line ∷ rest → cond feeds ([] ∷ pieces) (onto_first b pieces) ≡ (b ∷ line) ∷ rest
split_by b true line pieces rest other is = absurd cc
split_by b false line pieces rest other is = ap (onto_first b) is

pub split_line : (text rest : List ℕ) → avoids 10 text ≡ true → slice_split is_feed (text ++ 10 ∷ rest) ≡ text ∷ slice_split is_feed rest
split_line [] rest well = refl
split_line (b ∷ text) rest well =
    split_by b (is_feed b) text (slice_split is_feed (text ++ 10 ∷ rest)) (slice_split is_feed rest) (first_of_and _ _ well) (split_line text rest (rest_of_and _ _ well))

from_line : (number : ℕ) (listing : Option ShownText) (text rest : List ℕ) → avoids 10 text ≡ true → from number listing (text ++ 10 ∷ rest) ≡ read_then number (report_line_read listing text) (λ (later : Option ShownText). from (number + 1) later rest)
from_line number listing text rest well =
    ap (lines_from number listing) (split_line text rest well) ∙ more_pieces number listing text (slice_split is_feed rest) (omega (arith, length-slice_split is_feed rest))

-- a line outside listings
reads_line : (text rest : List ℕ) (read : LineRead) (lines : List ReportLine) → avoids 10 text ≡ true → report_line_read None text ≡ Some read → read.open_listing ≡ None → Reads rest lines → Reads (text ++ 10 ∷ rest) (read.whole ++ lines)
reads_line text rest read lines well is closed later = λ number.
    from_line number None text rest well
    ∙ ap (λ (o : Option LineRead). read_then number o (λ (later : Option ShownText). from (number + 1) later rest)) is
    ∙ ap (λ (listing : Option ShownText). onto read.whole (from (number + 1) listing rest)) closed
    ∙ ap (onto read.whole) (later (number + 1))

-- PIECES BEHIND ONE ANOTHER

abbrev chain : List (List ℕ) → List ℕ → List ℕ
chain [] last = last
chain (piece ∷ pieces) last = piece ++ chain pieces last

pub unglue : (prefix : List ℕ) (pieces : List (List ℕ)) (rest : List ℕ) → glue prefix pieces ++ rest ≡ prefix ++ chain pieces rest
unglue prefix [] rest = refl
unglue prefix (piece ∷ pieces) rest = unglue (prefix ++ piece) pieces rest ∙ append_assoc prefix piece (chain pieces rest)

chain_append : (pieces : List (List ℕ)) (last rest : List ℕ) → chain pieces (last ++ rest) ≡ chain pieces last ++ rest
chain_append [] last rest = refl
chain_append (piece ∷ pieces) last rest = ap (λ (l : List ℕ). piece ++ l) (chain_append pieces last rest) ∙ sym (append_assoc piece (chain pieces last) rest)

abbrev feed : List ℕ
feed = 10 ∷ []

abbrev blank : List ℕ
blank = 32 ∷ []

-- HEADS

abbrev head_pieces : RoundBook → List (List ℕ)
head_pieces book = decimal book.number ∷ codes " at " ∷ decimal book.moment ∷ codes " workers " ∷ decimal book.workers ∷ codes " buckets " ∷ []

abbrev head_front : RoundBook → List ℕ
head_front book = head_line book.number book.moment book.workers book.buckets

pub head_is : (book : RoundBook) (rest : List ℕ) → head_text book ++ rest ≡ head_front book ++ 10 ∷ rest
head_is book rest =
    unglue (codes "round ") (decimal book.number ∷ codes " at " ∷ decimal book.moment ∷ codes " workers " ∷ decimal book.workers ∷ codes " buckets " ∷ decimal book.buckets ∷ feed ∷ []) rest
    ∙ ap (λ (l : List ℕ). codes "round " ++ l) (chain_append (head_pieces book) (decimal book.buckets) (10 ∷ rest))

pub head_avoids : (book : RoundBook) → avoids 10 (head_front book) ≡ true
head_avoids book =
    let number : (n : ℕ) → avoids 10 (decimal n) ≡ true = λ n. decimal_avoids 10 n (lit< tt) in
    both 10 (decimal book.number) _ (number book.number) (both 10 (decimal book.moment) _ (number book.moment) (both 10 (decimal book.workers) _ (number book.workers) (number book.buckets)))

reads_head : (book : RoundBook) (rest : List ℕ) (lines : List ReportLine) → IsReadAgain book → Reads rest lines → Reads (head_text book ++ rest) (line.Head book.number book.moment book.workers book.buckets ∷ lines)
reads_head book rest lines again later = λ number.
    let known = head_line_own book.number book.moment book.workers book.buckets again.number again.moment again.workers again.buckets in
    let read : report_line_read None (head_front book) ≡ Some (outside_listing (line.Head book.number book.moment book.workers book.buckets)) = rw known refl in
    ap (from number None) (head_is book rest)
    ∙ reads_line (head_front book) rest (outside_listing (line.Head book.number book.moment book.workers book.buckets)) lines (head_avoids book) read refl later number

-- ACTS

abbrev body_of : ℕ → Noted → List ℕ
body_of place act = act_body place act.actor act.number (reply_text act.reply)

pub act_is : (place : ℕ) (act : Noted) (rest : List ℕ) → act_line place act ++ rest ≡ body_of place act ++ 10 ∷ rest
act_is place act rest =
    unglue (decimal place) (blank ∷ decimal act.actor ∷ (46 ∷ []) ∷ decimal act.number ∷ blank ∷ reply_text act.reply ∷ feed ∷ []) rest
    ∙ chain_append (decimal place ∷ blank ∷ decimal act.actor ∷ (46 ∷ []) ∷ decimal act.number ∷ blank ∷ []) (reply_text act.reply) (10 ∷ rest)

pub act_avoids : (place : ℕ) (act : Noted) → avoids 10 (body_of place act) ≡ true
act_avoids place act =
    let number : (n : ℕ) → avoids 10 (decimal n) ≡ true = λ n. decimal_avoids 10 n (lit< tt) in
    both 10 (decimal place) _ (number place) (both 10 (decimal act.actor) _ (number act.actor) (both 10 (decimal act.number) _ (number act.number) (reply_avoids act.reply)))

reads_act : (place : ℕ) (act : Noted) (rest : List ℕ) (lines : List ReportLine) → place < 2 ^ 64 → IsActInRange act → Reads rest lines → Reads (act_line place act ++ rest) (line.Act place act.actor act.number (reply_text act.reply) ∷ lines)
reads_act place act rest lines fits inside later = λ number.
    let known = act_line_own place act.actor act.number (reply_text act.reply) fits inside.0 inside.1 (reply_filled act.reply) in
    let read : report_line_read None (body_of place act) ≡ Some (outside_listing (line.Act place act.actor act.number (reply_text act.reply))) = rw known refl in
    ap (from number None) (act_is place act rest)
    ∙ reads_line (body_of place act) rest (outside_listing (line.Act place act.actor act.number (reply_text act.reply))) lines (act_avoids place act) read refl later number

reads_if : (printed : Bool) (place : ℕ) (act : Noted) (rest : List ℕ) (lines : List ReportLine) → place < 2 ^ 64 → IsActInRange act → Reads rest lines → Reads (cond printed (act_line place act) [] ++ rest) (cond printed (line.Act place act.actor act.number (reply_text act.reply) ∷ []) [] ++ lines)
reads_if true place act rest lines fits inside later = reads_act place act rest lines fits inside later
reads_if false place act rest lines fits inside later = later

reads_acts : (place : ℕ) (acts : List Noted) (rest : List ℕ) (lines : List ReportLine) → place + length acts < 2 ^ 64 → AllByRecursion (λ (act : Noted). IsActInRange act) acts → Reads rest lines → Reads (acts_text place acts ++ rest) (act_lines place acts ++ lines)
reads_acts place [] rest lines fits inside later = later
reads_acts place (act ∷ acts) rest lines fits inside later = λ number.
    ap (from number None) (append_assoc (act_text place act) (acts_text (place + 1) acts) rest)
    ∙ reads_if (is_printed act.reply) place act (acts_text (place + 1) acts ++ rest) (act_lines (place + 1) acts ++ lines) (omega arith) inside.0 (reads_acts (place + 1) acts rest lines (omega arith) inside.1 later) number
    ∙ ap found (sym (append_assoc (cond (is_printed act.reply) (line.Act place act.actor act.number (reply_text act.reply) ∷ []) []) (act_lines (place + 1) acts) lines))

-- LISTINGS

abbrev Lines : List (List ℕ) → Type 0
Lines pieces = AllByRecursion (λ (piece : List ℕ). avoids 10 piece ≡ true) pieces

onto_first_avoids : (b : ℕ) (pieces : List (List ℕ)) → not (b == 10) ≡ true → Lines pieces → Lines (onto_first b pieces)
onto_first_avoids b [] other all = (and_true _ _ other refl, tt)
onto_first_avoids b (piece ∷ pieces) other all = (and_true _ _ other all.0, all.1)

pieces_by : (b : ℕ) (feeds : Bool) (pieces : List (List ℕ)) → feeds ≡ is_feed b → Lines pieces → Lines (cond feeds ([] ∷ pieces) (onto_first b pieces))
pieces_by b true pieces is all = (refl, all)
pieces_by b false pieces is all = onto_first_avoids b pieces (ap not (sym is)) all

pub pieces_avoid : (text : List ℕ) → Lines (slice_split is_feed text)
pieces_avoid [] = (refl, tt)
pieces_avoid (b ∷ text) = pieces_by b (is_feed b) (slice_split is_feed text) refl (pieces_avoid text)

abbrev open_with : Shown → List ℕ → ShownText
open_with kind text = record { kind = kind; text = text }

abbrev end_and : List ℕ → List ℕ
end_and rest = codes "end" ++ 10 ∷ rest

-- the line that ends a listing
ends_listing : (number : ℕ) (kind : Shown) (before rest : List ℕ) (lines : List ReportLine) → Reads rest lines → from number (Some (open_with kind before)) (end_and rest) ≡ found (line.Shown (open_with kind before) ∷ lines)
ends_listing number kind before rest lines later =
    from_line number (Some (open_with kind before)) (codes "end") rest refl ∙ ap (onto (line.Shown (open_with kind before) ∷ [])) (later (number + 1))

continued_by : (ends : Bool) (number : ℕ) (kind : Shown) (before text rest : List ℕ) (lines : List ReportLine) → not ends ≡ true → from (number + 1) (Some (open_with kind (before ++ text ++ feed))) rest ≡ found lines
    → read_then number (Some (cond ends (record { whole = line.Shown (open_with kind before) ∷ []; open_listing = None }) (record { whole = []; open_listing = Some (open_with kind (before ++ text ++ feed)) }))) (λ (later : Option ShownText). from (number + 1) later rest) ≡ found lines
continued_by true number kind before text rest lines other later = absurd cc
continued_by false number kind before text rest lines other later = ap (onto []) later

-- the lines of a listing up to its end
listing_lines : (pieces : List (List ℕ)) (number : ℕ) (kind : Shown) (before rest : List ℕ) (lines : List ReportLine) → Lines pieces → are_lines pieces ≡ true → Reads rest lines
    → from number (Some (open_with kind before)) (join_with_byte 10 pieces ++ end_and rest) ≡ found (line.Shown (open_with kind (before ++ join_with_byte 10 pieces)) ∷ lines)
listing_lines [] number kind before rest lines all whole later = absurd cc
listing_lines ([] ∷ []) number kind before rest lines all whole later =
    ends_listing number kind before rest lines later ∙ ap (λ (text : List ℕ). found (line.Shown (open_with kind text) ∷ lines)) (sym (append-nil before))
listing_lines ((b ∷ bytes) ∷ []) number kind before rest lines all whole later = absurd (grind arith)
listing_lines (text ∷ next ∷ more) number kind before rest lines all whole later =
    let joined = join_with_byte 10 (next ∷ more) in
    let grown = before ++ text ++ feed in
    let same : grown ++ joined ≡ before ++ (text ++ 10 ∷ joined) = append_assoc (before ++ text) feed joined ∙ append_assoc before text (10 ∷ joined) in
    ap (from number (Some (open_with kind before))) (append_assoc text (10 ∷ joined) (end_and rest))
    ∙ from_line number (Some (open_with kind before)) text (joined ++ end_and rest) all.0
    ∙ continued_by (is_end text) number kind before text (joined ++ end_and rest) (line.Shown (open_with kind (grown ++ joined)) ∷ lines) (first_of_and _ _ whole) (listing_lines (next ∷ more) (number + 1) kind grown rest lines all.1 (rest_of_and _ _ whole) later)
    ∙ ap (λ (text : List ℕ). found (line.Shown (open_with kind text) ∷ lines)) same

-- the first line of a listing
pub first_line : (kind : Shown) → is_named kind ≡ true → (avoids 10 (shown_name kind) ≡ true) × (report_line_read None (shown_name kind) ≡ Some (record { whole = []; open_listing = Some (open_with kind []) }))
first_line shown.List named = (refl, refl)
first_line shown.Conns named = (refl, refl)
first_line shown.Save named = (refl, refl)
first_line (shown.IcmpIn bytes) named = (both 10 (codes "icmp in ") (encode_lower bytes) refl (hex_avoids bytes), inward_own bytes named)
first_line (shown.IcmpOut bytes) named = (both 10 (codes "icmp out ") (encode_lower bytes) refl (hex_avoids bytes), outward_own bytes named)

reads_listing : (listing : ShownText) (rest : List ℕ) (lines : List ReportLine) → is_read_again listing ≡ true → Reads rest lines → Reads (shown_text listing ++ rest) (line.Shown listing ∷ lines)
reads_listing listing rest lines again later = λ number.
    let kind = listing.kind in
    let first = first_line kind (first_of_and _ _ again) in
    let joined : join_with_byte 10 (slice_split is_feed listing.text) ≡ listing.text = join_with_byte-slice_split 10 listing.text in
    let text = listing_lines (slice_split is_feed listing.text) (number + 1) kind [] rest lines (pieces_avoid listing.text) (rest_of_and _ _ again) later in
    ap (from number None) (unglue (shown_name kind) (feed ∷ listing.text ∷ codes "end" ∷ feed ∷ []) rest)
    ∙ from_line number None (shown_name kind) (listing.text ++ end_and rest) first.0
    ∙ ap (λ (o : Option LineRead). read_then number o (λ (later : Option ShownText). from (number + 1) later (listing.text ++ end_and rest))) first.1
    ∙ ap (onto []) (ap (λ (t : List ℕ). from (number + 1) (Some (open_with kind [])) (t ++ end_and rest)) (sym joined) ∙ text ∙ ap (λ (t : List ℕ). found (line.Shown (open_with kind t) ∷ lines)) joined)

reads_listings : (shown : List ShownText) → list_all (λ (listing : ShownText). is_read_again listing) shown ≡ true → Reads (listings_text shown) (map (λ (listing : ShownText). line.Shown listing) shown)
reads_listings [] all = λ number. refl
reads_listings (listing ∷ shown) all = reads_listing listing (listings_text shown) (map (λ (listing : ShownText). line.Shown listing) shown) (first_of_and _ _ all) (reads_listings shown (rest_of_and _ _ all))

-- ROUNDS

pub read_again : (book : RoundBook) → IsReadAgain book → report_of (round_text book) ≡ found (report_lines book)
read_again book again =
    let listings = map (λ (listing : ShownText). line.Shown listing) book.shown in
    let places : length book.acts < 2 ^ 64 = again.places in
    let small : 0 + length book.acts < 2 ^ 64 = omega arith in
    let shown = reads_listings book.shown again.listings in
    let acts = reads_acts 0 book.acts (listings_text book.shown) listings small again.acts shown in
    ap (from 1 None) (append_assoc (head_text book) (acts_text 0 book.acts) (listings_text book.shown))
    ∙ reads_head book (acts_text 0 book.acts ++ listings_text book.shown) (act_lines 0 book.acts ++ listings) again acts 1
