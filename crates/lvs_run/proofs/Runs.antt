-- One more act of a run, and one more round.
use Rattle.std.proofs.Common.{◌≡◌, ℕ, suc, ◌+◌, ◌<◌, List, [], ◌∷◌, ◌++◌, length, drop, get_or, refl, sym, ◌∙◌, ap, subst, add-one, arith}
use Rattle.std.proofs.Math.Seq.{drop-cons}
use Rattle.lvs_types.specs.declared.reply.Reply.{Reply}
use Rattle.lvs_types.specs.declared.book.Noted.{Noted}
use Rattle.lvs_types.specs.declared.book.RoundBook.{RoundBook}
use Rattle.lvs_types.specs.declared.script.Round.{Round}
use Rattle.lvs_model.specs.State.{State}
use Rattle.lvs_model.specs.Step.{step, run}
use Rattle.lvs_model.specs.Books.{items_of, replies_of, IsRun}
use Rattle.lvs_run.specs.Ways.{Way, IsPlayed, ArePlayed}

abbrev answered : Reply × State → List Reply → List Reply × State
answered now later = (now.0 ∷ later, now.1)

abbrev before_all : Reply → List Reply × State → List Reply × State
before_all reply later = (reply ∷ later.0, later.1)

abbrev both : List Reply → State → List Reply × State
both replies left = (replies, left)

cons_head : (r q : Reply) (rs qs : List Reply) → r ∷ rs ≡ q ∷ qs → r ≡ q
cons_head r q rs qs e = cc

cons_tail : (r q : Reply) (rs qs : List Reply) → r ∷ rs ≡ q ∷ qs → rs ≡ qs
cons_tail r q rs qs e = cc

-- the first reply, and what comes later
split : (now : Reply) (later : List Reply × State) (reply : Reply) (replies : List Reply) (left : State) → before_all now later ≡ both (reply ∷ replies) left → (now ≡ reply) × (later ≡ both replies left)
split now later reply replies left e =
    let all : now ∷ later.0 ≡ reply ∷ replies = ap (λ (p : List Reply × State). p.0) e in
    let end : later.1 ≡ left = ap (λ (p : List Reply × State). p.1) e in
    (cons_head now reply later.0 replies all, ap (λ (rs : List Reply). both rs later.1) (cons_tail now reply later.0 replies all) ∙ ap (λ (t : State). both replies t) end)

-- the reply of one more act is the step's, where the acts before it left off
pub run_push : (s : State) (acts : List Noted) (act : Noted) (mid new : State) → IsRun s acts mid → step mid act.item ≡ (act.reply, new) → IsRun s (acts ++ act ∷ []) new
run_push s [] act mid new before now =
    let here : s ≡ mid = ap (λ (p : List Reply × State). p.1) before in
    ap (λ (p : Reply × State). answered p []) (ap (λ (t : State). step t act.item) here ∙ now)
run_push s (first ∷ acts) act mid new before now =
    let parts = split (step s first.item).0 (run (step s first.item).1 (items_of acts)) first.reply (replies_of acts) mid before in
    ap (λ (p : List Reply × State). before_all (step s first.item).0 p) (run_push (step s first.item).1 acts act mid new parts.1 now)
    ∙ ap (λ (r : Reply). before_all r (both (replies_of (acts ++ act ∷ [])) new)) parts.0

numbered_as : (way : Way) (n m : ℕ) (round : Round) (before : State) (book : RoundBook) (left : State) → n ≡ m → IsPlayed way n round before book left → IsPlayed way m round before book left
numbered_as way n m round before book left same is = let P : ℕ → Type 0 = λ k. IsPlayed way k round before book left in subst P same is

-- one more book, of the round that comes next
pub played_push : (way : Way) (number : ℕ) (s : State) (rounds rest : List Round) (books : List RoundBook) (round : Round) (book : RoundBook) (mid left : State) → ArePlayed way number s rounds books mid → drop (length books) rounds ≡ round ∷ rest → IsPlayed way (number + length books) round mid book left → ArePlayed way number s rounds (books ++ book ∷ []) left
played_push way number s [] rest [] round book mid left before next is = cc
played_push way number s (r ∷ rounds) rest [] round book mid left before next is =
    let here : round ≡ r = cc in
    let P : Round → Type 0 = λ a. IsPlayed way number a s book left in
    let Q : State → Type 0 = λ t. IsPlayed way number round t book left in
    (left, subst P here (subst Q before (numbered_as way (number + 0) number round mid book left (omega arith) is)), refl)
played_push way number s [] rest (b ∷ books) round book mid left before next is = absurd before
played_push way number s (r ∷ rounds) rest (b ∷ books) round book mid left before next is =
    (before.0, before.1, played_push way (number + 1) before.0 rounds rest books round book mid left before.2 next (numbered_as way (number + length (b ∷ books)) (number + 1 + length books) round mid book left (omega arith) is))

-- the round at an index is the next one
pub next_round : (rounds : List Round) (i : ℕ) (round : Round) → i < length rounds → round ≡ get_or rounds i round → drop i rounds ≡ round ∷ drop (i + 1) rounds
next_round rounds i round within is =
    rw add-one (drop-cons rounds i round within ∙ ap (λ (r : Round). r ∷ drop (suc i) rounds) (sym is))

-- one more book, as a loop over the rounds makes it
pub played_on : (way : Way) (s : State) (rounds : List Round) (books all : List RoundBook) (i n : ℕ) (round : Round) (book : RoundBook) (mid left : State) → ArePlayed way 0 s rounds books mid → length books ≡ i → drop i rounds ≡ round ∷ drop (i + 1) rounds → n ≡ i → all ≡ books ++ book ∷ [] → IsPlayed way n round mid book left → ArePlayed way 0 s rounds all left
played_on way s rounds books all i n round book mid left before count next number_is pushed is =
    let P : List RoundBook → Type 0 = λ l. ArePlayed way 0 s rounds l left in
    let here : drop (length books) rounds ≡ round ∷ drop (i + 1) rounds = ap (λ (k : ℕ). drop k rounds) count ∙ next in
    subst P (sym pushed) (played_push way 0 s rounds (drop (i + 1) rounds) books round book mid left before here (numbered_as way n (0 + length books) round mid book left (omega arith) is))
