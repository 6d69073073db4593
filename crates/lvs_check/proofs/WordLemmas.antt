-- The line of an act, taken from the text of a round with nothing else.
use Rattle.std.proofs.Common.{◌≡◌, ℕ, ◌-◌, ◌<◌, Bool, true, false, cond, List, [], ◌∷◌, ◌++◌, length, take, drop, decimal, codes, refl, sym, ◌∙◌, ap, arith, append_assoc, length-append}
use Rattle.std.specs.Fmt.{digits}
use Rattle.std.proofs.Math.Seq.{take-append_seam, drop-append_seam}
use Rattle.std.proofs.lemmas.List.{append-nil}
use Rattle.lvs_types.specs.declared.reply.Reply.{Reply}
use Rattle.lvs_model.specs.Report.{is_printed, reply_text, round_text}
use Rattle.lvs_model.specs.Progress.{act_words}
use Rattle.lvs_check.specs.Acts.{lone_act}

-- behind the place: a blank, the actor, a dot, the number, a blank and the reply
abbrev rest_of : ℕ → ℕ → Reply → List ℕ
rest_of actor number reply = 32 ∷ [] ++ decimal actor ++ 46 ∷ [] ++ decimal number ++ 32 ∷ [] ++ reply_text reply

abbrev feed : List ℕ
feed = 10 ∷ []

-- the head and the place
abbrev front : List ℕ
front = codes "round 0 at 0 workers 0 buckets 0" ++ 10 ∷ 48 ∷ []

printed_by : (b : Bool) (head line : List ℕ) → b ≡ true → (head ++ (cond b line [] ++ [])) ++ [] ≡ head ++ line
printed_by true head line is = append-nil (head ++ (line ++ [])) ∙ ap (λ (l : List ℕ). head ++ l) (append-nil line)
printed_by false head line is = cc

whole : (actor number : ℕ) (reply : Reply) → is_printed reply ≡ true → round_text (lone_act actor number reply) ≡ front ++ (rest_of actor number reply ++ feed)
unfolding digits
whole actor number reply is = printed_by (is_printed reply) (codes "round 0 at 0 workers 0 buckets 0" ++ feed) (48 ∷ (rest_of actor number reply ++ feed)) is

cut_out : (rest : List ℕ) → take (length (front ++ (rest ++ feed)) - 1 - 34) (drop 34 (front ++ (rest ++ feed))) ≡ rest
cut_out rest =
    let count : length (front ++ (rest ++ feed)) - 1 - 34 ≡ length rest = omega (arith, length-append rest feed) in
    let later : drop 34 (front ++ (rest ++ feed)) ≡ rest ++ feed = drop-append_seam front (rest ++ feed) in
    rw (count, later) (take-append_seam rest feed)

words_by : (b : Bool) (place : ℕ) (actor number : ℕ) (reply : Reply) → b ≡ true → decimal place ++ rest_of actor number reply ≡ cond b (decimal place ++ 32 ∷ [] ++ decimal actor ++ 46 ∷ [] ++ decimal number ++ 32 ∷ [] ++ reply_text reply) []
words_by true place actor number reply is =
    let p = decimal place in
    let a = decimal actor in
    let n = decimal number in
    sym (append_assoc p ((32 ∷ [] ++ a ++ 46 ∷ [] ++ n) ++ 32 ∷ []) (reply_text reply))
    ∙ ap (λ (l : List ℕ). l ++ reply_text reply) (sym (append_assoc p (32 ∷ [] ++ a ++ 46 ∷ [] ++ n) (32 ∷ [])))
    ∙ ap (λ (l : List ℕ). l ++ 32 ∷ [] ++ reply_text reply) (sym (append_assoc p (32 ∷ [] ++ a ++ 46 ∷ []) n))
    ∙ ap (λ (l : List ℕ). l ++ n ++ 32 ∷ [] ++ reply_text reply) (sym (append_assoc p (32 ∷ [] ++ a) (46 ∷ [])))
    ∙ ap (λ (l : List ℕ). l ++ 46 ∷ [] ++ n ++ 32 ∷ [] ++ reply_text reply) (sym (append_assoc p (32 ∷ []) a))
words_by false place actor number reply is = cc

pub long_text : (actor number : ℕ) (reply : Reply) (text : List ℕ) → text ≡ round_text (lone_act actor number reply) → is_printed reply ≡ true → 34 < length text
long_text actor number reply text is printed =
    let count = ap length (is ∙ whole actor number reply printed) in
    omega (arith, count, length-append (rest_of actor number reply) feed)

pub words_of_act : (place actor number : ℕ) (reply : Reply) (text behind : List ℕ) → text ≡ round_text (lone_act actor number reply) → is_printed reply ≡ true → behind ≡ take (length text - 1 - 34) (drop 34 text) → decimal place ++ behind ≡ act_words place actor number reply
words_of_act place actor number reply text behind is printed cut =
    let same = is ∙ whole actor number reply printed in
    let shown : behind ≡ rest_of actor number reply = cut ∙ ap (λ (l : List ℕ). take (length l - 1 - 34) (drop 34 l)) same ∙ cut_out (rest_of actor number reply) in
    ap (λ (l : List ℕ). decimal place ++ l) shown ∙ words_by (is_printed reply) place actor number reply printed

none_by : (b : Bool) (words : List ℕ) → b ≡ false → [] ≡ cond b words []
none_by true words is = cc
none_by false words is = refl

pub no_words : (place actor number : ℕ) (reply : Reply) → is_printed reply ≡ false → [] ≡ act_words place actor number reply
no_words place actor number reply silent = none_by (is_printed reply) (decimal place ++ 32 ∷ [] ++ decimal actor ++ 46 ∷ [] ++ decimal number ++ 32 ∷ [] ++ reply_text reply) silent
