-- Texts in which a byte doesn't stand.
use Rattle.std.proofs.Common.{◌≡◌, ℕ, ◌+◌, ◌<◌, ◌/◌, ◌%◌, Bool, true, false, not, ◌&&◌, ◌==◌, cond, List, [], ◌∷◌, ◌++◌, get_or, refl, ◌∙◌, arith, lit<, decimal, nat_lt, zero, suc, codes, Some}
use Rattle.std.specs.List.{list_all, AllByRecursion}
use Rattle.std.specs.Fmt.{digits, digits_onto, digit_glyph}
use Rattle.std.proofs.lemmas.List.Folds.{list_all-append}
use Rattle.std.proofs.lemmas.Bool.Decides.{nat_tests}
use Rattle.hex.specs.Hex.{lower_digits, encode_with, encode_lower}
use Rattle.lvs_types.specs.declared.addr.Addr.{Addr}
use Rattle.lvs_types.specs.declared.service.Method.{Method}
use Rattle.lvs_types.specs.declared.service.Method.TheVariants.{Masq, Tunnel, Direct}
use Rattle.lvs_types.specs.declared.head.Malformed.{Malformed}
use Rattle.lvs_types.specs.declared.head.Malformed.TheVariants as malformed
use Rattle.lvs_types.specs.declared.sync.BadSync.{BadSync}
use Rattle.lvs_types.specs.declared.sync.BadSync.TheVariants as bad
use Rattle.lvs_types.specs.declared.sync.Learnt.{Learnt}
use Rattle.lvs_types.specs.declared.sync.Learnt.TheVariants as learnt
use Rattle.lvs_types.specs.declared.reply.DropCause.{DropCause}
use Rattle.lvs_types.specs.declared.reply.DropCause.TheVariants as drops
use Rattle.lvs_types.specs.declared.reply.EditRefused.{EditRefused}
use Rattle.lvs_types.specs.declared.reply.EditRefused.TheVariants as refused
use Rattle.lvs_types.specs.declared.reply.Reply.{Reply}
use Rattle.lvs_types.specs.declared.reply.Reply.TheVariants as reply
use Rattle.lvs_model.specs.ReportReading.{filled}
use Rattle.lvs_model.specs.Report.{addr_text, method_text, malformed_text, drop_text, refused_text, learnt_text, bad_sync_text, messages_text, reply_text}

abbrev pub avoids : ℕ → List ℕ → Bool
avoids byte text = list_all (λ (b : ℕ). not (b == byte)) text

pub and_true : (a b : Bool) → a ≡ true → b ≡ true → (a && b) ≡ true
and_true true b first second = second
and_true false b first second = first

pub first_of_and : (a b : Bool) → (a && b) ≡ true → a ≡ true
first_of_and true b is = refl
first_of_and false b is = is

pub rest_of_and : (a b : Bool) → (a && b) ≡ true → b ≡ true
rest_of_and true b is = is
rest_of_and false b is = absurd cc

pub both : (byte : ℕ) (prefix text : List ℕ) → avoids byte prefix ≡ true → avoids byte text ≡ true → avoids byte (prefix ++ text) ≡ true
both byte prefix text first second = list_all-append (λ (b : ℕ). not (b == byte)) prefix text ∙ and_true _ _ first second

-- pieces behind one another, as the texts are written
abbrev pub glue : List ℕ → List (List ℕ) → List ℕ
glue prefix [] = prefix
glue prefix (piece ∷ pieces) = glue (prefix ++ piece) pieces

pub all_avoid : (byte : ℕ) (prefix : List ℕ) (pieces : List (List ℕ)) → avoids byte prefix ≡ true → AllByRecursion (λ (piece : List ℕ). avoids byte piece ≡ true) pieces → avoids byte (glue prefix pieces) ≡ true
all_avoid byte prefix [] first rest = first
all_avoid byte prefix (piece ∷ pieces) first rest = all_avoid byte (prefix ++ piece) pieces (both byte prefix piece first rest.0) rest.1

-- the digits of numbers

glyph_by : (byte d : ℕ) (b : Bool) → byte < 48 → not (cond b (48 + d) (87 + d) == byte) ≡ true
glyph_by byte d true low = grind (arith, nat_tests)
glyph_by byte d false low = grind (arith, nat_tests)

onto_by : (byte glyph : ℕ) (b : Bool) (later acc : List ℕ) → not (glyph == byte) ≡ true → avoids byte acc ≡ true → avoids byte later ≡ true → avoids byte (cond b (glyph ∷ acc) later) ≡ true
onto_by byte glyph true later acc first rest more = and_true _ _ first rest
onto_by byte glyph false later acc first rest more = more

digits_avoid : (byte k n : ℕ) (acc : List ℕ) → byte < 48 → avoids byte acc ≡ true → avoids byte (digits_onto k 10 false n acc) ≡ true
digits_avoid byte zero n acc low rest = rest
digits_avoid byte (suc k) n acc low rest =
    let glyph = digit_glyph false (n % 10) in
    let first : not (glyph == byte) ≡ true = glyph_by byte (n % 10) (nat_lt (n % 10) 10) low in
    onto_by byte glyph (n / 10 == 0) (digits_onto k 10 false (n / 10) (glyph ∷ acc)) acc first rest (digits_avoid byte k (n / 10) (glyph ∷ acc) low (and_true _ _ first rest))

pub decimal_avoids : (byte n : ℕ) → byte < 48 → avoids byte (decimal n) ≡ true
unfolding digits
decimal_avoids byte n low = digits_avoid byte 64 n [] low refl

-- hexadecimal digits

index_avoids : (table : List ℕ) (i : ℕ) → avoids 10 table ≡ true → not (get_or table i 0 == 10) ≡ true
index_avoids [] i well = refl
index_avoids (x ∷ xs) zero well = first_of_and _ _ well
index_avoids (x ∷ xs) (suc i) well = index_avoids xs i (rest_of_and _ _ well)

pub hex_avoids : (bytes : List ℕ) → avoids 10 (encode_lower bytes) ≡ true
unfolding encode_with
hex_avoids [] = refl
hex_avoids (b ∷ bytes) = and_true _ _ (index_avoids lower_digits (b / 16) refl) (and_true _ _ (index_avoids lower_digits (b % 16) refl) (hex_avoids bytes))

-- replies

number_avoids : (n : ℕ) → avoids 10 (decimal n) ≡ true
number_avoids n = decimal_avoids 10 n (lit< tt)

abbrev dot : List ℕ
dot = 46 ∷ []

abbrev blank : List ℕ
blank = 32 ∷ []

addr_avoids : (a : Addr) → avoids 10 (addr_text a) ≡ true
addr_avoids a =
    all_avoid 10 (decimal (a.number / 16777216)) (dot ∷ decimal (a.number / 65536 % 256) ∷ dot ∷ decimal (a.number / 256 % 256) ∷ dot ∷ decimal (a.number % 256) ∷ []) (number_avoids _) (refl, (number_avoids _, (refl, (number_avoids _, (refl, (number_avoids _, tt))))))

method_avoids : (method : Method) → avoids 10 (method_text method) ≡ true
method_avoids Masq = refl
method_avoids Tunnel = refl
method_avoids Direct = refl

malformed_avoids : (cause : Malformed) → avoids 10 (malformed_text cause) ≡ true
malformed_avoids malformed.Short = refl
malformed_avoids malformed.Version = refl
malformed_avoids malformed.HeaderLength = refl
malformed_avoids malformed.TotalLength = refl
malformed_avoids malformed.HeaderSum = refl
malformed_avoids malformed.L4Short = refl

drop_avoids : (cause : DropCause) → avoids 10 (drop_text cause) ≡ true
drop_avoids (drops.Malformed cause) = both 10 (codes "malformed ") (malformed_text cause) refl (malformed_avoids cause)
drop_avoids drops.NoDest = refl
drop_avoids drops.Gone = refl
drop_avoids drops.TooLong = refl

refused_avoids : (cause : EditRefused) → avoids 10 (refused_text cause) ≡ true
refused_avoids refused.Exists = refl
refused_avoids refused.NoService = refl
refused_avoids refused.NoDest = refl
refused_avoids refused.Thresholds = refl
refused_avoids refused.Running = refl
refused_avoids refused.NotRunning = refl

learnt_avoids : (answer : Learnt) → avoids 10 (learnt_text answer) ≡ true
learnt_avoids learnt.Accepted = refl
learnt_avoids learnt.Off = refl
learnt_avoids learnt.OtherId = refl
learnt_avoids learnt.V6 = refl
learnt_avoids learnt.BadProto = refl
learnt_avoids learnt.BadState = refl
learnt_avoids learnt.BadMethod = refl

sync_avoids : (cause : BadSync) → avoids 10 (bad_sync_text cause) ≡ true
sync_avoids bad.Short = refl
sync_avoids bad.Version = refl
sync_avoids bad.Size = refl
sync_avoids bad.RecordShort = refl
sync_avoids bad.RecordVersion = refl
sync_avoids bad.Options = refl
sync_avoids bad.Count = refl

messages_avoid : (messages : List (List ℕ)) → avoids 10 (messages_text messages) ≡ true
messages_avoid [] = refl
messages_avoid (message ∷ messages) = both 10 (encode_lower message) (messages_text messages) (hex_avoids message) (messages_avoid messages)

-- no reply has a line feed
pub reply_avoids : (r : Reply) → avoids 10 (reply_text r) ≡ true
reply_avoids (reply.Forward how to bytes) =
    all_avoid 10 (method_text how) (blank ∷ addr_text to ∷ blank ∷ encode_lower bytes ∷ []) (method_avoids how) (refl, (addr_avoids to, (refl, (hex_avoids bytes, tt))))
reply_avoids (reply.Outward bytes) = hex_avoids bytes
reply_avoids reply.Pass = refl
reply_avoids (reply.Drop cause) = drop_avoids cause
reply_avoids reply.Done = refl
reply_avoids (reply.Refused cause) = refused_avoids cause
reply_avoids (reply.Learnt answer) = learnt_avoids answer
reply_avoids (reply.BadMessage cause) = sync_avoids cause
reply_avoids reply.Ticked = refl
reply_avoids (reply.Swept count) = number_avoids count
reply_avoids (reply.Reaped templates renewed servers) =
    all_avoid 10 (decimal templates) (blank ∷ decimal renewed ∷ blank ∷ decimal servers ∷ []) (number_avoids _) (refl, (number_avoids _, (refl, (number_avoids _, tt))))
reply_avoids (reply.Sent messages) = messages_avoid messages

-- a reply has at least one byte
pub reply_filled : (r : Reply) → filled (reply_text r) ≡ Some (reply_text r)
reply_filled (reply.Forward how to bytes) = refl
reply_filled (reply.Outward bytes) = refl
reply_filled reply.Pass = refl
reply_filled (reply.Drop cause) = refl
reply_filled reply.Done = refl
reply_filled (reply.Refused cause) = refl
reply_filled (reply.Learnt answer) = refl
reply_filled (reply.BadMessage cause) = refl
reply_filled reply.Ticked = refl
reply_filled (reply.Swept count) = refl
reply_filled (reply.Reaped templates renewed servers) = refl
reply_filled (reply.Sent messages) = refl
