-- What is printed of a line is read as that line.
use Rattle.std.proofs.Common.{◌≡◌, ℕ, false, not, List, ◌∷◌, Option, Some, None, Result, Ok, refl, ap, ◌∙◌, is_some}
use Rattle.lvs_types.specs.declared.book.Shown.TheVariants as shown
use Rattle.lvs_types.specs.declared.script.ScriptLine.{ScriptLine}
use Rattle.lvs_types.specs.declared.script.ScriptLine.TheVariants as line
use Rattle.lvs_types.specs.declared.script.ScriptCause.{ScriptCause}
use Rattle.lvs_types.specs.declared.script.ScriptCause.TheVariants as cause
use Rattle.lvs_model.specs.declared.script.LineName.{LineName}
use Rattle.lvs_model.specs.declared.script.LineName.TheVariants as name
use Rattle.lvs_model.specs.Refusals.{◌>>=◌}
use Rattle.lvs_model.specs.Lines.{is_comment}
use Rattle.lvs_model.specs.Scripts.{line_name, line_named, ScriptRead, or_cause, refuse_if, checked_place, round_line, with_line, take_round_line, take_kind, take_line_words, take_line}
use Rattle.lvs_listing.proofs.Wording.{IsWord, AreWords}
use Rattle.lvs_tidy.specs.ScriptTexts.{line_kind, line_words, line_text}
use Rattle.lvs_tidy.proofs.Spaces.{line_taken}

pub record IsPrinted (l : ScriptLine) : Type 0 where
  pub words : AreWords (line_words l)
  pub read : round_line (line_kind l) (line_words l) ≡ Ok l

-- FIRST WORDS

pub name_is_word : (kind : LineName) → IsWord (line_name kind)
name_is_word name.Local = record { full = refl; graphic = refl; whole = refl }
name_is_word name.At = record { full = refl; graphic = refl; whole = refl }
name_is_word name.Ipvs = record { full = refl; graphic = refl; whole = refl }
name_is_word name.Sysctl = record { full = refl; graphic = refl; whole = refl }
name_is_word name.Incoming = record { full = refl; graphic = refl; whole = refl }
name_is_word name.Outgoing = record { full = refl; graphic = refl; whole = refl }
name_is_word name.Sync = record { full = refl; graphic = refl; whole = refl }
name_is_word name.List = record { full = refl; graphic = refl; whole = refl }
name_is_word name.Conns = record { full = refl; graphic = refl; whole = refl }
name_is_word name.Save = record { full = refl; graphic = refl; whole = refl }
name_is_word name.Icmp = record { full = refl; graphic = refl; whole = refl }

pub name_is_read : (kind : LineName) → line_named (line_name kind) ≡ Some kind
name_is_read name.Local = refl
name_is_read name.At = refl
name_is_read name.Ipvs = refl
name_is_read name.Sysctl = refl
name_is_read name.Incoming = refl
name_is_read name.Outgoing = refl
name_is_read name.Sync = refl
name_is_read name.List = refl
name_is_read name.Conns = refl
name_is_read name.Save = refl
name_is_read name.Icmp = refl

pub name_is_plain : (kind : LineName) → is_comment (line_name kind) ≡ false
name_is_plain name.Local = refl
name_is_plain name.At = refl
name_is_plain name.Ipvs = refl
name_is_plain name.Sysctl = refl
name_is_plain name.Incoming = refl
name_is_plain name.Outgoing = refl
name_is_plain name.Sync = refl
name_is_plain name.List = refl
name_is_plain name.Conns = refl
name_is_plain name.Save = refl
name_is_plain name.Icmp = refl

-- a line that a first word begins is read by its kind
pub kind_taken : (kind : LineName) (ws : List (List ℕ)) (s : ScriptRead) → take_line_words (line_name kind ∷ ws) s ≡ (checked_place kind s >>= (λ (_ : Unit {0}). take_kind kind ws s))
kind_taken kind ws s =
    ap (λ (o : Option LineName). or_cause cause.UnknownLine o >>= (λ (k : LineName). checked_place k s >>= (λ (_ : Unit {0}). take_kind k ws s))) (name_is_read kind)

-- A LINE OF A ROUND

place_of : (l : ScriptLine) (s : ScriptRead) → checked_place (line_kind l) s ≡ refuse_if (not (is_some s.moment)) cause.BeforeAt
place_of (line.Incoming mark bytes) s = refl
place_of (line.Outgoing bytes) s = refl
place_of (line.Edit command) s = refl
place_of (line.Set setting) s = refl
place_of (line.Sync bytes) s = refl
place_of (line.Show shown.List) s = refl
place_of (line.Show shown.Conns) s = refl
place_of (line.Show shown.Save) s = refl
place_of (line.Show (shown.IcmpIn bytes)) s = refl
place_of (line.Show (shown.IcmpOut bytes)) s = refl

round_taken : (l : ScriptLine) (ws : List (List ℕ)) (s : ScriptRead) → take_kind (line_kind l) ws s ≡ take_round_line (line_kind l) ws s
round_taken (line.Incoming mark bytes) ws s = refl
round_taken (line.Outgoing bytes) ws s = refl
round_taken (line.Edit command) ws s = refl
round_taken (line.Set setting) ws s = refl
round_taken (line.Sync bytes) ws s = refl
round_taken (line.Show shown.List) ws s = refl
round_taken (line.Show shown.Conns) ws s = refl
round_taken (line.Show shown.Save) ws s = refl
round_taken (line.Show (shown.IcmpIn bytes)) ws s = refl
round_taken (line.Show (shown.IcmpOut bytes)) ws s = refl

open_place : (s : ScriptRead) (o : Option ℕ) (moment : ℕ) → o ≡ Some moment → refuse_if (not (is_some o)) cause.BeforeAt ≡ Ok tt
open_place s None moment e = absurd cc
open_place s (Some m) moment e = refl

pub printed_taken : (l : ScriptLine) (s : ScriptRead) (moment : ℕ) → s.moment ≡ Some moment → IsPrinted l → take_line (line_text l) s ≡ with_line l s
printed_taken l s moment opened is =
    line_taken (line_name (line_kind l)) (line_words l) s (name_is_word (line_kind l)) is.words (name_is_plain (line_kind l))
    ∙ kind_taken (line_kind l) (line_words l) s
    ∙ ap (λ (place : Result (Unit {0}) ScriptCause). place >>= (λ (_ : Unit {0}). take_kind (line_kind l) (line_words l) s)) (place_of l s ∙ open_place s s.moment moment opened)
    ∙ round_taken l (line_words l) s
    ∙ ap (λ (read : Result ScriptLine ScriptCause). read >>= (λ (x : ScriptLine). with_line x s)) is.read
