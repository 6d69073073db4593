-- A reading of words that stops at the first refusal.
use Rattle.std.specs.Prelude.{ℕ, Option, Some, None, Result, Ok, Err}
use Rattle.lvs_types.specs.declared.script.WordsCause.{WordsCause}
use Rattle.lvs_model.specs.declared.admin.BadWord.{BadWord}

infixl 10 ◌>>=◌
-- what comes next is read only where nothing was refused before
abbrev pub ◌>>=◌ : {A B E : Type 0} → Result A E → (A → Result B E) → Result B E
(Ok x) >>= f = f x
(Err e) >>= f = Err e

abbrev pub refused : {A : Type 0} → ℕ → WordsCause → Result A BadWord
refused at cause = Err (record { at = at; cause = cause })

-- the value, or a refusal where there is none
abbrev pub needed : {A : Type 0} → ℕ → WordsCause → Option A → Result A BadWord
needed at cause None = refused at cause
needed at cause (Some x) = Ok x

-- a refusal where an option stands at a place at which it may not
abbrev pub forbidden : WordsCause → Option ℕ → Result (Unit {0}) BadWord
forbidden cause None = Ok tt
forbidden cause (Some at) = refused at cause
