-- Texts that are appended one after the other.
use Rattle.std.proofs.Common.{◌≡◌, List, ℕ, ◌++◌, Result, Ok, Err, OnOk, ◌∙◌, ap, append_assoc}

appended : (last first start a b : List ℕ) → first ≡ start ++ a → last ≡ first ++ b → last ≡ start ++ (a ++ b)
appended last first start a b p q = q ∙ ap (λ (l : List ℕ). l ++ b) p ∙ append_assoc start a b

pub two_texts : {E : Type 0} (answer : Result (Unit {0}) E) (last first start a b : List ℕ) → first ≡ start ++ a → OnOk answer (last ≡ first ++ b) → OnOk answer (last ≡ start ++ (a ++ b))
two_texts (Ok done) last first start a b p q = appended last first start a b p q
two_texts (Err why) last first start a b p q = tt
