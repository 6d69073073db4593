-- Facts about answers.
use Rattle.std.proofs.Common.{◌≡◌, true, false, true≢false, List, ◌++◌, sym, refl, ap, ◌∙◌, append_assoc}
use Rattle.std.specs.Prelude.{Result, Ok, Err, OnErr, OnOk}
use Rattle.std.specs.Result.{is_err}
use Rattle.lvs_pair.specs.Pairing.{IsStartOf}

pub on_err : {T E : Type 0} (P : Type 0) (r : Result T E) → P → OnErr r P
on_err P (Ok x) holds = tt
on_err P (Err e) holds = holds

pub err_of : {T E : Type 0} (P : Type 0) (r : Result T E) → is_err r ≡ true → OnErr r P → P
err_of P (Ok x) is holds = absurd (true≢false (sym is))
err_of P (Err e) is holds = holds

pub ok_of : {T E : Type 0} (P : Type 0) (r : Result T E) → is_err r ≡ false → OnOk r P → P
ok_of P (Ok x) is holds = holds
ok_of P (Err e) is holds = absurd (true≢false is)

-- what starts a start starts the whole
pub start_then : {X : Type 0} (part base added more whole : List X) → IsStartOf part (base ++ added) → base ++ (added ++ more) ≡ whole → IsStartOf part whole
start_then part base added more whole start is = (start.0 ++ more, sym (append_assoc part start.0 more) ∙ ap (λ l. l ++ more) start.1 ∙ append_assoc base added more ∙ is)
