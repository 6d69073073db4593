-- What stops the first of two tests stops both.
use Rattle.std.proofs.Common.{◌≡◌, Result, Err, ap, subst}
use Rattle.lvs_types.specs.declared.report.Verdict.{Verdict}
use Rattle.lvs_model.specs.Refusals.{◌>>=◌}
use Rattle.lvs_check.specs.declared.refusal.Stop.{Stop}
use Rattle.lvs_check.specs.declared.refusal.Stop.TheVariants as stop
use Rattle.lvs_check.specs.Judging.{Judges}

abbrev then_judged : {A B : Type 0} → (A → Result B Verdict) → Result A Verdict → Result B Verdict
then_judged f r = r >>= f

pub stops : {A B : Type 0} (e : Stop) (x : A) (y : B) (r : Result A Verdict) (f : A → Result B Verdict) → Judges (Err e) x r → Judges (Err e) y (r >>= f)
stops (stop.Refused verdict) x y r f is = ap (then_judged f) is
stops stop.NoMemory x y r f is = tt

pub along : {A : Type 0} (done : Result (Unit {0}) Stop) (x : A) (r q : Result A Verdict) → r ≡ q → Judges done x r → Judges done x q
along done x r q same is = subst (λ j. Judges done x j) same is
