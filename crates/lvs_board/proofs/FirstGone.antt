-- The services leave one by one, the first one first.
use Rattle.std.proofs.Common.{◌≡◌, ◌-◌, ◌≤◌, ℕ, Bool, true, false, cond, not, List, [], ◌∷◌, Some, refl, ap, ◌∙◌, length, arith}
use Rattle.std.proofs.lemmas.List.Sums.{length-filter, count_by-le-length}
use Rattle.std.specs.List.{slice_get}
use Rattle.lvs_types.specs.declared.service.Service.{Service}
use Rattle.lvs_model.specs.Lists.{without}
use Rattle.lvs_model.specs.Lookups.{has_service_key}
use Rattle.lvs_model.specs.Same.{service_key_eq}
use Rattle.lvs_well_formed.proofs.Keys.{service_key_same}

fewer_without : (p : Service → Bool) (services : List Service) → length (without p services) ≤ length services
fewer_without p services = omega (arith, length-filter (λ s. not (p s)) services, count_by-le-length (λ s. not (p s)) services)

gone_step : (b : Bool) (s : Service) (rest : List Service) (n : ℕ) → b ≡ true → length rest ≤ n → length (cond (not b) (s ∷ rest) rest) ≤ n
gone_step true s rest n is few = few
gone_step false s rest n is few = absurd cc

-- at least the first service leaves with its key
pub first_gone : (services : List Service) (first : Service) → slice_get services 0 ≡ Some first → length (without (has_service_key first.key) services) ≤ length services - 1
first_gone [] first is = absurd cc
first_gone (s ∷ services) first is =
    let same : s ≡ first = cc in
    let here : has_service_key first.key s ≡ true = ap (λ (x : Service). service_key_eq x.key first.key) same ∙ service_key_same first.key in
    let few = gone_step (has_service_key first.key s) s (without (has_service_key first.key) services) (length services) here (fewer_without (has_service_key first.key) services) in
    omega (arith, few)

-- none is left
pub none_left : (services : List Service) → length services ≤ 0 → services ≡ []
none_left [] few = refl
none_left (s ∷ services) few = absurd (omega (arith, few))
