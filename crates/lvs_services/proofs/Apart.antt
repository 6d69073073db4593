-- Keys stay apart through each change of a list of services.
use Rattle.std.proofs.Common.{◌≡◌, Bool, true, false, ◌||◌, not, cond, refl, sym, ap, subst, List, [], ◌∷◌, ◌++◌}
use Rattle.std.specs.List.{AllByRecursion, IsDistinct}
use Rattle.lvs_types.specs.declared.service.ServiceKey.{ServiceKey}
use Rattle.lvs_types.specs.declared.service.Service.{Service}
use Rattle.lvs_model.specs.Lists.{update_first, without}
use Rattle.lvs_model.specs.Same.{service_key_eq}
use Rattle.lvs_model.specs.Lookups.{has_service_key}
use Rattle.lvs_model.specs.WellFormed.{service_keys}
use Rattle.lvs_services.specs.Services.{is_known}
use Rattle.lvs_services.proofs.Same.{key_is}

abbrev pub HasDistinctKeys : List Service → Type 0
HasDistinctKeys services = IsDistinct service_key_eq (service_keys services)

-- the key is that of none of the services
abbrev pub IsOther : ServiceKey → List Service → Type 0
IsOther key services = AllByRecursion (λ other. service_key_eq key other ≡ false) (service_keys services)

pub none_apart : (services : List Service) → services ≡ [] → HasDistinctKeys services
unfolding IsDistinct
none_apart services none = subst HasDistinctKeys (sym none) tt

neither : (a b : Bool) → (a || b) ≡ false → (a ≡ false) × (b ≡ false)
neither true b e = absurd (cc)
neither false b e = (refl, e)

other_push : (key : ServiceKey) (services : List Service) (x : Service) → IsOther key services → service_key_eq key x.key ≡ false → IsOther key (services ++ x ∷ [])
other_push key [] x others differs = (differs, tt)
other_push key (s ∷ services) x others differs = (others.0, other_push key services x others.1 differs)

-- a service of a new key is put last
pub apart_push : (services : List Service) (x : Service) → HasDistinctKeys services → is_known x.key services ≡ false → HasDistinctKeys (services ++ x ∷ [])
unfolding IsDistinct
apart_push [] x apart none = (tt, tt)
apart_push (s ∷ services) x apart none =
    let parts = neither (service_key_eq s.key x.key) (is_known x.key services) none in
    (other_push s.key services x apart.0 parts.0, apart_push services x apart.1 parts.1)

module _ (p : Service → Bool) (f : Service → Service) (same : (s : Service) → p s ≡ true → (f s).key ≡ s.key) where
  keys_by : (s : Service) (services updated : List Service) (b : Bool) → p s ≡ b → service_keys updated ≡ service_keys services → service_keys (cond b (f s ∷ services) (s ∷ updated)) ≡ service_keys (s ∷ services)
  keys_by s services updated true here rest = ap (λ key. key ∷ service_keys services) (same s here)
  keys_by s services updated false here rest = ap (λ keys. s.key ∷ keys) rest

  keys_update : (services : List Service) → service_keys (update_first p f services) ≡ service_keys services
  keys_update [] = refl
  keys_update (s ∷ services) = keys_by s services (update_first p f services) (p s) refl (keys_update services)

  -- a change that keeps the key
  pub apart_update : (services : List Service) → HasDistinctKeys services → HasDistinctKeys (update_first p f services)
  apart_update services apart = subst (IsDistinct service_key_eq) (sym (keys_update services)) apart

-- the one of a key is replaced by another of that key
pub apart_replace : (service : Service) (services : List Service) → HasDistinctKeys services → HasDistinctKeys (update_first (has_service_key service.key) (λ _. service) services)
apart_replace service services apart =
    apart_update (has_service_key service.key) (λ _. service) (λ s here. sym (key_is s.key service.key here)) services apart

module _ (q : Service → Bool) where
  other_kept : (key : ServiceKey) (s : Service) (kept : List Service) (b : Bool) → service_key_eq key s.key ≡ false → IsOther key kept → IsOther key (cond b (s ∷ kept) kept)
  other_kept key s kept true differs others = (differs, others)
  other_kept key s kept false differs others = others

  other_without : (key : ServiceKey) (services : List Service) → IsOther key services → IsOther key (without q services)
  other_without key [] others = tt
  other_without key (s ∷ services) others =
      other_kept key s (without q services) (not (q s)) others.0 (other_without key services others.1)

  apart_kept : (s : Service) (kept : List Service) (b : Bool) → IsOther s.key kept → HasDistinctKeys kept → HasDistinctKeys (cond b (s ∷ kept) kept)
  unfolding IsDistinct
  apart_kept s kept true others apart = (others, apart)
  apart_kept s kept false others apart = apart

  -- some are taken out
  pub apart_without : (services : List Service) → HasDistinctKeys services → HasDistinctKeys (without q services)
  unfolding IsDistinct
  apart_without [] apart = tt
  apart_without (s ∷ services) apart =
      apart_kept s (without q services) (not (q s)) (other_without s.key services apart.0) (apart_without services apart.1)

-- a key that no service has changes nothing
not_update : (b : Bool) (f : Service → Service) (s : Service) (services updated : List Service) → b ≡ false → updated ≡ services → cond b (f s ∷ services) (s ∷ updated) ≡ s ∷ services
not_update true f s services updated none rest = absurd (cc)
not_update false f s services updated none rest = ap (λ ss. s ∷ ss) rest

pub update_unknown : (key : ServiceKey) (f : Service → Service) (services : List Service) → is_known key services ≡ false → services ≡ update_first (has_service_key key) f services
update_unknown key f [] none = refl
update_unknown key f (s ∷ services) none =
    let parts = neither (service_key_eq s.key key) (is_known key services) none in
    sym (not_update (service_key_eq s.key key) f s services (update_first (has_service_key key) f services) parts.0 (sym (update_unknown key f services parts.1)))

pub without_unknown : (key : ServiceKey) (services : List Service) → is_known key services ≡ false → services ≡ without (has_service_key key) services
without_unknown key [] none = refl
without_unknown key (s ∷ services) none =
    let parts = neither (service_key_eq s.key key) (is_known key services) none in
    rw parts.0 (ap (λ ss. s ∷ ss) (without_unknown key services parts.1))

-- a service of a new key is put last, or there was no memory
pub apart_pushed : (b : Bool) (services pushed : List Service) (x : Service) → pushed ≡ cond b (services ++ x ∷ []) services → HasDistinctKeys services → is_known x.key services ≡ false → HasDistinctKeys pushed
apart_pushed true services pushed x is apart none = subst HasDistinctKeys (sym is) (apart_push services x apart none)
apart_pushed false services pushed x is apart none = subst HasDistinctKeys (sym is) apart
