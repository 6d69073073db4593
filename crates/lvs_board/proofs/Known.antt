-- Look-ups that answer yes or no, and those of one exact place.
use Rattle.std.proofs.Common.{◌≡◌, ℕ, Bool, true, false, cond, ◌&&◌, ◌||◌, List, [], ◌∷◌, Option, Some, refl, ap, arith, nat_eq, is_some}
use Rattle.std.proofs.lemmas.Bool.Decides.{nat_tests}
use Rattle.std.specs.List.{find, list_any}
use Rattle.lvs_types.specs.declared.addr.Addr.{Addr}
use Rattle.lvs_types.specs.declared.service.ServiceKey.{ServiceKey}
use Rattle.lvs_types.specs.declared.dest.Dest.{Dest}
use Rattle.lvs_model.specs.Same.{addr_eq}
use Rattle.lvs_model.specs.Binding.{serves_at}
use Rattle.lvs_model.specs.Lookups.{is_server_of, is_server_at}

some_step : {X : Type 0} (b : Bool) (x : X) (o : Option X) (rest : Bool) → is_some o ≡ rest → is_some (cond b (Some x) o) ≡ (b || rest)
some_step true x o rest is = refl
some_step false x o rest is = is

-- one is found exactly where there is one
pub some_found : {X : Type 0} (p : X → Bool) (xs : List X) → is_some (find p xs) ≡ list_any p xs
some_found p [] = refl
some_found p (x ∷ xs) = some_step (p x) x (find p xs) (list_any p xs) (some_found p xs)

pub find_same : {X : Type 0} (p q : X → Bool) (xs : List X) → ((x : X) → p x ≡ q x) → find p xs ≡ find q xs
find_same {X = X} p q [] same = refl
find_same {X = X} p q (x ∷ xs) same = rw (same x) (ap (λ (o : Option X). cond (q x) (Some x) o) (find_same p q xs same))

port_step : (a s : ℕ) → ((nat_eq a s) || ((nat_eq a 0) && (nat_eq s 0))) ≡ nat_eq a s
port_step a s = grind (arith, nat_tests)

-- a server of port 0 takes another port only where that is the virtual one
exact : (key : ServiceKey) (addr : Addr) (port : ℕ) (d : Dest) → (is_server_of key d && serves_at addr port 0 d) ≡ is_server_at key addr port d
exact key addr port d = ap (λ b. is_server_of key d && (addr_eq d.spec.addr addr && b)) (port_step d.spec.port port)

pub exactly : (key : ServiceKey) (addr : Addr) (port : ℕ) (ds : List Dest) → find (λ d. is_server_of key d && serves_at addr port 0 d) ds ≡ find (is_server_at key addr port) ds
exactly key addr port ds = find_same (λ d. is_server_of key d && serves_at addr port 0 d) (is_server_at key addr port) ds (λ d. exact key addr port d)
