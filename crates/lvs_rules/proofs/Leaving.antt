-- The servers as they are, or as a view shows them.
use Rattle.std.proofs.Common.{◌≡◌, ℕ, zero, suc, Bool, true, false, cond, List, [], ◌∷◌, map, length, slice_get, Option, Some, None, refl, sym, ap, ◌∙◌}
use Rattle.std.specs.Option.{option_map}
use Rattle.lvs_types.specs.declared.addr.Addr.{Addr}
use Rattle.lvs_types.specs.declared.dest.Dest.{Dest}
use Rattle.lvs_types.specs.declared.service.ServiceKey.{ServiceKey}
use Rattle.lvs_model.specs.Lookups.{has_dest_id, is_server_of, servers_of}
use Rattle.lvs_rules.specs.declared.view.Overload.{Overload}
use Rattle.lvs_rules.specs.Views.{dest_in, dests_in}

pub as_they_are : (ds : List Dest) → dests_in None ds ≡ ds
as_they_are [] = refl
as_they_are (d ∷ ds) = ap (λ (rest : List Dest). d ∷ rest) (as_they_are ds)

set_by : (b : Bool) (d : Dest) (overloaded : Bool) → cond b (record d { overloaded = overloaded }) d ≡ record d { overloaded = (cond b (record d { overloaded = overloaded }) d).overloaded }
set_by true d overloaded = refl
set_by false d overloaded = refl

-- a view changes no more of a server than whether it is overloaded
pub overload_alone : (o : Option Overload) (d : Dest) → dest_in o d ≡ record d { overloaded = (dest_in o d).overloaded }
overload_alone None d = refl
overload_alone (Some o) d = set_by (has_dest_id o.server d) d o.overloaded

filter_step : (a b : Bool) (o : Option Overload) (d : Dest) (xs ys : List Dest) → a ≡ b → xs ≡ map (dest_in o) ys → cond a (dest_in o d ∷ xs) xs ≡ map (dest_in o) (cond b (d ∷ ys) ys)
filter_step true true o d xs ys same rest = ap (λ (l : List Dest). dest_in o d ∷ l) rest
filter_step true false o d xs ys same rest = absurd cc
filter_step false true o d xs ys same rest = absurd cc
filter_step false false o d xs ys same rest = rest

-- the servers of a service in a view are those of the service, as they would be
pub servers_in : (key : ServiceKey) (o : Option Overload) (ds : List Dest) → servers_of key (dests_in o ds) ≡ dests_in o (servers_of key ds)
servers_in key o [] = refl
servers_in key o (d ∷ ds) =
    filter_step (is_server_of key (dest_in o d)) (is_server_of key d) o d (servers_of key (dests_in o ds)) (servers_of key ds) (ap (is_server_of key) (overload_alone o d)) (servers_in key o ds)

addrs_same : (o : Option Overload) (ds : List Dest) → map (λ (d : Dest). d.spec.addr) (dests_in o ds) ≡ map (λ (d : Dest). d.spec.addr) ds
addrs_same o [] = refl
addrs_same o (d ∷ ds) = ap (λ (a : Addr). a ∷ map (λ (x : Dest). x.spec.addr) (dests_in o ds)) (ap (λ (x : Dest). x.spec.addr) (overload_alone o d)) ∙ ap (λ (l : List Addr). d.spec.addr ∷ l) (addrs_same o ds)

pub addrs_in : (key : ServiceKey) (o : Option Overload) (ds : List Dest) → map (λ (d : Dest). d.spec.addr) (servers_of key (dests_in o ds)) ≡ map (λ (d : Dest). d.spec.addr) (servers_of key ds)
addrs_in key o ds = ap (map (λ (d : Dest). d.spec.addr)) (servers_in key o ds) ∙ addrs_same o (servers_of key ds)

nth_same : (o : Option Overload) (ds : List Dest) (n : ℕ) → slice_get (dests_in o ds) n ≡ option_map (dest_in o) (slice_get ds n)
nth_same o [] n = refl
nth_same o (d ∷ ds) zero = refl
nth_same o (d ∷ ds) (suc n) = nth_same o ds n

pub nth_in : (key : ServiceKey) (o : Option Overload) (ds : List Dest) (n : ℕ) → slice_get (servers_of key (dests_in o ds)) n ≡ option_map (dest_in o) (slice_get (servers_of key ds) n)
nth_in key o ds n = ap (λ (l : List Dest). slice_get l n) (servers_in key o ds) ∙ nth_same o (servers_of key ds) n

len_same : (o : Option Overload) (ds : List Dest) → length (dests_in o ds) ≡ length ds
len_same o [] = refl
len_same o (d ∷ ds) = ap (λ n. suc n) (len_same o ds)

addrs_len : (ds : List Dest) → length (map (λ (d : Dest). d.spec.addr) ds) ≡ length ds
addrs_len [] = refl
addrs_len (d ∷ ds) = ap (λ n. suc n) (addrs_len ds)

-- there are as many addresses as servers, in every view
pub as_many : (key : ServiceKey) (o : Option Overload) (ds : List Dest) (addrs : List Addr) → addrs ≡ map (λ (d : Dest). d.spec.addr) (servers_of key ds) → length addrs ≡ length (servers_of key (dests_in o ds))
as_many key o ds addrs is =
    ap (λ (l : List Addr). length l) is ∙ addrs_len (servers_of key ds) ∙ sym (ap (λ (l : List Dest). length l) (servers_in key o ds) ∙ len_same o (servers_of key ds))
