-- What numbers, addresses and masks can be that words spell.
use Rattle.std.proofs.Common.{◌≡◌, ℕ, ◌+◌, ◌*◌, ◌^◌, ◌≤◌, ◌<◌, Bool, true, false, ◌&&◌, cond, List, [], ◌∷◌, Option, Some, None, length, refl, subst, nat_le, arith}
use Rattle.std.proofs.lemmas.Bool.{leb-true}
use Rattle.std.specs.List.{AllByRecursion, list_all}
use Rattle.lvs_types.specs.declared.addr.Addr.{Addr}
use Rattle.lvs_model.specs.declared.admin.GivenEndpoint.{GivenEndpoint}
use Rattle.lvs_model.specs.Decimals.{number_of, is_number, value_after, number_between, cut_at, addr_of, port_of, endpoint_cut, endpoint_of, mask_lengths, is_mask, mask_bits_of, mask_of}
use Rattle.lvs_well_formed.proofs.Lists.{all_find}

abbrev pub IfGiven : {A : Type 0} → (A → Type 0) → Option A → Type 0
IfGiven P None = Unit {0}
IfGiven P (Some x) = P x

abbrev then_some : {A B : Type 0} → Option A → (A → Option B) → Option B
then_some (Some x) f = f x
then_some None f = None

some_parts : {A B : Type 0} (o : Option A) (f : A → Option B) (y : B) → then_some o f ≡ Some y → (x : A) × (o ≡ Some x) × (f x ≡ Some y)
some_parts (Some x) f y e = (x, refl, e)
some_parts None f y e = absurd cc

within_limit : (b : Bool) (n m : ℕ) → cond b (Some n) None ≡ Some m → (b ≡ true) × (n ≡ m)
within_limit true n m e = (refl, cc)
within_limit false n m e = absurd cc

and_right : (a b c : Bool) → (a && b && c) ≡ true → c ≡ true
and_right true true c e = e
and_right true false c e = absurd cc
and_right false b c e = absurd cc

number_small : (places limit : ℕ) (word : List ℕ) (n : ℕ) → number_of places limit word ≡ Some n → n ≤ limit
number_small places limit word n e =
    let both = within_limit (is_number word && nat_le (length word) places && nat_le (value_after 0 word) limit) (value_after 0 word) n e in
    subst (λ k. k ≤ limit) both.1 (leb-true (value_after 0 word) limit (and_right (is_number word) (nat_le (length word) places) (nat_le (value_after 0 word) limit) both.0))

pub between : (least limit : ℕ) (word : List ℕ) (n : ℕ) → number_between least limit word ≡ Some n → (least ≤ n) × (n ≤ limit)
between least limit word n e =
    let number = some_parts (number_of 10 limit word) (λ (x : ℕ). cond (nat_le least x) (Some x) None) n e in
    let both = within_limit (nat_le least number.0) number.0 n number.2 in
    (subst (λ k. least ≤ k) both.1 (leb-true least number.0 both.0), subst (λ k. k ≤ limit) both.1 (number_small 10 limit word number.0 number.1))

-- ADDRESSES

abbrev spelled : ℕ → ℕ → ℕ → ℕ → Option Addr
spelled a b c d = Some (record { number = 16777216 * a + 65536 * b + 256 * c + d })

abbrev from_d : ℕ → ℕ → List ℕ × List ℕ → ℕ → Option Addr
from_d a b third c = then_some (number_of 3 255 third.1) (spelled a b c)

abbrev from_c : ℕ → ℕ → List ℕ × List ℕ → Option Addr
from_c a b third = then_some (number_of 3 255 third.0) (from_d a b third)

abbrev from_third : ℕ → List ℕ × List ℕ → ℕ → Option Addr
from_third a second b = then_some (cut_at 46 second.1) (from_c a b)

abbrev from_b : ℕ → List ℕ × List ℕ → Option Addr
from_b a second = then_some (number_of 3 255 second.0) (from_third a second)

abbrev from_second : List ℕ × List ℕ → ℕ → Option Addr
from_second first a = then_some (cut_at 46 first.1) (from_b a)

abbrev from_a : List ℕ × List ℕ → Option Addr
from_a first = then_some (number_of 3 255 first.0) (from_second first)

pub addr_small : (word : List ℕ) (addr : Addr) → addr_of word ≡ Some addr → addr.number < 2 ^ 32
addr_small word addr e =
    let first = some_parts (cut_at 46 word) from_a addr e in
    let a = some_parts (number_of 3 255 first.0.0) (from_second first.0) addr first.2 in
    let second = some_parts (cut_at 46 first.0.1) (from_b a.0) addr a.2 in
    let b = some_parts (number_of 3 255 second.0.0) (from_third a.0 second.0) addr second.2 in
    let third = some_parts (cut_at 46 second.0.1) (from_c a.0 b.0) addr b.2 in
    let c = some_parts (number_of 3 255 third.0.0) (from_d a.0 b.0 third.0) addr third.2 in
    let d = some_parts (number_of 3 255 third.0.1) (spelled a.0 b.0 c.0) addr c.2 in
    let made : Addr = record { number = 16777216 * a.0 + 65536 * b.0 + 256 * c.0 + d.0 } in
    let same : made ≡ addr = cc in
    let low : made.number < 2 ^ 32 = omega (arith, number_small 3 255 first.0.0 a.0 a.1, number_small 3 255 second.0.0 b.0 b.1, number_small 3 255 third.0.0 c.0 c.1, number_small 3 255 third.0.1 d.0 d.1) in
    subst (λ (x : Addr). x.number < 2 ^ 32) same low

abbrev pub IsSayableEndpoint : GivenEndpoint → Type 0
IsSayableEndpoint endpoint = (endpoint.addr.number < 2 ^ 32) × IfGiven (λ port. port < 2 ^ 16) endpoint.port

port_small : (word : List ℕ) (port : ℕ) → port_of word ≡ Some port → port < 2 ^ 16
port_small word port e = omega (arith, number_small 5 65535 word port e)

endpoint_parts : (word : List ℕ) (o : Option (List ℕ × List ℕ)) (endpoint : GivenEndpoint) → endpoint_cut word o ≡ Some endpoint → IsSayableEndpoint endpoint
endpoint_parts word None endpoint e =
    let addr = some_parts (addr_of word) (λ (a : Addr). let whole : GivenEndpoint = record { addr = a; port = None } in Some whole) endpoint e in
    let made : GivenEndpoint = record { addr = addr.0; port = None } in
    let same : made ≡ endpoint = cc in
    subst IsSayableEndpoint same (addr_small word addr.0 addr.1, tt)
endpoint_parts word (Some parts) endpoint e =
    let addr = some_parts (addr_of parts.0) (λ (a : Addr). then_some (port_of parts.1) (λ (p : ℕ). let whole : GivenEndpoint = record { addr = a; port = Some p } in Some whole)) endpoint e in
    let port = some_parts (port_of parts.1) (λ (p : ℕ). let whole : GivenEndpoint = record { addr = addr.0; port = Some p } in Some whole) endpoint addr.2 in
    let made : GivenEndpoint = record { addr = addr.0; port = Some port.0 } in
    let same : made ≡ endpoint = cc in
    subst IsSayableEndpoint same (addr_small parts.0 addr.0 addr.1, port_small parts.1 port.0 port.1)

pub endpoint_small : (word : List ℕ) (endpoint : GivenEndpoint) → endpoint_of word ≡ Some endpoint → IsSayableEndpoint endpoint
endpoint_small word endpoint e = endpoint_parts word (cut_at 58 word) endpoint e

-- MASKS

both_true : (a b : Bool) → (a && b) ≡ true → (a ≡ true) × (b ≡ true)
both_true true b is = (refl, is)
both_true false b is = absurd cc

all_of : (p : ℕ → Bool) (ns : List ℕ) → list_all p ns ≡ true → AllByRecursion (λ n. p n ≡ true) ns
all_of p [] is = tt
all_of p (n ∷ ns) is = let parts = both_true (p n) (list_all p ns) is in (parts.0, all_of p ns parts.1)

pub mask_small : (word : List ℕ) (bits : ℕ) → mask_of word ≡ Some bits → bits ≤ 32
mask_small word bits e =
    let addr = some_parts (addr_of word) mask_bits_of bits e in
    leb-true bits 32 (all_find (λ n. nat_le n 32 ≡ true) (is_mask addr.0.number) mask_lengths bits (all_of (λ n. nat_le n 32) mask_lengths refl) addr.2)
