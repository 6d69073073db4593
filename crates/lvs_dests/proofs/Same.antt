-- Tests, and that the tests of ids, names and places tell them apart.
use Rattle.std.proofs.Common.{◌≡◌, ◌≢◌, ◌⊎◌, inl, inr, Bool, true, false, ◌&&◌, ◌==◌, cond, refl, sym, ap, ◌∙◌, subst, eqb-true, eq-eqb}
use Rattle.lvs_types.specs.declared.addr.DestId.{DestId}
use Rattle.lvs_types.specs.declared.service.Proto.{Proto}
use Rattle.lvs_types.specs.declared.service.Proto.TheVariants.{Tcp, Udp}
use Rattle.lvs_types.specs.declared.service.ServiceKey.{ServiceKey}
use Rattle.lvs_types.specs.declared.service.ServiceKey.TheVariants.{Net, Mark}
use Rattle.lvs_model.specs.Same.{proto_eq, dest_id_eq, service_key_eq}
use Rattle.lvs_dests.specs.declared.place.ServiceName.{ServiceName}
use Rattle.lvs_dests.specs.declared.place.Place.{Place}
use Rattle.lvs_dests.specs.Places.{name_of, name_eq, place_eq}
use Rattle.lvs_dests.specs.Lists.{name_same}
use Rattle.lvs_dests.specs.Pool.{id_same, place_same}

pub tested : (b : Bool) → (b ≡ true) ⊎ (b ≡ false)
tested true = inl refl
tested false = inr refl

pub at_true : {X : Type 0} (b : Bool) (w old : X) → b ≡ true → cond b w old ≡ w
at_true true w old e = refl
at_true false w old e = absurd (cc)

pub at_false : {X : Type 0} (b : Bool) (w old : X) → b ≡ false → cond b w old ≡ old
at_false false w old e = refl
at_false true w old e = absurd (cc)

pub and_left : (a b : Bool) → (a && b) ≡ true → a ≡ true
and_left true b e = refl
and_left false b e = e

pub and_right : (a b : Bool) → (a && b) ≡ true → b ≡ true
and_right true b e = e
and_right false b e = absurd (cc)

and_assoc : (a b c : Bool) → (a && (b && c)) ≡ (a && b && c)
and_assoc true b c = refl
and_assoc false b c = refl

and_true : (b : Bool) → (b && true) ≡ b
and_true true = refl
and_true false = refl

-- ---- ids

pub id_is : (a b : DestId) → dest_id_eq a b ≡ true → a ≡ b
id_is a b e = let number : a.0 ≡ b.0 = eqb-true a.0 b.0 e in λ i. record { 0 = number i }

pub id_own : (a : DestId) → dest_id_eq a a ≡ true
id_own a = eq-eqb a.0 a.0 refl

pub id_at : (a b : DestId) → id_same a b ≡ dest_id_eq a b
id_at a b = refl

pub id_same_is : (a b : DestId) → id_same a b ≡ true → a ≡ b
id_same_is a b e = id_is a b (sym (id_at a b) ∙ e)

pub id_same_own : (a : DestId) → id_same a a ≡ true
id_same_own a = id_at a a ∙ id_own a

-- ---- names of services

pub name_is : (a b : ServiceName) → name_eq a b ≡ true → a ≡ b
name_is a b e =
    let two = and_left _ _ e in
    let port : a.port ≡ b.port = eqb-true _ _ (and_right _ _ e) in
    let number : a.number ≡ b.number = eqb-true _ _ (and_right _ _ two) in
    let code : a.code ≡ b.code = eqb-true _ _ (and_left _ _ two) in
    λ i. record { code = code i; number = number i; port = port i }

pub name_own : (a : ServiceName) → name_eq a a ≡ true
name_own a = rw (eq-eqb a.code a.code refl, eq-eqb a.number a.number refl, eq-eqb a.port a.port refl) refl

pub name_at : (a b : ServiceName) → name_same a b ≡ name_eq a b
name_at a b = and_assoc (a.code == b.code) (a.number == b.number) (a.port == b.port)

-- the name of a service tells its key
pub name_of_key : (a b : ServiceKey) → name_eq (name_of a) (name_of b) ≡ service_key_eq a b
name_of_key (Net Tcp addr port) (Net Tcp other_addr other_port) = refl
name_of_key (Net Tcp addr port) (Net Udp other_addr other_port) = refl
name_of_key (Net Udp addr port) (Net Tcp other_addr other_port) = refl
name_of_key (Net Udp addr port) (Net Udp other_addr other_port) = refl
name_of_key (Net Tcp addr port) (Mark other) = refl
name_of_key (Net Udp addr port) (Mark other) = refl
name_of_key (Mark mark) (Net Tcp addr port) = refl
name_of_key (Mark mark) (Net Udp addr port) = refl
name_of_key (Mark mark) (Mark other) = and_true (mark == other)

pub name_same_key : (a b : ServiceKey) → name_same (name_of a) (name_of b) ≡ service_key_eq a b
name_same_key a b = name_at (name_of a) (name_of b) ∙ name_of_key a b

-- ---- places

pub place_is : (a b : Place) → place_eq a b ≡ true → a ≡ b
place_is a b e =
    let two = and_left _ _ e in
    let port : a.port ≡ b.port = eqb-true _ _ (and_right _ _ e) in
    let addr : a.addr.number ≡ b.addr.number = eqb-true _ _ (and_right _ _ two) in
    let service : a.service ≡ b.service = name_is a.service b.service (and_left _ _ two) in
    λ i. record { service = service i; addr = record { number = addr i }; port = port i }

pub place_own : (a : Place) → place_eq a a ≡ true
place_own a = rw (name_own a.service, eq-eqb a.addr.number a.addr.number refl, eq-eqb a.port a.port refl) refl

pub place_same_at : (a b : Place) → place_same a b ≡ place_eq a b
place_same_at a b =
    ap (λ t. t && ((a.addr.number == b.addr.number) && (a.port == b.port))) (name_at a.service b.service)
    ∙ and_assoc (name_eq a.service b.service) (a.addr.number == b.addr.number) (a.port == b.port)

pub place_same_is : (a b : Place) → place_same a b ≡ true → a ≡ b
place_same_is a b e = place_is a b (sym (place_same_at a b) ∙ e)

pub place_same_own : (a : Place) → place_same a a ≡ true
place_same_own a = place_same_at a a ∙ place_own a

-- ---- two of them are the same or differ

module _ {K : Type 0} (same : K → K → Bool) (is : (a b : K) → same a b ≡ true → a ≡ b) (own : (a : K) → same a a ≡ true) where
  pub differ : (a b : K) → same a b ≡ false → a ≢ b
  differ a b apart e =
      let holds : same b b ≡ false = subst (λ (k : K). same k b ≡ false) e apart in
      let it = own b in
      absurd (cc)

  pub decide : (a b : K) → (a ≡ b) ⊎ (a ≢ b)
  decide a b = elim (tested (same a b)) [
    | inl holds ↦ inl (is a b holds)
    | inr fails ↦ inr (differ a b fails)
  ]

  pub apart : (a b : K) → a ≢ b → same a b ≡ false
  apart a b differs = elim (tested (same a b)) [
    | inl holds ↦ absurd (differs (is a b holds))
    | inr fails ↦ fails
  ]

pub decide_id : (a b : DestId) → (a ≡ b) ⊎ (a ≢ b)
decide_id = decide id_same id_same_is id_same_own

pub decide_place : (a b : Place) → (a ≡ b) ⊎ (a ≢ b)
decide_place = decide place_same place_same_is place_same_own

pub apart_ids : (a b : DestId) → a ≢ b → dest_id_eq a b ≡ false
apart_ids a b differs = apart dest_id_eq id_is id_own a b differs

-- ---- keys of services

proto_is : (a b : Proto) → proto_eq a b ≡ true → a ≡ b
proto_is Tcp Tcp e = refl
proto_is Tcp Udp e = absurd (cc)
proto_is Udp Tcp e = absurd (cc)
proto_is Udp Udp e = refl

proto_own : (a : Proto) → proto_eq a a ≡ true
proto_own Tcp = refl
proto_own Udp = refl

pub key_is : (a b : ServiceKey) → service_key_eq a b ≡ true → a ≡ b
key_is (Net proto addr port) (Net other_proto other_addr other_port) e =
    let two = and_left _ _ e in
    let same_port : port ≡ other_port = eqb-true _ _ (and_right _ _ e) in
    let same_addr : addr.number ≡ other_addr.number = eqb-true _ _ (and_right _ _ two) in
    let same_proto = proto_is proto other_proto (and_left _ _ two) in
    λ i. Net (same_proto i) (record { number = same_addr i }) (same_port i)
key_is (Net proto addr port) (Mark other) e = absurd (cc)
key_is (Mark mark) (Net proto addr port) e = absurd (cc)
key_is (Mark mark) (Mark other) e = ap Mark (eqb-true mark other e)

pub key_own : (a : ServiceKey) → service_key_eq a a ≡ true
key_own (Net proto addr port) = rw (proto_own proto, eq-eqb addr.number addr.number refl, eq-eqb port port refl) refl
key_own (Mark mark) = eq-eqb mark mark refl
