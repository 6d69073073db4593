-- Service keys that pass the test of their equality are the same.
use Rattle.std.proofs.Common.{◌≡◌, Bool, true, false, ◌&&◌, refl, ap, eqb-true}
use Rattle.lvs_types.specs.declared.service.Proto.{Proto}
use Rattle.lvs_types.specs.declared.service.Proto.TheVariants.{Tcp, Udp}
use Rattle.lvs_types.specs.declared.service.ServiceKey.{ServiceKey}
use Rattle.lvs_types.specs.declared.service.ServiceKey.TheVariants.{Net, Mark}
use Rattle.lvs_model.specs.Same.{proto_eq, service_key_eq}

and_left : (a b : Bool) → (a && b) ≡ true → a ≡ true
and_left true b e = refl
and_left false b e = e

and_right : (a b : Bool) → (a && b) ≡ true → b ≡ true
and_right true b e = e
and_right false b e = absurd (cc)

proto_is : (a b : Proto) → proto_eq a b ≡ true → a ≡ b
proto_is Tcp Tcp e = refl
proto_is Tcp Udp e = absurd (cc)
proto_is Udp Tcp e = absurd (cc)
proto_is Udp Udp e = refl

pub key_is : (a b : ServiceKey) → service_key_eq a b ≡ true → a ≡ b
key_is (Net proto addr port) (Net other_proto other_addr other_port) e =
    let two = and_left _ _ e in
    let same_port : port ≡ other_port = eqb-true _ _ (and_right _ _ e) in
    let same_addr : addr.number ≡ other_addr.number = eqb-true _ _ (and_right _ _ two) in
    let same_proto = proto_is proto other_proto (and_left _ _ two) in
    λ i. Net (same_proto i) (record { number = same_addr i }) (same_port i)
key_is (Net proto addr port) (Mark other) e = absurd (cc)
key_is (Mark mark) (Net proto addr port) e = absurd (cc)
key_is (Mark mark) (Mark other) e = ap Mark (eqb-true mark other e)
