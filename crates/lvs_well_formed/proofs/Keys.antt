-- The tests of equality of keys decide equality.
use Rattle.std.proofs.Common.{◌≡◌, ◌==◌, ℕ, true, false, ◌&&◌, refl, ap, subst, ◌∙◌, nat_eq}
use Rattle.std.proofs.lemmas.Bool.{and_from, and_parts, both_ways, eqb-true, eq-eqb, false_from_ne_true}
use Rattle.lvs_types.specs.declared.addr.Addr.{Addr}
use Rattle.lvs_types.specs.declared.addr.DestId.{DestId}
use Rattle.lvs_types.specs.declared.service.Proto.{Proto}
use Rattle.lvs_types.specs.declared.service.Proto.TheVariants.{Tcp, Udp}
use Rattle.lvs_types.specs.declared.service.ServiceKey.{ServiceKey}
use Rattle.lvs_types.specs.declared.service.ServiceKey.TheVariants.{Net, Mark}
use Rattle.lvs_types.specs.declared.entry.Key.{Key}
use Rattle.lvs_types.specs.declared.template.TemplateKey.{TemplateKey}
use Rattle.lvs_model.specs.Same.{addr_eq, proto_eq, key_eq, service_key_eq, template_key_eq, dest_id_eq}
use Rattle.lvs_model.specs.WellFormed.{Place, place_eq}

pub nat_same : (n : ℕ) → nat_eq n n ≡ true
nat_same n = eq-eqb n n refl

pub addr_same : (a : Addr) → addr_eq a a ≡ true
addr_same a = nat_same a.number

pub addr_true : (a b : Addr) → addr_eq a b ≡ true → a ≡ b
addr_true a b is = let numbers = eqb-true a.number b.number is in ap (λ n. let addr : Addr = record { number = n } in addr) numbers

pub proto_same : (a : Proto) → proto_eq a a ≡ true
proto_same Tcp = refl
proto_same Udp = refl

pub proto_true : (a b : Proto) → proto_eq a b ≡ true → a ≡ b
proto_true Tcp Tcp is = refl
proto_true Tcp Udp is = absurd cc
proto_true Udp Tcp is = absurd cc
proto_true Udp Udp is = refl

pub key_same : (k : Key) → key_eq k k ≡ true
key_same k =
    and_from (((proto_eq k.proto k.proto && addr_eq k.caddr k.caddr) && (k.cport == k.cport)) && addr_eq k.vaddr k.vaddr) (k.vport == k.vport)
    (and_from ((proto_eq k.proto k.proto && addr_eq k.caddr k.caddr) && (k.cport == k.cport)) (addr_eq k.vaddr k.vaddr)
    (and_from (proto_eq k.proto k.proto && addr_eq k.caddr k.caddr) (k.cport == k.cport) (and_from (proto_eq k.proto k.proto) (addr_eq k.caddr k.caddr) (proto_same k.proto) (addr_same k.caddr)) (nat_same k.cport))
    (addr_same k.vaddr))
    (nat_same k.vport)

pub key_true : (a b : Key) → key_eq a b ≡ true → a ≡ b
key_true a b is =
    let last = and_parts (((proto_eq a.proto b.proto && addr_eq a.caddr b.caddr) && (a.cport == b.cport)) && addr_eq a.vaddr b.vaddr) (a.vport == b.vport) is in
    let fourth = and_parts ((proto_eq a.proto b.proto && addr_eq a.caddr b.caddr) && (a.cport == b.cport)) (addr_eq a.vaddr b.vaddr) last.0 in
    let third = and_parts (proto_eq a.proto b.proto && addr_eq a.caddr b.caddr) (a.cport == b.cport) fourth.0 in
    let second = and_parts (proto_eq a.proto b.proto) (addr_eq a.caddr b.caddr) third.0 in
    let proto = proto_true a.proto b.proto second.0 in
    let caddr = addr_true a.caddr b.caddr second.1 in
    let cport = eqb-true a.cport b.cport third.1 in
    let vaddr = addr_true a.vaddr b.vaddr fourth.1 in
    let vport = eqb-true a.vport b.vport last.1 in
    ap (λ (x : Proto). let k : Key = record { proto = x; caddr = a.caddr; cport = a.cport; vaddr = a.vaddr; vport = a.vport } in k) proto
    ∙ ap (λ (x : Addr). let k : Key = record { proto = b.proto; caddr = x; cport = a.cport; vaddr = a.vaddr; vport = a.vport } in k) caddr
    ∙ ap (λ (x : ℕ). let k : Key = record { proto = b.proto; caddr = b.caddr; cport = x; vaddr = a.vaddr; vport = a.vport } in k) cport
    ∙ ap (λ (x : Addr). let k : Key = record { proto = b.proto; caddr = b.caddr; cport = b.cport; vaddr = x; vport = a.vport } in k) vaddr
    ∙ ap (λ (x : ℕ). let k : Key = record { proto = b.proto; caddr = b.caddr; cport = b.cport; vaddr = b.vaddr; vport = x } in k) vport

-- keys that differ do so the other way round
pub key_flip : (a b : Key) → key_eq a b ≡ false → key_eq b a ≡ false
key_flip a b differs =
    false_from_ne_true (key_eq b a) (λ same. let equal = key_true b a same in both_ways (key_eq a b) differs (subst (λ k. key_eq k b ≡ true) equal (key_same b)))

pub service_key_same : (k : ServiceKey) → service_key_eq k k ≡ true
service_key_same (Net proto addr port) =
    and_from (proto_eq proto proto && addr_eq addr addr) (port == port) (and_from (proto_eq proto proto) (addr_eq addr addr) (proto_same proto) (addr_same addr)) (nat_same port)
service_key_same (Mark mark) = nat_same mark

pub service_key_true : (a b : ServiceKey) → service_key_eq a b ≡ true → a ≡ b
service_key_true (Net proto addr port) (Net proto_b addr_b port_b) is =
    let last = and_parts (proto_eq proto proto_b && addr_eq addr addr_b) (port == port_b) is in
    let first = and_parts (proto_eq proto proto_b) (addr_eq addr addr_b) last.0 in
    let protos = proto_true proto proto_b first.0 in
    let addrs = addr_true addr addr_b first.1 in
    let ports = eqb-true port port_b last.1 in
    ap (λ (x : Proto). Net x addr port) protos ∙ ap (λ (x : Addr). Net proto_b x port) addrs ∙ ap (λ (x : ℕ). Net proto_b addr_b x) ports
service_key_true (Net proto addr port) (Mark mark) is = absurd cc
service_key_true (Mark mark) (Net proto addr port) is = absurd cc
service_key_true (Mark mark) (Mark other) is = ap (λ (x : ℕ). Mark x) (eqb-true mark other is)

pub service_key_flip : (a b : ServiceKey) → service_key_eq a b ≡ false → service_key_eq b a ≡ false
service_key_flip a b differs =
    false_from_ne_true (service_key_eq b a)
    (λ same. let equal = service_key_true b a same in both_ways (service_key_eq a b) differs (subst (λ k. service_key_eq k b ≡ true) equal (service_key_same b)))

pub dest_id_true : (a b : DestId) → dest_id_eq a b ≡ true → a ≡ b
dest_id_true a b is = let numbers = eqb-true a.0 b.0 is in ap (λ (n : ℕ). let id : DestId = record { 0 = n } in id) numbers

pub place_same : (a : Place) → place_eq a a ≡ true
place_same a = and_from (service_key_eq a.service a.service && addr_eq a.addr a.addr) (a.port == a.port) (and_from (service_key_eq a.service a.service) (addr_eq a.addr a.addr) (service_key_same a.service) (addr_same a.addr)) (nat_same a.port)

pub place_true : (a b : Place) → place_eq a b ≡ true → a ≡ b
place_true a b is =
    let last = and_parts (service_key_eq a.service b.service && addr_eq a.addr b.addr) (a.port == b.port) is in
    let first = and_parts (service_key_eq a.service b.service) (addr_eq a.addr b.addr) last.0 in
    let services = service_key_true a.service b.service first.0 in
    let addrs = addr_true a.addr b.addr first.1 in
    let ports = eqb-true a.port b.port last.1 in
    ap (λ (x : ServiceKey). let place : Place = record { service = x; addr = a.addr; port = a.port } in place) services
    ∙ ap (λ (x : Addr). let place : Place = record { service = b.service; addr = x; port = a.port } in place) addrs
    ∙ ap (λ (x : ℕ). let place : Place = record { service = b.service; addr = b.addr; port = x } in place) ports

pub place_flip : (a b : Place) → place_eq a b ≡ false → place_eq b a ≡ false
place_flip a b differs =
    false_from_ne_true (place_eq b a) (λ same. let equal = place_true b a same in both_ways (place_eq a b) differs (subst (λ place. place_eq place b ≡ true) equal (place_same b)))

pub template_key_same : (k : TemplateKey) → template_key_eq k k ≡ true
template_key_same k =
    and_from (((k.code == k.code) && addr_eq k.client k.client) && addr_eq k.vaddr k.vaddr) (k.vport == k.vport)
    (and_from ((k.code == k.code) && addr_eq k.client k.client) (addr_eq k.vaddr k.vaddr) (and_from (k.code == k.code) (addr_eq k.client k.client) (nat_same k.code) (addr_same k.client)) (addr_same k.vaddr))
    (nat_same k.vport)
