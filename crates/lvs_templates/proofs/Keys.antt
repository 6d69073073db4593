-- The tests of ids and of keys tell them apart.
use Rattle.std.proofs.Common.{◌≡◌, ℕ, Bool, true, false, ◌&&◌, ◌==◌, refl, sym, ◌∙◌, arith, eqb-true, eq-eqb}
use Rattle.std.specs.Ordering.{nat_cmp, is_eq}
use Rattle.std.proofs.lemmas.Bool.Decides.{nat_tests}
use Rattle.lvs_types.specs.declared.template.TemplateKey.{TemplateKey}
use Rattle.lvs_model.specs.Same.{template_key_eq}
use Rattle.lvs_templates.specs.Maps.{key_same}

pub nat_at : (a b : ℕ) → is_eq (nat_cmp a b) ≡ (a == b)
nat_at a b = grind (arith, nat_tests)

pub nat_at_back : (a b : ℕ) → is_eq (nat_cmp a b) ≡ (b == a)
nat_at_back a b = grind (arith, nat_tests)

pub nat_at_is : (a b : ℕ) → is_eq (nat_cmp a b) ≡ true → a ≡ b
nat_at_is a b e = eqb-true a b (sym (nat_at a b) ∙ e)

pub nat_at_own : (a : ℕ) → is_eq (nat_cmp a a) ≡ true
nat_at_own a = nat_at a a ∙ eq-eqb a a refl

and_assoc_rest : (b c d : Bool) → (b && (c && d)) ≡ (b && c && d)
and_assoc_rest true c d = refl
and_assoc_rest false c d = refl

and_assoc : (a b c d : Bool) → (a && (b && (c && d))) ≡ (a && b && c && d)
and_assoc true b c d = and_assoc_rest b c d
and_assoc false b c d = refl

-- the map of ids ties the keys that are the same
pub key_at : (a b : TemplateKey) → key_same a b ≡ template_key_eq a b
key_at a b = and_assoc (a.code == b.code) (a.client.number == b.client.number) (a.vaddr.number == b.vaddr.number) (a.vport == b.vport)

and_left : (a b : Bool) → (a && b) ≡ true → a ≡ true
and_left true b e = refl
and_left false b e = e

and_right : (a b : Bool) → (a && b) ≡ true → b ≡ true
and_right true b e = e
and_right false b e = absurd (cc)

pub key_eq_is : (a b : TemplateKey) → template_key_eq a b ≡ true → a ≡ b
key_eq_is a b e =
    let three = and_left _ _ e in
    let two = and_left _ _ three in
    let vport : a.vport ≡ b.vport = eqb-true _ _ (and_right _ _ e) in
    let vaddr : a.vaddr.number ≡ b.vaddr.number = eqb-true _ _ (and_right _ _ three) in
    let client : a.client.number ≡ b.client.number = eqb-true _ _ (and_right _ _ two) in
    let code : a.code ≡ b.code = eqb-true _ _ (and_left _ _ two) in
    λ i. record { code = code i; client = record { number = client i }; vaddr = record { number = vaddr i }; vport = vport i }

pub key_eq_own : (a : TemplateKey) → template_key_eq a a ≡ true
key_eq_own a = rw (eq-eqb a.code a.code refl, eq-eqb a.client.number a.client.number refl, eq-eqb a.vaddr.number a.vaddr.number refl, eq-eqb a.vport a.vport refl) refl

pub key_at_is : (a b : TemplateKey) → key_same a b ≡ true → a ≡ b
key_at_is a b e = key_eq_is a b (sym (key_at a b) ∙ e)

pub key_at_own : (a : TemplateKey) → key_same a a ≡ true
key_at_own a = key_at a a ∙ key_eq_own a
