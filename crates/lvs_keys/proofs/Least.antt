-- The least entry, found from the front.
use Rattle.std.proofs.Common.{◌≡◌, cond, Option, Some, None, refl, arith, nat_le}
use Rattle.std.proofs.lemmas.Bool.Decides.{nat_tests}
use Rattle.lvs_types.specs.declared.entry.Entry.{Entry}
use Rattle.lvs_model.specs.Lists.{lower_of}
use Rattle.lvs_keys.specs.Least.{older}

abbrev pub lead : Option Entry → Option Entry → Option Entry
lead None o = o
lead (Some e) o = lower_of (λ (x : Entry). x.id) e o

three : (x e y : Entry) → cond (nat_le (cond (nat_le x.id e.id) x e).id y.id) (Some (cond (nat_le x.id e.id) x e)) (Some y) ≡ lower_of (λ (z : Entry). z.id) x (cond (nat_le e.id y.id) (Some e) (Some y))
three x e y = grind (arith, nat_tests)

two : (x e : Entry) → Some (cond (nat_le x.id e.id) x e) ≡ cond (nat_le x.id e.id) (Some x) (Some e)
two x e = grind (arith, nat_tests)

pub lead_more : (least : Option Entry) (e : Entry) (rest : Option Entry) → lead (Some (older least e)) rest ≡ lead least (lower_of (λ (x : Entry). x.id) e rest)
lead_more None e rest = refl
lead_more (Some x) e None = two x e
lead_more (Some x) e (Some y) = three x e y
