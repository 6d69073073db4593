-- Whatever is named counts.
use Rattle.std.proofs.Common.{◌≡◌, ◌==◌, ◌≤◌, ◌+◌, ℕ, Bool, true, false, cond, not, ◌&&◌, List, [], ◌∷◌, Option, Some, None, refl, sym, ap, subst, arith}
use Rattle.std.proofs.lemmas.Bool.{ne_eqb}
use Rattle.std.proofs.lemmas.List.Sums.{sum_by-cons}
use Rattle.std.specs.List.{AllByRecursion, count_by}
use Rattle.lvs_types.specs.declared.addr.DestId.{DestId}
use Rattle.lvs_types.specs.declared.entry.Entry.{Entry}
use Rattle.lvs_types.specs.declared.template.Template.{Template}
use Rattle.lvs_model.specs.Same.{dest_eq, dest_id_eq}
use Rattle.lvs_model.specs.Timeouts.{is_active}
use Rattle.lvs_model.specs.Counts.{counts_active, counts_inactive, total, template_count, refs}
use Rattle.lvs_well_formed.proofs.Lists.{all_weaker}
use Rattle.lvs_well_formed.proofs.Keys.{nat_same}

pub count_cons : {X : Type 0} (p : X → Bool) (x : X) (xs : List X) → count_by p (x ∷ xs) ≡ cond (p x) 1 0 + count_by p xs
count_cons p x xs = sum_by-cons (λ y. cond (p y) 1 0) x xs

two_counts : (a b : Bool) → cond (a && b) 1 0 + cond (a && not b) 1 0 ≡ cond a 1 0
two_counts true true = refl
two_counts true false = refl
two_counts false b = refl

-- one more entry counts at the server that it names
pub total_cons : (id : DestId) (e : Entry) (es : List Entry) → total id (e ∷ es) ≡ cond (dest_eq e.server id) 1 0 + total id es
total_cons id e es =
    omega (arith, count_cons (counts_active id) e es, count_cons (counts_inactive id) e es, two_counts (dest_eq e.server id) (is_active e.state))

pub dest_same : (o : Option DestId) (id : DestId) → o ≡ Some id → dest_eq o id ≡ true
dest_same None id is = absurd cc
dest_same (Some named) id is = let same : named ≡ id = cc in subst (λ other. dest_id_eq other id ≡ true) (sym same) (nat_same id.0)

-- the entry's server, if it names one, counts at least one entry
abbrev pub Counts : List Entry → Option DestId → Type 0
Counts es o = (id : DestId) → o ≡ Some id → 1 ≤ total id es

abbrev one_if : Bool → ℕ
one_if b = cond b 1 0

count_head : (id : DestId) (e : Entry) (es : List Entry) → e.server ≡ Some id → 1 ≤ total id (e ∷ es)
count_head id e es is =
    let one = ap one_if (dest_same e.server id is) in
    omega (arith, total_cons id e es, one)

count_tail : (id : DestId) (e : Entry) (es : List Entry) → 1 ≤ total id es → 1 ≤ total id (e ∷ es)
count_tail id e es counts = omega (arith, total_cons id e es, counts)

pub named_counts : (es : List Entry) → AllByRecursion (λ (e : Entry). Counts es e.server) es
named_counts [] = tt
named_counts (e ∷ es) = (
  (λ id is. count_head id e es is),
  all_weaker (λ (f : Entry). Counts es f.server) (λ (f : Entry). Counts (e ∷ es) f.server) es (λ f counts id is. count_tail id e es (counts id is)) (named_counts es),
)

abbrev pub CountsTemplate : List Template → Option DestId → Type 0
CountsTemplate ts o = (id : DestId) → o ≡ Some id → 1 ≤ template_count id ts

template_head : (id : DestId) (t : Template) (ts : List Template) → t.server ≡ Some id → 1 ≤ template_count id (t ∷ ts)
template_head id t ts is =
    let one = ap one_if (dest_same t.server id is) in
    omega (arith, count_cons (λ (u : Template). dest_eq u.server id) t ts, one)

template_tail : (id : DestId) (t : Template) (ts : List Template) → 1 ≤ template_count id ts → 1 ≤ template_count id (t ∷ ts)
template_tail id t ts counts = omega (arith, count_cons (λ (u : Template). dest_eq u.server id) t ts, counts)

pub named_counts_templates : (ts : List Template) → AllByRecursion (λ (t : Template). CountsTemplate ts t.server) ts
named_counts_templates [] = tt
named_counts_templates (t ∷ ts) = (
  (λ id is. template_head id t ts is),
  all_weaker (λ (u : Template). CountsTemplate ts u.server) (λ (u : Template). CountsTemplate (t ∷ ts) u.server) ts (λ u counts id is. template_tail id t ts (counts id is)) (named_counts_templates ts),
)

-- a server that is named isn't free to go
abbrev pub IsKept : List Entry → List Template → Option DestId → Type 0
IsKept es ts o = (id : DestId) → o ≡ Some id → (refs id es ts == 0) ≡ false

pub entries_kept : (es : List Entry) (ts : List Template) → AllByRecursion (λ (e : Entry). IsKept es ts e.server) es
entries_kept es ts =
    all_weaker (λ (e : Entry). Counts es e.server) (λ (e : Entry). IsKept es ts e.server) es
    (λ e counts id is. ne_eqb (refs id es ts) 0 (λ none. absurd (omega (arith, counts id is, none)))) (named_counts es)

pub templates_kept : (es : List Entry) (ts : List Template) → AllByRecursion (λ (t : Template). IsKept es ts t.server) ts
templates_kept es ts =
    all_weaker (λ (t : Template). CountsTemplate ts t.server) (λ (t : Template). IsKept es ts t.server) ts
    (λ t counts id is. ne_eqb (refs id es ts) 0 (λ none. absurd (omega (arith, counts id is, none)))) (named_counts_templates ts)
