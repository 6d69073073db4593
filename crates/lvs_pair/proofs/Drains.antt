-- What is left after a step of one that has both parts.
use Rattle.std.proofs.Common.{◌≡◌, ◌≢◌, ◌≤◌, ◌+◌, ℕ, zero, suc, List, [], ◌∷◌, ◌++◌, length, drop, sym, refl, ap, ◌∙◌, subst, append_assoc, arith}
use Rattle.std.specs.Prelude.{Option, Some, None, MatchOption}
use Rattle.std.proofs.Math.Seq.{drop-append_seam}
use Rattle.crossbeam_queue.specs.Fifo.{Held}
use Rattle.lvs_pair.specs.declared.rule.Side.{Side}
use Rattle.lvs_pair.specs.declared.rule.Side.TheVariants.{Both, Posts, Takes, Spent}
use Rattle.lvs_pair.specs.Sides.{with_taken, posted_of, left_of, Holds, Leads, IsBoth}

-- what the queue holds is what is left
pub left_is : (posted taken messages : List (List ℕ)) → posted ≡ taken ++ messages → drop (length taken) posted ≡ messages
left_is posted taken messages order = ap (drop (length taken)) order ∙ drop-append_seam taken messages

pub record Drains (side : Side) (x : List ℕ) (later : Side) : Type 0 where
  pub both : IsBoth later
  pub holds : Holds later (left_of later)
  pub left : left_of side ≡ x ∷ left_of later
  pub posted : posted_of later ≡ posted_of side

drains_at : (side : Side) (x : List ℕ) → IsBoth side → Leads side x → Drains side x (with_taken x side)
drains_at (Both sent got) x is leads = let rest = leads.0 in let moved : sent ≡ (got ++ x ∷ []) ++ rest = leads.1 ∙ sym (append_assoc got (x ∷ []) rest) in
    let after = left_is sent (got ++ x ∷ []) rest moved in record {
      both = tt;
      holds = moved ∙ ap (λ l. (got ++ x ∷ []) ++ l) (sym after);
      left = left_is sent got (x ∷ rest) leads.1 ∙ ap (λ l. x ∷ l) (sym after);
      posted = refl;
    }
drains_at (Posts sent) x is leads = absurd is
drains_at (Takes got) x is leads = absurd is
drains_at Spent x is leads = absurd is

pub drains : (side : Side) (x : List ℕ) (later : Side) → IsBoth side → (later ≡ with_taken x side) × Leads side x → Drains side x later
drains side x later is h = subst (λ y. Drains side x y) (sym h.0) (drains_at side x is h.1)

none_by : (messages : List (List ℕ)) → length messages ≡ 0 → messages ≡ []
none_by [] e = refl
none_by (x ∷ xs) e = absurd (omega arith)

pub none_left : (side : Side) → IsBoth side → Held 0 (Holds side) → left_of side ≡ []
none_left (Both sent got) is held = left_is sent got held.0 held.2 ∙ none_by held.0 held.1
none_left (Posts sent) is held = absurd is
none_left (Takes got) is held = absurd is
none_left Spent is held = absurd is

abbrev pub Next : Side → Side → Option (List ℕ) → Type 0
Next side later found = IsBoth later × Holds later (left_of later) × MatchOption found ((left_of side ≡ []) × (left_of later ≡ [])) (λ x. left_of side ≡ x ∷ left_of later)

stays : (side later : Side) → later ≡ side → IsBoth side → Holds side (left_of side) → IsBoth later × Holds later (left_of later)
stays side later same both holds = subst (λ y. IsBoth y × Holds y (left_of y)) (sym same) (both, holds)

pub next : (side later : Side) (found : Option (List ℕ)) → IsBoth side → Holds side (left_of side) → MatchOption found ((later ≡ side) × Held 0 (Holds side)) (λ x. (later ≡ with_taken x side) × Leads side x) → Next side later found
next side later None both holds h = let same = stays side later h.0 both holds in let none = none_left side both h.1 in (same.0, same.1, (none, ap left_of h.0 ∙ none))
next side later (Some x) both holds h = let d = drains side x later both h in (d.both, d.holds, d.left)
