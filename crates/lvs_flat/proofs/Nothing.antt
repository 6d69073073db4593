-- A sweep that has no due entries leaves everything.
use Rattle.std.proofs.Common.{◌≡◌, ◌==◌, ℕ, zero, suc, Bool, true, false, cond, not, List, [], ◌∷◌, map, length, refl, ap, sym, ◌∙◌, arith}
use Rattle.std.specs.List.{filter}
use Rattle.std.proofs.lemmas.Bool.Decides.{nat_tests}
use Rattle.lvs_types.specs.declared.dest.Dest.{Dest}
use Rattle.lvs_types.specs.declared.entry.Entry.{Entry}
use Rattle.lvs_model.specs.State.{State}
use Rattle.lvs_model.specs.Lists.{without}
use Rattle.lvs_model.specs.Clock.{is_swept, after_ends, sweep}

stays_by : {X : Type 0} (p : X → Bool) (b : Bool) (x : X) (passed left xs : List X) → cond b (x ∷ passed) passed ≡ [] → (passed ≡ [] → left ≡ xs) → cond (not b) (x ∷ left) left ≡ x ∷ xs
stays_by p true x passed left xs none rest = absurd cc
stays_by p false x passed left xs none rest = ap (λ l. x ∷ l) (rest none)

stays : {X : Type 0} (p : X → Bool) (xs : List X) → filter p xs ≡ [] → without p xs ≡ xs
stays p [] none = refl
stays p (x ∷ xs) none = stays_by p (p x) x (filter p xs) (without p xs) xs none (λ later. stays p xs later)

same_dests : (es : List Entry) (ds : List Dest) → map (after_ends [] es) ds ≡ ds
same_dests es [] = refl
same_dests es (d ∷ ds) = ap (λ (rest : List Dest). d ∷ rest) (same_dests es ds)

pub nothing_due : (s : State) (b : ℕ) → filter (is_swept s b) s.entries ≡ [] → s ≡ (sweep s b).1
nothing_due s b none = sym (
    ap (λ (es : List Entry). record s { entries = without (is_swept s b) s.entries; dests = map (after_ends es (without (is_swept s b) s.entries)) s.dests }) none
    ∙ ap (λ (es : List Entry). record s { entries = es; dests = map (after_ends [] es) s.dests }) (stays (is_swept s b) s.entries none)
    ∙ ap (λ (ds : List Dest). record s { dests = ds }) (same_dests s.entries s.dests))

empty_by : (due : List Entry) → length due ≡ 0 → due ≡ []
empty_by [] none = refl
empty_by (e ∷ es) none = absurd (omega arith)

zero_by : (n : ℕ) (b : Bool) → b ≡ (n == 0) → b ≡ true → n ≡ 0
zero_by n b is none = grind (arith, nat_tests)

pub none_due : (s : State) (b : ℕ) (due : List Entry) (t : Bool) → t ≡ (length due == 0) → t ≡ true → due ≡ filter (is_swept s b) s.entries → s ≡ (sweep s b).1
none_due s b due t is none same = nothing_due s b (sym same ∙ empty_by due (zero_by (length due) t is none))
