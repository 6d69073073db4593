-- No candidate of the director is eligible without a weight.
use Rattle.std.proofs.Common.{◌≡◌, ℕ, Bool, true, false, ◌&&◌, ◌==◌, nat_lt, not, List, [], ◌∷◌, map, refl, arith}
use Rattle.std.proofs.lemmas.Bool.Decides.{nat_tests}
use Rattle.lvs_types.specs.declared.dest.Dest.{Dest}
use Rattle.lvs_types.specs.declared.entry.Entry.{Entry}
use Rattle.lvs_model.specs.Counts.{candidate_of}
use Rattle.lvs_model.specs.LeastLoad.{AreWeighed}

by_test : (live free some none : Bool) → (some ≡ true → none ≡ false) → (live && some && free && none) ≡ false
by_test false free some none apart = refl
by_test true free false none apart = refl
by_test true false true none apart = refl
by_test true true true none apart = apart refl

apart : (weight : ℕ) → nat_lt 0 weight ≡ true → (weight == 0) ≡ false
apart weight some = grind (arith, nat_tests)

weighs : (d : Dest) → (d.live && nat_lt 0 d.spec.weight && not d.overloaded && (d.spec.weight == 0)) ≡ false
weighs d = by_test d.live (not d.overloaded) (nat_lt 0 d.spec.weight) (d.spec.weight == 0) (apart d.spec.weight)

pub candidates_weighed : (entries : List Entry) (servers : List Dest) → AreWeighed (map (candidate_of entries) servers)
candidates_weighed entries [] = refl
candidates_weighed entries (d ∷ ds) = rw (weighs d) (candidates_weighed entries ds)
