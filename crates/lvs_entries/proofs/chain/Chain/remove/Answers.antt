use Rattle.std.proofs.Common.{◌∙◌, ap, sym, subst, List, ℕ, ◌∷◌, swap_remove}
use Rattle.std.specs.List.{find}
use Rattle.std.specs.List.Sorted.{IsPermutation}
use Rattle.std.specs.Map.{values_of}
use Rattle.lvs_types.specs.declared.entry.Entry.{Entry}
use Rattle.lvs_model.specs.Lookups.{has_entry_id}
use Rattle.lvs_entries.specs.Seen.{ChainSeen}
use Rattle.lvs_entries.specs.Keyed.{AreKeyed}
use Rattle.lvs_entries.proofs.Keyed.{looked_up, removed_keyed, removed_values, value_at, value_missed, is_none}
use Rattle.lvs_entries.proofs.chain.Chain.remove.Goals as goal

pub returns-in_err-place-clause-removed : goal.returns-in_err-place-clause-removed
returns-in_err-place-clause-removed c =
    c.from_residual.ensures ∙ sym (is_none _ c.in_err-place.ensures.found) ∙ looked_up c.args.id c.self.inside.entries.entries c.self.invariant
    ∙ ap (λ (v : ChainSeen). find (has_entry_id c.args.id) v.entries) c.self.view_is

pub returns-in_err-removed-clause-removed : goal.returns-in_err-removed-clause-removed
returns-in_err-removed-clause-removed c =
    c.from_residual-in_err-removed.ensures ∙ sym (value_missed c.self.inside.entries.entries c.in_ok-place.place (sym c.in_err-removed.ensures.entry))
    ∙ c.in_ok-place.ensures.value ∙ looked_up c.args.id c.self.inside.entries.entries c.self.invariant ∙ ap (λ (v : ChainSeen). find (has_entry_id c.args.id) v.entries) c.self.view_is

pub invariant_of-self-2 : goal.invariant_of-self-2
invariant_of-self-2 c = subst AreKeyed (sym c.in_ok-removed.ensures.entries) (removed_keyed c.self.inside.entries.entries c.in_ok-place.place _ (sym c.in_ok-removed.ensures.entry) c.self.invariant)

pub returns-clause-removed : goal.returns-clause-removed
returns-clause-removed c =
    sym (value_at c.self.inside.entries.entries c.in_ok-place.place _ (sym c.in_ok-removed.ensures.entry))
    ∙ c.in_ok-place.ensures.value ∙ looked_up c.args.id c.self.inside.entries.entries c.self.invariant ∙ ap (λ (v : ChainSeen). find (has_entry_id c.args.id) v.entries) c.self.view_is

pub returns-clause-taken : goal.returns-clause-taken
returns-clause-taken c =
    subst (λ (pairs : List (ℕ × Entry)). IsPermutation c.args.self.now.entries (c.in_ok-removed.removed ∷ values_of pairs)) (sym c.in_ok-removed.ensures.entries)
    (subst (λ (seen : ChainSeen). IsPermutation seen.entries (c.in_ok-removed.removed ∷ values_of (swap_remove c.self.inside.entries.entries c.in_ok-place.place (c.in_ok-removed.field-0-0, c.in_ok-removed.removed)))) c.self.view_is
    (removed_values c.self.inside.entries.entries c.in_ok-place.place _ (sym c.in_ok-removed.ensures.entry)))
