use Rattle.std.proofs.Common.{◌≡◌, ◌∙◌, ap, sym, Some, None, subst, arith}
use Rattle.std.specs.List.{find}
use Rattle.lvs_model.specs.Lists.{without}
use Rattle.lvs_model.specs.Lookups.{has_entry_id}
use Rattle.lvs_entries.specs.Seen.{EntriesSeen, ChainSeen}
use Rattle.lvs_entries.specs.Store.{place_in}
use Rattle.lvs_entries.specs.Keyed.{IsTaken}
use Rattle.lvs_entries.proofs.Listed.{are_listed}
use Rattle.lvs_entries.proofs.Looking.{found_id, missed_id}
use Rattle.lvs_entries.proofs.Taken.{entries_taken, store_taken}
use Rattle.lvs_entries.proofs.Kept.{entries_same, store_same, same_place}
use Rattle.lvs_entries.proofs.entries.Entries.remove.Goals as goal

pub invariant_of-self : goal.invariant_of-self
invariant_of-self c =
    let none : place_in c.self.inside.places c.args.id ≡ None = sym c.remove.ensures.value ∙ c.in_default.is in
    store_same c.self.inside.chains.items (place_in c.self.inside.places) _ c.self.inside.room c.self.invariant c.args.id none (place_in c.remove.new.self) _
    (same_place (place_in c.self.inside.places) (place_in c.remove.new.self) c.args.id none c.remove.ensures.updates.0) c.remove.ensures.spare

pub returns-in_default-clause-removed : goal.returns-in_default-clause-removed
returns-in_default-clause-removed c =
    let none : place_in c.self.inside.places c.args.id ≡ None = sym c.remove.ensures.value ∙ c.in_default.is in
    missed_id c.self.inside.chains.items (place_in c.self.inside.places) _ c.self.inside.room c.args.id c.self.invariant none
    ∙ ap (λ (v : EntriesSeen). find (has_entry_id c.args.id) v.entries) c.self.view_is

pub returns-in_default-clause-entries : goal.returns-in_default-clause-entries
returns-in_default-clause-entries c =
    let none : place_in c.self.inside.places c.args.id ≡ None = sym c.remove.ensures.value ∙ c.in_default.is in
    entries_same c.self.inside.chains.items (place_in c.self.inside.places) _ c.self.inside.room c.self.invariant c.args.id none
    ∙ ap (λ (v : EntriesSeen). without (has_entry_id c.args.id) v.entries) c.self.view_is

pub invariant_of-self-2 : goal.invariant_of-self-2
invariant_of-self-2 c =
    let at : place_in c.self.inside.places c.args.id ≡ Some c.from.result = sym c.remove.ensures.value ∙ c.in-Some.is ∙ ap (λ n. Some n) (sym c.from.ensures) in
    store_taken c.self.inside.chains.items (place_in c.self.inside.places) _ c.self.inside.room c.self.invariant c.args.id c.from.result c.remove-2.new.self c.index_mut.result.now (omega arith) at c.remove-2.result
    (c.remove-2.ensures.removed ∙ ap (λ (v : ChainSeen). find (has_entry_id c.args.id) v.entries) c.index_mut.ensures.value)
    (subst (λ (v : ChainSeen). IsTaken c.remove-2.result v.entries c.remove-2.new.self.entries) c.index_mut.ensures.value c.remove-2.ensures.taken)
    (place_in c.remove.new.self) _ c.remove.ensures.updates.0 c.remove.ensures.spare
    (let wide = c.remove-2.ensures.spare in let same = ap (λ (v : ChainSeen). v.spare) c.index_mut.ensures.value in omega arith)

pub returns-clause-removed : goal.returns-clause-removed
returns-clause-removed c =
    let at : place_in c.self.inside.places c.args.id ≡ Some c.from.result = sym c.remove.ensures.value ∙ c.in-Some.is ∙ ap (λ n. Some n) (sym c.from.ensures) in
    c.remove-2.ensures.removed
    ∙ found_id c.self.inside.chains.items (place_in c.self.inside.places) _ c.self.inside.room c.from.result c.args.id c.index_mut.result.now c.self.invariant (omega arith) at c.index_mut.ensures.value
    ∙ ap (λ (v : EntriesSeen). find (has_entry_id c.args.id) v.entries) c.self.view_is

pub returns-clause-entries : goal.returns-clause-entries
returns-clause-entries c =
    let at : place_in c.self.inside.places c.args.id ≡ Some c.from.result = sym c.remove.ensures.value ∙ c.in-Some.is ∙ ap (λ n. Some n) (sym c.from.ensures) in
    entries_taken c.self.inside.chains.items (place_in c.self.inside.places) _ c.self.inside.room c.self.invariant c.args.id c.from.result c.remove-2.new.self c.index_mut.result.now (omega arith) at c.remove-2.result
    (c.remove-2.ensures.removed ∙ ap (λ (v : ChainSeen). find (has_entry_id c.args.id) v.entries) c.index_mut.ensures.value)
    (subst (λ (v : ChainSeen). IsTaken c.remove-2.result v.entries c.remove-2.new.self.entries) c.index_mut.ensures.value c.remove-2.ensures.taken)
    ∙ ap (λ (v : EntriesSeen). without (has_entry_id c.args.id) v.entries) c.self.view_is

pub returns-in_default-clause-listed : goal.returns-in_default-clause-listed
returns-in_default-clause-listed c = are_listed c.self.inside.chains.items _ _ c.self.inside.room c.self.invariant

pub returns-clause-listed : goal.returns-clause-listed
returns-clause-listed c = are_listed _ _ _ _ (invariant_of-self-2 c)
