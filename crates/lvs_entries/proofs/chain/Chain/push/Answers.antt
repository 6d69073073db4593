use Rattle.std.proofs.Common.{◌≡◌, ◌∙◌, ◌∷◌, ◌++◌, [], ap, sym, subst, nat_eq, List, None, ℕ}
use Rattle.std.specs.List.{find}
use Rattle.std.specs.Map.{lookup, values_of}
use Rattle.lvs_types.specs.declared.entry.Entry.{Entry}
use Rattle.lvs_model.specs.Lookups.{has_entry_id}
use Rattle.lvs_entries.specs.Seen.{ChainSeen}
use Rattle.lvs_entries.specs.Keyed.{AreKeyed}
use Rattle.lvs_entries.proofs.Keyed.{looked_up, pushed, pushed_keyed}
use Rattle.indexmap.proofs.CallerLemmas.{insert_entry-new}
use Rattle.lvs_entries.proofs.chain.Chain.push.Goals as goal

pub invariant_of-self : goal.invariant_of-self
invariant_of-self c =
    let v = c.args.entry in
    let none : lookup (nat_eq v.id) c.self.inside.entries.entries ≡ None =
    looked_up v.id c.self.inside.entries.entries c.self.invariant ∙ ap (λ (seen : ChainSeen). find (has_entry_id v.id) seen.entries) c.self.view_is ∙ c.requires.new_id in
    let inserted = rw c.unwrap.ensures at c.insert-pushed.ensures.entries in
    subst AreKeyed (sym (inserted ∙ insert_entry-new nat_eq c.self.inside.entries v.id v none)) (pushed_keyed v c.self.inside.entries.entries c.self.invariant)

pub returns-clause-entries : goal.returns-clause-entries
returns-clause-entries c =
    let v = c.args.entry in
    let none : lookup (nat_eq v.id) c.self.inside.entries.entries ≡ None =
    looked_up v.id c.self.inside.entries.entries c.self.invariant ∙ ap (λ (seen : ChainSeen). find (has_entry_id v.id) seen.entries) c.self.view_is ∙ c.requires.new_id in
    let inserted = rw c.unwrap.ensures at c.insert-pushed.ensures.entries in
    ap (λ (pairs : List (ℕ × Entry)). values_of pairs) (inserted ∙ insert_entry-new nat_eq c.self.inside.entries v.id v none)
    ∙ pushed v c.self.inside.entries.entries ∙ ap (λ (seen : ChainSeen). seen.entries ++ v ∷ []) c.self.view_is
