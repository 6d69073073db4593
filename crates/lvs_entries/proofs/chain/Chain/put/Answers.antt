use Rattle.std.proofs.Common.{◌≡◌, ◌∙◌, ap, sym, subst, List, None, ℕ}
use Rattle.std.specs.List.{find}
use Rattle.std.specs.Map.{values_of}
use Rattle.lvs_types.specs.declared.entry.Entry.{Entry}
use Rattle.lvs_model.specs.Lookups.{has_entry_id}
use Rattle.lvs_model.specs.Binding.{put_entry}
use Rattle.lvs_entries.specs.Seen.{ChainSeen}
use Rattle.lvs_entries.specs.Keyed.{AreKeyed}
use Rattle.lvs_entries.proofs.Keyed.{looked_up, written, written_keyed, unwritten}
use Rattle.lvs_entries.proofs.chain.Chain.put.Goals as goal

pub returns-in_default-clause-entries : goal.returns-in_default-clause-entries
returns-in_default-clause-entries c =
    let none : find (has_entry_id c.args.entry.id) (values_of c.self.inside.entries.entries) ≡ None =
    sym (looked_up c.args.entry.id c.self.inside.entries.entries c.self.invariant) ∙ sym c.in_default.ensures.value in
    ap (λ m. values_of m.entries) c.get_mut.follows.holds-at-none ∙ unwritten c.args.entry (values_of c.self.inside.entries.entries) none
    ∙ ap (λ (seen : ChainSeen). put_entry c.args.entry seen.entries) c.self.view_is

pub invariant_of-self-2 : goal.invariant_of-self-2
invariant_of-self-2 c =
    subst AreKeyed (sym (c.get_mut.follows.holds c.args.entry).0) (written_keyed c.args.entry c.self.inside.entries.entries c.self.invariant)

pub returns-clause-entries : goal.returns-clause-entries
returns-clause-entries c =
    ap (λ (pairs : List (ℕ × Entry)). values_of pairs) (c.get_mut.follows.holds c.args.entry).0
    ∙ written c.args.entry c.self.inside.entries.entries c.self.invariant ∙ ap (λ (seen : ChainSeen). put_entry c.args.entry seen.entries) c.self.view_is
