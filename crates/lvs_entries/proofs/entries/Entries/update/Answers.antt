use Rattle.std.proofs.Common.{◌≡◌, ◌∙◌, ap, sym, subst, arith, IsSomeAnd}
use Rattle.std.specs.List.{find}
use Rattle.lvs_model.specs.Lookups.{has_entry_id}
use Rattle.lvs_model.specs.Binding.{put_entry}
use Rattle.lvs_entries.specs.Seen.{EntriesSeen, ChainSeen}
use Rattle.lvs_entries.specs.Store.{place_in}
use Rattle.lvs_entries.proofs.Listed.{are_listed}
use Rattle.lvs_entries.proofs.Renewed.{entries_put, store_put}
use Rattle.lvs_entries.proofs.entries.Entries.update.Goals as goal

pub invariant_of-self : goal.invariant_of-self
invariant_of-self c =
    let v = c.args.entry in
    let there = subst (λ (seen : EntriesSeen). IsSomeAnd (find (has_entry_id v.id) seen.entries) (λ old. old.key ≡ v.key)) (sym c.self.view_is) c.requires.there in
    store_put c.self.inside.chains.items (place_in c.self.inside.places) _ c.self.inside.room c.self.invariant v c.from.result c.put.new.self c.index_mut.result.now
    (c.from.ensures ∙ c.chain_of_key-number.ensures) (omega arith) there (c.put.ensures.entries ∙ ap (λ (seen : ChainSeen). put_entry v seen.entries) c.index_mut.ensures.value)
    (let wide = c.put.ensures.spare in let same = ap (λ (seen : ChainSeen). seen.spare) c.index_mut.ensures.value in omega arith)

pub returns-clause-entries : goal.returns-clause-entries
returns-clause-entries c =
    let v = c.args.entry in
    let there = subst (λ (seen : EntriesSeen). IsSomeAnd (find (has_entry_id v.id) seen.entries) (λ old. old.key ≡ v.key)) (sym c.self.view_is) c.requires.there in
    entries_put c.self.inside.chains.items (place_in c.self.inside.places) _ c.self.inside.room c.self.invariant v c.from.result c.put.new.self c.index_mut.result.now
    (c.from.ensures ∙ c.chain_of_key-number.ensures) (omega arith) there (c.put.ensures.entries ∙ ap (λ (seen : ChainSeen). put_entry v seen.entries) c.index_mut.ensures.value)
    ∙ ap (λ (seen : EntriesSeen). put_entry v seen.entries) c.self.view_is

pub returns-clause-listed : goal.returns-clause-listed
returns-clause-listed c = are_listed _ _ _ _ (invariant_of-self c)
