use Rattle.std.proofs.Common.{◌≡◌, ◌∷◌, [], ◌++◌, ◌∙◌, ap, sym, Some, None, arith, cond, ◌==◌}
use Rattle.std.specs.List.{find}
use Rattle.lvs_model.specs.Lists.{insert_by}
use Rattle.lvs_model.specs.Lookups.{has_entry_id, entry_at}
use Rattle.lvs_entries.specs.Seen.{EntriesSeen, ChainSeen}
use Rattle.lvs_entries.specs.Store.{place_in, entries_in}
use Rattle.lvs_entries.proofs.Listed.{id_of, are_listed}
use Rattle.lvs_entries.proofs.Entered.{entries_entered, store_entered, new_in_chain}
use Rattle.lvs_entries.proofs.entries.Entries.insert.Goals as goal

pub push-requires-clause-new_id : goal.push-requires-clause-new_id
push-requires-clause-new_id c =
    let v = c.args.entry in
    let new_id : find (has_entry_id v.id) (entries_in c.self.inside.chains.items) ≡ None = ap (λ (seen : EntriesSeen). find (has_entry_id v.id) seen.entries) c.self.view_is ∙ c.requires.new_id in
    ap (λ (seen : ChainSeen). find (has_entry_id v.id) seen.entries) c.index_mut.ensures.value
    ∙ new_in_chain c.self.inside.chains.items (place_in c.self.inside.places) _ c.self.inside.room c.self.invariant v.id c.from.result c.index_mut.result.now (omega arith) new_id

pub invariant_of-self : goal.invariant_of-self
invariant_of-self c =
    let v = c.args.entry in
    let new_id : find (has_entry_id v.id) (entries_in c.self.inside.chains.items) ≡ None = ap (λ (seen : EntriesSeen). find (has_entry_id v.id) seen.entries) c.self.view_is ∙ c.requires.new_id in
    let new_key : entry_at v.key (entries_in c.self.inside.chains.items) ≡ None = ap (λ (seen : EntriesSeen). entry_at v.key seen.entries) c.self.view_is ∙ c.requires.new_key in
    let updated = rw c.unwrap.ensures at c.insert-placed.ensures.updates in
    store_entered c.self.inside.chains.items (place_in c.self.inside.places) _ c.self.inside.room c.self.invariant v c.from.result c.push.new.self c.index_mut.result.now
    (c.from.ensures ∙ c.chain_of_key-number.ensures) (omega arith) new_id new_key (c.push.ensures.entries ∙ ap (λ (seen : ChainSeen). seen.entries ++ v ∷ []) c.index_mut.ensures.value)
    (place_in c.insert-placed.new.self) _ (λ q. updated.0 q ∙ ap (λ n. cond (v.id == q) (Some n) (place_in c.self.inside.places q)) (sym c.from.ensures)) c.insert-placed.ensures.spare
    (let wide = c.push.ensures.spare in let same = ap (λ (seen : ChainSeen). seen.spare) c.index_mut.ensures.value in omega arith)
    (let some = c.requires.room in let same = ap (λ (seen : EntriesSeen). seen.spare) c.self.view_is in omega arith)

pub returns-clause-entries : goal.returns-clause-entries
returns-clause-entries c =
    let v = c.args.entry in
    let new_id : find (has_entry_id v.id) (entries_in c.self.inside.chains.items) ≡ None = ap (λ (seen : EntriesSeen). find (has_entry_id v.id) seen.entries) c.self.view_is ∙ c.requires.new_id in
    let new_key : entry_at v.key (entries_in c.self.inside.chains.items) ≡ None = ap (λ (seen : EntriesSeen). entry_at v.key seen.entries) c.self.view_is ∙ c.requires.new_key in
    entries_entered c.self.inside.chains.items (place_in c.self.inside.places) _ c.self.inside.room c.self.invariant v c.from.result c.push.new.self c.index_mut.result.now
    (c.from.ensures ∙ c.chain_of_key-number.ensures) (omega arith) new_id new_key (c.push.ensures.entries ∙ ap (λ (seen : ChainSeen). seen.entries ++ v ∷ []) c.index_mut.ensures.value)
    ∙ ap (λ (seen : EntriesSeen). insert_by id_of v seen.entries) c.self.view_is

pub returns-clause-listed : goal.returns-clause-listed
returns-clause-listed c = are_listed _ _ _ _ (invariant_of-self c)
