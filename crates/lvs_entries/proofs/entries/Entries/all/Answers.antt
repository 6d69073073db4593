use Rattle.std.proofs.Common.{◌≡◌, rules, ◌∙◌, ap}
use Rattle.std.proofs.lemmas.List.Sorted.{IsNonDecreasingBy-from_sort_by_key}
use Rattle.lvs_model.specs.Lists.{sorted_by}
use Rattle.lvs_entries.specs.Seen.{EntriesSeen}
use Rattle.lvs_entries.specs.Store.{all_of}
use Rattle.lvs_entries.proofs.Listed.{id_of, are_listed}
use Rattle.lvs_model.proofs.OrderLemmas.{sorted_once}
use Rattle.lvs_entries.proofs.entries.Entries.all.Goals as goal

sorted_is : goal.returns-clause-entries
sorted_is c =
    let gathered : c.in_ok-all.all.items ≡ all_of c.self.inside.chains.items = c.in_ok-all.ensures ∙ ap all_of c.deref.ensures.value in
    sorted_once id_of c.in_ok-all.all.items c.sort_unstable_by_key.new.self.items c.sort_unstable_by_key.ensures.permutation
    (IsNonDecreasingBy-from_sort_by_key id_of _ c.sort_unstable_by_key.ensures.sorted (λ a r q k. search rules)) (λ n. rw gathered (c.self.invariant.ids n))
    ∙ ap (sorted_by id_of) gathered ∙ ap (λ (v : EntriesSeen). v.entries) c.self.view_is

pub returns-clause-entries : goal.returns-clause-entries
returns-clause-entries = sorted_is

pub returns-clause-listed : goal.returns-clause-listed
returns-clause-listed c =
    rw (sorted_is c, ← c.self.view_is) (are_listed c.self.inside.chains.items _ _ c.self.inside.room c.self.invariant)
