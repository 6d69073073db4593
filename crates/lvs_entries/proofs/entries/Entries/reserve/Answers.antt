use Rattle.std.proofs.Common.{◌≡◌, ◌∙◌, ap, refl, arith, List, length, take, drop, ◌++◌}
use Rattle.lvs_entries.specs.Seen.{EntriesSeen, ChainSeen}
use Rattle.lvs_entries.specs.Store.{place_in, entries_in, lists_of}
use Rattle.lvs_entries.proofs.Listed.{are_listed}
use Rattle.lvs_entries.proofs.Widened.{store_widened, entries_same, no_room, whole_back, on_err}
use Rattle.lvs_entries.proofs.entries.Entries.reserve.Goals as goal

pub invariant_of-self : goal.invariant_of-self
invariant_of-self c =
    store_widened c.self.inside.chains.items c.self.inside.chains.items (place_in c.self.inside.places) (place_in c.reserve.new.self) _ _ c.self.inside.room c.self.inside.room c.self.invariant refl
    c.reserve.ensures.entries.2 (let was = c.self.invariant.places in let more = c.reserve.ensures.spare in omega arith) c.self.invariant.chain_room

pub invariant_of-self-in_err-make_room : goal.invariant_of-self-in_err-make_room
invariant_of-self-in_err-make_room c =
    let back = whole_back c.self.inside.chains.len c.self.inside.chains.items c.make_room.new.chains (c.make_room.auto.chains ∙ ap (λ (cs : List ChainSeen). length cs) c.deref_mut.ensures.value) (omega arith) in
    rw back
    (store_widened c.self.inside.chains.items c.make_room.new.chains (place_in c.self.inside.places) (place_in c.reserve.new.self) _ _ c.self.inside.room c.self.inside.room c.self.invariant
    (c.make_room.ensures.entries ∙ ap lists_of c.deref_mut.ensures.value) c.reserve.ensures.entries.2 (let was = c.self.invariant.places in let more = c.reserve.ensures.spare in omega arith)
    (no_room c.self.inside.room (omega arith) c.make_room.new.chains))

pub returns-in_err-make_room-clause-entries : goal.returns-in_err-make_room-clause-entries
returns-in_err-make_room-clause-entries c =
    let back = whole_back c.self.inside.chains.len c.self.inside.chains.items c.make_room.new.chains (c.make_room.auto.chains ∙ ap (λ (cs : List ChainSeen). length cs) c.deref_mut.ensures.value) (omega arith) in
    ap entries_in back ∙ entries_same c.self.inside.chains.items c.make_room.new.chains (c.make_room.ensures.entries ∙ ap lists_of c.deref_mut.ensures.value)
    ∙ ap (λ (seen : EntriesSeen). seen.entries) c.self.view_is

pub returns-in_err-make_room-clause-err : goal.returns-in_err-make_room-clause-err
returns-in_err-make_room-clause-err c =
    let back = whole_back c.self.inside.chains.len c.self.inside.chains.items c.make_room.new.chains (c.make_room.auto.chains ∙ ap (λ (cs : List ChainSeen). length cs) c.deref_mut.ensures.value) (omega arith) in
    let entries : entries_in (take c.self.inside.chains.len (c.make_room.new.chains ++ drop (length c.make_room.new.chains) c.self.inside.chains.items)) ≡ entries_in c.self.inside.chains.items =
    ap entries_in back ∙ entries_same c.self.inside.chains.items c.make_room.new.chains (c.make_room.ensures.entries ∙ ap lists_of c.deref_mut.ensures.value) in
    on_err c.from_residual-in_err-make_room.result _ (ap (λ es. record { entries = es; spare = c.self.inside.room }) entries ∙ c.self.view_is)

pub invariant_of-self-2 : goal.invariant_of-self-2
invariant_of-self-2 c =
    let back = whole_back c.self.inside.chains.len c.self.inside.chains.items c.make_room.new.chains (c.make_room.auto.chains ∙ ap (λ (cs : List ChainSeen). length cs) c.deref_mut.ensures.value) (omega arith) in
    rw back
    (store_widened c.self.inside.chains.items c.make_room.new.chains (place_in c.self.inside.places) (place_in c.reserve.new.self) _ _ c.self.inside.room 4 c.self.invariant
    (c.make_room.ensures.entries ∙ ap lists_of c.deref_mut.ensures.value) c.reserve.ensures.entries.2 c.in_ok-reserve.ensures.ok c.in_ok-make_room.ensures.ok)

pub returns-clause-entries : goal.returns-clause-entries
returns-clause-entries c =
    let back = whole_back c.self.inside.chains.len c.self.inside.chains.items c.make_room.new.chains (c.make_room.auto.chains ∙ ap (λ (cs : List ChainSeen). length cs) c.deref_mut.ensures.value) (omega arith) in
    ap entries_in back ∙ entries_same c.self.inside.chains.items c.make_room.new.chains (c.make_room.ensures.entries ∙ ap lists_of c.deref_mut.ensures.value)
    ∙ ap (λ (seen : EntriesSeen). seen.entries) c.self.view_is

pub returns-then-self-gt0-clause-listed : goal.returns-then-self-gt0-clause-listed
returns-then-self-gt0-clause-listed c = rw (← c.self.view_is) (are_listed c.self.inside.chains.items _ _ c.self.inside.room c.self.invariant)

pub returns-in_err-reserve-clause-listed : goal.returns-in_err-reserve-clause-listed
returns-in_err-reserve-clause-listed c = are_listed c.self.inside.chains.items _ _ c.self.inside.room c.self.invariant

pub returns-in_err-make_room-clause-listed : goal.returns-in_err-make_room-clause-listed
returns-in_err-make_room-clause-listed c = are_listed _ _ _ _ (invariant_of-self-in_err-make_room c)

pub returns-clause-listed : goal.returns-clause-listed
returns-clause-listed c = are_listed _ _ _ _ (invariant_of-self-2 c)
