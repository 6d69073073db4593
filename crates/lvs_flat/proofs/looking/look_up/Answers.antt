use Rattle.std.proofs.Common.{ℕ, List, Option, ap, sym, ◌∙◌}
use Rattle.lvs_types.specs.declared.entry.Entry.{Entry}
use Rattle.lvs_model.specs.Reading.{read}
use Rattle.lvs_model.specs.Buckets.{head_read, incoming_in, outgoing_in, recorded_in, key_of_learnt, one_or_nothing}
use Rattle.lvs_well_formed.proofs.BucketLooks.{incoming_found, outgoing_found, learnt_found}
use Rattle.lvs_flat.specs.Lists.{state_of}
use Rattle.lvs_flat.proofs.looking.look_up.Goals as goal

pub returns-in-Incoming : goal.returns-in-Incoming
returns-in-Incoming c =
    let s = state_of c.args.lists.now in
    rw c.in-Incoming.is (
    c.one_or_nothing.ensures
    ∙ ap one_or_nothing (
    c.find_incoming.ensures
    ∙ ap (λ (es : List Entry). incoming_in es (head_read (read c.as_slice.result.now))) c.deref.ensures.value
    ∙ ap (λ (bs : List ℕ). incoming_in s.entries (head_read (read bs))) c.as_slice.ensures)
    ∙ sym (incoming_found s c.in-Incoming.mark c.in-Incoming.bytes))

pub returns-in-Outgoing : goal.returns-in-Outgoing
returns-in-Outgoing c =
    let s = state_of c.args.lists.now in
    rw c.in-Outgoing.is (
    c.one_or_nothing-in-Outgoing.ensures
    ∙ ap one_or_nothing (
    c.find_outgoing.ensures
    ∙ ap (λ (es : List Entry). outgoing_in es (head_read (read c.as_slice-in-Outgoing.result.now))) c.deref-in-Outgoing.ensures.value
    ∙ ap (λ (bs : List ℕ). outgoing_in s.entries (head_read (read bs))) c.as_slice-in-Outgoing.ensures)
    ∙ sym (outgoing_found s c.in-Outgoing.bytes))

pub returns-in-Learn : goal.returns-in-Learn
returns-in-Learn c =
    let s = state_of c.args.lists.now in
    rw c.in-Learn.is (
    c.one_or_nothing-in-Learn.ensures
    ∙ ap one_or_nothing (
    c.find_learnt.ensures
    ∙ ap (λ (es : List Entry). recorded_in es (key_of_learnt c.in-Learn.item)) c.deref-in-Learn.ensures.value)
    ∙ sym (learnt_found s c.in-Learn.sync_id c.in-Learn.item))
