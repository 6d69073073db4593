use Rattle.std.proofs.Common.{◌≡◌, ap}
use Rattle.lvs_types.specs.declared.reply.Reply.{Reply}
use Rattle.lvs_model.specs.State.{State}
use Rattle.lvs_model.specs.Step.{step}
use Rattle.lvs_model.proofs.CountedLemmas.{counted_step}
use Rattle.lvs_well_formed.proofs.Steps.{step_well_formed}
use Rattle.lvs_flat.specs.Lists.{state_of}
use Rattle.lvs_flat.specs.Seen.{FlatSeen}
use Rattle.lvs_rules.proofs.Named.{unnamed_next}
use Rattle.lvs_rules.proofs.Room.{room_of_young}
use Rattle.lvs_flat.proofs.flat.Flat.step.Goals as goal

pub take-requires-clause-room : goal.take-requires-clause-room
take-requires-clause-room c = room_of_young c.self.inside.steps (state_of c.self.inside.lists) (rw (ap (λ (f : FlatSeen). f.steps) c.self.view_is) c.requires.young) c.self.invariant.0

pub take-requires-clause-apart : goal.take-requires-clause-apart
take-requires-clause-apart c = record { entries = c.self.invariant.1.entry_ids.apart; dests = c.self.invariant.1.dest_ids.apart }

pub take-requires-clause-unnamed : goal.take-requires-clause-unnamed
take-requires-clause-unnamed c = unnamed_next (state_of c.self.inside.lists) c.self.invariant.1

pub invariant_of-self-2 : goal.invariant_of-self-2
invariant_of-self-2 c =
    let next : state_of c.take.new.lists ≡ (step (state_of c.self.inside.lists) c.args.item.now).1 = ap (λ (p : Reply × State). p.1) c.in_ok-reply.ensures.ok in
    rw next (counted_step c.self.inside.steps (state_of c.self.inside.lists) c.args.item.now c.requires.in_range c.self.invariant.0, step_well_formed (state_of c.self.inside.lists) c.args.item.now c.self.invariant.1)

pub take-requires-clause-buckets : goal.take-requires-clause-buckets
take-requires-clause-buckets c = c.self.invariant.0.numbers.buckets

pub take-requires-clause-pending : goal.take-requires-clause-pending
take-requires-clause-pending c = c.self.invariant.0.numbers.flags
