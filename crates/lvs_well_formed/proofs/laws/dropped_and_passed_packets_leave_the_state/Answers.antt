use Rattle.std.proofs.Common.{◌∙◌, ap}
use Rattle.lvs_well_formed.specs.Passing.{passed}
use Rattle.lvs_well_formed.proofs.PacketLeaves.{incoming_leaves, outgoing_leaves}
use Rattle.lvs_well_formed.proofs.laws.dropped_and_passed_packets_leave_the_state.Goals as goal

pub returns-clause-malformed : goal.returns-clause-malformed
returns-clause-malformed c = λ s mark bytes why is. (incoming_leaves s mark bytes).malformed why is

pub returns-clause-too_long : goal.returns-clause-too_long
returns-clause-too_long c = λ s mark bytes is. (incoming_leaves s mark bytes).too_long is

pub returns-clause-pass : goal.returns-clause-pass
returns-clause-pass c = λ s mark bytes is. (incoming_leaves s mark bytes).pass is

pub returns-clause-pass_unknown : goal.returns-clause-pass_unknown
returns-clause-pass_unknown c = λ s mark bytes unknown is. (incoming_leaves s mark bytes).pass is ∙ ap (passed s) unknown

pub returns-clause-malformed_out : goal.returns-clause-malformed_out
returns-clause-malformed_out c = λ s bytes why is. (outgoing_leaves s bytes).malformed why is

pub returns-clause-pass_out : goal.returns-clause-pass_out
returns-clause-pass_out c = λ s bytes is. (outgoing_leaves s bytes).pass is
