use Rattle.lvs_model.proofs.CountedLemmas.{counted_initial, counted_step, numbered_step, packets_step, numbered_server}
use Rattle.lvs_model.proofs.laws.numbers_follow_the_steps.Goals as goal

pub returns-clause-begins : goal.returns-clause-begins
returns-clause-begins c = counted_initial

pub returns-clause-goes_on : goal.returns-clause-goes_on
returns-clause-goes_on c = counted_step

pub returns-clause-numbers : goal.returns-clause-numbers
returns-clause-numbers c = numbered_step

pub returns-clause-packets : goal.returns-clause-packets
returns-clause-packets c = packets_step

pub returns-clause-servers : goal.returns-clause-servers
returns-clause-servers c = numbered_server
