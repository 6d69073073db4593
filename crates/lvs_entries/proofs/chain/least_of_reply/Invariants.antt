use Rattle.std.proofs.Common.{◌≡◌, ◌<◌, ◌≤◌, ◌+◌, drop, OnSome}
use Rattle.std.specs.Option.{option_copied}
use Rattle.lvs_model.specs.Lookups.{reply_entry}
use Rattle.lvs_keys.proofs.Least.{lead}
use Rattle.lvs_entries.proofs.chain.least_of_reply.Given as goal

abbrev pub invariant-loop-e : goal.invariant-loop-e
invariant-loop-e g l = record {
  counted : l.steps ≤ l.initial.steps + l.e-index;
  grows : l.initial.steps ≤ l.steps;
  seen : OnSome l.least (l.initial.steps < l.steps);
  left :
      lead (option_copied l.least) (reply_entry l.sides.proto l.sides.daddr l.sides.dport l.sides.caddr l.sides.cport (drop l.e-index l.entries)) ≡ reply_entry l.sides.proto l.sides.daddr l.sides.dport l.sides.caddr l.sides.cport l.entries;
}
