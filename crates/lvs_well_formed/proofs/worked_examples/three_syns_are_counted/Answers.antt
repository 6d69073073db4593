use Rattle.std.proofs.Common.{◌≤◌, lit<, lit≤, arith}
use Rattle.lvs_well_formed.proofs.worked_examples.three_syns_are_counted.Goals as goal

pub returns-clause-counted : goal.returns-clause-counted
returns-clause-counted c = record {
  numbers = record {
    now = lit≤ tt;
    buckets = lit< tt;
    next_entry = lit≤ tt;
    next_dest = lit≤ tt;
    next_template = lit≤ tt;
    entries = lit≤ tt;
    templates = lit≤ tt;
    pending = lit≤ tt;
    flags = tt;
  };
  packets = (lit≤ tt, (lit≤ tt, (lit≤ tt, tt)));
}

pub returns-clause-server : goal.returns-clause-server
returns-clause-server c = record { active = lit≤ tt; inactive = lit≤ tt; templates = lit≤ tt }

pub returns-clause-uncounted : goal.returns-clause-uncounted
returns-clause-uncounted c = λ counted. let few : 4 ≤ 3 = counted.numbers.next_entry in omega (arith, few)
