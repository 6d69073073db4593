use Rattle.std.proofs.Common.{List, ap, ◌∙◌}
use Rattle.lvs_types.specs.declared.bucket.Found.TheVariants as found
use Rattle.lvs_types.specs.declared.entry.Entry.{Entry}
use Rattle.lvs_flat.specs.Lists.{state_of}
use Rattle.lvs_flat.proofs.Swept.{swept_there}
use Rattle.lvs_flat.proofs.looking.find_due_in.Goals as goal

pub returns : goal.returns
returns c = ap (λ (es : List Entry). found.Due es) c.from_vec.ensures ∙ swept_there (state_of c.args.lists.now) c.args.bucket c.in_ok-due.due.items c.requires c.in_ok-due.ensures
