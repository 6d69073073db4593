use Rattle.std.proofs.Common.{ap, ◌∙◌}
use Rattle.lvs_model.specs.Lookups.{reply_entry}
use Rattle.lvs_icmp.specs.declared.embedded.Sides.{Sides}
use Rattle.lvs_icmp.specs.Sides.{sides_of}
use Rattle.lvs_icmp.proofs.lookups.find_forwarded.Goals as goal

-- the sides are those of the packet that the message is about
pub returns : goal.returns
returns c =
    c.copied.ensures ∙ c.find_reply.ensures ∙ ap (λ (sides : Sides). reply_entry c.args.proto sides.dst sides.dport sides.src sides.sport c.args.entries.now) (c.sides_of-sides.ensures ∙ ap (sides_of c.args.proto) c.embedded_of.ensures)
