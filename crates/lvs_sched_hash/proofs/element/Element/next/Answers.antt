use Rattle.lvs_sched_hash.proofs.Elements.{next_server}
use Rattle.lvs_sched_hash.proofs.element.Element.next.Goals as goal

pub returns : goal.returns
returns c = λ e is. next_server c.args.servers.now e c.args.self.place c.args.self.left c.share.result _ is c.if-self-gt1.false c.if-place-servers.false c.share.ensures
