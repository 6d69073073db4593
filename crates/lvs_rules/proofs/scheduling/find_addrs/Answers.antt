use Rattle.std.proofs.Common.{rules, ◌≡◌, ◌∙◌, length, vec_len}
use Rattle.lvs_rules.proofs.Leaving.{as_many}
use Rattle.lvs_rules.proofs.scheduling.find_addrs.Goals as goal

pub returns-clause-len : goal.returns-clause-len
returns-clause-len g c =
    let many : vec_len c.list_addrs.new.addrs ≡ length c.list_addrs.new.addrs.items = search rules in
    many ∙ as_many c.args.key c.args.view.now.overload (g.T.Tables.state c.args.tables.now).dests c.list_addrs.new.addrs.items c.list_addrs.ensures
