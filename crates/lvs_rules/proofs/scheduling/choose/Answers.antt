use Rattle.std.proofs.Common.{List, ap, ◌∙◌}
use Rattle.lvs_types.specs.declared.addr.Addr.{Addr}
use Rattle.lvs_types.specs.declared.dest.Candidate.{Candidate}
use Rattle.lvs_model.specs.Lookups.{servers_of}
use Rattle.lvs_model.specs.Counts.{candidates}
use Rattle.lvs_model.specs.Pick.{pick}
use Rattle.lvs_rules.specs.Views.{seen_in}
use Rattle.lvs_rules.proofs.Weighed.{candidates_weighed}
use Rattle.lvs_rules.proofs.scheduling.choose.Goals as goal

pub pick_from-requires-clause-weighed : goal.pick_from-requires-clause-weighed
pick_from-requires-clause-weighed g c =
    let s = seen_in c.args.view.now (g.T.Tables.state c.args.tables.now) in rw c.find_candidates.ensures.items (candidates_weighed s.entries (servers_of c.args.service.now.key s.dests))

pub returns : goal.returns
returns g c =
    let service = c.args.service.now in
    let head = c.args.p.now.head in
    let s = seen_in c.args.view.now (g.T.Tables.state c.args.tables.now) in
    c.pick_from.ensures
    ∙ ap (λ (xs : List Candidate). pick service.scheduler xs c.find_addrs.new.addrs.items service.cursor head.src head.dst) c.find_candidates.ensures.items
    ∙ ap (λ (xs : List Addr). pick service.scheduler (candidates service.key s.dests s.entries) xs service.cursor head.src head.dst) c.find_addrs.ensures.items
