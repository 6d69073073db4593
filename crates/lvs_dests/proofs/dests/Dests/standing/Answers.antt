use Rattle.std.proofs.Common.{ap}
use Rattle.lvs_dests.specs.Rows.{DestsSeen}
use Rattle.lvs_dests.specs.Places.{place_at}
use Rattle.lvs_dests.specs.Pool.{rows_of}
use Rattle.lvs_dests.proofs.Standing.{looked, standing_known, standing_kept, standing_there}
use Rattle.lvs_dests.proofs.dests.Dests.standing.Goals as goal

pub returns-clause-known : goal.returns-clause-known
returns-clause-known c =
    let l = looked c.at-2.result c.copied.result c.at.result (place_at c.args.service.now c.args.spec.now.addr c.args.spec.now.port) (rows_of c.self.inside.pool) c.args.self.now.rows
    c.copied.ensures c.at-2.ensures.row c.at-2.ensures.one c.at-2.ensures.apart c.at.ensures (ap (λ (seen : DestsSeen). seen.rows) c.self.view_is) in
    standing_known c.args.service.now c.args.spec.now c.args.self.now.rows l.apart c.copied.result l.is l.one

pub returns-clause-kept : goal.returns-clause-kept
returns-clause-kept c =
    let l = looked c.at-2.result c.copied.result c.at.result (place_at c.args.service.now c.args.spec.now.addr c.args.spec.now.port) (rows_of c.self.inside.pool) c.args.self.now.rows
    c.copied.ensures c.at-2.ensures.row c.at-2.ensures.one c.at-2.ensures.apart c.at.ensures (ap (λ (seen : DestsSeen). seen.rows) c.self.view_is) in
    standing_kept c.args.service.now c.args.spec.now c.args.self.now.rows l.apart c.copied.result l.is l.one

pub returns-clause-there : goal.returns-clause-there
returns-clause-there c =
    let l = looked c.at-2.result c.copied.result c.at.result (place_at c.args.service.now c.args.spec.now.addr c.args.spec.now.port) (rows_of c.self.inside.pool) c.args.self.now.rows
    c.copied.ensures c.at-2.ensures.row c.at-2.ensures.one c.at-2.ensures.apart c.at.ensures (ap (λ (seen : DestsSeen). seen.rows) c.self.view_is) in
    standing_there c.args.service.now c.args.spec.now c.args.self.now.rows l.apart c.copied.result l.is l.one
