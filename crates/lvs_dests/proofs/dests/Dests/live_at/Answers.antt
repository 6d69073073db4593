use Rattle.std.proofs.Common.{ap, refl, Some, None}
use Rattle.lvs_dests.specs.Rows.{DestsSeen}
use Rattle.lvs_dests.specs.Places.{place_at}
use Rattle.lvs_dests.specs.Pool.{rows_of}
use Rattle.lvs_dests.proofs.Standing.{looked, looked_none, looked_live, looked_trashed}
use Rattle.lvs_dests.proofs.dests.Dests.live_at.Goals as goal

pub returns-in_default-clause-row : goal.returns-in_default-clause-row
returns-in_default-clause-row c =
    let l = looked None None c.at.result (place_at c.args.service.now c.args.addr c.args.port) (rows_of c.self.inside.pool) c.args.self.now.rows refl c.in_default.ensures.row tt c.at-2.ensures.apart c.at.ensures (ap (λ (seen : DestsSeen). seen.rows) c.self.view_is) in
    (looked_none c.args.service.now c.args.addr c.args.port c.args.self.now.rows None l refl).0

pub returns-in_default-clause-known : goal.returns-in_default-clause-known
returns-in_default-clause-known c =
    let l = looked None None c.at.result (place_at c.args.service.now c.args.addr c.args.port) (rows_of c.self.inside.pool) c.args.self.now.rows refl c.in_default.ensures.row tt c.at-2.ensures.apart c.at.ensures (ap (λ (seen : DestsSeen). seen.rows) c.self.view_is) in
    (looked_none c.args.service.now c.args.addr c.args.port c.args.self.now.rows None l refl).1

pub returns-then-row-clause-row : goal.returns-then-row-clause-row
returns-then-row-clause-row c =
    let l = looked (Some c.in-Some.row) (Some c.in-Some.row.now) c.at.result (place_at c.args.service.now c.args.addr c.args.port) (rows_of c.self.inside.pool) c.args.self.now.rows refl c.in-Some.ensures.row c.in-Some.ensures.one c.at-2.ensures.apart c.at.ensures (ap (λ (seen : DestsSeen). seen.rows) c.self.view_is) in
    (looked_live c.args.service.now c.args.addr c.args.port c.args.self.now.rows (Some c.in-Some.row.now) l c.in-Some.row.now refl c.if-row.true).0

pub returns-then-row-clause-known : goal.returns-then-row-clause-known
returns-then-row-clause-known c =
    let l = looked (Some c.in-Some.row) (Some c.in-Some.row.now) c.at.result (place_at c.args.service.now c.args.addr c.args.port) (rows_of c.self.inside.pool) c.args.self.now.rows refl c.in-Some.ensures.row c.in-Some.ensures.one c.at-2.ensures.apart c.at.ensures (ap (λ (seen : DestsSeen). seen.rows) c.self.view_is) in
    (looked_live c.args.service.now c.args.addr c.args.port c.args.self.now.rows (Some c.in-Some.row.now) l c.in-Some.row.now refl c.if-row.true).1

pub returns-then-row-clause-there : goal.returns-then-row-clause-there
returns-then-row-clause-there c =
    let l = looked (Some c.in-Some.row) (Some c.in-Some.row.now) c.at.result (place_at c.args.service.now c.args.addr c.args.port) (rows_of c.self.inside.pool) c.args.self.now.rows refl c.in-Some.ensures.row c.in-Some.ensures.one c.at-2.ensures.apart c.at.ensures (ap (λ (seen : DestsSeen). seen.rows) c.self.view_is) in
    (looked_live c.args.service.now c.args.addr c.args.port c.args.self.now.rows (Some c.in-Some.row.now) l c.in-Some.row.now refl c.if-row.true).2

pub returns-else-row-clause-row : goal.returns-else-row-clause-row
returns-else-row-clause-row c =
    let l = looked (Some c.in-Some.row) (Some c.in-Some.row.now) c.at.result (place_at c.args.service.now c.args.addr c.args.port) (rows_of c.self.inside.pool) c.args.self.now.rows refl c.in-Some.ensures.row c.in-Some.ensures.one c.at-2.ensures.apart c.at.ensures (ap (λ (seen : DestsSeen). seen.rows) c.self.view_is) in
    (looked_trashed c.args.service.now c.args.addr c.args.port c.args.self.now.rows (Some c.in-Some.row.now) l c.in-Some.row.now refl c.if-row.false).0

pub returns-else-row-clause-known : goal.returns-else-row-clause-known
returns-else-row-clause-known c =
    let l = looked (Some c.in-Some.row) (Some c.in-Some.row.now) c.at.result (place_at c.args.service.now c.args.addr c.args.port) (rows_of c.self.inside.pool) c.args.self.now.rows refl c.in-Some.ensures.row c.in-Some.ensures.one c.at-2.ensures.apart c.at.ensures (ap (λ (seen : DestsSeen). seen.rows) c.self.view_is) in
    (looked_trashed c.args.service.now c.args.addr c.args.port c.args.self.now.rows (Some c.in-Some.row.now) l c.in-Some.row.now refl c.if-row.false).1
