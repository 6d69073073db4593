use Rattle.std.proofs.Common.{◌++◌, List, ℕ, drop, length-take, length-append, arith}
use Rattle.lvs_outside.proofs.Known.{consumes_read}
use Rattle.lvs_outside.proofs.reading.read_all.Goals as goal

pub returns-in_default-extend_from_slice-clause-limit :
    goal.returns-in_default-extend_from_slice-clause-limit
returns-in_default-extend_from_slice-clause-limit g c =
    let bound = c.in-Ok-read.ensures.bound.0 in
    let all = consumes_read (g.S.Source.left c.args.source.now) (g.S.Source.left c.loop-piece.source) (g.S.Source.left c.read.new.self) c.loop-piece.bytes.items c.read.new.buf c.in-Ok-read.count c.loop-piece.invariant.taken c.in-Ok-read.ensures.bytes.0 bound in
    (all.0, omega (arith, all.1, bound, c.read.auto.buf, length-take c.min-room.result c.loop-piece.piece), all.2)

pub returns-then-len-gt-MAX_INPUT-clause-too_long :
    goal.returns-then-len-gt-MAX_INPUT-clause-too_long
returns-then-len-gt-MAX_INPUT-clause-too_long g c = λ _.
    let bound = c.in-Ok-read.ensures.bound.0 in
    let all = consumes_read (g.S.Source.left c.args.source.now) (g.S.Source.left c.loop-piece.source) (g.S.Source.left c.read.new.self) c.loop-piece.bytes.items c.read.new.buf c.in-Ok-read.count c.loop-piece.invariant.taken c.in-Ok-read.ensures.bytes.0 bound in
    let rest : List ℕ = drop c.min-room.result c.loop-piece.piece in
    (all.0, omega (arith, all.1, bound, c.read.auto.buf, length-take c.min-room.result c.loop-piece.piece, c.in-Ok-extend_from_slice.ensures.len, length-take c.in-Ok-read.count (c.read.new.buf ++ rest), length-append c.read.new.buf rest), all.2)

pub returns-then-len-gt-MAX_INPUT-clause-limit : goal.returns-then-len-gt-MAX_INPUT-clause-limit
returns-then-len-gt-MAX_INPUT-clause-limit g c =
    let bound = c.in-Ok-read.ensures.bound.0 in
    let all = consumes_read (g.S.Source.left c.args.source.now) (g.S.Source.left c.loop-piece.source) (g.S.Source.left c.read.new.self) c.loop-piece.bytes.items c.read.new.buf c.in-Ok-read.count c.loop-piece.invariant.taken c.in-Ok-read.ensures.bytes.0 bound in
    (all.0, omega (arith, all.1, bound, c.read.auto.buf, length-take c.min-room.result c.loop-piece.piece), all.2)
