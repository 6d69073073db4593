use Rattle.std.proofs.Common.{◌≡◌, ◌∙◌, ◌∷◌, [], ◌++◌, ap, sym, refl, Some, None, arith}
use Rattle.lvs_types.specs.declared.addr.DestId.{DestId}
use Rattle.lvs_types.specs.declared.dest.DestRow.{DestRow}
use Rattle.lvs_dests.specs.declared.slots.Slot.{Slot}
use Rattle.lvs_dests.specs.declared.pool.Pool.{Pool}
use Rattle.lvs_dests.specs.Places.{place_of}
use Rattle.lvs_dests.specs.Rows.{has_row_id, row_at, replaced}
use Rattle.lvs_dests.specs.Pool.{key_of_id, rows_of}
use Rattle.lvs_dests.proofs.Whole.{id_found, some_and, whole_write, pool_renew, changed_slab}
use Rattle.lvs_dests.proofs.pool.Pool.renew.Goals as goal

pub returns-clause-whole : goal.returns-clause-whole
returns-clause-whole c =
    let pool = c.args.self.now in
    let after : Pool = record pool { slab = c.put.new.slab; sequence = c.in_ok-next.next } in
    let key = c.in-Some.field-0.now in
    let new : Slot = record { row = c.args.row; sequence = pool.sequence } in
    let led : key_of_id pool c.args.row.dest.id ≡ Some key = sym c.in-Some.ensures.value in
    let at = c.requires.whole.ids.finds c.args.row.dest.id key led in
    let found = id_found pool c.requires.whole c.args.row.dest.id key at.0 led at.1 in
    let place = some_and (λ (old : DestRow). place_of old ≡ place_of c.args.row) (row_at c.args.row.dest.id (rows_of pool)) at.0.row c.requires.there found.1 in
    let next = c.in_ok-next.ensures in
    whole_write pool c.requires.whole after key at.0 new at.1 (changed_slab pool.slab c.put.new.slab key (Some new) c.put.ensures.updates) (sym found.0) (sym place) (λ id. refl) (λ p. refl) (omega (arith, next)) (omega (arith, next))

pub returns-clause-rows : goal.returns-clause-rows
returns-clause-rows c =
    let pool = c.args.self.now in
    let after : Pool = record pool { slab = c.put.new.slab; sequence = c.in_ok-next.next } in
    let key = c.in-Some.field-0.now in
    let new : Slot = record { row = c.args.row; sequence = pool.sequence } in
    let led : key_of_id pool c.args.row.dest.id ≡ Some key = sym c.in-Some.ensures.value in
    let at = c.requires.whole.ids.finds c.args.row.dest.id key led in
    let found = id_found pool c.requires.whole c.args.row.dest.id key at.0 led at.1 in
    pool_renew pool c.requires.whole after key at.0 new at.1 (changed_slab pool.slab c.put.new.slab key (Some new) c.put.ensures.updates) refl
    ∙ ap (λ (id : DestId). replaced (has_row_id id) None (rows_of pool) ++ c.args.row ∷ []) found.0
