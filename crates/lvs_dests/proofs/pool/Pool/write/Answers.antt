use Rattle.std.proofs.Common.{◌≡◌, ◌∙◌, ap, sym, refl, Some, None, arith}
use Rattle.std.specs.Option.{option_copied}
use Rattle.lvs_types.specs.declared.addr.DestId.{DestId}
use Rattle.lvs_types.specs.declared.dest.DestRow.{DestRow}
use Rattle.lvs_dests.specs.declared.slots.Slot.{Slot}
use Rattle.lvs_dests.specs.declared.pool.Pool.{Pool}
use Rattle.lvs_dests.specs.Places.{place_of}
use Rattle.lvs_dests.specs.Rows.{has_row_id, row_at, replaced}
use Rattle.lvs_dests.specs.Pool.{key_of_id, slot_at, rows_of}
use Rattle.lvs_dests.proofs.Whole.{id_found, id_missed, some_and, some_and_none, whole_write, pool_write, changed_slab}
use Rattle.lvs_dests.proofs.pool.Pool.write.Goals as goal

pub returns-in_default-clause-rows : goal.returns-in_default-clause-rows
returns-in_default-clause-rows c =
    let none : key_of_id c.args.self.now c.args.row.dest.id ≡ None = sym c.get.ensures.value ∙ ap option_copied c.in_default.is in
    absurd (some_and_none _ (row_at c.args.row.dest.id (rows_of c.args.self.now)) c.requires.there (id_missed c.args.self.now c.requires.whole c.args.row.dest.id none))

pub returns-clause-whole : goal.returns-clause-whole
returns-clause-whole c =
    let pool = c.args.self.now in
    let after : Pool = record pool { slab = c.put.new.slab } in
    let key = c.in-Some.field-0.now in
    let slot = c.in-Some-get.field-0.now in
    let new : Slot = record { row = c.args.row; sequence = slot.sequence } in
    let led : key_of_id pool c.args.row.dest.id ≡ Some key = sym c.in-Some.ensures.value in
    let there : slot_at pool key ≡ Some slot = sym c.in-Some-get.ensures in
    let found = id_found pool c.requires.whole c.args.row.dest.id key slot led there in
    let place = some_and (λ (old : DestRow). place_of old ≡ place_of c.args.row) (row_at c.args.row.dest.id (rows_of pool)) slot.row c.requires.there found.1 in
    whole_write pool c.requires.whole after key slot new there (changed_slab pool.slab c.put.new.slab key (Some new) c.put.ensures.updates) (sym found.0) (sym place) (λ id. refl) (λ p. refl) (omega arith) (c.requires.whole.recent key slot there)

pub returns-clause-rows : goal.returns-clause-rows
returns-clause-rows c =
    let pool = c.args.self.now in
    let after : Pool = record pool { slab = c.put.new.slab } in
    let key = c.in-Some.field-0.now in
    let slot = c.in-Some-get.field-0.now in
    let new : Slot = record { row = c.args.row; sequence = slot.sequence } in
    let led : key_of_id pool c.args.row.dest.id ≡ Some key = sym c.in-Some.ensures.value in
    let there : slot_at pool key ≡ Some slot = sym c.in-Some-get.ensures in
    let found = id_found pool c.requires.whole c.args.row.dest.id key slot led there in
    pool_write pool c.requires.whole after key slot new there (changed_slab pool.slab c.put.new.slab key (Some new) c.put.ensures.updates) refl
    ∙ ap (λ (id : DestId). replaced (has_row_id id) (Some c.args.row) (rows_of pool)) found.0
