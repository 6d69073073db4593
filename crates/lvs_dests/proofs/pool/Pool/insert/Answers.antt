use Rattle.std.proofs.Common.{◌≡◌, ◌∙◌, ◌+◌, ◌∷◌, [], ◌++◌, ap, sym, refl, List}
use Rattle.std.specs.List.{find}
use Rattle.lvs_types.specs.declared.dest.DestRow.{DestRow}
use Rattle.lvs_dests.specs.declared.slots.Slot.{Slot}
use Rattle.lvs_dests.specs.declared.pool.Pool.{Pool}
use Rattle.lvs_dests.specs.Places.{place_of, has_place}
use Rattle.lvs_dests.specs.Rows.{row_at}
use Rattle.lvs_dests.specs.Pool.{rows_in, rows_of}
use Rattle.lvs_dests.proofs.Whole.{id_free, place_free, whole_same, whole_put, pool_put}
use Rattle.lvs_dests.proofs.pool.Pool.insert.Goals as goal

pub returns-clause-whole : goal.returns-clause-whole
returns-clause-whole c =
    let pool = c.args.self.now in
    let roomy = c.make_room.new.self in
    let after : Pool = record c.enter.new.self { sequence = c.in_ok-next.next } in
    let same = c.make_room.ensures.same in
    let whole = whole_same pool c.requires.whole roomy same in
    let rows : rows_of roomy ≡ rows_of pool = ap rows_in same.slots in
    let new : Slot = record { row = c.args.row; sequence = roomy.sequence } in
    whole_put roomy whole after roomy.slab.vacant_key new c.enter.ensures.vacant c.enter.ensures.slots
    (id_free roomy whole c.args.row.dest.id (ap (row_at c.args.row.dest.id) rows ∙ c.requires.new_id))
    (place_free roomy whole (place_of c.args.row) (ap (find (has_place (place_of c.args.row))) rows ∙ c.requires.new_place))
    c.enter.ensures.ids c.enter.ensures.places refl (c.in_ok-next.ensures ∙ ap (λ n. n + 1) (sym same.sequence))

pub returns-clause-rows : goal.returns-clause-rows
returns-clause-rows c =
    let pool = c.args.self.now in
    let roomy = c.make_room.new.self in
    let after : Pool = record c.enter.new.self { sequence = c.in_ok-next.next } in
    let same = c.make_room.ensures.same in
    let whole = whole_same pool c.requires.whole roomy same in
    let rows : rows_of roomy ≡ rows_of pool = ap rows_in same.slots in
    let new : Slot = record { row = c.args.row; sequence = roomy.sequence } in
    pool_put roomy whole after roomy.slab.vacant_key new c.enter.ensures.vacant c.enter.ensures.slots refl ∙ ap (λ (rs : List DestRow). rs ++ c.args.row ∷ []) rows
