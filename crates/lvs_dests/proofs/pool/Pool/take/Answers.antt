use Rattle.std.proofs.Common.{◌≡◌, ◌∙◌, ap, sym, None}
use Rattle.std.specs.Option.{option_copied}
use Rattle.lvs_dests.specs.Rows.{has_row_id}
use Rattle.lvs_dests.specs.Pool.{key_of_id, rows_of}
use Rattle.lvs_dests.proofs.Whole.{id_missed}
use Rattle.lvs_dests.proofs.Narrow.{replaced_missed}
use Rattle.lvs_dests.proofs.pool.Pool.take.Goals as goal

pub returns-in_default-clause-rows : goal.returns-in_default-clause-rows
returns-in_default-clause-rows c =
    let none : key_of_id c.args.self.now c.args.id ≡ None = sym c.get.ensures.value ∙ ap option_copied c.in_default.is in
    sym (replaced_missed (has_row_id c.args.id) None (rows_of c.args.self.now) (id_missed c.args.self.now c.requires.whole c.args.id none))
