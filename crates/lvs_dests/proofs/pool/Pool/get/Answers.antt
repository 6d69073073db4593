use Rattle.std.proofs.Common.{◌≡◌, ◌∙◌, ap, sym, Some, None}
use Rattle.std.specs.Option.{option_copied}
use Rattle.lvs_dests.specs.Pool.{key_of_id, slot_at}
use Rattle.lvs_dests.proofs.Whole.{id_found, id_missed, pool_apart}
use Rattle.lvs_dests.proofs.pool.Pool.get.Goals as goal

pub returns-in_default-clause-row : goal.returns-in_default-clause-row
returns-in_default-clause-row c =
    let none : key_of_id c.args.self.now c.args.id ≡ None = sym c.get.ensures.value ∙ ap option_copied c.in_default.is in
    sym (id_missed c.args.self.now c.requires c.args.id none)

pub returns-in_default-clause-apart : goal.returns-in_default-clause-apart
returns-in_default-clause-apart c = pool_apart c.args.self.now c.requires

pub returns-in-Some-get-clause-row : goal.returns-in-Some-get-clause-row
returns-in-Some-get-clause-row c =
    let led : key_of_id c.args.self.now c.args.id ≡ Some c.in-Some.field-0.now = sym c.in-Some.ensures.value in
    let there : slot_at c.args.self.now c.in-Some.field-0.now ≡ Some c.in-Some-get.slot.now = sym c.in-Some-get.ensures in
    sym (id_found c.args.self.now c.requires c.args.id c.in-Some.field-0.now c.in-Some-get.slot.now led there).1

pub returns-in-Some-get-clause-apart : goal.returns-in-Some-get-clause-apart
returns-in-Some-get-clause-apart c = pool_apart c.args.self.now c.requires
