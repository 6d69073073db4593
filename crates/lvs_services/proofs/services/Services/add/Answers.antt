use Rattle.std.proofs.Common.{◌≡◌, false, rules, is_ok}
use Rattle.lvs_model.specs.Edits.{with_fresh_cursor}
use Rattle.lvs_services.specs.Services.{is_known}
use Rattle.lvs_services.proofs.Apart.{apart_pushed}
use Rattle.lvs_services.proofs.services.Services.add.Goals as goal

pub invariant_of-self : goal.invariant_of-self
invariant_of-self c =
    let none : is_known c.args.service.key c.self.inside.services.items ≡ false = search rules in
    apart_pushed (is_ok c.push.result) c.self.inside.services.items c.push.new.self.items (with_fresh_cursor c.args.service) c.push.ensures.items c.self.invariant none
