use Rattle.std.proofs.Common.{◌≡◌, false, sym, subst, rules}
use Rattle.lvs_model.specs.Lookups.{has_service_key}
use Rattle.lvs_services.specs.Services.{is_known}
use Rattle.lvs_services.proofs.Apart.{HasDistinctKeys, apart_without, without_unknown}
use Rattle.lvs_services.proofs.services.Services.remove.Goals as goal

pub returns-then-not-is_there-clause-services : goal.returns-then-not-is_there-clause-services
returns-then-not-is_there-clause-services c =
    let none : is_known c.args.key.now c.args.self.now ≡ false = search rules in
    without_unknown c.args.key.now c.args.self.now none

pub invariant_of-self : goal.invariant_of-self
invariant_of-self c =
    subst HasDistinctKeys (sym c.take_out.ensures) (apart_without (has_service_key c.args.key.now) c.self.inside.services.items c.self.invariant)
