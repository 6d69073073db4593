use Rattle.std.proofs.Common.{rules, not}
use Rattle.std.proofs.lemmas.Fn.{filter_same}
use Rattle.lvs_types.specs.declared.service.Service.{Service}
use Rattle.lvs_model.specs.Lookups.{has_service_key}
use Rattle.lvs_services.proofs.keys.take_out.Goals as goal

pub returns : goal.returns
returns c =
    filter_same _ (λ (s : Service). not (has_service_key c.args.key.now s)) _ (λ x b q says. search rules) _ _ c.retain.ensures.filtered
