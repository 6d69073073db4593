use Rattle.std.proofs.Common.{◌≡◌, ◌∙◌, ap, sym, refl, subst, length, rules}
use Rattle.std.proofs.lemmas.List.{with_items_is}
use Rattle.lvs_types.specs.declared.service.Service.{Service}
use Rattle.lvs_model.specs.Lists.{update_first}
use Rattle.lvs_model.specs.Lookups.{has_service_key}
use Rattle.lvs_services.proofs.Apart.{HasDistinctKeys, apart_update}
use Rattle.lvs_services.proofs.services.Services.set_cursor.Goals as goal

pub invariant_of-self : goal.invariant_of-self
invariant_of-self c =
    let after : c.turn.new.services ≡ update_first (has_service_key c.args.key.now) (λ (s : Service). record s { cursor = c.args.cursor }) c.self.inside.services.items =
    c.turn.ensures ∙ ap (update_first (has_service_key c.args.key.now) (λ (s : Service). record s { cursor = c.args.cursor })) c.deref_mut.ensures.value in
    let long : length c.turn.new.services ≡ c.self.inside.services.len = search rules in
    subst HasDistinctKeys (sym (with_items_is c.self.inside.services c.turn.new.services long ∙ after))
    (apart_update (has_service_key c.args.key.now) (λ (s : Service). record s { cursor = c.args.cursor }) (λ s here. refl) c.self.inside.services.items c.self.invariant)
