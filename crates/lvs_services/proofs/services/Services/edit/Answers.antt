use Rattle.std.proofs.Common.{◌≡◌, ◌∙◌, false, ap, sym, subst, length, rules}
use Rattle.std.proofs.lemmas.List.{with_items_is}
use Rattle.lvs_model.specs.Lists.{update_first}
use Rattle.lvs_model.specs.Lookups.{has_service_key}
use Rattle.lvs_model.specs.Edits.{with_fresh_cursor}
use Rattle.lvs_services.specs.Services.{is_known}
use Rattle.lvs_services.proofs.Apart.{HasDistinctKeys, apart_replace, update_unknown}
use Rattle.lvs_services.proofs.services.Services.edit.Goals as goal

pub returns-then-not-is_there-clause-services : goal.returns-then-not-is_there-clause-services
returns-then-not-is_there-clause-services c =
    let none : is_known c.args.service.key c.args.self.now ≡ false = search rules in
    update_unknown c.args.service.key (λ _. with_fresh_cursor c.args.service) c.args.self.now none

pub invariant_of-self : goal.invariant_of-self
invariant_of-self c =
    let after : c.replace.new.services ≡ update_first (has_service_key c.args.service.key) (λ _. with_fresh_cursor c.args.service) c.self.inside.services.items =
    c.replace.ensures ∙ ap (update_first (has_service_key c.args.service.key) (λ _. with_fresh_cursor c.args.service)) c.deref_mut.ensures.value in
    let long : length c.replace.new.services ≡ c.self.inside.services.len = search rules in
    subst HasDistinctKeys (sym (with_items_is c.self.inside.services c.replace.new.services long ∙ after)) (apart_replace (with_fresh_cursor c.args.service) c.self.inside.services.items c.self.invariant)
