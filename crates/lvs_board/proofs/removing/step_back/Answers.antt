use Rattle.std.proofs.Common.{◌∙◌, sym}
use Rattle.lvs_types.specs.declared.service.Service.{Service}
use Rattle.lvs_model.specs.Lookups.{has_service_key}
use Rattle.lvs_board.specs.Removals.{stepped_back}
use Rattle.lvs_board.proofs.Steps.{none_updated, same_updated, kept_updated}
use Rattle.lvs_board.proofs.Gone.{back_here, stays_here}
use Rattle.lvs_board.proofs.removing.step_back.Goals as goal

pub returns-in_default : goal.returns-in_default
returns-in_default c =
    sym (none_updated (has_service_key c.args.key.now) (stepped_back c.args.id c.args.candidates.now) c.args.services.now (sym (c.copied.ensures ∙ c.get.ensures) ∙ c.in_default.is))

pub returns-then-is_last : goal.returns-then-is_last
returns-then-is_last c =
    c.set_cursor.ensures.services
    ∙ same_updated (has_service_key c.args.key.now) (stepped_back c.args.id c.args.candidates.now) (λ (service : Service). record service { cursor = record { last = c.before-last.result; cw = c.in-Some.service.cursor.cw } }) c.in-Some.service c.args.services.now
    (sym (c.copied.ensures ∙ c.get.ensures) ∙ c.in-Some.is)
    (back_here c.args.id c.args.candidates.now c.in-Some.service c.before-last.result (sym c.is_last.ensures ∙ c.if-is_last.true) c.before-last.ensures)

pub returns-else-is_last : goal.returns-else-is_last
returns-else-is_last c =
    kept_updated (has_service_key c.args.key.now) (stepped_back c.args.id c.args.candidates.now) c.in-Some.service c.args.services.now (sym (c.copied.ensures ∙ c.get.ensures) ∙ c.in-Some.is)
    (stays_here c.args.id c.args.candidates.now c.in-Some.service (sym c.is_last.ensures ∙ c.if-is_last.false))
