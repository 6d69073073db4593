use Rattle.std.proofs.Common.{◌≡◌, ◌∙◌, ap, List, ℕ, ◌∷◌, flat_map, filter_map}
use Rattle.lvs_types.specs.declared.item.Item.{Item}
use Rattle.lvs_types.specs.declared.book.RoundPlan.{RoundPlan}
use Rattle.lvs_types.specs.declared.book.Shown.{Shown}
use Rattle.lvs_types.specs.declared.script.ScriptLine.{ScriptLine}
use Rattle.lvs_model.specs.Plans.{items_of_line, items_of_lines, shown_by, clock_items}
use Rattle.lvs_model.specs.Plans.{plan as plan_of}
use Rattle.lvs_script.specs.Planning.{Lists, with_items, empty_lists}
use Rattle.lvs_script.proofs.Planned.{plan_lists}
use Rattle.lvs_script.proofs.planner.plan.Goals as goal

abbrev plan_with : ℕ → ℕ → List (List Item) → List Shown → RoundPlan
plan_with moment buckets lists shown = record { moment = moment; buckets = buckets; lists = lists; shown = shown }

pub returns : goal.returns
returns c =
    let round = c.args.round.now in
    let planner : Lists = c.place_all.new.self in
    let items = c.in_ok-items_of_lines.ensures ∙ ap (flat_map items_of_line) c.as_slice.ensures in
    let placed : planner ≡ with_items (empty_lists c.args.workers) (items_of_lines round) =
    c.in_ok-place_all.ensures
    ∙ ap (λ (l : Lists). with_items l c.in_ok-items_of_lines.field-0.items) c.in_ok-planner.ensures
    ∙ ap (with_items (empty_lists c.args.workers)) items in
    let finished : c.in_ok-finish.field-0 ≡ c.in_ok-clock_items.field-0.items ∷ planner.control ∷ planner.sync ∷ planner.workers =
    c.in_ok-finish.ensures ∙ ap (λ (p : Lists). c.in_ok-clock_items.field-0.items ∷ p.control ∷ p.sync ∷ p.workers) c.planner-2.view_is in
    let lists =
    finished
    ∙ ap (λ (clock : List Item). clock ∷ planner.control ∷ planner.sync ∷ planner.workers) c.in_ok-clock_items.ensures
    ∙ plan_lists c.args.workers (clock_items c.args.buckets) (items_of_lines round) planner placed in
    let shown = c.in_ok-listings.ensures ∙ ap (λ (lines : List ScriptLine). filter_map shown_by lines) c.as_slice-2.ensures in
    ap (λ (l : List (List Item)). plan_with round.moment c.args.buckets l c.in_ok-listings.field-0) lists
    ∙ ap (plan_with round.moment c.args.buckets (plan_of round c.args.workers c.args.buckets).lists) shown
