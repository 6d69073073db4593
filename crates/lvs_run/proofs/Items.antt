-- The items of a round, their number and their range.
use Rattle.std.proofs.Common.{◌≡◌, ℕ, ◌+◌, ◌*◌, ◌^◌, ◌≤◌, List, [], ◌∷◌, ◌++◌, Result, Ok, Err, length, map, refl, sym, ap, subst, length-append, arith}
use Rattle.std.specs.List.{flat_map}
use Rattle.lvs_types.specs.declared.item.Item.{Item}
use Rattle.lvs_types.specs.declared.item.Item.TheVariants as item
use Rattle.lvs_types.specs.declared.sync.Message.{Message}
use Rattle.lvs_types.specs.declared.sync.BadSync.{BadSync}
use Rattle.lvs_types.specs.declared.sync.SyncItem.{SyncItem}
use Rattle.lvs_types.specs.declared.script.Round.{Round}
use Rattle.lvs_types.specs.declared.script.ScriptLine.{ScriptLine}
use Rattle.lvs_types.specs.declared.script.ScriptLine.TheVariants as line
use Rattle.lvs_model.specs.MessageReading.{read_sync}
use Rattle.lvs_model.specs.Step.{AreInRange}
use Rattle.lvs_model.specs.Plans.{items_of_message, items_of_line, items_of_lines, serial_order, placed_after, serial_items}
use Rattle.lvs_model.specs.ScriptLimits.{items_in, IsWithinLimits}
use Rattle.lvs_script.specs.Placing.{items_placed}
use Rattle.lvs_run.specs.Limits.{steps_in}

placed_items : (before items : List Item) → items_placed (placed_after before items) ≡ items
placed_items before [] = refl
placed_items before (i ∷ items) = ap (λ (rest : List Item). i ∷ rest) (placed_items (before ++ i ∷ []) items)

placed_count : (before items : List Item) → length (placed_after before items) ≡ length items
placed_count before [] = refl
placed_count before (i ∷ items) = omega (arith, placed_count (before ++ i ∷ []) items)

-- a sweep, a reaping and a sending beside the items of the lines
pub serial_count : (round : Round) → length (serial_items round) ≡ length (items_of_lines round) + 3
serial_count round = omega (arith, placed_count [] (serial_order round), length-append (items_of_lines round) (item.SendSync ∷ []))

range_append : (xs ys : List Item) → AreInRange xs → AreInRange ys → AreInRange (xs ++ ys)
range_append [] ys a b = b
range_append (x ∷ xs) ys a b = (a.0, range_append xs ys a.1 b)

range_learn : (sync_id : ℕ) (items : List SyncItem) → AreInRange (map (λ (r : SyncItem). item.Learn sync_id r) items)
range_learn sync_id [] = tt
range_learn sync_id (i ∷ items) = (tt, range_learn sync_id items)

range_message : (read : Result Message BadSync) → AreInRange (items_of_message read)
range_message (Err why) = (tt, tt)
range_message (Ok message) = range_learn message.sync_id message.items

range_line : (l : ScriptLine) → AreInRange (items_of_line l)
range_line (line.Incoming mark bytes) = (tt, tt)
range_line (line.Outgoing bytes) = (tt, tt)
range_line (line.Edit command) = (tt, tt)
range_line (line.Set setting) = (tt, tt)
range_line (line.Sync bytes) = range_message (read_sync bytes)
range_line (line.Show shown) = tt

range_lines : (ls : List ScriptLine) → AreInRange (flat_map items_of_line ls)
range_lines [] = tt
range_lines (l ∷ ls) = range_append (items_of_line l) (flat_map items_of_line ls) (range_line l) (range_lines ls)

-- no line names a moment
pub serial_range : (round : Round) → AreInRange (items_placed (serial_items round))
serial_range round =
    let P : List Item → Type 0 = λ l. AreInRange l in
    subst P (sym (placed_items [] (serial_order round))) (tt, (tt, range_append (items_of_lines round) (item.SendSync ∷ []) (range_lines round.lines) (tt, tt)))

all_steps : (rounds : List Round) → steps_in rounds ≡ 18 * items_in rounds + 300 * length rounds
all_steps [] = refl
all_steps (round ∷ rounds) = omega (arith, all_steps rounds)

-- a script within the limits has few steps
pub few_steps : (rounds : List Round) → IsWithinLimits rounds → steps_in rounds ≤ 2 ^ 62
few_steps rounds within = omega (arith, all_steps rounds, within.items, within.few)
