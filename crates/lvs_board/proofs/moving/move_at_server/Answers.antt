use Rattle.std.proofs.Common.{rules, ◌≡◌, List, not, ◌∙◌, sym, ap, None}
use Rattle.lvs_types.specs.declared.dest.DestRow.{DestRow}
use Rattle.lvs_model.specs.Timeouts.{is_active}
use Rattle.lvs_dests.specs.Rows.{DestsSeen, changed, shifted, has_row_id}
use Rattle.lvs_board.proofs.Rows.{moved_rows, kept_rows, unnamed_rows, apart, alike}
use Rattle.lvs_board.proofs.moving.move_at_server.Goals as goal

abbrev with_rows : DestsSeen → List DestRow → DestsSeen
with_rows seen rows = record seen { rows = rows }

pub shift-requires-clause-room : goal.shift-requires-clause-room
shift-requires-clause-room c =
    (c.requires.can c.in-Some.id c.in-Some.is (sym c.is_active.ensures ∙ apart c.is_active.result c.is_active-active.result c.if-is_active-active.true ∙ ap not c.is_active-active.ensures)).0

pub shift-requires-clause-some : goal.shift-requires-clause-some
shift-requires-clause-some c =
    rw c.is_active-active.ensures
    ((c.requires.can c.in-Some.id c.in-Some.is (sym c.is_active.ensures ∙ apart c.is_active.result c.is_active-active.result c.if-is_active-active.true ∙ ap not c.is_active-active.ensures)).1)

pub returns-then-is_active-active : goal.returns-then-is_active-active
returns-then-is_active-active c = λ es ts ds counted found.
    let was = sym c.is_active.ensures ∙ apart c.is_active.result c.is_active-active.result c.if-is_active-active.true ∙ ap not c.is_active-active.ensures in
    c.shift.ensures
    ∙ ap (with_rows c.args.dests.now)
    (ap (λ b. changed (has_row_id c.in-Some.id) (shifted b) c.args.dests.now.rows) c.is_active-active.ensures
    ∙ ap (λ (rows : List DestRow). changed (has_row_id c.in-Some.id) (shifted (is_active c.args.after.now.state)) rows) counted
    ∙ moved_rows es ts c.args.before.now c.args.after.now c.in-Some.id ds found c.in-Some.is c.requires.server was)

pub returns-else-is_active-active : goal.returns-else-is_active-active
returns-else-is_active-active c = λ es ts ds counted found.
    ap (with_rows c.args.dests.now) (counted
    ∙ kept_rows es ts c.args.before.now c.args.after.now ds found c.requires.server (sym c.is_active-active.ensures ∙ alike c.is_active.result c.is_active-active.result c.if-is_active-active.false ∙ c.is_active.ensures))

pub returns-in_default : goal.returns-in_default
returns-in_default c = λ es ts ds counted found.
    let none : c.args.after.now.server ≡ None = search rules in
    ap (with_rows c.args.dests.now) (counted ∙ unnamed_rows es ts c.args.before.now c.args.after.now ds found c.requires.server none)
