use Rattle.std.proofs.Common.{◌∙◌, ap, sym, is_some, arith}
use Rattle.lvs_model.specs.State.{State}
use Rattle.lvs_board.specs.Desks.{state_of}
use Rattle.lvs_board.proofs.Counts.{one_if}
use Rattle.lvs_board.proofs.Others.{others_left, others_told, there_told, total_fits}
use Rattle.lvs_board.proofs.desk.Desk.count_others.Goals as goal

pub returns-in_default-clause-value : goal.returns-in_default-clause-value
returns-in_default-clause-value g c =
    let s : State = state_of g.W.Whole.whole c.args.self.now in
    absurd (let here = there_told s.entries s.templates c.args.id s.dests c.args.self.now.dests.rows c.requires.sound.totals.servers c.requires.there in let none = sym c.totals.ensures ∙ c.in_default.is in let gone = ap is_some none in cc)

pub overflow_add-all : goal.overflow_add-all
overflow_add-all g c =
    let s : State = state_of g.W.Whole.whole c.args.self.now in
    let told = others_told s.entries s.templates c.args.id s.dests c.args.self.now.dests.rows c.in-Some.totals c.args.e.now c.requires.sound.totals.servers (sym c.in-Some.is ∙ c.totals.ensures) c.requires.sound.few.entries_apart c.requires.holds.found in
    omega (arith, told, total_fits s.entries c.args.id, others_left s.entries c.args.e.now c.args.id c.requires.sound.few.entries_apart c.requires.holds.found, c.requires.sound.few.few, c.requires.sound.few.young)

pub overflow_sub-result : goal.overflow_sub-result
overflow_sub-result g c =
    let s : State = state_of g.W.Whole.whole c.args.self.now in
    let told = others_told s.entries s.templates c.args.id s.dests c.args.self.now.dests.rows c.in-Some.totals c.args.e.now c.requires.sound.totals.servers (sym c.in-Some.is ∙ c.totals.ensures) c.requires.sound.few.entries_apart c.requires.holds.found in
    let here = ap one_if (sym c.names.ensures ∙ c.if-names.true) in
    omega (arith, told, here)

pub returns-then-names-clause-value : goal.returns-then-names-clause-value
returns-then-names-clause-value g c =
    let s : State = state_of g.W.Whole.whole c.args.self.now in
    let told = others_told s.entries s.templates c.args.id s.dests c.args.self.now.dests.rows c.in-Some.totals c.args.e.now c.requires.sound.totals.servers (sym c.in-Some.is ∙ c.totals.ensures) c.requires.sound.few.entries_apart c.requires.holds.found in
    let here = ap one_if (sym c.names.ensures ∙ c.if-names.true) in
    omega (arith, told, here)

pub returns-then-names-clause-bound : goal.returns-then-names-clause-bound
returns-then-names-clause-bound g c =
    let s : State = state_of g.W.Whole.whole c.args.self.now in
    let told = others_told s.entries s.templates c.args.id s.dests c.args.self.now.dests.rows c.in-Some.totals c.args.e.now c.requires.sound.totals.servers (sym c.in-Some.is ∙ c.totals.ensures) c.requires.sound.few.entries_apart c.requires.holds.found in
    omega (arith, told, total_fits s.entries c.args.id, others_left s.entries c.args.e.now c.args.id c.requires.sound.few.entries_apart c.requires.holds.found, c.requires.sound.few.few, c.requires.sound.few.young)

pub returns-else-names-clause-value : goal.returns-else-names-clause-value
returns-else-names-clause-value g c =
    let s : State = state_of g.W.Whole.whole c.args.self.now in
    let told = others_told s.entries s.templates c.args.id s.dests c.args.self.now.dests.rows c.in-Some.totals c.args.e.now c.requires.sound.totals.servers (sym c.in-Some.is ∙ c.totals.ensures) c.requires.sound.few.entries_apart c.requires.holds.found in
    let here = ap one_if (sym c.names.ensures ∙ c.if-names.false) in
    omega (arith, told, here)

pub returns-else-names-clause-bound : goal.returns-else-names-clause-bound
returns-else-names-clause-bound g c =
    let s : State = state_of g.W.Whole.whole c.args.self.now in
    let told = others_told s.entries s.templates c.args.id s.dests c.args.self.now.dests.rows c.in-Some.totals c.args.e.now c.requires.sound.totals.servers (sym c.in-Some.is ∙ c.totals.ensures) c.requires.sound.few.entries_apart c.requires.holds.found in
    omega (arith, told, total_fits s.entries c.args.id, others_left s.entries c.args.e.now c.args.id c.requires.sound.few.entries_apart c.requires.holds.found, c.requires.sound.few.few, c.requires.sound.few.young)
