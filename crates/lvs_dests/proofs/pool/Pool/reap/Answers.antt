use Rattle.std.proofs.Common.{◌≡◌, ◌∙◌, ◌+◌, sym, true, false}
use Rattle.lvs_dests.specs.Pool.{slot_at, is_over_at}
use Rattle.lvs_dests.proofs.Reaped.{over_there, reaping_is, reaping_begins, reaping_skips, reaping_takes, reaped_count, reaped_rows}
use Rattle.lvs_dests.proofs.pool.Pool.reap.Goals as goal
use Rattle.lvs_dests.proofs.pool.Pool.reap.Goals.{then-is_over, else-is_over}

pub loop-key-init : goal.loop-key-init
loop-key-init c = reaping_begins c.args.self.now c.capacity-key-end.result c.requires.whole c.capacity-key-end.ensures.slots

pub loop-key-preserved : goal.loop-key-preserved
loop-key-preserved c =
    let now = c.loop-key.self in
    let key = c.loop-key.key in
    elim c.if-is_over.branch [
      | then-is_over w ↦
          let over : is_over_at (slot_at now key) ≡ true = sym c.is_over.ensures ∙ w.if-is_over.true in
          let at = over_there (slot_at now key) over in
          reaping_is c.args.self.now c.if-is_over.self w.release.new.self c.if-is_over.gone (c.loop-key.gone + 1) (key + 1) c.capacity-key-end.result w.self-is w.gone-is
          (reaping_takes c.args.self.now now c.loop-key.gone key c.capacity-key-end.result c.loop-key.invariant w.release.new.self at.0 at.1 at.2
          w.release.ensures.whole (w.release.ensures.rows at.0 at.1) w.release.ensures.slots w.release.ensures.gone)
      | else-is_over w ↦
          let off : is_over_at (slot_at now key) ≡ false = sym c.is_over.ensures ∙ w.if-is_over.false in
          reaping_is c.args.self.now c.if-is_over.self now c.if-is_over.gone c.loop-key.gone (key + 1) c.capacity-key-end.result w.self-is w.gone-is
          (reaping_skips c.args.self.now now c.loop-key.gone key c.capacity-key-end.result c.loop-key.invariant off)
    ]

pub returns-clause-count : goal.returns-clause-count
returns-clause-count c = reaped_count c.args.self.now c.loop-key.self c.loop-key.gone c.loop-key.key c.capacity-key-end.result c.loop-key.invariant c.loop-key-test.false

pub returns-clause-rows : goal.returns-clause-rows
returns-clause-rows c = reaped_rows c.args.self.now c.loop-key.self c.loop-key.gone c.loop-key.key c.capacity-key-end.result c.loop-key.invariant c.loop-key-test.false
