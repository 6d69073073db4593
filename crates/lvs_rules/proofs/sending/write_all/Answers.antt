use Rattle.std.proofs.Common.{ℕ, List, Vec, Global, length, arith, ap, sym, ◌∙◌}
use Rattle.lvs_model.specs.Sending.{messages_of}
use Rattle.lvs_rules.proofs.Runs.{goes_on, ends_with, ends_without, flags_drop, some_left, none_left}
use Rattle.lvs_rules.proofs.sending.write_all.Goals as goal
use Rattle.lvs_rules.proofs.sending.write_all.Goals.{then-not-is_empty+in_ok-write_first-2+in_ok-push-2, else-not-is_empty}

pub loop-rest-preserved : goal.loop-rest-preserved
loop-rest-preserved c =
    let rest = c.loop-rest.rest.now in
    record {
      so_far = goes_on c.args.setting c.args.sync_id rest c.split_at.result.0.now c.split_at.result.1.now c.loop-rest.messages.items c.push.new.self.items c.in_ok-write_first.field-0 (messages_of c.args.setting c.args.sync_id c.args.records.now) (omega (arith, c.loop-rest-test.true)) c.split_at.ensures.front c.split_at.ensures.back c.in_ok-write_first.ensures c.in_ok-push.ensures.items c.loop-rest.invariant.so_far;
      flags = rw c.split_at.ensures.back (flags_drop 40 rest c.loop-rest.invariant.flags);
    }

pub returns : goal.returns
returns c =
    let rest = c.loop-rest.rest.now in
    let all = messages_of c.args.setting c.args.sync_id c.args.records.now in
    elim c.if-not-is_empty.branch [
      | then-not-is_empty+in_ok-write_first-2+in_ok-push-2 w ↦
          c.from_vec.ensures ∙ ap (λ (v : Vec (List ℕ) Global). v.items) w.messages-is
          ∙ ends_with c.args.setting c.args.sync_id rest c.loop-rest.messages.items w.push-then-not-is_empty.new.self.items w.in_ok-write_first-2.field-0 all (some_left (length rest) (sym w.if-not-is_empty.true ∙ c.is_empty.ensures)) (omega (arith, c.loop-rest-test.false)) w.in_ok-write_first-2.ensures w.in_ok-push-2.ensures.items c.loop-rest.invariant.so_far
      | else-not-is_empty w ↦
          c.from_vec.ensures ∙ ap (λ (v : Vec (List ℕ) Global). v.items) w.messages-is
          ∙ ends_without c.args.setting c.args.sync_id rest c.loop-rest.messages.items all (none_left (length rest) (sym w.if-not-is_empty.false ∙ c.is_empty.ensures)) c.loop-rest.invariant.so_far
    ]
