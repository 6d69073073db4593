use Rattle.std.proofs.Common.{◌≡◌, Result, Ok, Err, sym, subst, rules}
use Rattle.std.specs.Prelude.{IfOk, IfSome}
use Rattle.lvs_types.specs.declared.icmp.IcmpAnswer.{IcmpAnswer}
use Rattle.lvs_types.specs.declared.memory.NoMemory.{NoMemory}
use Rattle.lvs_sum.proofs.Keeping.{AreBytes}
use Rattle.lvs_model.specs.IcmpErrors.{icmp_answer}
use Rattle.lvs_icmp.specs.Recognised.{rewritten_of, IsRight, IsRecognised}
use Rattle.lvs_icmp.proofs.Going.{answer_right, answer_recognised}
use Rattle.lvs_icmp.proofs.errors.answer.Goals as goal

-- what holds of the definition's answer holds of the call's
of_answer : (r : Result IcmpAnswer NoMemory) (a : IcmpAnswer) (P : IcmpAnswer → Type 0) → IfOk r (λ found. found ≡ a) → P a → IfOk r P
of_answer (Ok found) a P is holds = subst P (sym is) holds
of_answer (Err why) a P is holds = tt

pub returns-clause-right : goal.returns-clause-right
returns-clause-right c =
    let are : AreBytes c.args.bytes.now = (λ k. search rules) in
    of_answer c.answer_to.result (icmp_answer c.args.tables.now c.args.side c.args.bytes.now) (λ (a : IcmpAnswer). IfSome (rewritten_of a) IsRight) c.answer_to.ensures (answer_right c.args.tables.now c.args.side c.args.bytes.now are)

pub returns-clause-recognised : goal.returns-clause-recognised
returns-clause-recognised c =
    let are : AreBytes c.args.bytes.now = (λ k. search rules) in
    of_answer c.answer_to.result (icmp_answer c.args.tables.now c.args.side c.args.bytes.now) (λ (a : IcmpAnswer). IfSome (rewritten_of a) (IsRecognised c.args.tables.now c.args.side c.args.bytes.now)) c.answer_to.ensures (answer_recognised c.args.tables.now c.args.side c.args.bytes.now are)
