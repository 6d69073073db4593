use Rattle.std.proofs.Common.{decimal, codes, string_bytes}
use Rattle.lvs_model.specs.FaultLines.{capture_cause_text}
use Rattle.lvs_run.proofs.FaultTexts.{four_texts}
use Rattle.lvs_run.proofs.fault.put_capture_refused.Goals as goal

pub returns : goal.returns
returns c =
    four_texts c.put_capture_cause.result (string_bytes c.put_capture_cause.new.out) (string_bytes c.put-2.new.out) (string_bytes c.put_number.new.out) (string_bytes c.put.new.out) (string_bytes c.args.out.now) (codes "ipvsd: capture refused, record ") (decimal c.args.at) (codes ": ") (capture_cause_text c.args.cause) c.in_ok-put.ensures c.in_ok-put_number.ensures c.in_ok-put-2.ensures c.put_capture_cause.ensures
