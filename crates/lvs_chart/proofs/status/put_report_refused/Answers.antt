use Rattle.std.proofs.Common.{decimal, codes, string_bytes}
use Rattle.lvs_chart.proofs.FaultTexts.{two_texts}
use Rattle.lvs_chart.proofs.status.put_report_refused.Goals as goal

pub returns : goal.returns
returns c = two_texts c.put_number.result (string_bytes c.put_number.new.out) (string_bytes c.put.new.out) (string_bytes c.args.out.now) (codes "ipvsd_chart: report refused, line ") (decimal c.args.line) c.in_ok-put.ensures c.put_number.ensures
