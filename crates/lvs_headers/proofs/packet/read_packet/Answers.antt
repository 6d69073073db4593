use Rattle.std.proofs.Common.{◌≡◌, Ok, ◌∙◌, sym, rules}
use Rattle.lvs_model.specs.Reading.{read, total_of}
use Rattle.lvs_headers.proofs.Again.{read_again}
use Rattle.lvs_headers.proofs.packet.read_packet.Goals as goal

pub returns-clause-again : goal.returns-clause-again
returns-clause-again c =
    let reads : read c.args.bytes.now ≡ Ok c.in_ok-head.head = c.in_ok-check_header.ensures.reading ∙ sym c.in_ok-head.ensures in
    let cut : c.from.result ≡ total_of c.args.bytes.now = search rules in
    rw cut (read_again c.args.bytes.now c.in_ok-head.head reads)
