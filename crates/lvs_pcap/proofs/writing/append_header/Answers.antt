use Rattle.std.proofs.Common.{append_assoc}
use Rattle.lvs_pcap.proofs.writing.append_header.Goals as goal

pub returns : goal.returns
returns c =
    rw (c.in_ok-put_number-5.ensures, c.in_ok-put_number-4.ensures, c.in_ok-put_number-3.ensures, c.in_ok-put_number-2.ensures, c.in_ok-put_word-2.ensures, c.in_ok-put_word.ensures, c.in_ok-put_number.ensures) (simp append_assoc)
