use Rattle.std.proofs.Common.{append_assoc}
use Rattle.lvs_sync_codec.proofs.writing.put_new_record.Goals as goal

pub returns : goal.returns
returns c =
    rw (c.in_ok-put_addresses.ensures, c.in_ok-put_number-3.ensures, c.in_ok-put_number-2.ensures, c.in_ok-put_ports.ensures, c.in_ok-put_word-2.ensures, c.in_ok-put_number.ensures, c.in_ok-put_word.ensures, c.in_ok-extend_from_slice.ensures.items) (simp append_assoc)
