use Rattle.std.proofs.Common.{append_assoc}
use Rattle.lvs_run.proofs.verdict.put_illegal.Goals as goal

pub returns : goal.returns
returns c =
    rw (c.in_ok-put-6.ensures, c.in_ok-put-5.ensures, c.in_ok-put-4.ensures, c.in_ok-put-3.ensures, c.in_ok-put-2.ensures, c.in_ok-put_number.ensures, c.in_ok-put.ensures, c.as_slice.ensures, c.as_slice-2.ensures) (simp append_assoc)
