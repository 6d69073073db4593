use Rattle.std.proofs.Common.{refl}
use Rattle.lvs_rewrite.proofs.tunnel.outer_with.Goals as goal

-- src/tunnel.rt:31:1
pub returns : goal.returns
returns c = simp (c.word_bytes.ensures, c.word_bytes-2.ensures, c.word_bytes-3.ensures, c.addr_bytes.ensures, c.addr_bytes-2.ensures, c.flags_byte-flags.ensures) refl
