use Rattle.std.proofs.Common.{refl}
use Rattle.lvs_script.proofs.packets.ip_header_with.Goals as goal

pub returns : goal.returns
returns c = simp (c.word_bytes.ensures, c.addr_bytes.ensures, c.addr_bytes-2.ensures) refl
