-- A packet that the director looks at: unfragmented TCP or UDP.
use Rattle.std.specs.Prelude.{ℕ, not, Bool, true, false, ◌&&◌, ◌||◌, List, nat_lt}
use Rattle.lvs_types.specs.declared.head.Head.{Head}
use Rattle.lvs_types.specs.declared.service.Proto.{Proto}
use Rattle.lvs_types.specs.declared.service.Proto.TheVariants.{Tcp, Udp}
use Rattle.lvs_types.specs.declared.settings.Settings.{Settings}
use Rattle.lvs_types.specs.declared.entry.Key.{Key}

-- a packet with its mark and protocol
pub record Packet : Type 0 where
  pub mark : ℕ
  pub proto : Proto
  pub head : Head
  -- the bytes up to the total length
  pub bytes : List ℕ

-- the client's side is the source
abbrev pub key_of : Proto → Head → Key
key_of proto head = record { proto = proto; caddr = head.src; cport = head.sport; vaddr = head.dst; vport = head.dport }

-- a TCP packet with SYN and without RST
abbrev pub is_syn_of : Proto → Head → Bool
is_syn_of Tcp head = head.syn && not head.rst
is_syn_of Udp head = false

-- whether it may make a connection: not where it resets one, and only with SYN where sloppy_tcp is 0 (the Linux ipvs-sysctl document)
abbrev pub may_connect : Settings → Proto → Head → Bool
may_connect settings Tcp head = not head.rst && (head.syn || nat_lt 0 settings.sloppy_tcp)
may_connect settings Udp head = true
