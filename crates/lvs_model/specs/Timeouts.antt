-- How long an entry of a state is kept, and which states count as active (ipvsadm(8), --set; the other timeouts are those of Linux ipvs).
use Rattle.std.specs.Prelude.{ℕ, Bool, true, false, Option, Some, None}
use Rattle.lvs_types.specs.declared.settings.Settings.{Settings}
use Rattle.lvs_types.specs.declared.entry.TcpState.{TcpState}
use Rattle.lvs_types.specs.declared.entry.TcpState.TheVariants.{None0, Established, SynSent, SynRecv, FinWait, TimeWait, Close, CloseWait, LastAck, Listen, SynAck}

-- in seconds; without a state it is that of UDP
abbrev pub timeout_of : Settings → Option TcpState → ℕ
timeout_of settings (Some None0) = 2
timeout_of settings (Some Established) = settings.established
timeout_of settings (Some SynSent) = 120
timeout_of settings (Some SynRecv) = 60
timeout_of settings (Some FinWait) = settings.fin_wait
timeout_of settings (Some TimeWait) = 120
timeout_of settings (Some Close) = 10
timeout_of settings (Some CloseWait) = 60
timeout_of settings (Some LastAck) = 30
timeout_of settings (Some Listen) = 120
timeout_of settings (Some SynAck) = 120
timeout_of settings None = settings.udp

-- an entry of this state counts as an active connection of its server (ipvsadm(8), ActiveConn); all others count as inactive, UDP included
abbrev pub is_active : Option TcpState → Bool
is_active (Some None0) = false
is_active (Some Established) = true
is_active (Some SynSent) = false
is_active (Some SynRecv) = false
is_active (Some FinWait) = false
is_active (Some TimeWait) = false
is_active (Some Close) = false
is_active (Some CloseWait) = false
is_active (Some LastAck) = false
is_active (Some Listen) = false
is_active (Some SynAck) = false
is_active None = false
