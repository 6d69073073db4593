-- The numbers of the TCP states, in the state tables and in sync messages (Linux IPVS).
use Rattle.std.specs.Prelude.{ℕ, List, [], ◌∷◌, Option, slice_get}
use Rattle.lvs_types.specs.declared.entry.TcpState.{TcpState}
use Rattle.lvs_types.specs.declared.entry.TcpState.TheVariants.{None0, Established, SynSent, SynRecv, FinWait, TimeWait, Close, CloseWait, LastAck, Listen, SynAck}

-- the number of a state
abbrev pub state_number : TcpState → ℕ
state_number None0 = 0
state_number Established = 1
state_number SynSent = 2
state_number SynRecv = 3
state_number FinWait = 4
state_number TimeWait = 5
state_number Close = 6
state_number CloseWait = 7
state_number LastAck = 8
state_number Listen = 9
state_number SynAck = 10

-- all states, in the order of their numbers
abbrev pub states : List TcpState
states = None0 ∷ Established ∷ SynSent ∷ SynRecv ∷ FinWait ∷ TimeWait ∷ Close ∷ CloseWait ∷ LastAck ∷ Listen ∷ SynAck ∷ []

-- the state of a number
abbrev pub state_of_number : ℕ → Option TcpState
state_of_number number = slice_get states number
