-- The state of a TCP connection after a packet, as a director that sees one or both sides of it keeps it (RFC 9293, section 3.3.2; the tables are those of Linux ipvs).
use Rattle.std.specs.Prelude.{List, [], ◌∷◌, Option, Some, None, slice_index_or, if◌then◌else◌}
use Rattle.lvs_types.specs.declared.head.Head.{Head}
use Rattle.lvs_types.specs.declared.entry.Direction.{Direction}
use Rattle.lvs_types.specs.declared.entry.Direction.TheVariants.{Input, Output, InputOnly}
use Rattle.lvs_types.specs.declared.entry.TcpState.{TcpState}
use Rattle.lvs_types.specs.declared.entry.TcpState.TheVariants.{Established as ES, SynSent as SS, SynRecv as SR, FinWait as FW, TimeWait as TW, Close as CL, CloseWait as CW, LastAck as LA, Listen as LI}
use Rattle.lvs_types.specs.StateNumbers.{state_number}

-- the flag of a packet that chooses a row
pub data Flag : Type 0 where
  Syn : Flag
  Fin : Flag
  Ack : Flag
  Rst : Flag

-- from the client, of a masqueraded connection: the new states, one for each old state in the order of their numbers
abbrev pub input_row : Flag → List TcpState
--              NO   ES   SS   SR   FW   TW   CL   CW   LA   LI   SA
input_row Syn = SR ∷ ES ∷ ES ∷ SR ∷ SR ∷ SR ∷ SR ∷ SR ∷ SR ∷ SR ∷ SR ∷ []
input_row Fin = CL ∷ CW ∷ SS ∷ TW ∷ TW ∷ TW ∷ CL ∷ CW ∷ LA ∷ LI ∷ TW ∷ []
input_row Ack = ES ∷ ES ∷ SS ∷ ES ∷ FW ∷ TW ∷ CL ∷ CW ∷ CL ∷ LI ∷ ES ∷ []
input_row Rst = CL ∷ CL ∷ CL ∷ SR ∷ CL ∷ CL ∷ CL ∷ CL ∷ LA ∷ LI ∷ SR ∷ []

-- from the real server, of a masqueraded connection: the new states, one for each old state in the order of their numbers
abbrev pub output_row : Flag → List TcpState
--               NO   ES   SS   SR   FW   TW   CL   CW   LA   LI   SA
output_row Syn = SS ∷ ES ∷ SS ∷ SR ∷ SS ∷ SS ∷ SS ∷ SS ∷ SS ∷ LI ∷ SR ∷ []
output_row Fin = TW ∷ FW ∷ SS ∷ TW ∷ FW ∷ TW ∷ CL ∷ TW ∷ LA ∷ LI ∷ TW ∷ []
output_row Ack = ES ∷ ES ∷ SS ∷ ES ∷ FW ∷ TW ∷ CL ∷ CW ∷ LA ∷ ES ∷ ES ∷ []
output_row Rst = CL ∷ CL ∷ SS ∷ CL ∷ CL ∷ TW ∷ CL ∷ CL ∷ CL ∷ CL ∷ CL ∷ []

-- from the client, where the director sees no answer: the new states, one for each old state in the order of their numbers
abbrev pub input_only_row : Flag → List TcpState
--                   NO   ES   SS   SR   FW   TW   CL   CW   LA   LI   SA
input_only_row Syn = SR ∷ ES ∷ ES ∷ SR ∷ SR ∷ SR ∷ SR ∷ SR ∷ SR ∷ SR ∷ SR ∷ []
input_only_row Fin = CL ∷ FW ∷ SS ∷ TW ∷ FW ∷ TW ∷ CL ∷ CW ∷ LA ∷ LI ∷ TW ∷ []
input_only_row Ack = ES ∷ ES ∷ SS ∷ ES ∷ FW ∷ TW ∷ CL ∷ CW ∷ CL ∷ LI ∷ ES ∷ []
input_only_row Rst = CL ∷ CL ∷ CL ∷ SR ∷ CL ∷ CL ∷ CL ∷ CL ∷ LA ∷ LI ∷ CL ∷ []

abbrev pub row : Direction → Flag → List TcpState
row Input flag = input_row flag
row Output flag = output_row flag
row InputOnly flag = input_only_row flag

-- the first flag that is set, in the order rst, syn, fin, ack
abbrev pub first_flag : Head → Option Flag
first_flag head =
    if head.rst then Some Rst
    else (if head.syn then Some Syn
    else (if head.fin then Some Fin
    else (if head.ack then Some Ack
    else None)))

-- the new state by the flag: that of its row, and Close where there is none
abbrev pub state_by : TcpState → Direction → Option Flag → TcpState
state_by old direction None = CL
state_by old direction (Some flag) = slice_index_or (row direction flag) (state_number old) CL

-- the state after a packet
abbrev pub next_state : TcpState → Direction → Head → TcpState
next_state old direction head = state_by old direction (first_flag head)
