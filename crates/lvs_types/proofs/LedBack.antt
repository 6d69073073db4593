-- Each name and number leads back to what has it.
use Rattle.std.proofs.Common.{◌≡◌, Some, refl}
use Rattle.lvs_types.specs.declared.service.Proto.{Proto}
use Rattle.lvs_types.specs.declared.service.Proto.TheVariants.{Tcp, Udp}
use Rattle.lvs_types.specs.declared.service.Method.{Method}
use Rattle.lvs_types.specs.declared.service.Method.TheVariants.{Masq, Tunnel, Direct}
use Rattle.lvs_types.specs.declared.service.Scheduler.{Scheduler}
use Rattle.lvs_types.specs.declared.service.Scheduler.TheVariants.{Rr, Wrr, Lc, Wlc, Sed, Nq, Sh, Dh, Fo, Ovf, Mh}
use Rattle.lvs_types.specs.declared.entry.TcpState.{TcpState}
use Rattle.lvs_types.specs.declared.entry.TcpState.TheVariants.{None0, Established, SynSent, SynRecv, FinWait, TimeWait, Close, CloseWait, LastAck, Listen, SynAck}
use Rattle.lvs_types.specs.Protocols.{proto_code, proto_of_code}
use Rattle.lvs_types.specs.Methods.{method_code, method_of_code}
use Rattle.lvs_types.specs.StateNumbers.{state_number, state_of_number}
use Rattle.lvs_types.specs.Schedulers.{scheduler_name, scheduler_named}

pub proto_of_code-proto_code : (p : Proto) → proto_of_code (proto_code p) ≡ Some p
proto_of_code-proto_code Tcp = refl
proto_of_code-proto_code Udp = refl

pub method_of_code-method_code : (m : Method) → method_of_code (method_code m) ≡ Some m
method_of_code-method_code Masq = refl
method_of_code-method_code Tunnel = refl
method_of_code-method_code Direct = refl

pub state_of_number-state_number : (s : TcpState) → state_of_number (state_number s) ≡ Some s
state_of_number-state_number None0 = refl
state_of_number-state_number Established = refl
state_of_number-state_number SynSent = refl
state_of_number-state_number SynRecv = refl
state_of_number-state_number FinWait = refl
state_of_number-state_number TimeWait = refl
state_of_number-state_number Close = refl
state_of_number-state_number CloseWait = refl
state_of_number-state_number LastAck = refl
state_of_number-state_number Listen = refl
state_of_number-state_number SynAck = refl

pub scheduler_named-scheduler_name : (s : Scheduler) → scheduler_named (scheduler_name s) ≡ Some s
scheduler_named-scheduler_name Rr = refl
scheduler_named-scheduler_name Wrr = refl
scheduler_named-scheduler_name Lc = refl
scheduler_named-scheduler_name Wlc = refl
scheduler_named-scheduler_name Sed = refl
scheduler_named-scheduler_name Nq = refl
scheduler_named-scheduler_name Sh = refl
scheduler_named-scheduler_name Dh = refl
scheduler_named-scheduler_name Fo = refl
scheduler_named-scheduler_name Ovf = refl
scheduler_named-scheduler_name Mh = refl
