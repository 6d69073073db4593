-- The flags of the code in the words of the definitions.
use Rattle.lvs_states.specs.declared.flag.Flag.{Flag}
use Rattle.lvs_states.specs.declared.flag.Flag.TheVariants as flag
use Rattle.lvs_model.specs.TcpStates.{Flag as Meant, Syn, Fin, Ack, Rst}

abbrev pub flag_named : Flag → Meant
flag_named flag.Syn = Syn
flag_named flag.Fin = Fin
flag_named flag.Ack = Ack
flag_named flag.Rst = Rst
