-- From where to where an embedded packet went.
use Rattle.std.specs.Prelude.{ℕ, List}
use Rattle.lvs_types.specs.declared.service.Proto.{Proto}
use Rattle.lvs_model.specs.IcmpErrors.{source_of, source_port_of, destination_of, destination_port_of}
use Rattle.lvs_icmp.specs.declared.embedded.Sides.{Sides}

abbrev pub sides_of : Proto → List ℕ → Sides
sides_of proto packet = record {
  proto = proto;
  src = source_of packet;
  sport = source_port_of packet;
  dst = destination_of packet;
  dport = destination_port_of packet;
}
