use Rattle.std.proofs.Common.{◌≡◌, ◌-◌}
use Rattle.lvs_model.specs.MessageReading.{records_by}
use Rattle.lvs_sync_codec.proofs.OneByOne.{onto}
use Rattle.lvs_sync_codec.specs.Codec.{reader}
use Rattle.lvs_sync_codec.proofs.reading.read_records.Given as goal

abbrev pub invariant-records : goal.invariant-records
invariant-records l = onto l.items.items (records_by (reader l.version) (l.count - l.counter) l.rest) ≡ records_by (reader l.version) l.count l.bytes
