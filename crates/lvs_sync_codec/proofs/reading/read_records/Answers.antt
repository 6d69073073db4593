use Rattle.std.proofs.Common.{rules}
use Rattle.lvs_model.specs.MessageReading.{records_by}
use Rattle.lvs_sync_codec.specs.Codec.{reader}
use Rattle.lvs_sync_codec.proofs.OneByOne.{next_record, bad_record}
use Rattle.lvs_sync_codec.proofs.reading.read_records.Goals as goal

pub returns-in_err-item : goal.returns-in_err-item
returns-in_err-item c =
    let whole = bad_record (reader c.args.version) c.records.items.items c.in_err-item.field-0.0 c.records.rest.now c.args.count c.records.counter (records_by (reader c.args.version) c.args.count c.args.bytes.now) c.records-test.true c.in_err-item.ensures c.records.invariant in
    search rules

pub records-preserved : goal.records-preserved
records-preserved c =
    let next = next_record (reader c.args.version) c.records.items.items c.in_ok-item.item c.records.rest.now c.in_ok-item.after.now c.args.count c.records.counter (records_by (reader c.args.version) c.args.count c.args.bytes.now) c.records-test.true c.in_ok-item.ensures c.records.invariant in
    rw c.in_ok-push.ensures.items next
