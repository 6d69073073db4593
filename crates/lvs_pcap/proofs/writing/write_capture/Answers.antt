use Rattle.std.proofs.Common.{◌≡◌, ◌∙◌, sym, arith, [], ◌++◌, drop, flat_map, append-nil}
use Rattle.std.proofs.lemmas.List.{at_drop_all}
use Rattle.lvs_model.specs.CaptureFiles.{capture_bytes, header_bytes, record_bytes}
use Rattle.lvs_pcap.proofs.Again.{file_again}
use Rattle.lvs_pcap.proofs.FileLemmas.{append_one}
use Rattle.lvs_pcap.proofs.writing.write_capture.Goals as goal

pub loop-frame-preserved : goal.loop-frame-preserved
loop-frame-preserved c =
    append_one record_bytes c.loop-frame.out.items c.put_record.new.out.items (header_bytes ++ flat_map record_bytes c.args.frames.now) c.loop-frame.frame-index c.args.frames.now c.frame-item.result c.loop-frame-test.true c.frame-item.is c.in_ok-put_record.ensures c.loop-frame.invariant

pub returns-clause-again : goal.returns-clause-again
returns-clause-again c =
    let none : flat_map record_bytes (drop c.loop-frame.frame-index c.args.frames.now) ≡ [] = at_drop_all (flat_map record_bytes) c.args.frames.now c.loop-frame.frame-index (omega arith) in
    let whole = rw none at c.loop-frame.invariant in
    let file : c.loop-frame.out.items ≡ capture_bytes c.args.frames.now = sym (append-nil c.loop-frame.out.items) ∙ whole in
    rw (c.from_vec.ensures, file) (file_again c.args.frames.now)
