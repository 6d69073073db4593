use Rattle.std.proofs.Common.{◌≡◌, ◌++◌, drop, flat_map}
use Rattle.lvs_model.specs.CaptureFiles.{header_bytes, record_bytes}
use Rattle.lvs_pcap.proofs.writing.write_capture.Given as goal

abbrev pub invariant-loop-frame : goal.invariant-loop-frame
invariant-loop-frame l = l.out.items ++ flat_map record_bytes (drop l.frame-index l.frames) ≡ header_bytes ++ flat_map record_bytes l.frames
