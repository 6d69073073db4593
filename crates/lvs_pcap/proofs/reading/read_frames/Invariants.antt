use Rattle.std.proofs.Common.{◌≡◌, ◌+◌, ◌≤◌, length}
use Rattle.lvs_model.specs.CaptureFiles.{frames_behind}
use Rattle.lvs_pcap.specs.Reading.{AreInSeconds}
use Rattle.lvs_pcap.proofs.FileLemmas.{onto}
use Rattle.lvs_pcap.proofs.reading.read_frames.Given as goal

abbrev pub invariant-loop-rest : goal.invariant-loop-rest
invariant-loop-rest l = record {
  so_far : onto l.frames.items (frames_behind l.order l.at 0 l.rest) ≡ frames_behind l.order 1 24 l.bytes;
  seconds : AreInSeconds l.frames.items;
  counted : l.at + length l.rest ≤ length l.bytes;
}

abbrev pub decreases-loop-rest : goal.decreases-loop-rest
decreases-loop-rest l = length l.rest
