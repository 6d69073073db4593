use Rattle.std.proofs.Common.{◌≡◌, ◌+◌, length}
use Rattle.std.specs.Vec.Iter.{into_iter_items}
use Rattle.lvs_model.specs.Captured.{last_moment}
use Rattle.lvs_pcap.specs.Frames.{with_frames, none_made_behind}
use Rattle.lvs_pcap.proofs.captured_script.make_rounds.Given as goal

abbrev pub invariant-loop-frame : goal.invariant-loop-frame
invariant-loop-frame l = record {
  can : (goal.iterator-loop-frame).can_next l.frame-iterator;
  finite : (goal.iterator-loop-frame).is_finite l.frame-iterator;
  so_far : with_frames l.rule l.at l.moment (into_iter_items l.frame-iterator) l.maker ≡ with_frames l.rule 1 (last_moment l.script) l.fn.frames.items (none_made_behind l.script);
  counted : l.at + length (into_iter_items l.frame-iterator) ≡ 1 + length l.fn.frames.items;
}
