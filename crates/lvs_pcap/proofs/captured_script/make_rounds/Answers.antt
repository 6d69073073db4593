use Rattle.std.proofs.Common.{◌≡◌, ◌∷◌, rules}
use Rattle.std.specs.Vec.Iter.{into_iter_items}
use Rattle.lvs_model.specs.Captured.{last_moment}
use Rattle.lvs_pcap.specs.Frames.{with_frames, none_made_behind}
use Rattle.lvs_pcap.specs.Reading.{IsRefusal}
use Rattle.lvs_pcap.proofs.FrameLemmas.{stop_frames}
use Rattle.lvs_pcap.proofs.captured_script.make_rounds.Goals as goal

pub returns-in_err-moment-clause-refused : goal.returns-in_err-moment-clause-refused
returns-in_err-moment-clause-refused c =
    let whole = with_frames c.args.rule 1 (last_moment c.args.script.now) c.args.frames.items (none_made_behind c.args.script.now) in
    let rest : into_iter_items c.loop-frame.frame-iterator ≡ c.in-Some.frame ∷ into_iter_items c.next.new.self = search rules in
    let is : IsRefusal whole c.in_err-moment.field-0.0 = stop_frames c.args.rule c.loop-frame.at c.loop-frame.moment (into_iter_items c.loop-frame.frame-iterator) (into_iter_items c.next.new.self) c.in-Some.frame c.loop-frame.maker whole c.in_err-moment.field-0.0 rest c.loop-frame.invariant.so_far c.in_err-moment.ensures.refused in
    search rules
