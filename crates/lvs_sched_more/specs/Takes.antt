-- Which servers fo and ovf pick from.
use Rattle.std.specs.Prelude.{Bool}
use Rattle.lvs_types.specs.declared.dest.Candidate.{Candidate}
use Rattle.lvs_model.specs.MorePicks.{is_eligible_candidate, has_room}
use Rattle.lvs_sched_more.specs.declared.heaviest.Among.{Among}
use Rattle.lvs_sched_more.specs.declared.heaviest.Among.TheVariants.{Eligible, WithRoom}

abbrev pub takes : Among → Candidate → Bool
takes Eligible server = is_eligible_candidate server
takes WithRoom server = has_room server
