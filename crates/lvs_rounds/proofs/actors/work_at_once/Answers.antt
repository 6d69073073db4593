use Rattle.std.proofs.Common.{arith}
use Rattle.lvs_rounds.proofs.Seated.{numbers_kept}
use Rattle.lvs_rounds.proofs.actors.work_at_once.Goals as goal

pub returns : goal.returns
returns g c = numbers_kept g.D.Works.actor c.args.seats.items c.in_ok-map_vec.field-0.items (omega (arith, c.in_ok-map_vec.ensures.len, c.in_ok-map_vec.field-0.ok, c.args.seats.ok)) (λ i d lt. let at = (c.in_ok-map_vec.ensures.each i d lt).1 in (at.job, at.job_is, at.call.met))
