use Rattle.std.proofs.Common.{length, sym, ap}
use denote.Param.Send.{sendable}
use Rattle.std.proofs.Crossing.{crosses}
use Rattle.lvs_book.proofs.book.Book.TheSendSync as book
use Rattle.lvs_shared.proofs.chamber.Chamber.TheSendSync as chamber
use Rattle.lvs_shared.proofs.Crossings.{played_send}
use Rattle.lvs_shared.specs.Rounds.{DirectorSeen}
use Rattle.lvs_rounds.proofs.Seated.{seats_begun, seats_kept, whole_of}
use Rattle.lvs_rounds.proofs.round.play_named.Goals as goal

pub close-requires : goal.close-requires
close-requires g c = record {
  all = seats_kept c.in-Ok.seats.items c.in_ok-seats.seats.items 0 (length c.in-Ok.director.origin.plan.lists) c.in_ok-seats.ensures (seats_begun c.args.opening c.in-Ok.director.origin c.in-Ok.seats.items (ap (λ (x : DirectorSeen). x.origin) (sym c.in-Ok.ensures.director)) c.in-Ok.ensures.seats);
}

pub returns-in-Ok-close-clause-whole : goal.returns-in-Ok-close-clause-whole
returns-in-Ok-close-clause-whole g c = whole_of c.in-Ok.director c.args.opening c.in-Ok-close.played.1 c.are_at_end.result c.deref.result.now c.in_ok-seats.seats.items c.in-Ok.ensures.director (search) c.deref.ensures.value c.are_at_end.ensures c.in-Ok-close.ensures.whole

pub work_at_once-requires-sync-D : goal.work_at_once-requires-sync-D
work_at_once-requires-sync-D g c κs within = search (sendable, crosses, book.the_sync, chamber.the_send, played_send) depth 30
