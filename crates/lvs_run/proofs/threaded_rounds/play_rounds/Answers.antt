use Rattle.std.proofs.Common.{List, [], ◌∷◌, ◌++◌, length, ◌∙◌, ap, subst, length-append, arith, sym}
use Rattle.lvs_types.specs.declared.book.RoundBook.{RoundBook}
use Rattle.lvs_model.specs.ScriptLimits.{AreMoments}
use Rattle.lvs_run.specs.Limits.{steps_in}
use Rattle.lvs_run.specs.Ways.{threaded_way}
use Rattle.lvs_run.specs.Written.{all_written_of}
use Rattle.lvs_run.proofs.Books.{all_but_last, appends_book, part_whole, part_without_last}
use Rattle.lvs_run.proofs.CrewLemmas.{crew_left, not_err}
use Rattle.lvs_run.proofs.Runs.{next_round, played_on}
use Rattle.lvs_run.proofs.threaded_rounds.play_rounds.Goals as goal

pub returns-then-is_err-clause-played : goal.returns-then-is_err-clause-played
returns-then-is_err-clause-played g c = (c.loop-round.core.state, rw (c.stopped.ensures.rounds, c.reserve.ensures.items) c.loop-round.invariant.played)

pub returns-then-is_err-clause-written : goal.returns-then-is_err-clause-written
returns-then-is_err-clause-written g c =
    rw (c.stopped.ensures.wrote, c.stopped.ensures.rounds, c.reserve.ensures.items) (part_whole (g.K.Sink.written c.args.sink.now) (g.K.Sink.written c.loop-round.sink) (all_written_of c.args.output c.loop-round.books.items) c.loop-round.invariant.written)

pub returns-in_default-clause-played : goal.returns-in_default-clause-played
returns-in_default-clause-played g c = (c.loop-round.core.state, rw (c.stopped-in_default.ensures.rounds, c.reserve.ensures.items) c.loop-round.invariant.played)

pub returns-in_default-clause-written : goal.returns-in_default-clause-written
returns-in_default-clause-written g c =
    rw (c.stopped-in_default.ensures.wrote, c.stopped-in_default.ensures.rounds, c.reserve.ensures.items) (part_whole (g.K.Sink.written c.args.sink.now) (g.K.Sink.written c.loop-round.sink) (all_written_of c.args.output c.loop-round.books.items) c.loop-round.invariant.written)

pub returns-in-Prefix-clause-played : goal.returns-in-Prefix-clause-played
returns-in-Prefix-clause-played g c = (c.in-Ok.left.state, rw c.stopped-in-Prefix.ensures.rounds (played_on (threaded_way c.args.crew.now.workers c.args.crew.now.buckets) c.args.core.state c.args.rounds.now c.loop-round.books.items c.push_reserved.new.self.items c.loop-round.round-index c.len.result c.round-item.result c.in-Ok.book c.loop-round.core.state c.in-Ok.left.state c.loop-round.invariant.played c.loop-round.invariant.count (next_round c.args.rounds.now c.loop-round.round-index c.round-item.result c.loop-round-test.true c.round-item.is) (omega (arith, c.len.ensures, c.reserve.new.self.ok.0, ap length c.reserve.ensures.items, c.loop-round.invariant.count)) (c.push_reserved.ensures.items ∙ ap (λ (l : List RoundBook). l ++ c.in-Ok.book ∷ []) c.reserve.ensures.items) c.in-Ok.ensures.played))

pub returns-in-Prefix-clause-written : goal.returns-in-Prefix-clause-written
returns-in-Prefix-clause-written g c =
    rw (c.stopped-in-Prefix.ensures.wrote, c.stopped-in-Prefix.ensures.rounds, c.push_reserved.ensures.items, c.reserve.ensures.items) (all_but_last c.args.output (g.K.Sink.written c.args.sink.now) (g.K.Sink.written c.loop-round.sink) (g.K.Sink.written c.write_round-wrote.new.sink) c.loop-round.books.items c.in-Ok.book c.loop-round.invariant.written c.in-Prefix.ensures.text)

pub returns-in-NoMemory-clause-played : goal.returns-in-NoMemory-clause-played
returns-in-NoMemory-clause-played g c = (c.in-Ok.left.state, rw c.stopped-in-NoMemory.ensures.rounds (played_on (threaded_way c.args.crew.now.workers c.args.crew.now.buckets) c.args.core.state c.args.rounds.now c.loop-round.books.items c.push_reserved.new.self.items c.loop-round.round-index c.len.result c.round-item.result c.in-Ok.book c.loop-round.core.state c.in-Ok.left.state c.loop-round.invariant.played c.loop-round.invariant.count (next_round c.args.rounds.now c.loop-round.round-index c.round-item.result c.loop-round-test.true c.round-item.is) (omega (arith, c.len.ensures, c.reserve.new.self.ok.0, ap length c.reserve.ensures.items, c.loop-round.invariant.count)) (c.push_reserved.ensures.items ∙ ap (λ (l : List RoundBook). l ++ c.in-Ok.book ∷ []) c.reserve.ensures.items) c.in-Ok.ensures.played))

pub returns-in-NoMemory-clause-written : goal.returns-in-NoMemory-clause-written
returns-in-NoMemory-clause-written g c =
    rw (c.stopped-in-NoMemory.ensures.wrote, c.stopped-in-NoMemory.ensures.rounds, c.push_reserved.ensures.items, c.reserve.ensures.items) (part_without_last c.args.output (g.K.Sink.written c.args.sink.now) (g.K.Sink.written c.loop-round.sink) (g.K.Sink.written c.write_round-wrote.new.sink) c.loop-round.books.items c.in-Ok.book c.loop-round.invariant.written c.in-NoMemory.ensures.text)

pub write_round-wrote-requires : goal.write_round-wrote-requires
write_round-wrote-requires g c =
    let are = subst AreMoments (next_round c.args.rounds.now c.loop-round.round-index c.round-item.result c.loop-round-test.true c.round-item.is) c.loop-round.invariant.moments in
    record { moment = rw c.in-Ok.ensures.played.legal.sound.moment are.0 }

pub loop-round-preserved : goal.loop-round-preserved
loop-round-preserved g c = record {
  written = rw (c.push_reserved.ensures.items, c.reserve.ensures.items) (appends_book c.args.output (g.K.Sink.written c.args.sink.now) (g.K.Sink.written c.loop-round.sink) (g.K.Sink.written c.write_round-wrote.new.sink) c.loop-round.books.items c.in-Ok.book c.loop-round.invariant.written c.in-All.ensures.text);
  kept = c.in-All.ensures.cause ∙ c.loop-round.invariant.kept;
  crew = crew_left c.args.crew.now.workers c.args.crew.now.buckets c.len.result c.round-item.result c.loop-round.core.state c.in-Ok.left.state c.in-Ok.book c.loop-round.invariant.crew c.in-Ok.ensures.played;
  played = played_on (threaded_way c.args.crew.now.workers c.args.crew.now.buckets) c.args.core.state c.args.rounds.now c.loop-round.books.items c.push_reserved.new.self.items c.loop-round.round-index c.len.result c.round-item.result c.in-Ok.book c.loop-round.core.state c.in-Ok.left.state c.loop-round.invariant.played c.loop-round.invariant.count (next_round c.args.rounds.now c.loop-round.round-index c.round-item.result c.loop-round-test.true c.round-item.is) (omega (arith, c.len.ensures, c.reserve.new.self.ok.0, ap length c.reserve.ensures.items, c.loop-round.invariant.count)) (c.push_reserved.ensures.items ∙ ap (λ (l : List RoundBook). l ++ c.in-Ok.book ∷ []) c.reserve.ensures.items) c.in-Ok.ensures.played;
  count = omega (arith, c.loop-round.invariant.count, ap length c.push_reserved.ensures.items, ap length c.reserve.ensures.items, length-append c.reserve.new.self.items (c.in-Ok.book ∷ []));
  moments = (subst AreMoments (next_round c.args.rounds.now c.loop-round.round-index c.round-item.result c.loop-round-test.true c.round-item.is) c.loop-round.invariant.moments).1;
  young = omega (arith, c.loop-round.invariant.young, c.in-Ok.ensures.few, ap steps_in (next_round c.args.rounds.now c.loop-round.round-index c.round-item.result c.loop-round-test.true c.round-item.is));
}

pub push_reserved-requires : goal.push_reserved-requires
push_reserved-requires g c = omega (arith, not_err c.reserve.result (sym c.is_err.ensures.value ∙ c.if-is_err.false) c.reserve.ensures.ok)
