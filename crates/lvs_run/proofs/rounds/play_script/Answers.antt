use Rattle.std.proofs.Common.{ap, length, arith}
use Rattle.lvs_run.proofs.Items.{few_steps}
use Rattle.lvs_run.specs.Ways.{serial_way}
use Rattle.lvs_run.proofs.LegalLemmas.{books_of_run, no_books_of_run}
use Rattle.lvs_run.proofs.rounds.play_script.Goals as goal

pub play_rounds-requires-clause-young : goal.play_rounds-requires-clause-young
play_rounds-requires-clause-young g c = rw c.as_slice-rounds.ensures (omega (arith, c.in-Ok.ensures.steps, few_steps c.args.script.now.rounds c.requires.within))

pub returns-in-Ok-clause-books : goal.returns-in-Ok-clause-books
returns-in-Ok-clause-books g c =
    books_of_run serial_way c.args.script.now c.in-Ok.director.state c.as_slice-rounds.result.now c.play_rounds.result.rounds.items c.play_rounds.ensures.played.0 c.in-Ok.ensures.state c.as_slice-rounds.ensures c.play_rounds.ensures.played.1

pub returns-in-Ok-clause-all : goal.returns-in-Ok-clause-all
returns-in-Ok-clause-all g c = λ all. omega (arith, c.play_rounds.ensures.all all, ap length c.as_slice-rounds.ensures)

pub returns-in-Err-clause-books : goal.returns-in-Err-clause-books
returns-in-Err-clause-books g c = rw c.nothing_played.ensures.rounds (no_books_of_run serial_way c.args.script.now)
