use Rattle.std.proofs.Common.{rules}
use Rattle.lvs_shared.proofs.Playing.{is_young, counted_at, found_in, is_added, is_played}
use Rattle.lvs_shared.proofs.played.decide_next.Goals as goal

pub decide-requires-clause-counted : goal.decide-requires-clause-counted
decide-requires-clause-counted g c = counted_at c.args.origin.now.value c.args.board.now c.args.changes.now.items c.args.placed c.args.found c.requires.played c.requires.may g.W.Whole.whole c.requires.whole

pub decide-requires-clause-young : goal.decide-requires-clause-young
decide-requires-clause-young g c = is_young c.args.origin.now.value c.args.board.now c.args.changes.now.items c.args.placed c.args.found c.requires.played c.requires.may

pub decide-requires-clause-found : goal.decide-requires-clause-found
decide-requires-clause-found g c = found_in c.args.origin.now.value c.args.board.now c.args.changes.now.items c.args.placed c.args.found c.requires.played c.requires.may g.W.Whole.whole c.requires.whole

pub returns-in-Ok-decide-clause-ok : goal.returns-in-Ok-decide-clause-ok
returns-in-Ok-decide-clause-ok g c = is_added c.args.origin.now.value c.args.board.now c.args.changes.now.items c.args.placed c.args.found c.requires.played c.requires.may g.W.Whole.whole c.requires.whole c.decide.new.self c.push_reserved.new.self.items c.in-Ok-decide.change c.in-Ok-decide.ensures.stands c.in-Ok-decide.ensures.book c.in-Ok-decide.ensures.change c.in-Ok-decide.ensures.steps (search rules)

pub returns-in-Ok-decide-clause-played : goal.returns-in-Ok-decide-clause-played
returns-in-Ok-decide-clause-played g c = is_played c.args.origin.now.value c.args.board.now c.args.changes.now.items c.args.placed c.args.found c.requires.played c.requires.may g.W.Whole.whole c.requires.whole c.decide.new.self c.push_reserved.new.self.items c.in-Ok-decide.change c.in-Ok-decide.ensures.stands c.in-Ok-decide.ensures.book c.in-Ok-decide.ensures.change c.in-Ok-decide.ensures.steps (search rules)
