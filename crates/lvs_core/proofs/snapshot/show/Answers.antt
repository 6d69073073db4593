use Rattle.std.proofs.Common.{◌∙◌, ap, List}
use Rattle.lvs_types.specs.declared.entry.Entry.{Entry}
use Rattle.lvs_model.specs.Lists.{sorted_by}
use Rattle.lvs_core.proofs.Begun.{ids_once, snapshot_is}
use Rattle.lvs_core.proofs.snapshot.show.Goals as goal

pub sort_entries-entries-requires : goal.sort_entries-entries-requires
sort_entries-entries-requires g c = record { once = λ n. rw c.in_ok-gather.ensures (ids_once c.args.board.now c.args.buckets.now g.W.Whole.whole c.requires.agree n) }

pub returns : goal.returns
returns g c =
    ap (λ (es : List Entry). record c.in_ok-shown.shown { entries = es }) (c.from_vec.ensures ∙ c.sort_entries-entries.ensures ∙ ap (sorted_by (λ (e : Entry). e.id)) c.in_ok-gather.ensures)
    ∙ snapshot_is c.args.board.now c.args.buckets.now g.W.Whole.whole c.in_ok-shown.shown c.requires.agree (c.in_ok-shown.ensures g.W.Whole.whole c.requires.agree.stands)
