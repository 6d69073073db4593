use Rattle.std.proofs.Common.{◌<◌, ◌∙◌, ap, not, List}
use Rattle.lvs_types.specs.declared.entry.Entry.{Entry}
use Rattle.lvs_model.specs.Lists.{without}
use Rattle.lvs_model.specs.Lookups.{has_entry_id, has_key, entry_at}
use Rattle.lvs_model.proofs.OrderLemmas.{all_filter, find_none}
use Rattle.lvs_bucket.proofs.Rising.{there, key_free}
use Rattle.lvs_bucket.proofs.changes.swap.Goals as goal

pub put-requires-clause-older : goal.put-requires-clause-older
put-requires-clause-older c =
    rw c.end.ensures.entries (all_filter (λ (e : Entry). e.id < c.args.entry.id) (λ e. not (has_entry_id c.args.id e)) c.args.entries.now.entries c.requires.older)

pub put-requires-clause-free : goal.put-requires-clause-free
put-requires-clause-free c =
    let es = c.args.entries.now.entries in
    let key = c.args.entry.key in
    ap (λ (ds : List Entry). entry_at key ds) c.end.ensures.entries
    ∙ find_none (has_key key) (without (has_entry_id c.args.id) es) (key_free c.args.id key es c.requires.pair.listed (there c.args.id key es c.requires.there))
