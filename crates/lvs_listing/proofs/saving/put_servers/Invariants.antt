use Rattle.std.proofs.Common.{◌≡◌, ◌++◌, drop}
use Rattle.lvs_model.specs.Listings.{saved_servers, rows_of}
use Rattle.lvs_listing.proofs.saving.put_servers.Given as goal

abbrev pub invariant-loop-row : goal.invariant-loop-row
invariant-loop-row l = l.out.items ++ saved_servers l.key (rows_of l.key (drop l.row-index l.rows)) ≡ l.initial.out.items ++ saved_servers l.key (rows_of l.key l.rows)
