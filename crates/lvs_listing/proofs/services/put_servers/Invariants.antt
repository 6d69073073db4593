use Rattle.std.proofs.Common.{◌≡◌, ◌++◌, drop}
use Rattle.lvs_model.specs.Listings.{server_lines, rows_of}
use Rattle.lvs_listing.proofs.services.put_servers.Given as goal

abbrev pub invariant-loop-row : goal.invariant-loop-row
invariant-loop-row l = l.out.items ++ server_lines (rows_of l.key (drop l.row-index l.rows)) ≡ l.initial.out.items ++ server_lines (rows_of l.key l.rows)
