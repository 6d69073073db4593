use Rattle.std.proofs.Common.{◌≡◌, ◌∙◌, sym, subst, Option, Some}
use Rattle.std.specs.Option.{IfSome}
use Rattle.lvs_types.specs.declared.dest.Dest.{Dest}
use Rattle.lvs_model.specs.Lookups.{has_dest_id, dest_at}
use Rattle.lvs_dests.specs.Rows.{dests_of}
use Rattle.lvs_board.proofs.Rowed.{dest_found, id_serves}
use Rattle.lvs_board.proofs.lookups.server_of.Goals as goal

pub returns-clause-server : goal.returns-clause-server
returns-clause-server c = c.copied.ensures ∙ c.get.ensures.dest ∙ dest_found (has_dest_id c.args.id) c.args.dests.now.rows

pub returns-clause-serves : goal.returns-clause-serves
returns-clause-serves c =
    let ds = dests_of c.args.dests.now.rows in
    subst (λ (o : Option Dest). IfSome o (λ d. dest_at d.id ds ≡ Some d)) (sym (c.copied.ensures ∙ c.get.ensures.dest ∙ dest_found (has_dest_id c.args.id) c.args.dests.now.rows)) (id_serves c.args.id ds)
