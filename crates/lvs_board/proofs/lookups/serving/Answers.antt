use Rattle.std.proofs.Common.{◌≡◌, ◌&&◌, ◌∙◌, sym, subst, Option, Some}
use Rattle.std.specs.Option.{IfSome}
use Rattle.lvs_types.specs.declared.dest.Dest.{Dest}
use Rattle.lvs_model.specs.Binding.{serves_at}
use Rattle.lvs_model.specs.Lookups.{is_server_of, dest_at}
use Rattle.lvs_dests.specs.Rows.{dests_of}
use Rattle.lvs_board.proofs.Rowed.{dest_found, found_serves}
use Rattle.lvs_board.proofs.lookups.serving.Goals as goal

pub returns-clause-server : goal.returns-clause-server
returns-clause-server c = c.copied.ensures ∙ c.find.ensures ∙ dest_found (λ (d : Dest). is_server_of c.args.key d && serves_at c.args.daddr c.args.dport c.args.vport d) c.args.dests.now.rows

pub returns-clause-serves : goal.returns-clause-serves
returns-clause-serves c =
    let ds = dests_of c.args.dests.now.rows in
    let p : Dest → _ = λ d. is_server_of c.args.key d && serves_at c.args.daddr c.args.dport c.args.vport d in
    subst (λ (o : Option Dest). IfSome o (λ d. dest_at d.id ds ≡ Some d)) (sym (c.copied.ensures ∙ c.find.ensures ∙ dest_found p c.args.dests.now.rows)) (found_serves p ds c.requires.apart)
