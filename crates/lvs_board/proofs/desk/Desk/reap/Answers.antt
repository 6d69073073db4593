use Rattle.std.proofs.Common.{◌∙◌, sym}
use Rattle.lvs_board.proofs.Reaps.{can_unhold, reap_pair, reap_sound}
use Rattle.lvs_board.proofs.desk.Desk.reap.Goals as goal

pub unhold_servers-requires : goal.unhold_servers-requires
unhold_servers-requires g c = can_unhold g.W.Whole.whole c.args.self.now c.deref.result.now c.requires.sound (c.deref.ensures.value ∙ c.in_ok-due.ensures.gone)

pub returns-clause-sound : goal.returns-clause-sound
returns-clause-sound g c =
    reap_sound g.W.Whole.whole c.args.self.now c.unhold_servers.new.dests c.reap-servers.new.self c.due.new.self c.deref.result.now c.requires.sound (record {
      gone_are = c.deref.ensures.value ∙ c.in_ok-due.ensures.gone;
      templates_are = c.in_ok-due.ensures.rows;
      held_are = c.unhold_servers.ensures;
      dests_are = c.reap-servers.ensures.rows;
    })

pub returns-clause-ok : goal.returns-clause-ok
returns-clause-ok g c =
    reap_pair g.W.Whole.whole c.args.self.now c.unhold_servers.new.dests c.reap-servers.new.self c.due.new.self c.deref.result.now c.len.result c.in_ok-due.due.renewed c.reap-servers.result c.requires.sound (record {
      gone_are = c.deref.ensures.value ∙ c.in_ok-due.ensures.gone;
      templates_are = c.in_ok-due.ensures.rows;
      held_are = c.unhold_servers.ensures;
      dests_are = c.reap-servers.ensures.rows;
    }) (record {
      left_is = c.len.ensures ∙ sym c.deref.ensures.len;
      renewed_is = c.in_ok-due.ensures.renewed;
      servers_is = c.reap-servers.ensures.count;
    })
