use Rattle.std.proofs.Common.{◌∙◌, ap, rules, arith}
use Rattle.std.specs.Map.{values_of}
use Rattle.std.proofs.lemmas.Map.Made.{map_same_pairs}
use Rattle.lvs_templates.specs.Rows.{renew}
use Rattle.lvs_templates.specs.Maps.{in_order}
use Rattle.lvs_templates.proofs.InOrder.{sorted_each}
use Rattle.lvs_templates.proofs.Lists.{values-map}
use Rattle.lvs_templates.proofs.Changes.{store_each}
use Rattle.lvs_templates.proofs.Leaving.{renew_id, renew_key}
use Rattle.lvs_templates.proofs.maps.Maps.renew.Goals as goal

pub returns-clause-whole : goal.returns-clause-whole
returns-clause-whole c =
    let old = c.args.self.now.rows.entries in
    let new = c.retain.new.self.entries in
    let had = c.requires.whole.room.rows in
    let more = c.retain.ensures.spare in
    record {
      unique = c.retain.ensures.unique;
      store = store_each (renew c.args.now) (in_order old) (in_order new) c.args.self.now.ids.entries (renew_id c.args.now) (renew_key c.args.now) c.requires.whole.store
          (sorted_each (renew c.args.now) old new (map_same_pairs _ (renew c.args.now) _ (λ k v b w f' t. search rules) _ _ c.retain.ensures.filtered));
      room = record { rows = omega arith; ids = c.requires.whole.room.ids };
    }

pub returns-clause-rows : goal.returns-clause-rows
returns-clause-rows c =
    let old = c.args.self.now.rows.entries in
    let new = c.retain.new.self.entries in
    ap values_of (sorted_each (renew c.args.now) old new (map_same_pairs _ (renew c.args.now) _ (λ k v b w f' t. search rules) _ _ c.retain.ensures.filtered)) ∙ values-map (renew c.args.now) (in_order old)
