-- After a step a server is there, or the item released it; and nothing names a server that isn't there.
use Rattle.std.proofs.Common.{◌≡◌, ◌≢◌, true, List, Option, Some, None, map, is_some}
use Rattle.std.specs.List.{filter}
use Rattle.lvs_types.specs.declared.addr.DestId.{DestId}
use Rattle.lvs_types.specs.declared.dest.Dest.{Dest}
use Rattle.lvs_types.specs.declared.entry.Entry.{Entry}
use Rattle.lvs_types.specs.declared.template.Template.{Template}
use Rattle.lvs_types.specs.declared.item.Item.{Item}
use Rattle.lvs_types.specs.declared.item.Item.TheVariants as item
use Rattle.lvs_model.specs.State.{State}
use Rattle.lvs_model.specs.Lists.{without}
use Rattle.lvs_model.specs.Reading.{read}
use Rattle.lvs_model.specs.Lookups.{dest_at}
use Rattle.lvs_model.specs.Clock.{is_swept, after_ends}
use Rattle.lvs_model.specs.Step.{step}
use Rattle.lvs_model.specs.WellFormed.{IsWellFormed, IsThere, HasServer, TemplateHasServer}
use Rattle.lvs_well_formed.proofs.Lists.{all_weaker}
use Rattle.lvs_well_formed.proofs.AlikeStates.{ends_alike}
use Rattle.lvs_laws.specs.Releasing.{IsServerOf, IsGone, IsUnnamed, StaysOrIsReleased}
use Rattle.lvs_laws.proofs.ReleaseKept.{kept_itself, kept_alike, stays_there}
use Rattle.lvs_laws.proofs.ReleasePackets.{Keeps, incoming_keeps, outgoing_keeps, learn_keeps}
use Rattle.lvs_laws.proofs.ReleaseLeft.{reap_becomes}
use Rattle.lvs_laws.proofs.ReleaseEdits.{edit_becomes}

step_stays : (s : State) (next : Item) (d : Dest) → IsServerOf s d → Keeps s (step s next).1 → StaysOrIsReleased s next d (dest_at d.id (step s next).1.dests)
step_stays s next d found keeps = stays_there s next d (step s next).1.dests found keeps

pub step_becomes : (s : State) (next : Item) (d : Dest) → IsWellFormed s → IsServerOf s d → StaysOrIsReleased s next d (dest_at d.id (step s next).1.dests)
step_becomes s (item.Incoming mark bytes) d w found = step_stays s (item.Incoming mark bytes) d found (incoming_keeps s mark bytes (read bytes))
step_becomes s (item.Outgoing bytes) d w found = step_stays s (item.Outgoing bytes) d found (outgoing_keeps s bytes (read bytes))
step_becomes s (item.Edit edit_command) d w found = edit_becomes s edit_command d w found
step_becomes s (item.Set setting) d w found = step_stays s (item.Set setting) d found (kept_itself s.dests)
step_becomes s (item.Learn sync_id record_item) d w found = step_stays s (item.Learn sync_id record_item) d found (learn_keeps s sync_id record_item)
step_becomes s (item.BadSync why) d w found = step_stays s (item.BadSync why) d found (kept_itself s.dests)
step_becomes s (item.Tick moment) d w found = step_stays s (item.Tick moment) d found (kept_itself s.dests)
step_becomes s (item.Sweep bucket) d w found =
    let ended = filter (is_swept s bucket) s.entries in
    let entries = without (is_swept s bucket) s.entries in
    step_stays s (item.Sweep bucket) d found (kept_alike s.dests (map (after_ends ended entries) s.dests) (ends_alike ended entries s.dests))
step_becomes s item.Reap d w found = reap_becomes s d w found
step_becomes s item.SendSync d w found = step_stays s item.SendSync d found (kept_itself s.dests)

-- what is named is there
there_found : (ds : List Dest) (named id : DestId) → named ≡ id → dest_at id ds ≡ None → is_some (dest_at named ds) ≡ true → ⊥
there_found ds named id same gone there = absurd cc

names_another : (ds : List Dest) (id : DestId) (o : Option DestId) → dest_at id ds ≡ None → IsThere ds o → o ≢ Some id
names_another ds id None gone there = λ is. absurd cc
names_another ds id (Some named) gone there = λ is. let same : named ≡ id = cc in there_found ds named id same gone there

pub gone_unnamed : (s : State) (id : DestId) → IsWellFormed s → IsGone s id → IsUnnamed s id
gone_unnamed s id w gone = record {
  entries = all_weaker (HasServer s.dests) (λ (e : Entry). e.server ≢ Some id) s.entries (λ e there. names_another s.dests id e.server gone there) w.entry_servers;
  templates = all_weaker (TemplateHasServer s.dests) (λ (t : Template). t.server ≢ Some id) s.templates (λ t there. names_another s.dests id t.server gone there) w.template_servers;
}
