-- The clock, a sweep and a reap keep the state well formed.
use Rattle.std.proofs.Common.{◌≡◌, ◌==◌, ℕ, Bool, true, false, cond, not, ◌&&◌, List, Option, Some, None, refl, sym, subst, map}
use Rattle.std.proofs.lemmas.Bool.{and_parts}
use Rattle.std.specs.List.{filter}
use Rattle.lvs_types.specs.declared.addr.DestId.{DestId}
use Rattle.lvs_types.specs.declared.settings.Settings.{Settings}
use Rattle.lvs_types.specs.declared.settings.Daemons.{Daemons}
use Rattle.lvs_types.specs.declared.service.ServiceKey.{ServiceKey}
use Rattle.lvs_types.specs.declared.dest.Dest.{Dest}
use Rattle.lvs_types.specs.declared.entry.Entry.{Entry}
use Rattle.lvs_types.specs.declared.template.Template.{Template}
use Rattle.lvs_model.specs.State.{State}
use Rattle.lvs_model.specs.Same.{service_key_eq}
use Rattle.lvs_model.specs.Lists.{without}
use Rattle.lvs_model.specs.Counts.{refs}
use Rattle.lvs_model.specs.Lookups.{dest_at, has_dest_id}
use Rattle.lvs_model.specs.Clock.{is_swept, after_ends, sweep, is_over, is_held, held_longer, reaped_template, reaped_templates, is_released, reap}
use Rattle.lvs_model.specs.WellFormed.{HasService, HasCursor, HasGoodThresholds, IsLastOf, is_live_server, place_eq, place_of}
use Rattle.lvs_well_formed.proofs.Lists.{all_weaker, all_filter, find_passes}
use Rattle.lvs_well_formed.proofs.Distinct.{distinct_filter}
use Rattle.lvs_well_formed.proofs.Finds.{find_filter}
use Rattle.lvs_well_formed.proofs.Keys.{dest_id_true}
use Rattle.lvs_well_formed.proofs.Ids.{goes_filter}
use Rattle.lvs_well_formed.proofs.Parts.{Parts, After, ids_stay, stays, then_after}
use Rattle.lvs_well_formed.proofs.Counting.{IsKept, entries_kept, templates_kept}
use Rattle.lvs_well_formed.proofs.Alike.{StaysNamed, found_stays, stays_from, entries_stay, templates_stay}
use Rattle.lvs_well_formed.proofs.AlikeStates.{with_alike, ends_alike}
use Rattle.lvs_well_formed.proofs.Entries.{with_entries_filtered}
use Rattle.lvs_well_formed.proofs.Templates.{with_templates_kept}

-- what no rule speaks of may change: the moment and the settings, and a daemon that starts
pub with_clock : (s : State) (moment : ℕ) (settings : Settings) (daemons : Daemons) → (daemons.master ≡ None → s.daemons.master ≡ None) → Parts s
    → After s (record s { now = moment; settings = settings; daemons = daemons })
with_clock s moment settings daemons runs p = record {
  parts = record { services = p.services; dests = p.dests; entries = p.entries; templates = p.templates; pending = λ none. p.pending (runs none) };
  ids = record { entries = (ids_stay s).entries; dests = (ids_stay s).dests; templates = (ids_stay s).templates };
}

pub sweep_after : (s : State) (bucket : ℕ) → Parts s → After s (sweep s bucket).1
sweep_after s bucket p =
    let ended = filter (is_swept s bucket) s.entries in
    let entries = without (is_swept s bucket) s.entries in
    let left : State = record s { entries = entries } in
    then_after s left (sweep s bucket).1 (with_entries_filtered s (λ (e : Entry). not (is_swept s bucket e)) p)
    (λ q. with_alike left (map (after_ends ended entries) s.dests) (ends_alike ended entries s.dests) q)

-- TEMPLATES

template_by : (P : Template → Type 0) (over held : Bool) (longer t u : Template) → cond over None (cond held (Some longer) (Some t)) ≡ Some u → P longer → P t → P u
template_by P true held longer t u is first second = absurd cc
template_by P false true longer t u is first second = let same : longer ≡ u = cc in subst P same first
template_by P false false longer t u is first second = let same : t ≡ u = cc in subst P same second

reaped_keeps : (P : Template → Type 0) (s : State) (t u : Template) → reaped_template s t ≡ Some u → P (held_longer s.now t) → P t → P u
reaped_keeps P s t u is first second = template_by P (is_over s t) (is_held s t) (held_longer s.now t) t u is first second

pub templates_after : (s : State) → Parts s → After s (record s { templates = reaped_templates s })
templates_after s p =
    with_templates_kept s (reaped_template s)
    (λ t u is. reaped_keeps (λ (v : Template). v.id ≡ t.id) s t u is refl refl)
    (λ t u is. reaped_keeps (λ (v : Template). v.key ≡ t.key) s t u is refl refl)
    (λ t u is. reaped_keeps (λ (v : Template). v.server ≡ t.server) s t u is refl refl) p

-- SERVERS

-- a server that is live, or that something names, isn't released
live_stays : (live : Bool) (none : Bool) → live ≡ true → not (not live && none) ≡ true
live_stays true none is = refl
live_stays false none is = absurd cc

named_stays : (live : Bool) (none : Bool) → none ≡ false → not (not live && none) ≡ true
named_stays true none is = refl
named_stays false true is = absurd cc
named_stays false false is = refl

abbrev pub is_unreleased : List Entry → List Template → Dest → Bool
is_unreleased es ts d = not (is_released es ts d)

kept_dest : (es : List Entry) (ts : List Template) (ds : List Dest) (id : DestId) (d : Dest) → (refs id es ts == 0) ≡ false → dest_at id ds ≡ Some d → dest_at id (filter (is_unreleased es ts) ds) ≡ Some d
kept_dest es ts ds id d named found =
    let same = dest_id_true d.id id (find_passes (has_dest_id id) ds d found) in
    find_filter (has_dest_id id) (is_unreleased es ts) ds d found (named_stays d.live (refs d.id es ts == 0) (subst (λ i. (refs i es ts == 0) ≡ false) (sym same) named))

named_kept : (es : List Entry) (ts : List Template) (ds : List Dest) (o : Option DestId) → IsKept es ts o → StaysNamed ds (filter (is_unreleased es ts) ds) o
named_kept es ts ds None kept = tt
named_kept es ts ds (Some id) kept =
    stays_from (dest_at id ds) (dest_at id (filter (is_unreleased es ts) ds)) (λ d is. found_stays d d (dest_at id (filter (is_unreleased es ts) ds)) (kept_dest es ts ds id d (kept id refl) is) refl)

live_found : (key : ServiceKey) (ds : List Dest) (later : List Dest) (id : DestId) (o : Option Dest) → ((d : Dest) → o ≡ Some d → d.live ≡ true → dest_at id later ≡ Some d) → dest_at id ds ≡ o → is_live_server key o ≡ true → is_live_server key (dest_at id later) ≡ true
live_found key ds later id None stays is live = absurd cc
live_found key ds later id (Some d) stays is live = subst (λ other. is_live_server key other ≡ true) (sym (stays d refl (and_parts d.live (service_key_eq d.service key) live).0)) live

last_kept : (es : List Entry) (ts : List Template) (ds : List Dest) (key : ServiceKey) (o : Option DestId) → IsLastOf ds key o → IsLastOf (filter (is_unreleased es ts) ds) key o
last_kept es ts ds key None last = tt
last_kept es ts ds key (Some id) last =
    live_found key ds (filter (is_unreleased es ts) ds) id (dest_at id ds)
    (λ d is live. find_filter (has_dest_id id) (is_unreleased es ts) ds d is (live_stays d.live (refs d.id es ts == 0) live)) refl last

-- the servers in the trash that nothing names leave
pub released_after : (s : State) → Parts s → After s (record s { dests = without (is_released s.entries s.templates) s.dests })
released_after s p =
    let test = is_unreleased s.entries s.templates in
    let later = filter test s.dests in
    let goes = goes_filter s.next_dest (λ (d : Dest). d.id.0) test s.dests p.dests.ids in
    record {
      parts = record {
        services = record {
          keys = p.services.keys;
          live = all_filter (HasService s.services) test s.dests p.services.live;
          cursors = all_weaker (HasCursor s.dests) (HasCursor later) s.services (λ service last. last_kept s.entries s.templates s.dests service.key service.cursor.last last) p.services.cursors;
        };
        dests = record {
          ids = goes.drawn;
          places = distinct_filter place_eq place_of test s.dests p.dests.places;
          thresholds = all_filter HasGoodThresholds test s.dests p.dests.thresholds;
        };
        entries = entries_stay s.next_entry s.next_template s.dests later s.entries
            (all_weaker (λ (e : Entry). IsKept s.entries s.templates e.server) (λ (e : Entry). StaysNamed s.dests later e.server) s.entries (λ e kept. named_kept s.entries s.templates s.dests e.server kept) (entries_kept s.entries s.templates)) p.entries;
        templates = templates_stay s.next_template s.dests later s.templates
            (all_weaker (λ (t : Template). IsKept s.entries s.templates t.server) (λ (t : Template). StaysNamed s.dests later t.server) s.templates (λ t kept. named_kept s.entries s.templates s.dests t.server kept) (templates_kept s.entries s.templates)) p.templates;
        pending = p.pending;
      };
      ids = record { entries = (ids_stay s).entries; dests = goes.rises; templates = (ids_stay s).templates };
    }

pub reap_after : (s : State) → Parts s → After s (reap s).1
reap_after s p =
    let left : State = record s { templates = reaped_templates s } in
    then_after s left (reap s).1 (templates_after s p) (λ q. released_after left q)
