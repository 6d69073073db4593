-- Templates that change, leave or are added keep the state well formed.
use Rattle.std.proofs.Common.{◌≡◌, ◌+◌, ℕ, Bool, false, not, List, [], ◌∷◌, ◌++◌, Option, Some, None, sym, ap, subst, nat_eq, arith}
use Rattle.std.proofs.lemmas.Bool.{not-true}
use Rattle.std.specs.List.{IsDistinct, find, filter, filter_map}
use Rattle.lvs_types.specs.declared.addr.TemplateId.{TemplateId}
use Rattle.lvs_types.specs.declared.dest.Dest.{Dest}
use Rattle.lvs_types.specs.declared.entry.Entry.{Entry}
use Rattle.lvs_types.specs.declared.template.Template.{Template}
use Rattle.lvs_model.specs.State.{State}
use Rattle.lvs_model.specs.Same.{template_key_eq}
use Rattle.lvs_model.specs.Lists.{without}
use Rattle.lvs_model.specs.Lookups.{has_template_id, has_template_key}
use Rattle.lvs_model.specs.Binding.{put_template}
use Rattle.lvs_model.specs.WellFormed.{AreDrawn, IsDrawn, IsThere, IsOlder, TemplateHasServer, template_ids}
use Rattle.lvs_well_formed.proofs.Lists.{all_weaker, all_filtered, all_filter, all_push, all_find, all_update, all_unmap, all_filter_map}
use Rattle.lvs_well_formed.proofs.Distinct.{keys_put, distinct_filter, distinct_push, distinct_filter_map, each_found}
use Rattle.lvs_well_formed.proofs.Ids.{GoesOn, goes_equal, goes_filter, goes_filter_map, goes_push, goes_then}
use Rattle.lvs_well_formed.proofs.Keys.{nat_same}
use Rattle.lvs_well_formed.proofs.Parts.{IsSound, Parts, After, ids_stay}

-- the template is in the list
abbrev pub IsTemplateOf : State → Template → Type 0
IsTemplateOf s t = find (has_template_id t.id) s.templates ≡ Some t

pub template_found : (s : State) (test : Template → Bool) (t : Template) → Parts s → find test s.templates ≡ Some t → IsTemplateOf s t
template_found s test t p found =
    all_find (λ (u : Template). find (has_template_id u.id) s.templates ≡ Some u) test s.templates t
    (each_found nat_eq (λ (u : Template). u.id.0) s.templates nat_same p.templates.ids.apart) found

-- what made an entry is older than the next template
pub template_older : (s : State) (test : Template → Bool) (t : Template) → Parts s → find test s.templates ≡ Some t → IsOlder s.next_template (Some t.id)
template_older s test t p found =
    (all_find (λ (u : Template). IsDrawn s.next_template u.id.0) test s.templates t (all_unmap (IsDrawn s.next_template) (λ (u : Template). u.id.0) s.templates p.templates.ids.each) found).1

pub with_template_put : (s : State) (t after : Template) → find (has_template_id after.id) s.templates ≡ Some t → after.id ≡ t.id → after.key ≡ t.key → TemplateHasServer s.dests after → Parts s
    → After s (record s { templates = put_template after s.templates })
with_template_put s t after found id key there p =
    let same_ids = keys_put (λ (u : Template). u.id.0) (has_template_id after.id) after s.templates t found (ap (λ (i : TemplateId). i.0) id) in
    let same_keys = keys_put (λ (u : Template). u.key) (has_template_id after.id) after s.templates t found key in
    record {
      parts = record {
        services = p.services;
        dests = p.dests;
        entries = p.entries;
        templates = record {
          ids = subst (λ ids. AreDrawn s.next_template ids) (sym same_ids) p.templates.ids;
          keys = subst (λ keys. IsDistinct template_key_eq keys) (sym same_keys) p.templates.keys;
          servers = all_update (TemplateHasServer s.dests) (has_template_id after.id) (λ _. after) s.templates (λ x here old. there) p.templates.servers;
        };
        pending = p.pending;
      };
      ids = record {
        entries = (ids_stay s).entries;
        dests = (ids_stay s).dests;
        templates = (goes_equal s.next_template (template_ids s.templates) (template_ids (put_template after s.templates)) p.templates.ids same_ids).rises;
      };
    }

older_more : (next : ℕ) (o : Option TemplateId) → IsOlder next o → IsOlder (next + 1) o
older_more next None older = tt
older_more next (Some id) older = omega (arith, older)

sound_more : (next : ℕ) (ds : List Dest) (e : Entry) → IsSound next ds e → IsSound (next + 1) ds e
sound_more next ds e sound = record { server = sound.server; goes = sound.goes; template = older_more next e.template sound.template; state = sound.state }

-- the template of the key leaves, and another stands last
pub with_template_added : (s : State) (t : Template) → t.id.0 ≡ s.next_template → TemplateHasServer s.dests t → Parts s
    → After s (record s { templates = without (has_template_key t.key) s.templates ++ t ∷ []; next_template = s.next_template + 1 })
with_template_added s t id there p =
    let test : Template → Bool = λ u. not (has_template_key t.key u) in
    let rest = filter test s.templates in
    let goes : GoesOn s.next_template (template_ids s.templates) (s.next_template + 1) (template_ids (rest ++ t ∷ [])) =
    goes_then s.next_template s.next_template (s.next_template + 1) (template_ids s.templates) (template_ids rest) (template_ids (rest ++ t ∷ []))
    (goes_filter s.next_template (λ (u : Template). u.id.0) test s.templates p.templates.ids)
    (λ drawn. goes_push s.next_template (λ (u : Template). u.id.0) rest t id drawn) in
    record {
      parts = record {
        services = p.services;
        dests = p.dests;
        entries = record {
          ids = p.entries.ids;
          keys = p.entries.keys;
          each = all_weaker (IsSound s.next_template s.dests) (IsSound (s.next_template + 1) s.dests) s.entries (λ e sound. sound_more s.next_template s.dests e sound) p.entries.each;
        };
        templates = record {
          ids = goes.drawn;
          keys = distinct_push template_key_eq (λ (u : Template). u.key) rest t
              (all_filtered (λ (u : Template). template_key_eq u.key t.key ≡ false) test s.templates (λ u differs. not-true (template_key_eq u.key t.key) differs))
              (distinct_filter template_key_eq (λ (u : Template). u.key) test s.templates p.templates.keys);
          servers = all_push (TemplateHasServer s.dests) rest t (all_filter (TemplateHasServer s.dests) test s.templates p.templates.servers) there;
        };
        pending = p.pending;
      };
      ids = record { entries = (ids_stay s).entries; dests = (ids_stay s).dests; templates = goes.rises };
    }

-- some templates leave, and some change in time alone
pub with_templates_kept : (s : State) (h : Template → Option Template) → ((t u : Template) → h t ≡ Some u → u.id ≡ t.id) → ((t u : Template) → h t ≡ Some u → u.key ≡ t.key) → ((t u : Template) → h t ≡ Some u → u.server ≡ t.server) → Parts s
    → After s (record s { templates = filter_map h s.templates })
with_templates_kept s h id key server p =
    let goes = goes_filter_map s.next_template (λ (t : Template). t.id.0) h s.templates (λ t u is. ap (λ (i : TemplateId). i.0) (id t u is)) p.templates.ids in
    record {
      parts = record {
        services = p.services;
        dests = p.dests;
        entries = p.entries;
        templates = record {
          ids = goes.drawn;
          keys = distinct_filter_map template_key_eq (λ (t : Template). t.key) h s.templates key p.templates.keys;
          servers = all_filter_map (TemplateHasServer s.dests) (TemplateHasServer s.dests) h s.templates (λ t u is there. subst (IsThere s.dests) (sym (server t u is)) there) p.templates.servers;
        };
        pending = p.pending;
      };
      ids = record { entries = (ids_stay s).entries; dests = (ids_stay s).dests; templates = goes.rises };
    }
