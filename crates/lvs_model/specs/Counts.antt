-- What counts at a server and at a template (this project's profile: active is exactly the state Established).
use Rattle.std.specs.Prelude.{ℕ, not, ◌+◌, Bool, false, ◌&&◌, List, Option, Some, None, count_by, map, nat_lt}
use Rattle.lvs_types.specs.declared.addr.DestId.{DestId}
use Rattle.lvs_types.specs.declared.addr.TemplateId.{TemplateId}
use Rattle.lvs_types.specs.declared.service.ServiceKey.{ServiceKey}
use Rattle.lvs_types.specs.declared.dest.Dest.{Dest}
use Rattle.lvs_types.specs.declared.dest.Candidate.{Candidate}
use Rattle.lvs_types.specs.declared.dest.DestRow.{DestRow}
use Rattle.lvs_types.specs.declared.entry.Entry.{Entry}
use Rattle.lvs_types.specs.declared.template.Template.{Template}
use Rattle.lvs_model.specs.Same.{dest_eq, template_id_eq}
use Rattle.lvs_model.specs.Timeouts.{is_active}
use Rattle.lvs_model.specs.Lookups.{servers_of}

abbrev pub counts_active : DestId → Entry → Bool
counts_active id e = dest_eq e.server id && is_active e.state

abbrev pub counts_inactive : DestId → Entry → Bool
counts_inactive id e = dest_eq e.server id && not (is_active e.state)

-- the entries in state Established that name the server
abbrev pub active : DestId → List Entry → ℕ
active id entries = count_by (counts_active id) entries

-- the other entries that name it, those of UDP included
abbrev pub inactive : DestId → List Entry → ℕ
inactive id entries = count_by (counts_inactive id) entries

abbrev pub total : DestId → List Entry → ℕ
total id entries = active id entries + inactive id entries

-- the templates that name it
abbrev pub template_count : DestId → List Template → ℕ
template_count id templates = count_by (λ (t : Template). dest_eq t.server id) templates

-- all that names it
abbrev pub refs : DestId → List Entry → List Template → ℕ
refs id entries templates = total id entries + template_count id templates

abbrev pub is_made_by : TemplateId → Option TemplateId → Bool
is_made_by id None = false
is_made_by id (Some made) = template_id_eq made id

-- the entries that were made by the template
abbrev pub controls : TemplateId → List Entry → ℕ
controls id entries = count_by (λ (e : Entry). is_made_by id e.template) entries

-- it is live, its weight isn't 0 and it isn't overloaded
abbrev pub is_eligible : Dest → Bool
is_eligible d = d.live && nat_lt 0 d.spec.weight && not d.overloaded

abbrev pub candidate_of : List Entry → Dest → Candidate
candidate_of entries d = record {
  id = d.id;
  weight = d.spec.weight;
  active = active d.id entries;
  inactive = inactive d.id entries;
  eligible = is_eligible d;
}

-- the servers of a service as a scheduler sees them, with their counts as they are now
abbrev pub candidates : ServiceKey → List Dest → List Entry → List Candidate
candidates key dests entries = map (candidate_of entries) (servers_of key dests)

-- a server as a snapshot shows it
abbrev pub row_of : List Entry → List Template → Dest → DestRow
row_of entries templates d = record {
  dest = d;
  active = active d.id entries;
  inactive = inactive d.id entries;
  templates = template_count d.id templates;
}
