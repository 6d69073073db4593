-- The clock: the moment, the sweep of a bucket, and the reaping of templates and of servers that nothing names (this project's profile).
use Rattle.std.specs.Prelude.{ℕ, not, ◌+◌, Bool, ◌&&◌, ◌==◌, List, Option, Some, None, if◌then◌else◌, nat_le, nat_lt, map, length, count_by}
use Rattle.std.specs.List.{filter, list_any, filter_map}
use Rattle.lvs_types.specs.declared.dest.Dest.{Dest}
use Rattle.lvs_types.specs.declared.entry.Entry.{Entry}
use Rattle.lvs_types.specs.declared.template.Template.{Template}
use Rattle.lvs_types.specs.declared.reply.Reply.{Reply}
use Rattle.lvs_types.specs.declared.reply.Reply.TheVariants as reply
use Rattle.lvs_types.specs.Protocols.{proto_code}
use Rattle.lvs_model.specs.State.{State}
use Rattle.lvs_model.specs.Same.{dest_eq}
use Rattle.lvs_model.specs.Lists.{without}
use Rattle.lvs_model.specs.Overload.{overload_ended}
use Rattle.lvs_model.specs.Counts.{total, refs, controls}
use Rattle.lvs_model.specs.Numbers.{bucket_of}

abbrev pub tick : State → ℕ → Reply × State
tick s moment = (reply.Ticked, record s { now = moment })

-- the bucket that an entry is in
abbrev pub entry_bucket : ℕ → Entry → ℕ
entry_bucket buckets e = bucket_of (proto_code e.key.proto) e.key.caddr e.key.cport buckets

-- the entry is in the bucket, and its deadline is now or was before
abbrev pub is_swept : State → ℕ → Entry → Bool
is_swept s bucket e = (entry_bucket s.buckets e == bucket) && nat_le e.deadline s.now

-- one of the entries names the server
abbrev pub is_named_in : List Entry → Dest → Bool
is_named_in entries d = list_any (λ (e : Entry). dest_eq e.server d.id) entries

-- the overload of a server after entries have ended, with those that stay: as after each of them in turn, since fewer connections never take relief away
abbrev pub after_ends : List Entry → List Entry → Dest → Dest
after_ends ended entries d =
    if is_named_in ended d then record d { overloaded = overload_ended d.spec (total d.id entries) d.overloaded } else d

-- all due entries of the bucket end
abbrev pub sweep : State → ℕ → Reply × State
sweep s bucket =
    let ended = filter (is_swept s bucket) s.entries in
    let entries = without (is_swept s bucket) s.entries in
    (reply.Swept (length ended), record s { entries = entries; dests = map (after_ends ended entries) s.dests })

abbrev pub is_due_template : ℕ → Template → Bool
is_due_template now t = nat_le t.deadline now

-- due, and no entry was made by it
abbrev pub is_over : State → Template → Bool
is_over s t = is_due_template s.now t && (controls t.id s.entries == 0)

-- due, and held by entries
abbrev pub is_held : State → Template → Bool
is_held s t = is_due_template s.now t && nat_lt 0 (controls t.id s.entries)

abbrev pub held_longer : ℕ → Template → Template
held_longer now t = record t { deadline = now + 60 }

-- a due template leaves, or holds for 60 seconds more where entries were made by it
abbrev pub reaped_template : State → Template → Option Template
reaped_template s t = if is_over s t then None else (if is_held s t then Some (held_longer s.now t) else Some t)

abbrev pub reaped_templates : State → List Template
reaped_templates s = filter_map (reaped_template s) s.templates

-- in the trash, and nothing names it
abbrev pub is_released : List Entry → List Template → Dest → Bool
is_released entries templates d = not d.live && (refs d.id entries templates == 0)

-- the templates that are due, and then the servers in the trash that nothing names
abbrev pub reap : State → Reply × State
reap s =
    let templates = reaped_templates s in (
      reply.Reaped (count_by (is_over s) s.templates) (count_by (is_held s) s.templates) (count_by (is_released s.entries templates) s.dests),
      record s { templates = templates; dests = without (is_released s.entries templates) s.dests },
    )
